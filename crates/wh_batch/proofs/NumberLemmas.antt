-- Digits and the numbers that they write.
use Rattle.std.proofs.Common.{◌≡◌, ℕ, ◌+◌, ◌-◌, ◌*◌, ◌^◌, ◌<◌, ◌≤◌, Bool, true, false, cond, leb, ◌&&◌, List, length, take, get_or, length-take-le, Some, None, refl, rules, arith}
use Rattle.std.specs.Char.{is_ascii_digit}
use Rattle.std.specs.Int.{IsInRange}
use Rattle.std.specs.List.{list_all}
use Rattle.std.specs.Str.Parse.{digits_value}
use Rattle.std.proofs.lemmas.Bool.{le-leb}
use Rattle.std.proofs.lemmas.Int.Digits.{digits_value_more}
use Rattle.std.proofs.lemmas.Str.{digit_value_digit}
use Rattle.std.proofs.lemmas.Str.Parse.{IsNumeralModel, IsDigitsTest, numerals_by_value, digits_value_short}
use Rattle.wh_batch.specs.Numbers.{read_digits}

tells_digits : IsDigitsTest (λ ds. list_all is_ascii_digit ds ≡ true)
tells_digits = search rules

numerals : IsNumeralModel (λ ds. list_all is_ascii_digit ds ≡ true) (digits_value 10)
numerals = numerals_by_value (λ ds. list_all is_ascii_digit ds ≡ true) tells_digits

-- few digits write a small number
pub digits-bound : (most : ℕ) (text : List ℕ) → list_all is_ascii_digit text ≡ true → length text ≤ most → digits_value 10 text < 10 ^ most
digits-bound most text h few = digits_value_short numerals text most h few

-- the first digits, of nine at most and not all, write a small number
pub digits-small : (text : List ℕ) (i : ℕ) → list_all is_ascii_digit (take i text) ≡ true → i < length text → length text ≤ 9 → digits_value 10 (take i text) < 100000000
digits-small text i h lt few = digits-bound 8 (take i text) h (rw (length-take-le i text (omega arith)) (omega arith))

-- one digit more
pub digits-next : (text : List ℕ) (i : ℕ) → i < length text → IsInRange 48 57 (get_or text i 0) → 10 * digits_value 10 (take i text) + (get_or text i 0 - 48) ≡ digits_value 10 (take (i + 1) text)
digits-next text i lt range =
    let digit = digit_value_digit (get_or text i 0) range in
    let more = digits_value_more 10 text i lt in
    omega (arith, digit, more)

none_of : (b : Bool) (n : ℕ) → cond (b && false) (Some n) None ≡ None
none_of true n = refl
none_of false n = refl

-- other bytes than digits write no number
pub digits-none : (most : ℕ) (text : List ℕ) → list_all is_ascii_digit text ≡ false → read_digits most text ≡ None
unfolding read_digits
digits-none most text other = rw other (none_of (leb 1 (length text) && leb (length text) most) (digits_value 10 text))

-- few enough digits write their number
pub digits-some : (most : ℕ) (text : List ℕ) → 1 ≤ length text → length text ≤ most → list_all is_ascii_digit text ≡ true → read_digits most text ≡ Some (digits_value 10 text)
unfolding read_digits
digits-some most text some few digits = rw (le-leb 1 (length text) some, le-leb (length text) most few, digits) refl
