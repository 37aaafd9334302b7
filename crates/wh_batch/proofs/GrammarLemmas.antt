-- Exactly the texts of the grammar are read as numbers.
use Rattle.std.proofs.Common.{◌≡◌, ℕ, ◌+◌, ◌*◌, ◌<◌, ◌≤◌, ℤ, pos, neg_ℤ, Bool, true, false, ◌&&◌, cond, eqb, leb, ltb, List, [], ◌∷◌, ◌++◌, length, take, drop, get_or, Option, Some, None, refl, sym, arith, option_map, position, ◌⊎◌, inl, inr, subst, length-append}
use Rattle.std.specs.Char.{is_ascii_digit}
use Rattle.std.specs.List.{list_all, position_or_len}
use Rattle.std.proofs.lemmas.Bool.{and_parts, leb-true, le-leb, eqb-true, eqb-false, ltb-true, le-ltb, lt-ltb, eq-eqb, ne_eqb}
use Rattle.std.proofs.lemmas.List.Sums.{split_at_first, passes_at_first}
use Rattle.std.proofs.Math.Seq.{take-append_seam, drop-append-add}
use Rattle.std.proofs.lemmas.Option.{option_and_then_some}
use Rattle.wh_batch.specs.Numbers.{read_digits, read_fraction, read_hundredths, read_line, read_quantity, read_amount, hundredths_at, is_point, signed}
use Rattle.wh_batch.specs.Grammar.{WritesDigits, WritesLine, WritesHundredths, WritesSigned, WritesQuantity, WritesAmount, Reads}

cond_some : {A : Type 0} (b : Bool) (x y : A) → cond b (Some x) None ≡ Some y → (b ≡ true) × (x ≡ y)
cond_some true x y h = (refl, cc)
cond_some false x y h = absurd cc

digits_from : (most : ℕ) (text : List ℕ) (n : ℕ) → read_digits most text ≡ Some n → WritesDigits 1 most text n
unfolding read_digits
digits_from most text n h =
    let (good, same) = cond_some _ _ n h in
    let (lengths, digits) = and_parts (leb 1 (length text) && leb (length text) most) (list_all is_ascii_digit text) good in
    let (some, few) = and_parts (leb 1 (length text)) (leb (length text) most) lengths in
    record { enough = leb-true 1 (length text) some; few = leb-true (length text) most few; digits = digits; value = same }

digits_to : (least most : ℕ) (text : List ℕ) (n : ℕ) → 1 ≤ least → WritesDigits least most text n → read_digits most text ≡ Some n
unfolding read_digits
digits_to least most text n le w =
    let enough = w.enough in
    rw (le-leb 1 (length text) (omega arith), le-leb (length text) most w.few, w.digits, w.value) refl

option_map_some : {A B : Type 0} (f : A → B) (o : Option A) (y : B) → option_map f o ≡ Some y → (x : A) × (o ≡ Some x) × (f x ≡ y)
option_map_some f (Some x) y h = (x, refl, cc)
option_map_some f None y h = absurd cc

-- lines
line_from : (text : List ℕ) (n : ℕ) → read_line text ≡ Some n → WritesLine text n
unfolding read_line
line_from text n h =
    let (x, read, last) = option_and_then_some _ (read_digits 4 text) n h (λ x read last. (x, read, last)) in
    not_zero x (eqb x 0) refl read last
  where
    not_zero : (x : ℕ) (b : Bool) → b ≡ eqb x 0 → read_digits 4 text ≡ Some x → cond b None (Some x) ≡ Some n → WritesLine text n
    not_zero x true zero read last = absurd cc
    not_zero x false zero read last =
        let same : x ≡ n = cc in
        let other = eqb-false x 0 (sym zero) in
        record { digits = digits_from 4 text n (rw same at read); positive = omega arith }

line_to : (text : List ℕ) (n : ℕ) → WritesLine text n → read_line text ≡ Some n
unfolding read_line
line_to text n w =
    let positive = w.positive in
    rw (digits_to 1 4 text n (omega arith) w.digits, ne_eqb n 0 (omega arith)) refl

pub reads_lines : Reads read_line WritesLine
reads_lines text n = (line_from text n, line_to text n)

-- a number in front of which no minus stands
record BeginsWithDigit (text : List ℕ) : Type 0 where
  first : ℕ
  rest : List ℕ
  split : text ≡ first ∷ rest
  digit : is_ascii_digit first ≡ true

digits_begin : (least most : ℕ) (text : List ℕ) (n : ℕ) → 1 ≤ least → WritesDigits least most text n → BeginsWithDigit text
digits_begin least most [] n le w = let enough = w.enough in absurd (omega arith)
digits_begin least most (first ∷ rest) n le w = record { first = first; rest = rest; split = refl; digit = (and_parts (is_ascii_digit first) _ w.digits).0 }

-- signs
module _ (read : List ℕ → Option ℕ) (Writes : List ℕ → ℕ → Type 0) (reads : Reads read Writes) (begins : (text : List ℕ) (n : ℕ) → Writes text n → BeginsWithDigit text) where
  signed_split : (first : ℕ) (rest : List ℕ) (z : ℤ) (b : Bool) → b ≡ eqb first 45 → cond b (option_map (λ n. neg_ℤ (pos n)) (read rest)) (option_map pos (read (first ∷ rest))) ≡ Some z → WritesSigned Writes (first ∷ rest) z
  signed_split first rest z true minus h =
      let (n, found, same) = option_map_some _ (read rest) z h in
      let sign : first ≡ 45 = eqb-true first 45 (sym minus) in
      rw (sign, ← same) (WritesSigned.minus rest n ((reads rest n).0 found))
  signed_split first rest z false plain h =
      let (n, found, same) = option_map_some _ (read (first ∷ rest)) z h in
      rw (← same) (WritesSigned.plain (first ∷ rest) n ((reads (first ∷ rest) n).0 found))

  signed_from : (text : List ℕ) (z : ℤ) → signed read text ≡ Some z → WritesSigned Writes text z
  signed_from [] z h = absurd cc
  signed_from (first ∷ rest) z h = signed_split first rest z (eqb first 45) refl h

  plain_to : (text : List ℕ) (n : ℕ) → Writes text n → BeginsWithDigit text → signed read text ≡ Some (pos n)
  plain_to [] n w b = let split = b.split in absurd cc
  plain_to (first ∷ rest) n w b =
      let split = b.split in
      let same : b.first ≡ first = cc in
      let other : eqb first 45 ≡ false = ne_eqb first 45 (λ e. no_minus first (rw same at b.digit) e) in
      rw (other, (reads (first ∷ rest) n).1 w) refl
    where
      no_minus : (byte : ℕ) → is_ascii_digit byte ≡ true → byte ≡ 45 → ⊥
      no_minus byte digit e = let h = rw e at digit in absurd cc

  signed_to : (text : List ℕ) (z : ℤ) → WritesSigned Writes text z → signed read text ≡ Some z
  signed_to _ _ (WritesSigned.plain text n w) = plain_to text n w (begins text n w)
  signed_to _ _ (WritesSigned.minus rest n w) = rw ((reads rest n).1 w) refl

  reads_signed : Reads (λ text. signed read text) (WritesSigned Writes)
  reads_signed text z = (signed_from text z, signed_to text z)

-- the place of the point
digit_no_point : (byte : ℕ) → is_ascii_digit byte ≡ true → is_point byte ≡ false
digit_no_point byte digit = ne_eqb byte 46 (λ e. no byte digit e)
  where
    no : (byte : ℕ) → is_ascii_digit byte ≡ true → byte ≡ 46 → ⊥
    no byte digit e = let h = rw e at digit in absurd cc

no_point : (digits : List ℕ) → list_all is_ascii_digit digits ≡ true → position_or_len is_point digits ≡ length digits
no_point [] h = refl
no_point (digit ∷ digits) h =
    let (first, rest) = and_parts (is_ascii_digit digit) _ h in
    rw (digit_no_point digit first, no_point digits rest) (omega arith)

point_at : (digits part : List ℕ) → list_all is_ascii_digit digits ≡ true → position_or_len is_point (digits ++ 46 ∷ part) ≡ length digits
point_at [] part h = refl
point_at (digit ∷ digits) part h =
    let (first, rest) = and_parts (is_ascii_digit digit) _ h in
    rw (digit_no_point digit first, point_at digits part rest) (omega arith)

position-none : (text : List ℕ) → position_or_len is_point text ≡ length text → position is_point text ≡ None
position-none text e = rw (e, le-ltb (length text) (length text) (omega arith)) refl

position-at : (text : List ℕ) (i : ℕ) → position_or_len is_point text ≡ i → i < length text → position is_point text ≡ Some i
position-at text i e lt = rw (e, lt-ltb i (length text) lt) refl

-- a text with a point is what stands before it and after it
split_at_point : (text : List ℕ) → position_or_len is_point text < length text → text ≡ take (position_or_len is_point text) text ++ 46 ∷ drop (position_or_len is_point text + 1) text
split_at_point text lt =
    let point : get_or text (position_or_len is_point text) 0 ≡ 46 = eqb-true _ 46 (passes_at_first is_point text 0 lt) in
    rw point at (split_at_first is_point text 0 lt)

-- fractions
record WritesFraction (part : List ℕ) (m : ℕ) : Type 0 where
  either : ((k : ℕ) × WritesDigits 1 1 part k × (10 * k ≡ m)) ⊎ WritesDigits 2 2 part m

fraction_from : (part : List ℕ) (m : ℕ) → read_fraction part ≡ Some m → WritesFraction part m
unfolding read_fraction
fraction_from part m h = split (eqb (length part) 1) refl h
  where
    split : (b : Bool) → b ≡ eqb (length part) 1 → cond b (option_map (λ n. 10 * n) (read_digits 1 part)) (read_digits 2 part) ≡ Some m → WritesFraction part m
    split true one h =
        let (k, read, same) = option_map_some _ (read_digits 1 part) m h in
        record { either = inl (k, digits_from 1 part k read, same) }
    split false more h =
        let w = digits_from 2 part m h in
        let several = eqb-false (length part) 1 (sym more) in
        let enough = w.enough in
        let least : 2 ≤ length part = omega arith in
        record { either = inr (record { enough = least; few = w.few; digits = w.digits; value = w.value }) }

tenths_to : (part : List ℕ) (m : ℕ) → WritesDigits 1 1 part m → read_fraction part ≡ Some (10 * m)
unfolding read_fraction
tenths_to part m w =
    let enough = w.enough in
    let few = w.few in
    let one : eqb (length part) 1 ≡ true = eq-eqb (length part) 1 (omega arith) in
    rw (one, digits_to 1 1 part m (omega arith) w) refl

hundredths_to : (part : List ℕ) (m : ℕ) → WritesDigits 2 2 part m → read_fraction part ≡ Some m
unfolding read_fraction
hundredths_to part m w =
    let enough = w.enough in
    let more : eqb (length part) 1 ≡ false = ne_eqb (length part) 1 (λ e. absurd (omega arith)) in
    rw (more, digits_to 2 2 part m (omega arith) w) refl

-- amounts without a sign
amount_from : (text : List ℕ) (n : ℕ) → read_hundredths text ≡ Some n → WritesHundredths text n
unfolding read_hundredths
amount_from text n h = at_point (ltb place (length text)) refl h
  where
    place : ℕ
    place = position_or_len is_point text

    parts : (whole part : ℕ) → text ≡ take place text ++ 46 ∷ drop (place + 1) text → WritesDigits 1 7 (take place text) whole → WritesFraction (drop (place + 1) text) part → 100 * whole + part ≡ n → WritesHundredths text n
    parts whole part split digits fraction same = subst (λ (t : List ℕ). WritesHundredths t n) (sym split) (elim fraction.either [
      | inl (k, w, tens) ↦ rw (← same, ← tens) (WritesHundredths.tenths (take place text) (drop (place + 1) text) whole k digits w)
      | inr w ↦ rw (← same) (WritesHundredths.hundredths (take place text) (drop (place + 1) text) whole part digits w)
    ])

    at_point : (b : Bool) → b ≡ ltb place (length text) → hundredths_at text (cond b (Some place) None) ≡ Some n → WritesHundredths text n
    at_point true there h =
        let (whole, read, rest) = option_and_then_some _ (read_digits 7 (take place text)) n h (λ whole read rest. (whole, read, rest)) in
        let (part, fraction, same) = option_map_some _ (read_fraction (drop (place + 1) text)) n rest in
        parts whole part (split_at_point text (ltb-true place (length text) (sym there))) (digits_from 7 (take place text) whole read) (fraction_from (drop (place + 1) text) part fraction) same
    at_point false none h =
        let (whole, read, same) = option_map_some _ (read_digits 7 text) n h in
        rw (← same) (WritesHundredths.whole text whole (digits_from 7 text whole read))

with_point : (text part : List ℕ) (n m : ℕ) → WritesDigits 1 7 text n → read_fraction part ≡ Some m → read_hundredths (text ++ 46 ∷ part) ≡ Some (100 * n + m)
unfolding read_hundredths
with_point text part n m w fraction =
    let place = position-at (text ++ 46 ∷ part) (length text) (point_at text part w.digits) (simp length-append (omega arith)) in
    rw (place, take-append_seam text (46 ∷ part), drop-append-add text (46 ∷ part) 1, digits_to 1 7 text n (omega arith) w, fraction) refl

amount_to : (text : List ℕ) (n : ℕ) → WritesHundredths text n → read_hundredths text ≡ Some n
unfolding read_hundredths
amount_to _ _ (WritesHundredths.whole text n w) = rw (position-none text (no_point text w.digits), digits_to 1 7 text n (omega arith) w) refl
amount_to _ _ (WritesHundredths.tenths text part n m w v) = with_point text part n (10 * m) w (tenths_to part m v)
amount_to _ _ (WritesHundredths.hundredths text part n m w v) = with_point text part n m w (hundredths_to part m v)

pub reads_hundredths : Reads read_hundredths WritesHundredths
reads_hundredths text n = (amount_from text n, amount_to text n)

begin_more : (text part : List ℕ) → BeginsWithDigit text → BeginsWithDigit (text ++ part)
begin_more text part b = rw b.split (record { first = b.first; rest = b.rest ++ part; split = refl; digit = b.digit })

amounts_begin : (text : List ℕ) (n : ℕ) → WritesHundredths text n → BeginsWithDigit text
amounts_begin _ _ (WritesHundredths.whole text n w) = digits_begin 1 7 text n (omega arith) w
amounts_begin _ _ (WritesHundredths.tenths text part n m w v) = begin_more text (46 ∷ part) (digits_begin 1 7 text n (omega arith) w)
amounts_begin _ _ (WritesHundredths.hundredths text part n m w v) = begin_more text (46 ∷ part) (digits_begin 1 7 text n (omega arith) w)

reads_digits : Reads (read_digits 4) (WritesDigits 1 4)
reads_digits text n = (digits_from 4 text n, digits_to 1 4 text n (omega arith))

pub reads_quantities : Reads read_quantity WritesQuantity
unfolding read_quantity
reads_quantities = reads_signed (read_digits 4) (WritesDigits 1 4) reads_digits (λ text n w. digits_begin 1 4 text n (omega arith) w)

pub reads_amounts : Reads read_amount WritesAmount
unfolding read_amount
reads_amounts = reads_signed read_hundredths WritesHundredths reads_hundredths amounts_begin
