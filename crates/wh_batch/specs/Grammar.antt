-- Which texts write which numbers, by the rules of their grammar.
use Rattle.std.specs.Prelude.{◌≡◌, ◌↔◌, ◌≤◌, ℕ, ◌+◌, ◌*◌, ℤ, pos, neg_ℤ, true, List, ◌∷◌, ◌++◌, length, Option, Some}
use Rattle.std.specs.Char.{is_ascii_digit}
use Rattle.std.specs.List.{list_all}
use Rattle.std.specs.Str.Parse.{digits_value}

-- least up to most digits, which write n
pub record WritesDigits (least most : ℕ) (text : List ℕ) (n : ℕ) : Type 0 where
  pub enough : least ≤ length text
  pub few : length text ≤ most
  pub digits : list_all is_ascii_digit text ≡ true
  pub value : digits_value 10 text ≡ n

-- a line
pub record WritesLine (text : List ℕ) (n : ℕ) : Type 0 where
  pub digits : WritesDigits 1 4 text n
  pub positive : 1 ≤ n

-- an amount without a sign, in hundredths: a whole number, or with a point and one or two digits after it
pub data WritesHundredths : List ℕ → ℕ → Type 0 where
  whole : (text : List ℕ) (n : ℕ) → WritesDigits 1 7 text n → WritesHundredths text (100 * n)
  tenths : (text part : List ℕ) (n m : ℕ) → WritesDigits 1 7 text n → WritesDigits 1 1 part m → WritesHundredths (text ++ 46 ∷ part) (100 * n + 10 * m)
  hundredths : (text part : List ℕ) (n m : ℕ) → WritesDigits 1 7 text n → WritesDigits 2 2 part m → WritesHundredths (text ++ 46 ∷ part) (100 * n + m)

-- a number with a minus in front or without
pub data WritesSigned (Writes : List ℕ → ℕ → Type 0) : List ℕ → ℤ → Type 0 where
  plain : (text : List ℕ) (n : ℕ) → Writes text n → WritesSigned Writes text (pos n)
  minus : (text : List ℕ) (n : ℕ) → Writes text n → WritesSigned Writes (45 ∷ text) (neg_ℤ (pos n))

-- a quantity
abbrev pub WritesQuantity : List ℕ → ℤ → Type 0
WritesQuantity = WritesSigned (WritesDigits 1 4)

-- an amount of money, in hundredths
abbrev pub WritesAmount : List ℕ → ℤ → Type 0
WritesAmount = WritesSigned WritesHundredths

-- exactly these texts are read, as what they write
abbrev pub Reads : {A : Type 0} → (List ℕ → Option A) → (List ℕ → A → Type 0) → Type 0
Reads {A} read Writes = (text : List ℕ) (x : A) → (read text ≡ Some x) ↔ Writes text x
