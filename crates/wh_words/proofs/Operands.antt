-- What clap asks of an operand.
use Rattle.std.proofs.Common.{◌≡◌, [], ◌∷◌, List, refl, ap, true, false, Bool, ◌==◌, ◌&&◌, None, not, bytes_eq}
use Rattle.std.specs.List.{list_all}
use Rattle.clap.specs.Words.{Text}
use Rattle.clap.specs.Lexer.{long_of, short_of}
use Rattle.wh_words.specs.CommandLine.{is_operand}

not-true : (b : Bool) → not b ≡ true → b ≡ false
not-true true h = cc
not-true false h = refl

-- what clap asks of a word: whether it is an option, and whether it ends the options
pub record IsPlain (word : Text) : Type 0 where
  pub no_end : bytes_eq word (45 ∷ 45 ∷ []) ≡ false
  pub no_long : long_of word ≡ None
  pub no_short : short_of word ≡ None

-- an operand is neither
pub plain : (word : Text) → is_operand word ≡ true → IsPlain word
plain [] is = record { no_end = refl; no_long = refl; no_short = refl }
plain (b ∷ rest) is = let e = not-true (b == 45) is in record { no_end = rw e refl; no_long = rw e refl; no_short = rw e refl }

-- the words from the first to the last are operands
abbrev pub are_operands : Text → List Text → Bool
are_operands word [] = is_operand word
are_operands word (next ∷ rest) = is_operand word && are_operands next rest

and-true : (b : Bool) → b ≡ (b && true)
and-true true = refl
and-true false = refl

pub are_in_list : (word : Text) (rest : List Text) → are_operands word rest ≡ list_all is_operand (word ∷ rest)
are_in_list word [] = and-true (is_operand word)
are_in_list word (next ∷ rest) = ap (λ (b : Bool). is_operand word && b) (are_in_list next rest)
