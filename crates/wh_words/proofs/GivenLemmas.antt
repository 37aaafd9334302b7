-- What is read of clap's rows by a name.
use Rattle.std.proofs.Common.{◌≡◌, ◌∙◌, refl, sym, ap, Bool, true, false, cond, List, [], ◌∷◌, Option, Some, None}
use Rattle.std.specs.Prelude.{bytes_eq, find, option_and_then, option_map, slice_get, unwrap_or}
use Rattle.std.specs.Borrow.{Bor}
use Rattle.clap.specs.Words.{Row, Text, all_of, first_of}
use Rattle.wh_words.specs.Given.{all_words_in, given_by, optional_word, words_for, words_in}

abbrev pair : Row → Text × List Text
pair r = (r.id, r.values)

found_given : (rows : List Row) (id : Text) → find (λ g. bytes_eq g.0 id) (given_by rows) ≡ option_map pair (find (λ r. bytes_eq r.id id) rows)
found_given [] id = refl
found_given (r ∷ rows) id = by (bytes_eq r.id id) (found_given rows id)
  where
    by : (b : Bool) → find (λ g. bytes_eq g.0 id) (given_by rows) ≡ option_map pair (find (λ r. bytes_eq r.id id) rows) → cond b (Some (pair r)) (find (λ g. bytes_eq g.0 id) (given_by rows)) ≡ option_map pair (cond b (Some r) (find (λ r. bytes_eq r.id id) rows))
    by true others = refl
    by false others = others

-- all that stands in a row
pub all_given : (rows : List Row) (id : Text) → words_for (given_by rows) id ≡ unwrap_or (all_of id rows) []
all_given rows id = ap (λ o. unwrap_or (option_map (λ g. g.1) o) []) (found_given rows id) ∙ by (find (λ r. bytes_eq r.id id) rows)
  where
    by : (o : Option Row) → unwrap_or (option_map (λ g. g.1) (option_map pair o)) [] ≡ unwrap_or (option_map (λ r. r.values) o) []
    by None = refl
    by (Some r) = refl

-- the first of it
pub first_given : (rows : List Row) (id : Text) → first_of id rows ≡ optional_word (given_by rows) id
first_given rows id = sym (ap (λ (words : List Text). slice_get words 0) (all_given rows id) ∙ by (find (λ r. bytes_eq r.id id) rows))
  where
    by : (o : Option Row) → slice_get (unwrap_or (option_map (λ r. r.values) o) []) 0 ≡ option_and_then (λ r. slice_get r.values 0) o
    by None = refl
    by (Some r) = refl

-- behind references
pub words_or_none : (o : Option (Bor (List (Bor Text)))) → all_words_in o ≡ unwrap_or (option_map (λ words. words_in words.now) o) []
words_or_none None = refl
words_or_none (Some words) = refl
