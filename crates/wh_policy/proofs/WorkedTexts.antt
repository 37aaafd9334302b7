-- The definition on whole texts whose answers are known from elsewhere: each lemma computes.
use Rattle.std.specs.Prelude.{ℕ, codes, List, [], ◌∷◌, ◌++◌, Ok, Err}
use Rattle.std.proofs.Common.{◌≡◌, refl}
use Rattle.toml.proofs.OnLiterals.{toml_on_literals}
use Rattle.wh_policy.specs.declared.attribute.AttributeType.TheVariants.{RetainOriginal, Overwrite, NewRow, NewAttribute, NewRowAndOverwrite, DualKeys}
use Rattle.wh_policy.specs.declared.fault.PolicyFault.TheVariants.{NotToml, Missing, BadType, ProfileOutside, BadYears, BadHoliday}
use Rattle.wh_policy.specs.declared.policy.Policy.{Policy}
use Rattle.wh_policy.specs.Policy.{described, read_policy}
use Rattle.wh_policy.proofs.OnLiterals.{policy_on_literals}

abbrev lines : List (List ℕ) → List ℕ
lines [] = []
lines (line ∷ more) = line ++ 10 ∷ lines more

-- the text of examples/flat.toml, with this last year, first type of a product, and holiday
abbrev flat_with : List ℕ → List ℕ → List ℕ → List ℕ
flat_with year kind day = lines (
    codes "first_year = 2023" ∷ (codes "last_year = " ++ year) ∷
    codes "[[product]]" ∷ codes "name = \"description\"" ∷ (codes "type = " ++ kind) ∷
    codes "[[product]]" ∷ codes "name = \"brand\"" ∷ codes "type = 2" ∷
    codes "[[product]]" ∷ codes "name = \"category\"" ∷ codes "type = 6" ∷
    codes "[[product]]" ∷ codes "name = \"department\"" ∷ codes "type = 7" ∷
    codes "[[product]]" ∷ codes "name = \"launched\"" ∷ codes "type = 0" ∷
    codes "[[product]]" ∷ codes "name = \"supplier\"" ∷ codes "type = 3" ∷
    codes "[[store]]" ∷ codes "name = \"city\"" ∷ codes "type = 2" ∷
    codes "[[customer]]" ∷ codes "name = \"tier\"" ∷ codes "type = 2" ∷
    codes "[[holiday]]" ∷ (codes "day = \"" ++ day ++ codes "\"") ∷ codes "name = \"Christmas Day\"" ∷ [])

abbrev flat : ℕ → Policy
flat last = record {
  product = described (codes "description") Overwrite ∷ described (codes "brand") NewRow ∷ described (codes "category") NewRowAndOverwrite
      ∷ described (codes "department") DualKeys ∷ described (codes "launched") RetainOriginal ∷ described (codes "supplier") NewAttribute ∷ [];
  store = described (codes "city") NewRow ∷ [];
  customer = described (codes "tier") NewRow ∷ [];
  years = record { first = 2023; last = last };
  holidays = record { day = 20241225; name = codes "Christmas Day" } ∷ [];
}

flat_is_read : read_policy (flat_with (codes "2026") (codes "1") (codes "2024-12-25")) ≡ Ok (flat 2026)
unfolding policy_on_literals toml_on_literals
flat_is_read = refl

thirty_years : read_policy (flat_with (codes "2052") (codes "1") (codes "2024-12-25")) ≡ Ok (flat 2052)
unfolding policy_on_literals toml_on_literals
thirty_years = refl

thirty_one_years : read_policy (flat_with (codes "2053") (codes "1") (codes "2024-12-25")) ≡ Err BadYears
unfolding policy_on_literals toml_on_literals
thirty_one_years = refl

type_8 : read_policy (flat_with (codes "2026") (codes "8") (codes "2024-12-25")) ≡ Err BadType
unfolding policy_on_literals toml_on_literals
type_8 = refl

type_4_of_a_product : read_policy (flat_with (codes "2026") (codes "4") (codes "2024-12-25")) ≡ Err ProfileOutside
unfolding policy_on_literals toml_on_literals
type_4_of_a_product = refl

no_leap_day : read_policy (flat_with (codes "2026") (codes "1") (codes "2023-02-29")) ≡ Err BadHoliday
unfolding policy_on_literals toml_on_literals
no_leap_day = refl

cut_in_a_string : read_policy (codes "first_year = 2023\nlast_year = 2026\n[[product]]\nname = \"descr") ≡ Err NotToml
unfolding policy_on_literals toml_on_literals
cut_in_a_string = refl

no_bytes : read_policy [] ≡ Err Missing
unfolding policy_on_literals toml_on_literals
no_bytes = refl

-- é in Latin-1, in a comment
no_utf8 : read_policy (35 ∷ 233 ∷ 10 ∷ []) ≡ Err NotToml
unfolding policy_on_literals toml_on_literals
no_utf8 = refl
