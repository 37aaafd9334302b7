-- The attributes of a dimension, judged.
use Rattle.std.proofs.Common.{◌≡◌, ◌≢◌, ℕ, ◌≤◌, Bool, true, false, ◌||◌, not, List, [], ◌∷◌, ◌++◌, length, pos, Option, Some, None, codes, refl, sym, ap, ◌∙◌, arith, inl, inr}
use Rattle.std.specs.Prelude.{IsTrue, ◌==◌, nat_le}
use Rattle.std.specs.List.{All, AllPairs, AllZip, list_any}
use Rattle.std.specs.Option.{option_and_then}
use Rattle.std.proofs.lemmas.Bool.{not-false, not-true, false≢true, le-leb, leb-true, eqb-true, eqb-false, both_ways}
use Rattle.std.proofs.lemmas.Cmp.{nat_list_eq_equiv}
use Rattle.std.proofs.lemmas.Option.{same_Some, none-some, option_and_then_some}
use Rattle.toml.specs.Data.{Data, string, integer, Members, get_member, as_str, as_integer}
use Rattle.wh_policy.specs.declared.fault.PolicyFault.{PolicyFault}
use Rattle.wh_policy.specs.declared.fault.PolicyFault.TheVariants.{Missing, UnknownKey, BadName, BadType, TooMany, NamedTwice, ProfileOutside}
use Rattle.wh_policy.specs.declared.attribute.Attribute.{Attribute}
use Rattle.wh_policy.specs.declared.attribute.AttributeType.{AttributeType}
use Rattle.wh_policy.specs.declared.attribute.Dim.{Dim}
use Rattle.wh_policy.specs.Attributes.{is_name, found_name, name_of, kind_of, takes_profile, attribute_keys, is_named, attribute_of, attributes_of}
use Rattle.wh_policy.specs.Document.{has_only}
use Rattle.wh_policy.specs.Types.{attribute_type_number, attribute_type_of_number, is_profile}
use Rattle.wh_policy.specs.Written.{HasOnly, HasAll, IsArrayOf, At, IsNameData, IsTypeData, DifferAt, IsOutsideProfile, WritesAttribute}
use Rattle.wh_policy.proofs.Judged.{Judged, judged-ok, judged-bind, judged-more, judged-unless, judged-or}
use Rattle.wh_policy.proofs.TypeLemmas.{attribute_type_of_number-again, attribute_type_of_number-is, type_with, profile_numbers}
use Rattle.wh_policy.proofs.WrittenLemmas.{as_str-is, as_integer-is, has_only-true, has_only-from, same_bytes, arrays_same, required-judged, tables_of-judged, each_after-judged, found_before, none_found, All-middle, AllPairs-middle, absent}

-- the table writes the attribute, and keeps what is asked of one
pub record IsAttribute (dim : Dim) (t : Members) (a : Attribute) : Type 0 where
  pub only : HasOnly attribute_keys t
  pub writes : WritesAttribute t a
  pub named : IsTrue (is_name a.name)
  pub outside : takes_profile dim ≡ false → is_profile a.kind ≡ false

-- what follows from a fault in one of the tables
pub record Reasons (dim : Dim) (bad : PolicyFault → Type 0) (tables : List Members) : Type 0 where
  pub unknown : ¬ All (HasOnly attribute_keys) tables → bad UnknownKey
  pub missing : ¬ All (HasAll attribute_keys) tables → bad Missing
  pub name : ¬ All (At (codes "name") IsNameData) tables → bad BadName
  pub kind : ¬ All (At (codes "type") IsTypeData) tables → bad BadType
  pub outside : takes_profile dim ≡ false → ¬ All IsOutsideProfile tables → bad ProfileOutside
  pub twice : ¬ AllPairs (DifferAt (codes "name")) tables → bad NamedTwice

abbrev pub AreDistinct : List Attribute → Type 0
AreDistinct attributes = AllPairs (λ a b. a.name ≢ b.name) attributes

-- a name

found_name-judged : {bad : PolicyFault → Type 0} (found : Option (List ℕ)) → (found ≡ None → bad BadName) → ((name : List ℕ) → found ≡ Some name → is_name name ≡ false → bad BadName)
    → Judged (λ name. (found ≡ Some name) × IsTrue (is_name name)) bad (found_name found)
found_name-judged None none other = record { verdict = none refl }
found_name-judged (Some name) none other = judged-unless (is_name name) BadName _ (other name refl) (λ yes. judged-ok name (refl, yes))

name_of-judged : {bad : PolicyFault → Type 0} (content : Data) → (¬ IsNameData content → bad BadName) → Judged (λ name. (content ≡ string name) × IsTrue (is_name name)) bad (name_of content)
unfolding name_of
name_of-judged content fails = judged-more _
    (found_name-judged (as_str content)
    (λ none. fails (λ p. none-some p.0 (sym none ∙ ap as_str p.1)))
    (λ name found no. fails (λ p. both_ways (is_name name) no (rw (same_Some p.0 name (sym (ap as_str p.1) ∙ found)) at p.2))))
    (λ name p. (as_str-is content name p.0, p.1))

-- a type

kind_of-judged : {bad : PolicyFault → Type 0} (content : Data) → (¬ IsTypeData content → bad BadType) → Judged (λ kind. content ≡ integer (pos (attribute_type_number kind))) bad (kind_of content)
unfolding kind_of
kind_of-judged content fails = judged-or BadType (option_and_then attribute_type_of_number (as_integer content))
    (λ none. fails (λ p.
    let (kind, number) = type_with p.0 p.2 in
    let is : content ≡ integer (pos (attribute_type_number kind)) = rw number p.1 in
    none-some kind (sym (rw is at none) ∙ attribute_type_of_number-again kind)))
    (λ kind e. option_and_then_some attribute_type_of_number (as_integer content) kind e (λ z found same.
    as_integer-is content z found ∙ ap integer (attribute_type_of_number-is z kind same)))

neither : (a b : Bool) → (a || b) ≡ false → (a ≡ false) × (b ≡ false)
neither true b h = cc
neither false b h = (refl, h)

profile_refused : (t : Members) (kind : AttributeType) → get_member (codes "type") t ≡ Some (integer (pos (attribute_type_number kind))) → is_profile kind ≡ true → IsOutsideProfile t → ⊥
profile_refused t kind is profile outside =
    let (four, five) = outside (attribute_type_number kind) is in
    elim (profile_numbers kind profile) [ inl a ↦ four a | inr b ↦ five b ]

pub attribute_of-judged : {bad : PolicyFault → Type 0} (dim : Dim) (before : List Members) (t : Members) (after : List Members) (earlier : List Attribute)
    → AllZip (IsAttribute dim) before earlier → Reasons dim bad (before ++ t ∷ after) → Judged (λ a. IsAttribute dim t a × All (λ b. b.name ≢ a.name) earlier) bad (attribute_of dim earlier t)
unfolding attribute_of
attribute_of-judged dim before t after earlier zip reasons =
    judged-unless (has_only attribute_keys t) UnknownKey _
    (λ no. reasons.unknown (λ all. both_ways _ no (has_only-from attribute_keys t (All-middle (HasOnly attribute_keys) before t after all)))) (λ only.
    judged-bind {mid = λ content. get_member (codes "name") t ≡ Some content} _ _
    (required-judged (codes "name") t (λ none. reasons.missing (λ all. absent none (All-middle (HasAll attribute_keys) before t after all 0 [] (omega arith))))) (λ name_content name_there.
    judged-bind {mid = λ content. get_member (codes "type") t ≡ Some content} _ _
    (required-judged (codes "type") t (λ none. reasons.missing (λ all. absent none (All-middle (HasAll attribute_keys) before t after all 1 [] (omega arith))))) (λ kind_content kind_there.
    judged-bind {mid = λ name. (name_content ≡ string name) × IsTrue (is_name name)} _ _
    (name_of-judged name_content (λ none. reasons.name (λ all. none (rw name_there at (All-middle (At (codes "name") IsNameData) before t after all))))) (λ name named.
    judged-bind {mid = λ kind. kind_content ≡ integer (pos (attribute_type_number kind))} _ _
    (kind_of-judged kind_content (λ none. reasons.kind (λ all. none (rw kind_there at (All-middle (At (codes "type") IsTypeData) before t after all))))) (λ kind typed.
    let kind_is : get_member (codes "type") t ≡ Some (integer (pos (attribute_type_number kind))) = kind_there ∙ ap Some typed in
    let name_is : get_member (codes "name") t ≡ Some (string name) = name_there ∙ ap Some named.0 in
    judged-unless (takes_profile dim || not (is_profile kind)) ProfileOutside _
    (λ no. let none = neither (takes_profile dim) (not (is_profile kind)) no in reasons.outside none.0 (λ all. profile_refused t kind kind_is (not-false _ none.1) (All-middle IsOutsideProfile before t after all))) (λ yes.
    judged-unless (not (list_any (is_named name) earlier)) NamedTwice _
    (λ no. reasons.twice (λ all.
    let (k, a, lt, same, is) = found_before (IsAttribute dim) (is_named name) before earlier t zip (not-false _ no) in
    AllPairs-middle (DifferAt (codes "name")) before t after k lt all name (rw (same_bytes a.name name same) at is.writes.name) name_is)) (λ new.
    judged-ok (record { name = name; kind = kind }) (
      record {
        only = has_only-true attribute_keys t only;
        writes = record { name = name_is; kind = kind_is };
        named = named.1;
        outside = λ none. not-true _ (sym (ap (λ b. b || not (is_profile kind)) none) ∙ yes);
      },
      (λ k d lt same. false≢true (sym (none_found (is_named name) earlier (not-true _ new) k d lt) ∙ rw same (nat_list_eq_equiv.refl name))),
    ))))))))

-- the attributes that an array of tables writes
pub record AreWritten (dim : Dim) (content : Data) (attributes : List Attribute) : Type 0 where
  pub tables : List Members
  pub array : IsArrayOf tables content
  pub each : AllZip (IsAttribute dim) tables attributes
  pub some : 1 ≤ length tables
  pub few : length tables ≤ 6
  pub once : AreDistinct attributes

pub attributes_of-judged : {bad : PolicyFault → Type 0} (dim : Dim) (content : Data)
    → (((tables : List Members) → IsArrayOf tables content → ¬ (1 ≤ length tables)) → bad Missing)
    → ((tables : List Members) → IsArrayOf tables content → ¬ (length tables ≤ 6) → bad TooMany)
    → ((tables : List Members) → IsArrayOf tables content → Reasons dim bad tables)
    → Judged (AreWritten dim content) bad (attributes_of dim content)
unfolding attributes_of
attributes_of-judged {bad = bad} dim content missing many reasons =
    judged-bind {mid = λ tables. IsArrayOf tables content} _ _
    (tables_of-judged Missing content (λ none. missing (λ tables is some. none tables is))) (λ tables is.
    judged-unless (not (length tables == 0)) Missing _
    (λ no. missing (λ others same some.
    let empty : length tables ≡ 0 = eqb-true _ _ (not-false _ no) in
    let here : 1 ≤ length tables = rw (arrays_same content others tables same is) at some in
    omega (arith, empty, here))) (λ yes.
    judged-unless (nat_le (length tables) 6) TooMany _
    (λ no. many tables is (λ few. both_ways _ no (le-leb _ _ few))) (λ few.
    judged-more {mid = λ attributes. AllZip (IsAttribute dim) tables attributes × AreDistinct attributes} _
    (each_after-judged (attribute_of dim) (IsAttribute dim) (λ a b. a.name ≢ b.name) (Reasons dim bad) (attribute_of-judged dim) [] [] tables tt
    (λ i j d below within. absurd (omega arith)) (reasons tables is)) (λ attributes p.
    let some : 1 ≤ length tables = omega (arith, eqb-false _ _ (not-true _ yes)) in
    record { tables = tables; array = is; each = p.0; some = some; few = leb-true _ _ few; once = p.1 }))))
