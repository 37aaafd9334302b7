-- Which attribute words name.
use Rattle.std.proofs.Common.{◌≡◌, ℕ, suc, ◌+◌, ◌-◌, true, false, cond, pos, List, [], ◌∷◌, Option, Some, None, refl, sym, ◌∙◌, ap, subst, arith}
use Rattle.std.specs.Prelude.{slice_get, codes}
use Rattle.std.specs.Str.{bytes_eq}
use Rattle.wh_policy.specs.Attributes.{is_named}
use Rattle.wh_policy.specs.Names.{slot_from}
use Rattle.wh_policy.specs.Policy.{policy_attributes, policy_types}
use Rattle.wh_policy.specs.Types.{attribute_type_number, attribute_type_of_number, kinds_of}
use Rattle.wh_policy.specs.declared.attribute.Attribute.{Attribute as AttributeRow}
use Rattle.wh_policy.specs.declared.attribute.AttributeType.{AttributeType}
use Rattle.wh_policy.specs.declared.attribute.Dim.{Dim}
use Rattle.wh_policy.specs.declared.attribute.Dim.TheVariants.{Product, Store, Customer}
use Rattle.wh_policy.specs.declared.policy.Policy.{Policy}
use Rattle.wh_history.proofs.Basics.{some_is}
use Rattle.wh_model.proofs.ValidTables.{made_of, then_of}
use Rattle.wh_report.specs.Subject.{after, attribute_at, attribute_in, named_or, subject_in}
use Rattle.wh_report.specs.declared.subject.SlotAttribute.{SlotAttribute}
use Rattle.wh_report.specs.declared.subject.Subject.{Subject}
use Rattle.wh_report.specs.declared.subject.Subject.TheVariants.{Attribute, Month, Holiday}
use Rattle.wh_policy.proofs.TypeLemmas.{attribute_type_of_number-again}

-- an attribute of the type stands at the place of the slot
record StandsIn (kinds : List AttributeType) (from : ℕ) (found : ℕ × ℕ) : Type 0 where
  place : ℕ
  kind : AttributeType
  slot : found.0 ≡ from + place
  there : slice_get kinds place ≡ Some kind
  number : attribute_type_number kind ≡ found.1

stands : (from : ℕ) (name : List ℕ) (attributes : List AttributeRow) (found : ℕ × ℕ) → slot_from from name attributes ≡ Some found → StandsIn (kinds_of attributes) from found
unfolding slot_from
stands from name [] found is = absurd cc
stands from name (a ∷ attributes) found is =
    elim (is_named name a) as (λ b. cond b (Some (from, attribute_type_number a.kind)) (slot_from (from + 1) name attributes) ≡ Some found → StandsIn (kinds_of (a ∷ attributes)) from found) [
      | true ↦ λ e. let same = some_is _ _ e in record { place = 0; kind = a.kind; slot = sym (ap (λ (p : ℕ × ℕ). p.0) same) ∙ omega arith; there = refl; number = ap (λ (p : ℕ × ℕ). p.1) same }
      | false ↦ λ e. let rest = stands (from + 1) name attributes found e in record { place = suc rest.place; kind = rest.kind; slot = rest.slot ∙ omega arith; there = rest.there; number = rest.number }
    ] is

-- the attribute stands in its slot under the policy
abbrev pub IsOfPolicy : Policy → SlotAttribute → Type 0
IsOfPolicy policy a = slice_get (policy_types policy a.dim) a.place ≡ Some a.kind

attribute_is : (x y : SlotAttribute) → Some (Attribute x) ≡ Some (Attribute y) → x ≡ y
attribute_is x y e = cc

in_dimension : (policy : Policy) (dim : Dim) (name : List ℕ) (a : SlotAttribute) → attribute_in policy dim name ≡ Some (Attribute a) → IsOfPolicy policy a
in_dimension policy dim name a is =
    let from = then_of (attribute_at dim) (slot_from 1 name (policy_attributes policy dim)) (Attribute a) is in
    let found : ℕ × ℕ = from.0 in
    let here = stands 1 name (policy_attributes policy dim) found from.1 in
    let made = made_of (λ kind. Attribute (record { dim = dim; place = found.0 - 1; kind = kind })) (attribute_type_of_number (pos found.1)) (Attribute a) from.2 in
    let kind : here.kind ≡ made.0 = some_is _ _ (sym (attribute_type_of_number-again here.kind) ∙ ap (λ n. attribute_type_of_number (pos n)) here.number ∙ made.1) in
    let same : record { dim = dim; place = found.0 - 1; kind = made.0 } ≡ a = attribute_is _ a (ap Some (sym made.2)) in
    let slot = here.slot in
    let place : here.place ≡ found.0 - 1 = omega arith in
    subst (IsOfPolicy policy) same (ap (slice_get (policy_types policy dim)) (sym place) ∙ here.there ∙ ap Some kind)

module _ (policy : Policy) (a : SlotAttribute) where
  by_name : (dim : Dim) (o : Option (List ℕ)) (other : Option Subject) → (other ≡ Some (Attribute a) → IsOfPolicy policy a) → named_or o (attribute_in policy dim) other ≡ Some (Attribute a) → IsOfPolicy policy a
  by_name dim None other rest is = rest is
  by_name dim (Some name) other rest is = in_dimension policy dim name a is

  pub subject_stands : (words : List ℕ) → subject_in policy words ≡ Some (Attribute a) → IsOfPolicy policy a
  unfolding subject_in
  subject_stands words is =
      elim (bytes_eq words (codes "date.month")) as (λ b. cond b (Some Month) (cond (bytes_eq words (codes "date.holiday")) (Some Holiday) (named_or (after (codes "product.") words) (attribute_in policy Product)
      (named_or (after (codes "store.") words) (attribute_in policy Store) (named_or (after (codes "customer.") words) (attribute_in policy Customer) None)))) ≡ Some (Attribute a) → IsOfPolicy policy a) [
        | true ↦ λ e. absurd cc
        | false ↦ λ e. elim (bytes_eq words (codes "date.holiday")) as (λ b. cond b (Some Holiday) (named_or (after (codes "product.") words) (attribute_in policy Product)
            (named_or (after (codes "store.") words) (attribute_in policy Store) (named_or (after (codes "customer.") words) (attribute_in policy Customer) None))) ≡ Some (Attribute a) → IsOfPolicy policy a) [
              | true ↦ λ f. absurd cc
              | false ↦ λ f. by_name Product (after (codes "product.") words) _ (λ g. by_name Store (after (codes "store.") words) _ (λ h. by_name Customer (after (codes "customer.") words) None (λ i. absurd cc) h) g) f
            ] e
      ] is
