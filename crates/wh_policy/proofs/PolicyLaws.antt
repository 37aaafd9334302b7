-- A whole policy file, judged.
use Rattle.std.proofs.Common.{◌≡◌, ◌≢◌, Bool, true, false, not, ◌&&◌, pos, List, [], Some, codes, refl, sym, ap, ◌∙◌, arith, inl, inr}
use Rattle.std.proofs.lemmas.Bool.{both_ways, not-false, not-true}
use Rattle.std.proofs.lemmas.Option.{same_Some}
use Rattle.toml.specs.Data.{Data, integer, Members, get_member}
use Rattle.wh_policy.specs.declared.fault.PolicyFault.{PolicyFault}
use Rattle.wh_policy.specs.declared.fault.PolicyFault.TheVariants.{UnknownKey, ProfileMixed}
use Rattle.wh_policy.specs.declared.attribute.Attribute.{Attribute}
use Rattle.wh_policy.specs.declared.attribute.Dim.{Dim}
use Rattle.wh_policy.specs.declared.attribute.Dim.TheVariants.{Product, Store, Customer}
use Rattle.wh_policy.specs.declared.policy.Policy.{Policy}
use Rattle.wh_policy.specs.declared.policy.Years.{Years}
use Rattle.wh_policy.specs.Attributes.{takes_profile, is_mixed, attributes_of}
use Rattle.wh_policy.specs.Document.{has_only}
use Rattle.wh_policy.specs.Holidays.{holidays_of}
use Rattle.wh_policy.specs.Types.{is_mini, is_outrigger}
use Rattle.wh_policy.specs.Words.{dim_word}
use Rattle.wh_policy.specs.Years.{years_of}
use Rattle.wh_policy.specs.Policy.{policy_attributes, top_keys, policy_of_table}
use Rattle.wh_policy.specs.Written.{HasOnly, AreYears, WritesYears, IsFreeOf}
use Rattle.wh_policy.proofs.Judged.{Judged, judged-ok, judged-bind, judged-more, judged-unless}
use Rattle.wh_policy.proofs.AttributeLaws.{IsAttribute, AreWritten, attributes_of-judged}
use Rattle.wh_policy.proofs.HolidayLaws.{HolidaysAre, holidays_of-judged}
use Rattle.wh_policy.proofs.WrittenLemmas.{found_before, has_only-true, has_only-from, required-judged, absent}
use Rattle.wh_policy.proofs.TypeLemmas.{mini_number, outrigger_number}
use Rattle.wh_policy.proofs.YearLaws.{years_of-judged}

-- the table writes the policy, and keeps what is asked of one
pub record IsRead (ms : Members) (policy : Policy) : Type 0 where
  pub only : HasOnly top_keys ms
  pub attributes : (dim : Dim) → (content : Data) × (get_member (dim_word dim) ms ≡ Some content) × AreWritten dim content (policy_attributes policy dim)
  pub unmixed : is_mixed policy.customer ≡ false
  pub writes : WritesYears ms policy.years
  pub years : AreYears policy.years
  pub holidays : HolidaysAre policy.years (get_member (codes "holiday") ms) policy.holidays

pub each_dim : (P : Dim → Type 0) → P Product → P Store → P Customer → (dim : Dim) → P dim
each_dim P product store customer Product = product
each_dim P product store customer Store = store
each_dim P product store customer Customer = customer

-- the fault is in the table
abbrev pub IsIn : Members → PolicyFault → Type 0
IsIn ms fault = ¬ IsFreeOf fault ms

-- a dimension that takes no profile isn't customer
not_customer : (dim : Dim) → takes_profile dim ≡ false → dim ≢ Customer
not_customer Product takes is = cc
not_customer Store takes is = cc
not_customer Customer takes is = cc

dimension-judged : (ms : Members) (dim : Dim) (content : Data) → get_member (dim_word dim) ms ≡ Some content → Judged (AreWritten dim content) (IsIn ms) (attributes_of dim content)
dimension-judged ms dim content there = attributes_of-judged dim content
    (λ none whole. let (tables, has, some) = whole.dimensions dim in none tables (same_Some _ _ (sym there ∙ has)) some)
    (λ tables is more each. more (each dim tables (there ∙ ap Some is)))
    (λ tables is. let has = there ∙ ap Some is in record {
      unknown = λ none keys. none (keys.attributes dim tables has);
      missing = λ none whole. none (whole.attributes dim tables has);
      name = λ none each. none (each dim tables has);
      kind = λ none each. none (each dim tables has);
      outside = λ takes none each. none (each dim (not_customer dim takes) tables has);
      twice = λ none each. none (each dim tables has);
    })

-- types 4 and 5 in one dimension are so in the table
mixed-judged : (ms : Members) (content : Data) (customer : List Attribute) → get_member (dim_word Customer) ms ≡ Some content → AreWritten Customer content customer → is_mixed customer ≡ true → IsIn ms ProfileMixed
mixed-judged ms content customer there written mixed free =
    let both = and_cases mixed in
    elim (free written.tables (there ∙ ap Some written.array)) [
      | inl none ↦
          let (k, a, lt, same, is) = found_before (IsAttribute Customer) (λ a. is_mini a.kind) written.tables customer ms written.each both.0 in
          none k ms lt (is.writes.kind ∙ ap (λ n. Some (integer (pos n))) (mini_number a.kind same))
      | inr none ↦
          let (k, a, lt, same, is) = found_before (IsAttribute Customer) (λ a. is_outrigger a.kind) written.tables customer ms written.each both.1 in
          none k ms lt (is.writes.kind ∙ ap (λ n. Some (integer (pos n))) (outrigger_number a.kind same))
    ]
  where
    and_cases : {a b : Bool} → (a && b) ≡ true → (a ≡ true) × (b ≡ true)
    and_cases {a = true} {b = b} h = (refl, h)
    and_cases {a = false} {b = b} h = cc

years-judged : (ms : Members) (first last : Data) → get_member (codes "first_year") ms ≡ Some first → get_member (codes "last_year") ms ≡ Some last
    → Judged (λ years. WritesYears ms years × AreYears years) (IsIn ms) (years_of first last)
years-judged ms first last first_there last_there = judged-more _
    (years_of-judged first last (λ none p. none p.0 (same_Some _ _ (sym first_there ∙ p.1.first)) (same_Some _ _ (sym last_there ∙ p.1.last)) p.2))
    (λ years p. (record { first = first_there ∙ ap Some p.0; last = last_there ∙ ap Some p.1 }, p.2))

holidays-judged : (ms : Members) (years : Years) → WritesYears ms years
    → Judged (HolidaysAre years (get_member (codes "holiday") ms)) (IsIn ms) (holidays_of years (get_member (codes "holiday") ms))
holidays-judged ms years writes = holidays_of-judged years (get_member (codes "holiday") ms)
    (λ content found none good. let p = rw found at good.tables in none p.0 p.1)
    (λ content tables found is. let has = found ∙ ap Some is in record {
      unknown = λ none keys. none (keys.holidays tables has);
      missing = λ none whole. none (whole.holidays tables has);
      day = λ none good. none (good.days years writes tables has);
      name = λ none good. none (good.names tables has);
      twice = λ none good. none (good.once tables has);
    })

pub policy_of_table-judged : (ms : Members) → Judged (IsRead ms) (IsIn ms) (policy_of_table ms)
unfolding policy_of_table
policy_of_table-judged ms =
    judged-unless (has_only top_keys ms) UnknownKey _ (λ no keys. both_ways _ no (has_only-from top_keys ms keys.top)) (λ only.
    judged-bind {mid = λ content. get_member (codes "first_year") ms ≡ Some content} _ _ (required-judged (codes "first_year") ms (λ none whole. absent none (whole.top 0 [] (omega arith)))) (λ first_year first_there.
    judged-bind {mid = λ content. get_member (codes "last_year") ms ≡ Some content} _ _ (required-judged (codes "last_year") ms (λ none whole. absent none (whole.top 1 [] (omega arith)))) (λ last_year last_there.
    judged-bind {mid = λ content. get_member (codes "product") ms ≡ Some content} _ _ (required-judged (codes "product") ms (λ none whole. absent none (whole.top 2 [] (omega arith)))) (λ product_content product_there.
    judged-bind {mid = λ content. get_member (codes "store") ms ≡ Some content} _ _ (required-judged (codes "store") ms (λ none whole. absent none (whole.top 3 [] (omega arith)))) (λ store_content store_there.
    judged-bind {mid = λ content. get_member (codes "customer") ms ≡ Some content} _ _ (required-judged (codes "customer") ms (λ none whole. absent none (whole.top 4 [] (omega arith)))) (λ customer_content customer_there.
    judged-bind {mid = AreWritten Product product_content} _ _ (dimension-judged ms Product product_content product_there) (λ product product_is.
    judged-bind {mid = AreWritten Store store_content} _ _ (dimension-judged ms Store store_content store_there) (λ store store_is.
    judged-bind {mid = AreWritten Customer customer_content} _ _ (dimension-judged ms Customer customer_content customer_there) (λ customer customer_is.
    judged-unless (not (is_mixed customer)) ProfileMixed _ (λ no. mixed-judged ms customer_content customer customer_there customer_is (not-false _ no)) (λ unmixed.
    judged-bind {mid = λ years. WritesYears ms years × AreYears years} _ _ (years-judged ms first_year last_year first_there last_there) (λ years years_are.
    judged-bind {mid = HolidaysAre years (get_member (codes "holiday") ms)} _ _ (holidays-judged ms years years_are.0) (λ holidays holidays_are.
    judged-ok (record { product = product; store = store; customer = customer; years = years; holidays = holidays }) (record {
      only = has_only-true top_keys ms only;
      attributes = each_dim _ (product_content, product_there, product_is) (store_content, store_there, store_is) (customer_content, customer_there, customer_is);
      unmixed = not-true _ unmixed;
      writes = years_are.0;
      years = years_are.1;
      holidays = holidays_are;
    })))))))))))))
