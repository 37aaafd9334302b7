-- The laws of names.
use Rattle.std.proofs.Common.{◌≡◌, ◌+◌, true, leb, arith}
use Rattle.std.proofs.lemmas.Bool.{and_parts, and_from, le-leb, leb-true}
use Rattle.wh_policy.specs.declared.attribute.Dim.TheVariants.{Product, Store, Customer}
use Rattle.wh_policy.specs.declared.policy.Policy.{Policy}
use Rattle.wh_policy.specs.Laws.{TypesHaveNumbers, NamesAreFound, NoOthersAreFound, IsFit, FitsExactly}
use Rattle.wh_policy.specs.Names.{are_kept, fits}
use Rattle.wh_policy.specs.Policy.{policy_attributes}
use Rattle.wh_policy.proofs.NameLemmas.{found_stands, stands_found, none_stands, none_found, kept_names, names_kept}
use Rattle.wh_policy.proofs.PolicyLaws.{each_dim}
use Rattle.wh_policy.proofs.TypeLemmas.{attribute_type_of_number-again, attribute_type_of_number-is}

pub types_have_numbers : TypesHaveNumbers
types_have_numbers number kind = (attribute_type_of_number-is number kind, λ is. rw is (attribute_type_of_number-again kind))

pub names_are_found : NamesAreFound
names_are_found policy dim name place number sound = (
  λ e. let (k, is, stands) = found_stands 1 name (policy_attributes policy dim) (1 + place) number e in
      let same : k ≡ place = omega (arith, is) in
      rw same at stands,
  stands_found 1 name (policy_attributes policy dim) place number (sound.attributes dim).once,
)

pub no_others_are_found : NoOthersAreFound
no_others_are_found policy dim name = (none_stands 1 name (policy_attributes policy dim), none_found 1 name (policy_attributes policy dim))

fits_is : (old new : Policy) → fits old new ≡ true → IsFit old new
fits_is old new h =
    let (rest, to) = and_parts _ (leb old.years.last new.years.last) h in
    let (names, from) = and_parts _ (leb new.years.first old.years.first) rest in
    let (two, customer) = and_parts _ (are_kept old.customer new.customer) names in
    let (product, store) = and_parts (are_kept old.product new.product) (are_kept old.store new.store) two in
    record {
      names = each_dim _ (kept_names old.product new.product product) (kept_names old.store new.store store) (kept_names old.customer new.customer customer);
      from = leb-true _ _ from;
      to = leb-true _ _ to;
    }

fits_from : (old new : Policy) → IsFit old new → fits old new ≡ true
fits_from old new h =
    let (p, product) = h.names Product in
    let (s, store) = h.names Store in
    let (c, customer) = h.names Customer in
    and_from _ _ (and_from _ _ (and_from _ _ (and_from _ _ (names_kept old.product new.product p product) (names_kept old.store new.store s store))
    (names_kept old.customer new.customer c customer)) (le-leb _ _ h.from)) (le-leb _ _ h.to)

pub fits_exactly : FitsExactly
fits_exactly old new = (fits_is old new, fits_from old new)
