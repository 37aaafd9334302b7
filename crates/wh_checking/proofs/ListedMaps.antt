-- The rows of a map, in the order of their keys, list what the map gives its keys.
use Rattle.std.proofs.Common.{◌≡◌, T, Bool, true, false, ◌&&◌, List, [], ◌∷◌, map, Option, Result, Ok, Err, refl, sym, ap, subst, ◌∙◌, Less}
use Rattle.std.specs.Prelude.{IsTrue, IfOk}
use Rattle.std.specs.Ordering.{is_lt}
use Rattle.std.specs.declared.cmp.Ordering.{Ordering}
use Rattle.std.specs.declared.cmp.Ordering.TheVariants.{Equal, Greater}
use Rattle.std.specs.FinMap.{FinMap, entries, values, get, find, is_sorted, entries_sorted, get-entries}
use Rattle.std.specs.FinMap.Entries.{below_all}
use Rattle.std.specs.List.Sorted.{IsPermutation}
use Rattle.std.proofs.lemmas.List.Sorted.{IsPermutation-refl}
use Rattle.std.specs.List.{AllByRecursion, list_all}
use Rattle.wh_rows.specs.Holds.{Layout}
use Rattle.sqlite.specs.Order.{Row}
use Rattle.std.specs.Cmp.{IsTotalOrder}
use Rattle.std.specs.FinMap.{IsAntisymmetric}
use Rattle.wh_admission.specs.Checked.{AreRowsAt}
use Rattle.wh_checking.specs.Compared.{AreRowsOrNot}
use Rattle.wh_checking.proofs.Comparing.{DoKeysRise, IsCompared}
use Rattle.wh_checking.proofs.ListedTables.{AreListed, defined_or_not}

first : (a b : Bool) → T (a && b) → T a
first true b p = tt
first false b p = absurd p

second : (a b : Bool) → T (a && b) → T b
second true b p = p
second false b p = absurd p

less_is : (o : Ordering) → T (is_lt o) → o ≡ Less
less_is Less p = refl
less_is Equal p = absurd p
less_is Greater p = absurd p

pub both_true : (a b : Bool) → a ≡ true → b ≡ true → (a && b) ≡ true
both_true true b p q = q
both_true false b p q = absurd (cc)

module _ {K V : Type 0} (layout : Layout K V) where
  abbrev Keyed : List (K × V) → Type 0
  Keyed es = AllByRecursion (λ (e : K × V). e.0 ≡ layout.key e.1) es

  abbrev rows : List (K × V) → List V
  rows es = map (λ (e : K × V). e.1) es

  behind : (k : K) (es : List (K × V)) → Keyed es → T (below_all layout.order k es) → AllByRecursion (λ w. layout.order k (layout.key w) ≡ Less) (rows es)
  behind k [] keyed below = tt
  behind k (e ∷ es) keyed below =
      let here = less_is (layout.order k e.0) (first _ _ below) in
      (subst (λ j. layout.order k j ≡ Less) keyed.0 here, behind k es keyed.1 (second (is_lt (layout.order k e.0)) _ below))

  rises : (es : List (K × V)) → Keyed es → T (is_sorted layout.order es) → DoKeysRise layout (rows es)
  rises [] keyed sorted = tt
  rises (e ∷ es) keyed sorted = (
    subst (λ j. AllByRecursion (λ w. layout.order j (layout.key w) ≡ Less) (rows es)) keyed.0 (behind e.0 es keyed.1 (first _ _ sorted)),
    rises es keyed.1 (second (below_all layout.order e.0 es) _ sorted),
  )

  pairs : (es : List (K × V)) → Keyed es → map (λ v. (layout.key v, v)) (rows es) ≡ es
  pairs [] keyed = refl
  pairs (e ∷ es) keyed = let one = sym keyed.0 in let rest = pairs es keyed.1 in λ i. (one i, e.1) ∷ rest i

  pub all_valid : (es : List (K × V)) → AllByRecursion (λ (e : K × V). IsTrue (layout.is_valid e.1)) es → list_all layout.is_valid (rows es) ≡ true
  all_valid [] each = refl
  all_valid (e ∷ es) each = both_true (layout.is_valid e.1) (list_all layout.is_valid (rows es)) each.0 (all_valid es each.1)

  pub listed : (m : FinMap layout.order V) (row_at : K → Option V) → Keyed (entries m) → AllByRecursion (λ (e : K × V). IsTrue (layout.is_valid e.1)) (entries m) → ((key : K) → get m key ≡ row_at key) → AreListed layout row_at (values m)
  listed m row_at keyed valid are = record {
    rise = rises (entries m) keyed (entries_sorted m);
    valid = all_valid (entries m) valid;
    found = λ key. ap (find layout.order key) (pairs (entries m) keyed) ∙ sym (get-entries m key) ∙ are key;
  }

-- What a comparison with a table's rows says: what is stored is what its map gives, or it isn't and none of it is damaged.
pub rows_or_not : {K V : Type 0} (layout : Layout K V) → IsTotalOrder layout.order → IsAntisymmetric layout.order → (m : FinMap layout.order V) → AreListed layout (get m) (values m) → (stored : List Row) (same : Bool) → IsCompared layout stored (values m) same
    → AreRowsOrNot layout (get m) stored same
rows_or_not layout total exact m all stored same compared = defined_or_not layout total exact (get m) (values m) stored same all compared

-- the same of a function that gives what the map gives
rows_so : {K V : Type 0} (layout : Layout K V) (f g : K → Option V) (stored : List Row) → ((key : K) → f key ≡ g key) → AreRowsAt layout f stored → AreRowsAt layout g stored
rows_so layout f g stored so are = record { rows = are.rows; are = λ key. are.are key ∙ so key; valid = are.valid; same = are.same }

pub or_not_so : {K V : Type 0} (layout : Layout K V) (f g : K → Option V) (stored : List Row) (same : Bool) → ((key : K) → f key ≡ g key) → AreRowsOrNot layout f stored same → AreRowsOrNot layout g stored same
or_not_so layout f g stored true so are = rows_so layout f g stored so are
or_not_so layout f g stored false so told = (λ are. told.0 (rows_so layout g f stored (λ key. sym (so key)) are), told.1)

pub told_so : {K V : Type 0} {E : Type 0} (layout : Layout K V) (f g : K → Option V) (stored : List Row) (result : Result Bool E) → ((key : K) → f key ≡ g key) → IfOk result (AreRowsOrNot layout f stored) → IfOk result (AreRowsOrNot layout g stored)
told_so layout f g stored (Ok same) so told = or_not_so layout f g stored same so told
told_so layout f g stored (Err why) so told = tt

-- a map without rows is what is stored where nothing is
pub none_listed : {K V : Type 0} (layout : Layout K V) (held : FinMap layout.order V) → values held ≡ [] → AreRowsAt layout (get held) []
none_listed layout held none = record {
  rows = held;
  are = λ key. refl;
  valid = subst (λ vs. IsTrue (list_all layout.is_valid vs)) (sym none) refl;
  same = subst (λ vs. IsPermutation [] (map layout.encode vs)) (sym none) (IsPermutation-refl []);
}
