-- Keys as SQL compares them.
use Rattle.std.proofs.Common.{arith, ◌≡◌, inl, inr, ℕ, ℤ, pos, List, [], ◌∷◌, Bool, true, false, Some, ◌&&◌, ◌||◌, refl, sym, ap, ◌∙◌, Ordering, Less, Equal, Greater}
use Rattle.std.specs.Prelude.{unwrap_or, ◌<◌, ◌<ℤ◌, Option, None, bytes_eq}
use Rattle.std.specs.Ordering.{is_eq, is_ne, is_gt, is_ge, eq_by_cmp, int_cmp, nat_cmp, MatchOrdering}
use Rattle.std.specs.Cmp.{eq_by_cmp_equiv, ranks, int_cmp_is}
use Rattle.std.specs.Cmp.Lexicographic.{slice_cmp, nat_list_cmp_total}
use Rattle.std.proofs.lemmas.Cmp.{int_cmp_total}
use Rattle.std.proofs.lemmas.Map.Text.{is_eq-slice_cmp}
use Rattle.sqlite_value.specs.declared.value.Value.TheVariants.{Int, Text}
use Rattle.sqlite_value.specs.declared.keys.Collation.TheVariants.{Binary}
use Rattle.sqlite_value.specs.Order.{value_cmp}
use Rattle.sqlite_value.proofs.OrderLemmas.{value_cmp-Int, value_cmp-Text}
use Rattle.std.specs.List.{list_any}
use Rattle.std.specs.Ordering.{ordering_then}
use Rattle.std.proofs.lemmas.Bool.{or_parts}
use Rattle.sqlite_rules.specs.Lists.{Has}
use Rattle.sqlite_sql.specs.Ops.{binary, truth, from_truth, is_true, or3}
use Rattle.sqlite_sql.specs.declared.ops.BinaryOp.TheVariants.{Or}
use Rattle.sqlite_value.specs.declared.value.Value.{Value}
use Rattle.sqlite_schema.specs.Rules.{equal, differ}
use Rattle.wh_rows.specs.Questions.{at_least, greater}

pub trimmed : (b : Bool) → ((b && true) || false) ≡ b
trimmed true = refl
trimmed false = refl

truth_is : (b : Bool) → unwrap_or (truth (from_truth (Some b))) false ≡ b
truth_is true = refl
truth_is false = refl

pub equal-Int : (a b : ℤ) → equal Binary (Int a) (Int b) ≡ eq_by_cmp int_cmp b a
unfolding binary
equal-Int a b = truth_is (is_eq (value_cmp (Int a) (Int b))) ∙ ap is_eq (value_cmp-Int a b) ∙ (eq_by_cmp_equiv int_cmp_total).symm a b

pub equal-Text : (s t : List ℕ) → equal Binary (Text s) (Text t) ≡ eq_by_cmp (slice_cmp nat_cmp) t s
unfolding binary
equal-Text s t = truth_is (is_eq (value_cmp (Text s) (Text t))) ∙ ap is_eq (value_cmp-Text s t) ∙ (eq_by_cmp_equiv nat_list_cmp_total).symm s t

pub is_text : (s t : List ℕ) → equal Binary (Text s) (Text t) ≡ bytes_eq s t
unfolding binary
is_text s t = truth_is (is_eq (value_cmp (Text s) (Text t))) ∙ ap is_eq (value_cmp-Text s t) ∙ is_eq-slice_cmp s t

-- SQL's OR is true where one of the two is
pub or_true : (a b : Value) → is_true (binary Or a b) ≡ (is_true a || is_true b)
unfolding binary
or_true a b = go (truth a) (truth b)
  where
    go : (p q : Option Bool) → is_true (from_truth (or3 p q)) ≡ (unwrap_or p false || unwrap_or q false)
    go None None = refl
    go None (Some true) = refl
    go None (Some false) = refl
    go (Some true) None = refl
    go (Some true) (Some true) = refl
    go (Some true) (Some false) = refl
    go (Some false) None = refl
    go (Some false) (Some true) = refl
    go (Some false) (Some false) = refl

-- natural numbers are ordered as integers
pub cmp-pos : (a b : ℕ) → int_cmp (pos a) (pos b) ≡ nat_cmp a b
cmp-pos a b = sym (int_cmp_is (pos a) (pos b) (nat_cmp a b) (go (nat_cmp a b) (ranks a b)))
  where
    go : (o : Ordering) → MatchOrdering o (a < b) (a ≡ b) (b < a) → MatchOrdering o (pos a <ℤ pos b) (pos a ≡ pos b) (pos b <ℤ pos a)
    go Less h = grind arith
    go Equal h = ap pos h
    go Greater h = grind arith

-- a column of numbers is sorted by them
pub sorted-Nat : (a b : ℕ) → value_cmp (Int (pos a)) (Int (pos b)) ≡ nat_cmp a b
sorted-Nat a b = value_cmp-Int (pos a) (pos b) ∙ cmp-pos a b

pub equal-Nat : (a b : ℕ) → equal Binary (Int (pos a)) (Int (pos b)) ≡ eq_by_cmp nat_cmp b a
equal-Nat a b = equal-Int (pos a) (pos b) ∙ ap is_eq (cmp-pos b a)

pub greater-Text : (s t : List ℕ) → greater (Text s) (Text t) ≡ is_gt (slice_cmp nat_cmp s t)
unfolding binary
greater-Text s t = truth_is (is_gt (value_cmp (Text s) (Text t))) ∙ ap is_gt (value_cmp-Text s t)

pub at_least-Nat : (a b : ℕ) → at_least (Int (pos a)) (Int (pos b)) ≡ is_ge (nat_cmp a b)
unfolding binary
at_least-Nat a b = truth_is (is_ge (value_cmp (Int (pos a)) (Int (pos b)))) ∙ ap is_ge (sorted-Nat a b)

pub at_least-Text : (s t : List ℕ) → at_least (Text s) (Text t) ≡ is_ge (slice_cmp nat_cmp s t)
unfolding binary
at_least-Text s t = truth_is (is_ge (value_cmp (Text s) (Text t))) ∙ ap is_ge (value_cmp-Text s t)

-- ---- a row that no test finds

pub misses : {X : Type 0} (p : X → Bool) (xs : List X) (x : X) → list_any p xs ≡ false → Has xs x → p x ≡ false
misses p [] x none h = absurd h
misses p (y ∷ xs) x none (inl same) = rw same (or_parts _ _ none).0
misses p (y ∷ xs) x none (inr later) = misses p xs x (or_parts _ _ none).1 later

-- ---- keys of two parts

pub then_tied : (o p : Ordering) → ordering_then o p ≡ Equal → (o ≡ Equal) × (p ≡ Equal)
then_tied Less p h = absurd (cc)
then_tied Equal p h = (refl, h)
then_tied Greater p h = absurd (cc)

pub then_eq : (o p : Ordering) → is_eq (ordering_then o p) ≡ (is_eq o && is_eq p)
then_eq Less p = refl
then_eq Equal p = refl
then_eq Greater p = refl

-- after another in two parts
pub then_after : (o p : Ordering) → (is_ge o && ((is_gt o || is_gt p) && true)) ≡ is_gt (ordering_then o p)
then_after Less p = refl
then_after Equal Less = refl
then_after Equal Equal = refl
then_after Equal Greater = refl
then_after Greater p = refl

pub and-true : (b : Bool) → (b && true) ≡ b
and-true true = refl
and-true false = refl

pub equal_is : (o : Ordering) → is_eq o ≡ true → o ≡ Equal
equal_is Less h = absurd (cc)
equal_is Equal h = refl
equal_is Greater h = absurd (cc)

pub equal-tie : (a b : ℤ) → equal Binary (Int a) (Int b) ≡ is_eq (value_cmp (Int a) (Int b))
unfolding binary
equal-tie a b = truth_is (is_eq (value_cmp (Int a) (Int b)))

pub differ-tie : (a b : ℤ) → differ (Int a) (Int b) ≡ is_ne (value_cmp (Int a) (Int b))
unfolding binary
differ-tie a b = truth_is (is_ne (value_cmp (Int a) (Int b)))

pub apart_is : (o : Ordering) → is_eq o ≡ false → is_ne o ≡ true
apart_is Less h = refl
apart_is Equal h = absurd (cc)
apart_is Greater h = refl

pub trimmed_and : (a b : Bool) → ((a && (b && true)) || false) ≡ (a && b)
trimmed_and true true = refl
trimmed_and true false = refl
trimmed_and false b = refl
