-- The rows of finite maps, and what the facts of a map come to.
use Rattle.std.proofs.Common.{◌≡◌, ℕ, suc, true, false, cond, List, [], ◌∷◌, ◌++◌, map, length, Option, Some, None, refl, sym, ◌∙◌, ap, subst, arith, Ordering, Less, Equal, Greater, append_assoc, append-nil}
use Rattle.std.specs.Prelude.{find as find_first, filter_map, Contains}
use Rattle.std.specs.Cmp.{IsTotalOrder}
use Rattle.std.specs.FinMap.{FinMap, entries, values, get, insert, empty, find, put, entries_sorted, get-entries, get-insert, get-empty, entries-insert, len-empty, same_map}
use Rattle.std.specs.FinMap.Entries.{by_order}
use Rattle.std.specs.List.{AllByRecursion, IsDistinct, cons_option}
use Rattle.std.specs.Option.{option_or}
use Rattle.std.specs.Ordering.{eq_by_cmp, is_eq, nat_cmp}
use Rattle.std.proofs.lemmas.Cmp.{nat_cmp_total}
use Rattle.std.proofs.lemmas.List.Elements.{filter_map-append}
use Rattle.wh_policy.proofs.Options.{option_or-none}
use Rattle.wh_history.specs.Accepted.{Accepted, standing, format_of}
use Rattle.wh_history.specs.Tables.{Limits, fact_of}
use Rattle.wh_history.specs.declared.facts.Fact.{Fact}
use Rattle.wh_history.proofs.Basics.{some_is}
use Rattle.wh_rows.proofs.Orders.{line_cmp_total, line_cmp-IsAntisymmetric}
use Rattle.wh_rows.specs.Facts.{facts_in}
use Rattle.wh_rows.specs.Rows as row
use Rattle.wh_rows.specs.Tables.{Tables}
use Rattle.wh_rows.specs.declared.key.LineKey.{LineKey}
use Rattle.wh_plan.specs.BatchRows.{has_line}
use Rattle.wh_model.specs.Defined.{AreOf}
use Rattle.wh_model.specs.Sound.{same_line}
use Rattle.wh_plan.proofs.GrownFacts.{own_line, line_is, line_tied, Once, facts_put, found_mapped, facts_once}
use Rattle.wh_model.proofs.Formatted.{facts_in_are}
use Rattle.wh_model.proofs.Listed.{len-values}
use Rattle.wh_rows.specs.Steps.{with_rows}
use Rattle.wh_report.specs.Defined.{AreRowsOf}
use Rattle.wh_admission.proofs.StoredMaps.{each_found}

-- ---- the rows of a map are those that it has under keys

module _ {K V : Type 0} (R : K → K → Ordering) (total : IsTotalOrder R) where
  module _ (key : V → K) (row : K → Option V) (at : (k : K) (v : V) → row k ≡ Some v → key v ≡ k) where
    under_keys : (lookup : K → Option V) → ((k : K) → lookup k ≡ row k) → (ds : List (K × V)) → AllByRecursion (λ d. lookup d.0 ≡ Some d.1) ds → AllByRecursion (λ v. row (key v) ≡ Some v) (map (λ d. d.1) ds)
    under_keys lookup held [] all = tt
    under_keys lookup held (d ∷ ds) all =
        let is : row d.0 ≡ Some d.1 = sym (held d.0) ∙ all.0 in
        (ap row (at d.0 d.1 is) ∙ is, under_keys lookup held ds all.1)

    pub each_under_key : (m : FinMap R V) → ((k : K) → get m k ≡ row k) → AllByRecursion (λ v. row (key v) ≡ Some v) (values m)
    each_under_key m held = under_keys (λ k. find R k (entries m)) (λ k. sym (get-entries m k) ∙ held k) (entries m) (each_found R total (entries m) (entries_sorted m))

  among : (k : K) (v : V) (es : List (K × V)) → find R k es ≡ Some v → Contains (map (λ (e : K × V). e.1) es) v
  among k v [] is = absurd cc
  among k v (e ∷ es) is =
      elim (eq_by_cmp R k e.0) as (λ b. cond b (Some e.1) (find R k es) ≡ Some v → Contains (e.1 ∷ map (λ (e : K × V). e.1) es) v) [
        | true ↦ λ here. (0, omega arith, some_is e.1 v here)
        | false ↦ λ later. let rest = among k v es later in (suc rest.0, omega (arith, rest.1), rest.2)
      ] is

-- where keys are numbers
pub are_rows : {V : Type 0} (key : V → ℕ) (row : ℕ → Option V) (at : (k : ℕ) (v : V) → row k ≡ Some v → key v ≡ k) (m : FinMap nat_cmp V) → ((k : ℕ) → get m k ≡ row k) → AreRowsOf key row (values m)
are_rows key row at m held = record {
  sound = each_under_key nat_cmp nat_cmp_total key row at m held;
  whole = λ k v is. among nat_cmp nat_cmp_total k v (entries m) (sym (get-entries m k) ∙ held k ∙ is);
}

-- ---- one row more

pub record Between {X : Type 0} (old new : List X) (x : X) : Type 0 where
  pub before : List X
  pub after : List X
  pub was : old ≡ before ++ after
  pub is : new ≡ before ++ x ∷ after

behind : {X : Type 0} (front old new : List X) (x : X) → Between old new x → Between (front ++ old) (front ++ new) x
behind front old new x at = record {
  before = front ++ at.before;
  after = at.after;
  was = ap (λ xs. front ++ xs) at.was ∙ sym (append_assoc front at.before at.after);
  is = ap (λ xs. front ++ xs) at.is ∙ sym (append_assoc front at.before (x ∷ at.after));
}

module _ {K V : Type 0} (R : K → K → Ordering) where
  abbrev rows : List (K × V) → List V
  rows es = map (λ e. e.1) es

  next : (e : K × V) (es new : List (K × V)) (v : V) → Between (rows es) (rows new) v → Between (rows (e ∷ es)) (rows (e ∷ new)) v
  next e es new v at = record { before = e.1 ∷ at.before; after = at.after; was = ap (λ vs. e.1 ∷ vs) at.was; is = ap (λ vs. e.1 ∷ vs) at.is }

  put_between : (k : K) (v : V) (es : List (K × V)) → find R k es ≡ None → Between (rows es) (rows (put R k v es)) v
  put_between k v [] none = record { before = []; after = []; was = refl; is = refl }
  put_between k v (e ∷ es) none = by_cases (R k e.0) none (λ later. put_between k v es later)
    where
      by_cases : (o : Ordering) → cond (is_eq o) (Some e.1) (find R k es) ≡ None → (find R k es ≡ None → Between (rows es) (rows (put R k v es)) v)
          → Between (rows (e ∷ es)) (rows (by_order o ((k, v) ∷ e ∷ es) ((e.0, v) ∷ es) (e ∷ put R k v es))) v
      by_cases Less none later = record { before = []; after = rows (e ∷ es); was = refl; is = refl }
      by_cases Equal none later = absurd cc
      by_cases Greater none later = next e es (put R k v es) v (later none)

  pub insert_between : IsTotalOrder R → (m : FinMap R V) (k : K) (v : V) → get m k ≡ None → Between (values m) (values (insert m k v)) v
  insert_between total m k v none = subst (λ es. Between (rows (entries m)) (rows es) v) (sym (entries-insert total m k v)) (put_between k v (entries m) (sym (get-entries m k) ∙ none))

-- ---- what facts come to, where the place of each among them doesn't matter

module _ {X Y : Type 0} (comes_to : List X → Y) (moves : (before after : List X) (x : X) → comes_to (before ++ x ∷ after) ≡ comes_to (x ∷ before ++ after)) (counts : Fact → Option X) where
  abbrev sums : List Fact → List X
  sums facts = filter_map counts facts

  -- wherever the fact stands
  sums_moved : (old new : List Fact) (f : Fact) → Between old new f → comes_to (sums new) ≡ comes_to (sums (f ∷ old))
  sums_moved old new f at =
      let b : List X = sums at.before in
      let a : List X = sums at.after in
      let news : sums new ≡ b ++ cons_option (counts f) a = ap sums at.is ∙ filter_map-append counts at.before (f ∷ at.after) in
      let olds : sums old ≡ b ++ a = ap sums at.was ∙ filter_map-append counts at.before at.after in
      ap comes_to news ∙ in_front (counts f) b a ∙ ap (λ xs. comes_to (cons_option (counts f) xs)) (sym olds)
    where
      in_front : (o : Option X) (b a : List X) → comes_to (b ++ cons_option o a) ≡ comes_to (cons_option o (b ++ a))
      in_front None b a = refl
      in_front (Some x) b a = moves b a x

  -- no fact of the map has its key
  abbrev Misses : FinMap row.line_cmp Fact → Fact → Type 0
  Misses m f = get m (row.fact.key f) ≡ None

  apart_back : (f g : Fact) → has_line (row.fact.key f) g ≡ false → has_line (row.fact.key g) f ≡ false
  apart_back f g apart =
      elim (has_line (row.fact.key g) f) as (λ b. (has_line (row.fact.key g) f ≡ b) → b ≡ false) [
        | true ↦ λ same.
            let own : has_line (row.fact.key f) g ≡ true = ap (λ k. has_line k g) (line_is (row.fact.key g) f same) ∙ own_line g in
            cc
        | false ↦ λ _. refl
      ] refl

  still_missed : (f : Fact) (m : FinMap row.line_cmp Fact) (gs : List Fact) → AllByRecursion (λ g. has_line (row.fact.key f) g ≡ false) gs → AllByRecursion (Misses m) gs → AllByRecursion (Misses (insert m (row.fact.key f) f)) gs
  still_missed f m [] apart missed = tt
  still_missed f m (g ∷ gs) apart missed =
      let other : eq_by_cmp row.line_cmp (row.fact.key g) (row.fact.key f) ≡ false = line_tied (row.fact.key g) f ∙ apart_back f g apart.0 in
      let here : Misses (insert m (row.fact.key f) f) g = get-insert line_cmp_total m (row.fact.key f) f (row.fact.key g) ∙ ap (λ b. cond b (Some f) (get m (row.fact.key g))) other ∙ missed.0 in
      (here, still_missed f m gs apart.1 missed.1)

  none_in_empty : (facts : List Fact) → AllByRecursion (Misses empty) facts
  none_in_empty [] = tt
  none_in_empty (f ∷ fs) = (get-empty row.line_cmp (row.fact.key f), none_in_empty fs)

  sums_put : (facts : List Fact) (m : FinMap row.line_cmp Fact) → Once facts → AllByRecursion (Misses m) facts → comes_to (sums (values (with_rows row.fact facts m))) ≡ comes_to (sums (facts ++ values m))
  unfolding IsDistinct
  sums_put [] m once missed = refl
  sums_put (f ∷ fs) m once missed =
      let with_it = insert m (row.fact.key f) f in
      sums_put fs with_it once.1 (still_missed f m fs once.0 missed.1)
      ∙ sums_moved (fs ++ values m) (fs ++ values with_it) f (behind fs (values m) (values with_it) f (insert_between row.line_cmp line_cmp_total m (row.fact.key f) f missed.0))

  none_of_empty : (vs : List Fact) → length vs ≡ 0 → vs ≡ []
  none_of_empty [] none = refl
  none_of_empty (v ∷ vs) none = absurd (omega arith)

  -- the facts of a table are those of the sales that stand, in another order
  pub sums_of_sales : (limits : Limits) (commands : List Accepted) (t : Tables) → AreOf limits commands t → IsDistinct same_line (standing commands) → comes_to (sums (values (facts_in (format_of commands) t))) ≡ comes_to (sums (map (fact_of commands) (standing commands)))
  sums_of_sales limits commands t are once =
      let facts = map (fact_of commands) (standing commands) in
      let each = facts_once commands (standing commands) once in
      let no_facts : FinMap row.line_cmp Fact = empty in
      let made = with_rows row.fact facts no_facts in
      let shows : (key : LineKey) → get (facts_in (format_of commands) t) key ≡ get made key = λ key.
      facts_in_are limits commands t are (format_of commands) refl key ∙ sym (found_mapped commands key (standing commands)) ∙ sym (facts_put facts no_facts key each ∙ ap (option_or (find_first (has_line key) facts)) (get-empty row.line_cmp key) ∙ option_or-none (find_first (has_line key) facts)) in
      let none : values no_facts ≡ [] = none_of_empty (values no_facts) (sym (len-values row.line_cmp no_facts) ∙ len-empty row.line_cmp Fact) in
      ap (λ m. comes_to (sums (values m))) (same_map line_cmp_total line_cmp-IsAntisymmetric (facts_in (format_of commands) t) made shows)
      ∙ sums_put facts no_facts each (none_in_empty facts)
      ∙ ap (λ vs. comes_to (sums (facts ++ vs))) none ∙ ap (λ fs. comes_to (sums fs)) (append-nil facts)
