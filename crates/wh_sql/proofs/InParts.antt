-- Edits that are made in parts.
use Rattle.std.proofs.Common.{◌≡◌, ◌≢◌, ℕ, zero, suc, ◌<◌, ◌≤◌, List, [], ◌∷◌, ◌++◌, map, take, length, Ok, Err, Result, IfErr, inl, inr, refl, sym, ap, subst, arith}
use Rattle.std.specs.Prelude.{flat_map, min}
use Rattle.std.specs.List.{AllByRecursion}
use Rattle.std.specs.FinMap.{FinMap}
use Rattle.sqlite.specs.Order.{Row}
use Rattle.sqlite.specs.Held.{Held, state}
use Rattle.sqlite_trees.specs.declared.store.Store.{Ghosts}
use Rattle.sqlite_rules.specs.Lists.{Has}
use Rattle.sqlite_rules.proofs.ListLemmas.{has_left, has_right}
use Rattle.wh_history.specs.declared.plan.Edit.{Edit}
use Rattle.wh_history.specs.declared.plan.Edit.TheVariants.{Put}
use Rattle.wh_rows.specs.declared.cause.Cause.{Cause}
use Rattle.wh_rows.specs.declared.cause.Cause.TheVariants.{Memory}
use Rattle.wh_rows.specs.AtRest.{IsCauseOf}
use Rattle.wh_rows.specs.Holds.{Layout}
use Rattle.wh_rows.specs.Inserting.{rows_at_once, bind_rows}
use Rattle.wh_rows.specs.Steps.{with_row, with_rows, after_all}
use Rattle.wh_rows.specs.Texts.{Texts}
use Rattle.wh_sql.specs.Refused.{IsOneRefused}
use Rattle.wh_sql.specs.Edits.{with_edit, IsValid, Puts, statement_of, rows_put, runs_of, part_statements, statements_in_parts}

-- ---- edits that each put a row

module _ {K V : Type 0} (layout : Layout K V) where
  -- they lead to the rows put
  pub puts_lead : (rows : List V) (m : FinMap layout.order V) → after_all (with_edit layout) (map Put rows) m ≡ with_rows layout rows m
  puts_lead [] m = refl
  puts_lead (row ∷ rows) m = puts_lead rows (with_row layout row m)

  pub valid_put : (rows : List V) → AllByRecursion (Puts {K = K} (IsValid layout)) (map Put rows) → AllByRecursion (IsValid layout) rows
  valid_put [] may = tt
  valid_put (row ∷ rows) may = (may.0, valid_put rows may.1)

pub rows_of_puts : (K : Type 0) {V : Type 0} (rows : List V) → rows_put {K = K} (map Put rows) ≡ rows
rows_of_puts K [] = refl
rows_of_puts K (row ∷ rows) = ap (λ rs. row ∷ rs) (rows_of_puts K rows)

-- ---- parts

take_part : {E : Type 0} (most : ℕ) (part rest : List E) → length part ≡ min most (length (part ++ rest)) → take most (part ++ rest) ≡ part
take_part zero [] rest long = refl
take_part zero (e ∷ part) rest long = absurd (omega (arith, long))
take_part (suc most) [] [] long = refl
take_part (suc most) [] (e ∷ rest) long = absurd (omega (arith, long))
take_part (suc most) (e ∷ part) rest long = ap (λ es. e ∷ es) (take_part most part rest (omega (arith, long)))

-- a part is one of the runs
pub run_among : {E : Type 0} (done part rest : List E) → length part ≡ min rows_at_once (length (part ++ rest)) → 0 < length (part ++ rest) → Has (runs_of (done ++ (part ++ rest))) part
run_among [] [] [] long some = absurd (omega (arith, some))
run_among [] [] (e ∷ rest) long some = absurd (omega (arith, long))
run_among [] (e ∷ part) rest long some = inl (sym (take_part rows_at_once (e ∷ part) rest long))
run_among (e ∷ done) part rest long some = inr (run_among done part rest long some)

-- ---- refusals

has_mapped_flat : {X Y : Type 0} (f : X → List Y) (xs : List X) (x : X) (y : Y) → Has xs x → Has (f x) y → Has (flat_map f xs) y
has_mapped_flat f [] x y among here = absurd among
has_mapped_flat f (z ∷ xs) x y (inl is) here = has_left (f z) (flat_map f xs) y (subst (λ w. Has (f w) y) is here)
has_mapped_flat f (z ∷ xs) x y (inr among) here = has_right (f z) (flat_map f xs) y (has_mapped_flat f xs x y among here)

-- what follows from each refusal follows of a result
pub refused_so : {A : Type 0} (P Q : Cause → Type 0) (result : Result A Cause) → ((cause : Cause) → P cause → Q cause) → IfErr result (λ cause. cause ≢ Memory → P cause) → IfErr result (λ cause. cause ≢ Memory → Q cause)
refused_so P Q (Ok a) so told = tt
refused_so P Q (Err cause) so told = λ other. so cause (told other)

module _ {S K V : Type 0} (store : Ghosts S) (layout : Layout K V) (texts : Texts) (bind : K → Row) (insert : List ℕ) (old new : Held S) (part : List (Edit V K)) (cause : Cause) where
  -- the statement that puts in all rows of a part was refused
  pub insert_refused : IsCauseOf insert (bind_rows layout (rows_put part)) (state store old) (state store new) cause → IsOneRefused store IsCauseOf (part_statements layout texts bind insert part) old new cause
  insert_refused refused = record { statement = (insert, bind_rows layout (rows_put part)); among = inl refl; before = old; since = omega arith; refused = refused }

  module _ (mid : Held S) (since : (state store old).faults ≤ (state store mid).faults) where
    -- or that of one edit, later
    pub edit_refused : IsOneRefused store IsCauseOf (map (statement_of layout texts bind) part) mid new cause → IsOneRefused store IsCauseOf (part_statements layout texts bind insert part) old new cause
    edit_refused one = record { statement = one.statement; among = inr one.among; before = one.before; since = omega (arith, since, one.since); refused = one.refused }

    -- so one of the statements that may make all edits was
    pub part_refused : (edits : List (Edit V K)) → Has (runs_of edits) part → IsOneRefused store IsCauseOf (part_statements layout texts bind insert part) mid new cause → IsOneRefused store IsCauseOf (statements_in_parts layout texts bind insert edits) old new cause
    part_refused edits run one = record {
      statement = one.statement;
      among = has_mapped_flat (part_statements layout texts bind insert) (runs_of edits) part one.statement run one.among;
      before = one.before;
      since = omega (arith, since, one.since);
      refused = one.refused;
    }
