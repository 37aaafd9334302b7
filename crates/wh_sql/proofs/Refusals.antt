-- Which statement the database refused.
use Rattle.std.specs.Prelude.{Result, Ok, Err, IfErr}
use Rattle.std.proofs.Common.{ℕ, zero, suc, ◌<◌, ◌≤◌, List, [], ◌∷◌, ◌≡◌, map, length, get_or, inl, inr, arith}
use Rattle.sqlite.specs.Order.{Row}
use Rattle.sqlite.specs.State.{State}
use Rattle.sqlite.specs.Held.{Held, state}
use Rattle.sqlite_trees.specs.declared.store.Store.{Ghosts}
use Rattle.sqlite_rules.specs.Lists.{Has}
use Rattle.sqlite_rules.proofs.ProbeLemmas.{mapped_has}
use Rattle.sqlite_rules.proofs.ListLemmas.{has_left, has_right}
use Rattle.wh_history.specs.Tables.{Limits}
use Rattle.wh_rows.specs.declared.cause.Cause.{Cause}
use Rattle.wh_rows.specs.declared.rows.MetaRow.{MetaRow}
use Rattle.wh_rows.specs.Rows.{encode_meta}
use Rattle.wh_rows.specs.Making.{making_texts}
use Rattle.wh_rows.specs.AtRest.{IsCauseOf}
use Rattle.wh_rows.specs.Texts as texts
use Rattle.wh_sql.specs.Refused.{IsOneRefused, bare}
use Rattle.wh_sql.specs.Making.{rows_made, making}

-- the item of a loop is one of the list
pub is_among : {X : Type 0} (xs : List X) (i : ℕ) (x : X) → i < length xs → x ≡ get_or xs i x → Has xs x
is_among [] i x within is = absurd (omega arith)
is_among (y ∷ xs) zero x within is = inl is
is_among (y ∷ xs) (suc i) x within is = inr (is_among xs i x (omega arith) is)

module _ {S : Type 0} (store : Ghosts S) (old before new : Held S) (since : (state store old).faults ≤ (state store before).faults) where
  -- the statement of an item of a list was refused
  pub one_refused : {X : Type 0} (refuses : List ℕ → Row → State → State → Cause → Type 0) (statement_of : X → List ℕ × Row) (xs : List X) (x : X) (cause : Cause) → Has xs x
      → refuses (statement_of x).0 (statement_of x).1 (state store before) (state store new) cause → IsOneRefused store refuses (map statement_of xs) old new cause
  one_refused refuses statement_of xs x cause among refused = record { statement = statement_of x; among = mapped_has statement_of xs x among; before = before; since = since; refused = refused }

  -- a row of meta wasn't put
  pub row_refused : (limits : Limits) (row : MetaRow) (cause : Cause) → Has (rows_made limits) row → IsCauseOf texts.meta.put (encode_meta row) (state store before) (state store new) cause → IsOneRefused store IsCauseOf (making limits) old new cause
  unfolding making
  row_refused limits row cause among refused = record {
    statement = (texts.meta.put, encode_meta row);
    among = has_right (bare making_texts) (map (λ (r : MetaRow). (texts.meta.put, encode_meta r)) (rows_made limits)) (texts.meta.put, encode_meta row) (mapped_has (λ (r : MetaRow). (texts.meta.put, encode_meta r)) (rows_made limits) row among);
    before = before;
    since = since;
    refused = refused;
  }

-- a table or an index wasn't made
pub text_refused : {S : Type 0} (store : Ghosts S) (old new : Held S) (limits : Limits) (cause : Cause) → IsOneRefused store IsCauseOf (bare making_texts) old new cause → IsOneRefused store IsCauseOf (making limits) old new cause
unfolding making
text_refused store old new limits cause one = record {
  statement = one.statement;
  among = has_left (bare making_texts) (map (λ (r : MetaRow). (texts.meta.put, encode_meta r)) (rows_made limits)) one.statement one.among;
  before = one.before;
  since = one.since;
  refused = one.refused;
}

-- what is so of an error is so of it on a condition
pub err_when : {A E : Type 0} (r : Result A E) (when : Type 0) (F : E → Type 0) → IfErr r F → IfErr r (λ e. when → F e)
err_when (Ok a) when F so = tt
err_when (Err e) when F so = λ here. so
