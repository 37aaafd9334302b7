-- Which question the database refused.
use Rattle.std.proofs.Common.{◌≡◌, ℕ, ◌≤◌, List, [], ◌∷◌, subst}
use Rattle.sqlite_value.specs.declared.value.Value.TheVariants.{Text}
use Rattle.sqlite.specs.Held.{Held, state}
use Rattle.sqlite_trees.specs.declared.store.Store.{Ghosts}
use Rattle.sqlite_rules.specs.Lists.{Has}
use Rattle.wh_rows.specs.declared.cause.Cause.{Cause}
use Rattle.wh_rows.specs.declared.table.Table.TheVariants.{Meta}
use Rattle.wh_rows.specs.Rows.{meta}
use Rattle.wh_rows.specs.Texts as texts
use Rattle.wh_sql.specs.Reads.{FailsToShow}
use Rattle.wh_sql.specs.Refused.{IsCauseOfQuery, IsOneRefused}
use Rattle.wh_sql.specs.declared.fault.ReadFault.{ReadFault}
use Rattle.wh_sql.specs.declared.fault.ReadFault.TheVariants.{Store}
use Rattle.wh_store.specs.Meta.{limits_asked}

module _ {S : Type 0} (store : Ghosts S) (old before new : Held S) (since : (state store old).faults ≤ (state store before).faults) where
  -- a limit wasn't read
  pub limit_unread : (name : List ℕ) (refusal : ReadFault) (cause : Cause) → Has limits_asked (texts.meta.get, Text name ∷ []) → FailsToShow meta Meta texts.meta.get (Text name ∷ []) (state store before) (state store new) refusal
      → refusal ≡ Store cause → IsOneRefused store IsCauseOfQuery limits_asked old new cause
  limit_unread name refusal cause among fails is =
      let refused : FailsToShow meta Meta texts.meta.get (Text name ∷ []) (state store before) (state store new) (Store cause) = subst (FailsToShow meta Meta texts.meta.get (Text name ∷ []) (state store before) (state store new)) is fails in
      record { statement = (texts.meta.get, Text name ∷ []); among = among; before = before; since = since; refused = refused }
