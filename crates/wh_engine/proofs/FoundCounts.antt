-- How much the tables of accepted commands hold.
use Rattle.std.proofs.Common.{◌≡◌, ℕ, List, length, Some, Result, Ok, Err, refl, sym, ap, ◌∙◌}
use Rattle.std.specs.FinMap.{len}
use Rattle.sqlite.specs.State.{State}
use Rattle.wh_policy.specs.Formats.{format_number}
use Rattle.wh_policy.specs.declared.attribute.Dim.TheVariants.{Product, Store, Customer}
use Rattle.wh_policy.specs.declared.format.Format.{Format}
use Rattle.wh_history.specs.Accepted.{Accepted, format_of, members}
use Rattle.wh_history.specs.Tables.{Limits}
use Rattle.wh_rows.specs.AtRest.{IsAtRest, Leaves}
use Rattle.wh_rows.specs.Facts.{facts_in}
use Rattle.wh_rows.specs.Tables.{Tables}
use Rattle.wh_engine.specs.Answered.{IsReady, IsCounted, counts_of}
use Rattle.wh_model.specs.Defined.{AreOf}
use Rattle.wh_engine.specs.Faults.{IsServed, Judges, stops}
use Rattle.wh_engine.specs.Outcome.{Outcome}
use Rattle.wh_model.specs.Sound.{IsAccepted}
use Rattle.wh_engine.specs.declared.counts.Counts.{Counts}
use Rattle.wh_engine.specs.declared.fault.Fault.{Fault}
use Rattle.wh_engine.specs.declared.session.Session.{Session}
use Rattle.wh_plan.proofs.FoundCommands.{commands_counted}
use Rattle.wh_engine.proofs.Outcomes.{anywhere, fault_due, read_and_noted}
use Rattle.wh_model.proofs.CountedLines.{facts_counted}
use Rattle.wh_model.proofs.ListedChanges.{changes_counted}

pub counts_are : (limits : Limits) (commands : List Accepted) (t : Tables) → AreOf limits commands t → IsAccepted limits commands → (format : Format) → format ≡ format_of commands → (held changes facts products stores customers : ℕ)
    → held ≡ len t.command → changes ≡ len t.change → facts ≡ len (facts_in format t) → products ≡ length (members Product commands) → stores ≡ length (members Store commands) → customers ≡ length (members Customer commands)
    → record { format = format_number format; commands = held; changes = changes; facts = facts; products = products; stores = stores; customers = customers } ≡ counts_of commands
counts_are limits commands t are accepted format same held changes facts products stores customers held-is changes-are facts-are products-are stores-are customers-are =
    rw (same, held-is ∙ commands_counted limits commands t are, changes-are ∙ changes_counted limits commands t are, facts-are ∙ facts_counted limits commands t are accepted format same, products-are, stores-are, customers-are) refl

-- ---- a count that was answered, or refused

module _ (limits : Limits) (commands : List Accepted) (session : Session) (old new : State) (ready : IsReady limits commands session old) where
  is_due : (result : Result Counts Fault) → Judges (λ counts told. counts ≡ told) result (Ok (counts_of commands)) → Outcome (λ told. told ≡ Ok (counts_of commands)) commands commands result anywhere
  is_due (Ok counts) judged = (ap Ok judged, tt)
  is_due (Err fault) judged = fault_due (λ told. told ≡ Ok (counts_of commands)) commands commands (λ (counts told : Counts). counts ≡ told) (Ok (counts_of commands)) fault judged (λ why is. sym is)

  pub counted : (result : Result Counts Fault) → Judges (λ counts told. counts ≡ told) result (Ok (counts_of commands)) → (IsServed result → IsAtRest (Some ready.rests.tables) new) → Leaves (Some ready.rests.tables) new
      → IsCounted limits commands result (record session { must_reopen = stops result }) new
  counted result judged rests left = read_and_noted limits commands session old new ready (λ told. told ≡ Ok (counts_of commands)) left result (is_due result judged) rests
