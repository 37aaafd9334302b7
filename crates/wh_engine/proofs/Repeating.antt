-- A command that came again was kept before, whatever is stored.
use Rattle.std.proofs.Common.{◌≡◌, ◌&&◌, Bool, true, false, cond, Some, Result, Ok, Err, [], refl, ap, ◌∙◌}
use Rattle.std.specs.Prelude.{IfOk, filter, bytes_eq}
use Rattle.wh_batch.specs.BatchKind.{command_kind_word}
use Rattle.wh_rows.specs.Questions.{has_id}
use Rattle.wh_rows.specs.Raw.{Stored, IsLastOf}
use Rattle.wh_rows.specs.Rows as layout
use Rattle.wh_rows.specs.declared.rows.CommandRow.{CommandRow}
use Rattle.wh_rows.specs.declared.table.Table.TheVariants as table
use Rattle.wh_admission.specs.Admission.{already, kept_bytes}
use Rattle.wh_admission.specs.declared.command.Command.{Command}
use Rattle.wh_admission.specs.declared.command.Receipt.{Receipt}
use Rattle.wh_admission.specs.declared.command.Refusal.{Refusal}
use Rattle.wh_admission.specs.declared.command.Refusal.TheVariants.{Reused}
use Rattle.wh_admission.specs.declared.command.Reply.{Reply}
use Rattle.wh_admission.specs.declared.command.Reply.TheVariants.{Accepted as Accepts, Already}
use Rattle.wh_admission.proofs.KeptRows.{last_is_kept}
use Rattle.wh_admission.specs.Repeated.{receipt_of_known}
use Rattle.wh_engine.specs.Decided.{reply_to_known, Decides, RepeatsKept}
use Rattle.wh_engine.specs.Faults.{Judges}
use Rattle.wh_engine.specs.declared.decision.Decision.{Decision}
use Rattle.wh_engine.specs.declared.decision.Decision.TheVariants.{Repeat, Accept}
use Rattle.wh_engine.specs.declared.fault.Fault.{Fault}

-- it is refused only where its id is that of another one
pub only_reused : (row : CommandRow) (c : Command) (why : Refusal) → receipt_of_known row c ≡ Err why → why ≡ Reused
only_reused row c why is = go (bytes_eq row.kind (command_kind_word c.kind) && bytes_eq row.bytes (kept_bytes c.kind c.bytes)) is
  where
    go : (alike : Bool) → ◌≡◌ {A = Result Receipt Refusal} (cond alike (Ok (record { number = row.number; records = row.records; placeholders = row.placeholders })) (Err Reused)) (Err why) → why ≡ Reused
    go true is = absurd cc
    go false is = cc

pub repeats_kept : (stored : Stored) (c : Command) (row : CommandRow) (result : Result Decision Fault) → IsLastOf layout.command (filter (has_id c.id) (stored.rows table.Command)) (Some row)
    → Judges (Decides [] c) result (reply_to_known row c) → IfOk result (RepeatsKept stored c)
repeats_kept stored c row (Err fault) last judged = tt
repeats_kept stored c row (Ok decision) last judged = go (receipt_of_known row c) decision refl judged
  where
    go : (known : Result Receipt Refusal) (d : Decision) → receipt_of_known row c ≡ known → Judges {X = Decision} {Y = Reply} (Decides [] c) (Ok d) (already known) → RepeatsKept stored c d
    go (Ok kept) (Repeat receipt) is fits = last_is_kept stored c row receipt last (is ∙ ap Ok (of_already kept receipt fits))
      where
        of_already : (kept receipt : Receipt) → Already kept ≡ Already receipt → kept ≡ receipt
        of_already kept receipt same = cc
    go (Ok kept) (Accept receipt edits newer) is fits = absurd (never kept receipt fits.0)
      where
        never : (kept receipt : Receipt) → Already kept ≡ Accepts receipt → ⊥
        never kept receipt same = absurd cc
    go (Err why) d is fits = absurd fits
