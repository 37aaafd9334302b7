use Rattle.std.proofs.Common.{◌≡◌, false, take, length, List}
use Rattle.std.specs.Prelude.{vec_len, vec_capacity}
use Rattle.sqlite.specs.Held.{state}
use Rattle.sqlite.specs.State.{HasCleanDisk}
use Rattle.wh_history.specs.Accepted.{Accepted}
use Rattle.wh_history.specs.Tables.{Limits}
use Rattle.wh_admission.specs.Admission.{accepted_after_all}
use Rattle.wh_rows.specs.Raw.{Stored, RestsOn}
use Rattle.wh_sql.specs.Answers.{is_second_taken}
use Rattle.wh_engine.specs.Answered.{IsAgain, IsReady, IsGoverned, IsFormatted}
use Rattle.wh_engine.specs.Faults.{TellsTaken}
use Rattle.wh_engine.specs.Delivered.{answers_to, AcceptNothing, AreLed, EachUntilAccepted, IsLastWritten}
use Rattle.wh_engine.specs.Scanned.{Keeps}
use Rattle.wh_engine.proofs.engine.Engine.deliver.Given as goal

abbrev pub invariant-loop-command : goal.invariant-loop-command
invariant-loop-command g l =
    let old = state g.S.Store l.fn.self.tables.conn in
    let now = state g.S.Store l.self.tables.conn in
    record {
      goes_on : l.self.session.must_reopen ≡ false;
      count : vec_len l.answers ≡ l.command-index;
      room : vec_capacity l.answers ≡ length l.commands;
      keeps : Keeps g.S.Store l.fn.self.tables l.self.tables (AcceptNothing l.answers.items);
      again : HasCleanDisk now → (stored : Stored) → RestsOn stored old → EachUntilAccepted (IsAgain stored) l.answers.items (take l.command-index l.commands);
      taken : HasCleanDisk now → EachUntilAccepted (λ _ told. TellsTaken (is_second_taken old.now.schema) told) l.answers.items (take l.command-index l.commands);
      limits : l.self.session.limits ≡ l.fn.self.session.limits;
      policy : AcceptNothing l.answers.items → l.self.session.policy ≡ l.fn.self.session.policy;
      governed : AreLed IsGoverned l.fn.self.session.policy l.self.session.policy l.answers.items (take l.command-index l.commands);
      formatted : AreLed IsFormatted l.fn.self.session.format l.self.session.format l.answers.items (take l.command-index l.commands);
      so_far : HasCleanDisk now → (limits : Limits) (accepted : List Accepted) → IsReady limits accepted l.fn.self.session old
          → (l.answers.items ≡ answers_to limits accepted (take l.command-index l.commands)) × IsReady limits (accepted_after_all limits accepted (take l.command-index l.commands)) l.self.session now;
      silent : AcceptNothing l.answers.items → l.self.writes ≡ 0;
      written : HasCleanDisk now → (limits : Limits) (accepted : List Accepted) → IsReady limits accepted l.fn.self.session old → IsLastWritten limits accepted (take l.command-index l.commands) l.self.writes;
    }
