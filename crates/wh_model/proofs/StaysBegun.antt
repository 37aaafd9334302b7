-- A making begins a list of commands that can have been accepted.
use Rattle.std.proofs.Common.{◌≡◌, ◌≤◌, ◌&&◌, leb, true, [], refl, arith}
use Rattle.std.specs.List.{IsDistinct}
use Rattle.std.proofs.lemmas.Bool.{and_parts, leb-true}
use Rattle.std.proofs.lemmas.List.{length-map}
use Rattle.wh_policy.specs.Policy.{policy_attributes}
use Rattle.wh_policy.specs.declared.attribute.Attribute.{Attribute}
use Rattle.wh_policy.proofs.FileLaws.{policies_are_sound}
use Rattle.wh_history.specs.Tables.{Limits}
use Rattle.wh_rows.specs.Limits.{is_limit, are_limits}
use Rattle.wh_model.specs.Laws.{AcceptedListsBegin}

-- every limit leaves room for a command
room_for_one : (limits : Limits) → are_limits limits ≡ true → 1 ≤ limits.commands
room_for_one limits h =
    let first = (and_parts (is_limit 100000 limits.commands && is_limit 1000000 limits.changes) (is_limit 1000000 limits.facts) h).0 in
    let commands = (and_parts (is_limit 100000 limits.commands) (is_limit 1000000 limits.changes) first).0 in
    leb-true 1 limits.commands (and_parts (leb 1 limits.commands) (leb limits.commands 100000) commands).0

pub accepted_lists_begin : AcceptedListsBegin
unfolding IsDistinct
accepted_lists_begin limits policy bytes limited written =
    let sound = policies_are_sound bytes policy written in
    record {
      limited = limited;
      commands_within = room_for_one limits limited;
      changes_within = omega arith;
      facts_within = omega arith;
      few_a_batch = omega arith;
      few_sales_a_batch = omega arith;
      begun = record { policy = policy; bytes = bytes; rest = []; making = refl; written = written };
      policies = ((refl, written), tt);
      governed = refl;
      six = λ dim. omega (arith, length-map (policy_attributes policy dim) (λ (a : Attribute). a.kind), (sound.attributes dim).few);
      ids = (refl, tt);
      kinds = (refl, tt);
      distinct = (tt, tt);
      records = λ dim. tt;
      sales = tt;
      lines = tt;
      undiscounted = λ _. tt;
      withdrawn_sold = tt;
      withdrawn_once = tt;
      unwithdrawn = λ _. refl;
    }
