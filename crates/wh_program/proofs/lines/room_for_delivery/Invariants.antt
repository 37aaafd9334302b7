use Rattle.std.proofs.Common.{◌≡◌, max, drop}
use Rattle.wh_program.specs.Room.{longest_reply}
use Rattle.wh_program.proofs.lines.room_for_delivery.Given as goal

-- the longest so far, or of those that are left, is that of all
abbrev pub invariant-loop-command : goal.invariant-loop-command
invariant-loop-command l = max l.longest (longest_reply (drop l.command-index l.commands)) ≡ longest_reply l.commands
