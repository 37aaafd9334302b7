use Rattle.std.proofs.Common.{◌≡◌, ◌++◌, ◌+◌, ◌-◌, ◌≤◌, drop, take}
use Rattle.std.specs.Prelude.{flat_map}
use Rattle.wh_records.specs.Parts.{fitting}
use Rattle.wh_records.specs.Texts.{record_line}
use Rattle.wh_records.proofs.part.push_fitting.Given as goal

-- the first records were added, and of those that are left as many follow as fit into what is left
abbrev pub invariant-loop-place : goal.invariant-loop-place
invariant-loop-place l = record {
  few : l.place ≤ l.most;
  count : l.place + fitting (l.most - l.place) l.left (drop l.place l.records) ≡ fitting l.most l.fn.room l.records;
  text : l.text.items ≡ l.fn.text.items ++ flat_map record_line (take l.place l.records);
}
