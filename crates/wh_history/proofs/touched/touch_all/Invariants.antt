use Rattle.std.proofs.Common.{◌≡◌, ◌≤◌, ◌+◌, ◌*◌, map, drop}
use Rattle.std.specs.Prelude.{string_bytes}
use Rattle.wh_history.specs.Touched.{touched, untouched}
use Rattle.wh_history.proofs.touched.touch_all.Given as goal

-- what was touched so far, with the records that are left, is the whole
abbrev pub invariant-loop-incoming : goal.invariant-loop-incoming
invariant-loop-incoming g l =
    let now = l.touching in
    let stored = g.S.MemberSource.stored l.stored in
    record {
      naturals : map (λ n. string_bytes n) now.naturals.keys ≡ map (λ m. m.natural) now.list.items;
      members : now.members ≤ l.members + l.incoming-index;
      anchors : now.anchors ≤ l.anchors + 2 * l.incoming-index;
      touched : touched stored (record { members = now.members; anchors = now.anchors; owners = now.owners.items; list = now.list.items }) (drop l.incoming-index l.records) ≡ touched stored (untouched l.members l.anchors) l.records;
    }
