use Rattle.std.proofs.Common.{◌≡◌, ◌-◌, take}
use Rattle.wh_query.specs.Table.{characters}
use Rattle.wh_query.proofs.table.spaces_behind.Given as goal

-- what the bytes so far leave free
abbrev pub invariant-bytes : goal.invariant-bytes
invariant-bytes l = l.spaces ≡ 24 - characters (take l.byte-index l.byte-items)
