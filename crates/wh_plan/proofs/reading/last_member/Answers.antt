use Rattle.std.proofs.Common.{◌≡◌, length, arith, None, Some}
use Rattle.std.specs.Prelude.{vec_len}
use Rattle.wh_plan.proofs.FoundStored.{last_row, no_last_row, last_popped}
use Rattle.wh_plan.proofs.reading.last_member.Goals as goal

pub returns-in-Some-clause-last : goal.returns-in-Some-clause-last
returns-in-Some-clause-last g c clean limits commands t are at =
    let found = c.in_ok-found.found in
    let len : vec_len found ≡ length found.items = omega arith in
    let row = last_row c.args.dim commands c.in-Some.row (last_popped limits commands t are c.args.dim (Some c.in-Some.row) found.items c.pop.new.self.items (vec_len found) len (c.in_ok-found.ensures.rows clean t at) c.in-Some.ensures.items c.in-Some.ensures.variant) in
    λ i. record { durable = row.0 i; opening = row.1 i }

pub returns-clause-last : goal.returns-clause-last
returns-clause-last g c clean limits commands t are at =
    let found = c.in_ok-found.found in
    let len : vec_len found ≡ length found.items = omega arith in
    let none = no_last_row c.args.dim commands (last_popped limits commands t are c.args.dim None found.items c.pop.new.self.items (vec_len found) len (c.in_ok-found.ensures.rows clean t at) c.in-None.ensures.items c.in-None.ensures.variant) in
    λ i. record { durable = none.0 i; opening = none.1 i }
