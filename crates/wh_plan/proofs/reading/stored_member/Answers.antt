use Rattle.std.proofs.Common.{◌≡◌, length, arith, sym, ◌∙◌, None, Some}
use Rattle.std.specs.Prelude.{vec_len}
use Rattle.wh_plan.proofs.FoundStored.{row_found, none_found, member_popped, member_absent}
use Rattle.wh_plan.proofs.reading.stored_member.Goals as goal
use Rattle.wh_sql.proofs.Sparing.{tables_again}
use Rattle.wh_sql.proofs.InTurn.{then_failed}

pub returns-in-Some-clause-member : goal.returns-in-Some-clause-member
returns-in-Some-clause-member g c clean limits commands t are at full =
    let found = c.in_ok-found.found in
    let len : vec_len found ≡ length found.items = omega arith in
    let before = c.stored_changes.ensures.reads.spares.clean clean in
    let popped = member_popped limits commands t are c.args.dim c.args.natural.now (Some c.in-Some.row) found.items c.pop.new.self.items (vec_len found) len (c.in_ok-found.ensures.rows before t at) c.in-Some.ensures.items c.in-Some.ensures.variant in
    let row = row_found c.args.dim commands c.args.natural.now c.in-Some.row popped in
    let changes = c.in_ok-stored_changes-in-Some.ensures.changes clean limits commands t are (tables_again c.in_ok-found.ensures.reads.spares before t at tt) full c.args.natural.now row.0 row.1 in
    λ i. record { durable = row.1 i; natural = row.2 i; opening = row.3 i; changes = changes i }

pub returns-clause-member : goal.returns-clause-member
returns-clause-member g c clean limits commands t are at full =
    let found = c.in_ok-found.found in
    let len : vec_len found ≡ length found.items = omega arith in
    let popped = member_popped limits commands t are c.args.dim c.args.natural.now None found.items c.pop.new.self.items (vec_len found) len (c.in_ok-found.ensures.rows clean t at) c.in-None.ensures.items c.in-None.ensures.variant in
    c.in_ok-absent-in-None.ensures ∙ sym (member_absent c.args.dim commands c.args.natural.now (none_found c.args.dim commands c.args.natural.now popped))

pub returns-in_err-stored_changes-in-Some-clause-reads : goal.returns-in_err-stored_changes-in-Some-clause-reads
returns-in_err-stored_changes-in-Some-clause-reads g c = then_failed c.in_ok-found.ensures.reads c.in_err-stored_changes-in-Some.ensures.reads c.from_residual-in_err-stored_changes-in-Some.ensures
