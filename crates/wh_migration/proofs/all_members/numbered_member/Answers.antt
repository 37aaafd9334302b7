use Rattle.std.proofs.Common.{◌≡◌, sym, ◌∙◌, Some}
use Rattle.wh_model.specs.Defined.{member_at}
use Rattle.wh_migration.proofs.AllMembers.{member_there, number_given, number_is}
use Rattle.wh_migration.proofs.all_members.numbered_member.Goals as goal
use Rattle.wh_model.proofs.GrownMembers.{key_of}
use Rattle.wh_sql.proofs.Sparing.{tables_again}
use Rattle.wh_sql.proofs.InTurn.{then_failed}

pub returns-in_ok-stored_changes-in-Some-clause-member : goal.returns-in_ok-stored_changes-in-Some-clause-member
returns-in_ok-stored_changes-in-Some-clause-member g c clean limits commands t are at full =
    let before = c.stored_changes.ensures.reads.spares.clean clean in
    let row = c.in-Some.row in
    let is : member_at commands (key_of c.args.dim c.args.durable) ≡ Some row = sym (are.member (key_of c.args.dim c.args.durable)) ∙ sym (c.in_ok-found.ensures.rows before t at) ∙ c.in-Some.is in
    let still = tables_again c.in_ok-found.ensures.reads.spares before t at tt in
    let given = number_given c.args.dim commands c.args.durable row is in
    let number = number_is c.args.dim commands c.args.durable row is in
    member_there c.args.dim commands c.args.durable row is c.in_ok-stored_changes-in-Some.field-0 (c.in_ok-stored_changes-in-Some.ensures.changes clean limits commands t are still full row.natural given number)

pub returns-in_err-stored_changes-in-Some-clause-reads : goal.returns-in_err-stored_changes-in-Some-clause-reads
returns-in_err-stored_changes-in-Some-clause-reads g c = then_failed c.in_ok-found.ensures.reads c.in_err-stored_changes-in-Some.ensures.reads c.from_residual-in_err-stored_changes-in-Some.ensures
