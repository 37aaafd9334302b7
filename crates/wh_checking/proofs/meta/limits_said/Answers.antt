use Rattle.std.proofs.Common.{sym, subst}
use Rattle.wh_admission.specs.Checked.{stored_in}
use Rattle.wh_model.specs.Defined.{meta_at}
use Rattle.wh_rows.specs.Rows as row
use Rattle.wh_rows.specs.declared.table.Table.TheVariants.{Meta}
use Rattle.wh_sql.specs.Reads.{SparesStore}
use Rattle.wh_store.specs.Raw.{IsLimitless}
use Rattle.wh_checking.specs.Compared.{AreRowsOrNot}
use Rattle.wh_checking.proofs.MetaRows.{no_limits, none_read}
use Rattle.wh_checking.proofs.meta.limits_said.Goals as goal
use Rattle.wh_sql.proofs.Sparing.{stored_again}

pub returns-in-Ok-true-clause-said : goal.returns-in-Ok-true-clause-said
returns-in-Ok-true-clause-said g c clean stored at =
    let read = c.in-Ok-true.ensures in
    let before = read.reads.spares.clean clean in
    let there = stored_again c.in-Ok.ensures.reads before stored at tt in
    record { good = read.good; defined = subst (AreRowsOrNot row.meta (meta_at c.args.format c.in-Ok.limits) (stored.rows Meta)) c.in-Ok-true.field-0-test (read.said clean stored there) }

pub returns-in-Ok-false-clause-said : goal.returns-in-Ok-false-clause-said
returns-in-Ok-false-clause-said g c clean stored at =
    let read = c.in-Ok-false.ensures in
    let before = read.reads.spares.clean clean in
    let there = stored_again c.in-Ok.ensures.reads before stored at tt in
    no_limits (stored_in c.args.format stored) c.in-Ok.limits (c.in-Ok.ensures.stored before stored at) (subst (AreRowsOrNot row.meta (meta_at c.args.format c.in-Ok.limits) (stored.rows Meta)) c.in-Ok-false.field-0-test (read.said clean stored there))

pub returns-in-Ok-is_undamaged-clause-said : goal.returns-in-Ok-is_undamaged-clause-said
returns-in-Ok-is_undamaged-clause-said g c clean stored at =
    let read = c.in-Ok-is_undamaged.ensures in
    let before = read.reads.spares.clean clean in
    let calm : SparesStore c.in-Err-Damaged.field-0 = subst SparesStore (sym c.in-Err-Damaged.field-0-is) tt in
    let there = stored_again c.in-Err-Damaged.ensures.reads before stored at calm in
    none_read (stored_in c.args.format stored) c.in-Err-Damaged.field-0-0 (subst (IsLimitless stored) c.in-Err-Damaged.field-0-is (c.in-Err-Damaged.ensures.limitless before stored at)) (read.undamaged clean stored there)
