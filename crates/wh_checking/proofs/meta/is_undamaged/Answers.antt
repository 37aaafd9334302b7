use Rattle.wh_policy.specs.declared.format.Format.TheVariants.{One}
use Rattle.wh_model.specs.Defined.{meta_at}
use Rattle.wh_rows.specs.declared.table.Table.TheVariants.{Meta}
use Rattle.wh_checking.proofs.MetaRows.{undamaged_by}
use Rattle.wh_checking.proofs.meta.is_undamaged.Goals as goal

pub returns-clause-undamaged : goal.returns-clause-undamaged
returns-clause-undamaged g c clean stored at = undamaged_by (stored.rows Meta) (meta_at One c.greatest.result) c.in_ok-holds_limits.field-0 (c.in_ok-holds_limits.ensures.said clean stored at)
