use Rattle.std.specs.FinMap.{get}
use Rattle.wh_model.specs.Defined.{meta_at}
use Rattle.wh_rows.specs.Rows as row
use Rattle.wh_rows.specs.declared.table.Table.TheVariants.{Meta}
use Rattle.std.proofs.Common.{refl}
use Rattle.wh_store.proofs.Faithful.{memory_is_faithful}
use Rattle.wh_checking.proofs.ListedMaps.{or_not_so}
use Rattle.wh_checking.proofs.MadeMeta.{meta_made}
use Rattle.wh_checking.specs.Meta.{made_in}
use Rattle.wh_checking.proofs.meta.holds_limits.Goals as goal

pub returns-clause-said : goal.returns-clause-said
returns-clause-said g c clean stored at =
    let format = c.args.format in
    let limits = c.args.limits in
    or_not_so row.meta (get (made_in format limits).meta) (meta_at format limits) (stored.rows Meta) c.in_ok-same.same (meta_made format limits) (c.in_ok-same.ensures.same clean stored at refl (made_in format limits) refl (memory_is_faithful, c.in_ok-made.ensures))
