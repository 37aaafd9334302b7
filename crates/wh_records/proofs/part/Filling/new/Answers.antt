use Rattle.std.proofs.Common.{refl}
use Rattle.wh_records.proofs.FilledParts.{none_filled}
use Rattle.wh_records.proofs.part.Filling.new.Goals as goal

pub returns : goal.returns
returns c = none_filled c.args.attributes.now c.args.place _ c.in_ok-text.ensures refl refl refl
