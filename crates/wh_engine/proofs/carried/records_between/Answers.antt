use Rattle.std.proofs.Common.{◌∙◌}
use Rattle.wh_admission.proofs.Admitted.{admitted_sound}
use Rattle.wh_records.proofs.ReadMembers.{range_is_read}
use Rattle.wh_engine.proofs.CarriedMembers.{none_empty}
use Rattle.wh_engine.proofs.carried.records_between.Goals as goal

pub returns-clause-records : goal.returns-clause-records
returns-clause-records g c clean limits commands t are at admitted types =
    let found = c.in_ok-members.ensures.members clean limits commands t are at (none_empty limits commands (admitted_sound limits commands admitted)) in
    c.in_ok-found.ensures
    ∙ range_is_read limits commands admitted c.args.source.now.dim c.args.source.now.kind c.deref.result.now c.deref-2.result.now c.args.after c.args.last (c.deref.ensures.value ∙ types) (c.deref-2.ensures.value ∙ found)
