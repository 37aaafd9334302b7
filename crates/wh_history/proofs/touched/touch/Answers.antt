use Rattle.std.proofs.Common.{◌∙◌, sym, arith}
use Rattle.wh_history.specs.Touched.{TouchedMembers}
use Rattle.wh_history.proofs.Touching.{place_within, naturals_stay, touched_one}
use Rattle.wh_history.proofs.touched.touch.Goals as goal

pub index_mut-member-requires : goal.index_mut-member-requires
index_mut-member-requires g c =
    let now = c.args.touching.now in
    let t : TouchedMembers = record { members = now.members; anchors = now.anchors; owners = now.owners.items; list = now.list.items } in
    let e = c.in_ok-place.ensures in
    let within = place_within (g.S.MemberSource.stored c.args.stored.now) t c.args.incoming.now c.in_ok-place.place c.place_or_add.new.list.items e.list e.place in
    omega (arith, within, c.place_or_add.new.list.ok.0)

pub returns : goal.returns
returns g c =
    let now = c.args.touching.now in
    let t : TouchedMembers = record { members = now.members; anchors = now.anchors; owners = now.owners.items; list = now.list.items } in
    let e = c.in_ok-place.ensures in
    let a = c.in_ok-add_record.ensures in
    let stored = g.S.MemberSource.stored c.args.stored.now in
    let old = c.index_mut-member.result.now in
    let made = c.add_record.new.member in
    record {
      naturals = e.naturals ∙ sym (naturals_stay stored t c.args.incoming.now c.in_ok-place.place c.place_or_add.new.list.items e.list e.place old made c.index_mut-member.ensures.value e.natural a.member);
      touched = touched_one stored t c.args.incoming.now c.in_ok-place.place c.place_or_add.new.list.items e.list e.place old made c.index_mut-member.ensures.value e.natural a.member c.add_record.new.members c.add_record.new.anchors c.add_owners.new.owners.items a.members a.anchors c.in_ok-add_owners.ensures;
    }
