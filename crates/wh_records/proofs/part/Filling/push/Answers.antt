use Rattle.std.proofs.Common.{◌≡◌, ◌-◌, ◌++◌, ◌∙◌, length, take, nat_lt, refl, ap, arith}
use Rattle.std.specs.Prelude.{flat_map}
use Rattle.wh_records.specs.Filled.{room_for}
use Rattle.wh_records.specs.Texts.{record_line}
use Rattle.wh_records.proofs.FilledParts.{same_room}
use Rattle.wh_records.proofs.PartLemmas.{fits_most}
use Rattle.wh_records.proofs.part.Filling.push.Goals as goal

pub returns : goal.returns
returns c =
    let bytes : c.len.result ≡ length c.args.self.now.part.text.items = let len = c.len.ensures in omega arith in
    let room : c.saturating_sub-room.result ≡ 1000000 - length c.args.self.now.part.text.items = c.saturating_sub-room.ensures ∙ ap (λ n. 1000000 - n) bytes in
    let most : c.saturating_sub-most.result ≡ 5000 - c.args.self.now.part.records = c.saturating_sub-most.ensures in
    let count : c.in_ok-count.count ≡ room_for c.args.self.now c.args.records.now =
    c.in_ok-count.ensures.count ∙ same_room c.saturating_sub-most.result (5000 - c.args.self.now.part.records) c.saturating_sub-room.result (1000000 - length c.args.self.now.part.text.items) c.args.records.now most room in
    let few = fits_most (5000 - c.args.self.now.part.records) (1000000 - length c.args.self.now.part.text.items) c.args.records.now in
    let added = c.saturating_add-self.ensures in
    record {
      text = c.in_ok-count.ensures.text ∙ ap (λ n. c.args.self.now.part.text.items ++ flat_map record_line (take n c.args.records.now)) count;
      counted = omega (arith, added, count, few);
      before = refl;
      full = ap (λ n. nat_lt n (length c.args.records.now)) count;
    }
