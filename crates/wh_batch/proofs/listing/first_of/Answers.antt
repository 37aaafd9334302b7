use Rattle.std.proofs.Common.{refl, arith}
use Rattle.std.proofs.lemmas.List.{take-map, length-map}
use Rattle.wh_batch.proofs.listing.first_of.Goals as goal

pub returns : goal.returns
returns c = record {
  listed = rw (c.truncate.ensures.items, take-map (λ l. l.fault) c.args.most c.args.all.items) refl;
  more = rw (length-map c.args.all.items (λ l. l.fault)) (omega (arith, c.args.all.ok));
}
