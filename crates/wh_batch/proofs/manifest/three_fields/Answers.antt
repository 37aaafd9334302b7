use Rattle.wh_batch.proofs.ManifestLemmas.{entry-three}
use Rattle.wh_batch.proofs.manifest.three_fields.Goals as goal

pub returns : goal.returns
returns c =
    let texts = c.in-Some-Some-Some in
    rw (c.in_ok-new.ensures, c.in_ok-new-2.ensures) (entry-three c.args.word.now c.args.id.now c.args.path.now texts.word.now texts.id.now texts.path.now c.in-Some.kind texts.ensures texts.ensures' texts.ensures'' c.in-Some.ensures)
