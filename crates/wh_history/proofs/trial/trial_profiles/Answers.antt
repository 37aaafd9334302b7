use Rattle.std.proofs.Common.{◌≡◌, ◌++◌, ◌∷◌, [], ◌+◌, take, ◌∙◌, sym, ap}
use Rattle.std.proofs.lemmas.List.{take_more}
use Rattle.wh_policy.specs.declared.record.DimensionRecord.{DimensionRecord}
use Rattle.wh_history.specs.Profiles.{combinations_of}
use Rattle.wh_history.specs.Known.{all_numbered}
use Rattle.wh_history.proofs.Mixtures.{combinations_more}
use Rattle.wh_history.proofs.trial.trial_profiles.Goals as goal

pub loop-incoming-preserved : goal.loop-incoming-preserved
loop-incoming-preserved c =
    let types = c.args.types.now in
    let records = c.args.records.now in
    let done = take c.loop-incoming.incoming-index records in
    let r = c.incoming-item.result in
    let more : take (c.loop-incoming.incoming-index + 1) records ≡ done ++ r ∷ [] = take_more records c.loop-incoming.incoming-index r c.loop-incoming-test.true ∙ ap (λ (q : DimensionRecord). done ++ q ∷ []) (sym c.incoming-item.is) in
    c.in_ok-add_next.ensures.ok (combinations_of types done) c.loop-incoming.invariant ∙ rw (c.in_ok-profile_texts.ensures, c.as_slice.ensures) (sym (ap (λ rs. all_numbered (combinations_of types rs)) more ∙ ap all_numbered (combinations_more types done r)))
