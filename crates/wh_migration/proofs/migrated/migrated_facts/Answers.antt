use Rattle.std.proofs.Common.{◌≡◌, List, [], ◌∷◌, ◌++◌, sym, ap, ◌∙◌, subst}
use Rattle.std.specs.Prelude.{filter_map}
use Rattle.std.specs.FinMap.{values}
use Rattle.wh_history.specs.Accepted.{Accepted}
use Rattle.wh_history.specs.Facts.{rekeyed_to}
use Rattle.wh_history.specs.declared.facts.Fact.{Fact}
use Rattle.wh_policy.specs.declared.format.Format.{Format}
use Rattle.wh_rows.specs.Facts.{facts_in, facts_of}
use Rattle.wh_plan.specs.BatchRows.{AreFacts, AreRekeyed}
use Rattle.wh_model.specs.Defined.{fact_at}
use Rattle.wh_migration.proofs.AnewFacts.{keys_all, keys_shown, moved_shown, anew_facts, anew_rekeyed}
use Rattle.wh_migration.proofs.migrated.migrated_facts.Goals as goal

pub returns-clause-edits : goal.returns-clause-edits
returns-clause-edits g c clean limits commands t are at format d is members known =
    let after : List Accepted = commands ++ d ∷ [] in
    let shown = c.in_ok-shown.shown in
    let same = keys_shown after c.args.read.now c.args.profiles.now shown members known c.in_ok-shown.ensures in
    let moved : c.in_ok-moved.moved.items ≡ filter_map (λ f. rekeyed_to f (keys_all after f)) (values (facts_of t)) =
    c.in_ok-moved.ensures.moved clean t at (are.format ∙ sym format)
    ∙ moved_shown after shown same (values (facts_in c.args.format t))
    ∙ ap (λ (own : Format). filter_map (λ f. rekeyed_to f (keys_all after f)) (values (facts_in own t))) (format ∙ sym are.format) in
    c.in_ok-fact_rekeys.ensures (fact_at commands) (fact_at after)
    (subst (λ (fs : List Fact). AreFacts (fact_at commands) (fact_at after) fs) (sym moved) (anew_facts commands d is limits t are))
    (subst (λ (fs : List Fact). AreRekeyed (fact_at commands) fs) (sym moved) (anew_rekeyed commands d is limits t are))
