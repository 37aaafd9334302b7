use Rattle.std.proofs.Common.{ℕ, List, ◌++◌, ◌∷◌, [], subst}
use Rattle.std.proofs.lemmas.Result.{on_ok_weaker}
use Rattle.wh_report.specs.Labels.{AreLabels}
use Rattle.wh_report.proofs.Entries.{with_one_more}
use Rattle.wh_report.proofs.labels.Labels.put_entry.Goals as goal

pub returns-in-Some-Some : goal.returns-in-Some-Some
returns-in-Some-Some c = λ entries are.
    on_ok_weaker c.put.result (λ put. rw (c.in-Some-Some.is-0, c.in-Some-Some.is-1) (subst (λ (t : List ℕ). AreLabels c.put.new.self (entries ++ (c.in-Some-Some.key, t) ∷ [])) c.as_str.ensures (with_one_more _ _ entries c.in-Some-Some.key c.as_str.result.now are put))) c.put.ensures
