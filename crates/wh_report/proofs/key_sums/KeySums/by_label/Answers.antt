use Rattle.std.proofs.Common.{◌≡◌, ℕ, List, Some, nat_cmp, refl, subst}
use Rattle.std.specs.List.Sorted.{IsStrictlySortedBy}
use Rattle.std.specs.Map.{keys_of}
use Rattle.std.specs.Map.Iter.{deref_pair}
use Rattle.std.proofs.lemmas.Map.Iter.{rest_more, rest_all}
use Rattle.std.proofs.lemmas.Result.{err_from_is_err_and}
use Rattle.wh_report.specs.Labels.{labels_get}
use Rattle.wh_report.specs.Sums.{Figures}
use Rattle.wh_report.proofs.KeyedSums.{all_joined, next_full, next_lacks, next_sold, not_added, one_joined}
use Rattle.wh_report.proofs.key_sums.KeySums.by_label.Goals as goal

pub returns-in_default : goal.returns-in_default
returns-in_default c = λ sales are.
    let up = subst (λ (es : List (ℕ × Figures)). IsStrictlySortedBy nat_cmp (keys_of es)) c.self.view_is c.iter-key-items.ensures.ordered in
    let next = rest_more deref_pair c.loop-key.key-iterator c.next.new.self c.next.result (c.in-Some.key, c.in-Some.figures) c.in-Some.is c.next.ensures.steps in
    next_lacks (labels_get c.args.labels.now) c.args.self.now up sales are (c.in-Some.key.now, c.in-Some.figures.now) c.loop-key.key-iterator c.next.new.self c.loop-key.summary (c.loop-key.invariant sales are) next
    (rw (← c.get.ensures, c.in_default.is) refl)

pub loop-key-preserved : goal.loop-key-preserved
loop-key-preserved c = λ sales are.
    let up = subst (λ (es : List (ℕ × Figures)). IsStrictlySortedBy nat_cmp (keys_of es)) c.self.view_is c.iter-key-items.ensures.ordered in
    let next = rest_more deref_pair c.loop-key.key-iterator c.next.new.self c.next.result (c.in-Some.key, c.in-Some.figures) c.in-Some.is c.next.ensures.steps in
    let so = c.loop-key.invariant sales are in
    let leads : labels_get c.args.labels.now c.in-Some.key.now ≡ Some c.as_str.result.now = rw (c.as_str.ensures, ← c.get.ensures, c.in-Some-get.is) refl in
    let own = next_sold (labels_get c.args.labels.now) c.args.self.now up sales are (c.in-Some.key.now, c.in-Some.figures.now) c.loop-key.key-iterator c.next.new.self c.loop-key.summary so next c.as_str.result.now leads in
    one_joined (labels_get c.args.labels.now) c.args.self.now up sales are (c.in-Some.key.now, c.in-Some.figures.now) c.loop-key.key-iterator c.next.new.self c.loop-key.summary so next c.as_str.result.now c.add.new.self leads (c.in_ok-add.ensures.sums _ _ so.made own)

pub returns-in_err-add : goal.returns-in_err-add
returns-in_err-add c = λ sales are.
    let up = subst (λ (es : List (ℕ × Figures)). IsStrictlySortedBy nat_cmp (keys_of es)) c.self.view_is c.iter-key-items.ensures.ordered in
    let next = rest_more deref_pair c.loop-key.key-iterator c.next.new.self c.next.result (c.in-Some.key, c.in-Some.figures) c.in-Some.is c.next.ensures.steps in
    let so = c.loop-key.invariant sales are in
    let leads : labels_get c.args.labels.now c.in-Some.key.now ≡ Some c.as_str.result.now = rw (c.as_str.ensures, ← c.get.ensures, c.in-Some-get.is) refl in
    let own = next_sold (labels_get c.args.labels.now) c.args.self.now up sales are (c.in-Some.key.now, c.in-Some.figures.now) c.loop-key.key-iterator c.next.new.self c.loop-key.summary so next c.as_str.result.now leads in
    let full = next_full (labels_get c.args.labels.now) c.args.self.now up sales are (c.in-Some.key.now, c.in-Some.figures.now) c.loop-key.key-iterator c.next.new.self c.loop-key.summary so next in
    let p = err_from_is_err_and c.from_residual.result c.from_residual.ensures.1 in
    rw (p.1, p.2) (not_added (labels_get c.args.labels.now) sales c.in_err-add.field-0.0 (λ damaged. full (c.in_err-add.ensures.damaged _ _ so.made own damaged)))

pub returns : goal.returns
returns c = λ sales are.
    let up = subst (λ (es : List (ℕ × Figures)). IsStrictlySortedBy nat_cmp (keys_of es)) c.self.view_is c.iter-key-items.ensures.ordered in
    all_joined (labels_get c.args.labels.now) c.args.self.now up sales are c.loop-key.key-iterator c.loop-key.summary (c.loop-key.invariant sales are) (rest_all deref_pair c.loop-key.key-iterator c.next.new.self c.next.result c.in-None.is c.next.ensures.steps)
