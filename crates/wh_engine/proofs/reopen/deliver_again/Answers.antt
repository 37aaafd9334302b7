use Rattle.std.proofs.Common.{◌≡◌, ◌-◌, List, suc, inl, inr, refl, length, take, drop, subst, ap, ◌∙◌, arith}
use Rattle.std.proofs.lemmas.List.{take_rest}
use Rattle.std.proofs.Math.Logic.{∥∥₁_map}
use Rattle.sqlite.specs.Files.{file_state}
use Rattle.sqlite.specs.State.{HasCleanDisk}
use Rattle.wh_history.specs.Accepted.{Accepted}
use Rattle.wh_admission.specs.Admission.{accepted_after_all}
use Rattle.wh_engine.specs.Answered.{IsReady}
use Rattle.wh_engine.specs.Delivered.{AreAnswers, IsDelivered}
use Rattle.wh_admission.proofs.Admitted.{admitted_after_all}
use Rattle.wh_engine.proofs.DeliveredAgain.{at_most_all, are_answers, delivery_leaves, delivered_again}
use Rattle.wh_engine.proofs.Reopened.{known_of}
use Rattle.wh_engine.proofs.reopen.deliver_again.Goals as goal

pub slice_bounds-rest-count : goal.slice_bounds-rest-count
slice_bounds-rest-count g c =
    let first = c.deliver-first.result in
    let most = at_most_all c.args.commands.now first.answers.items first.stop c.deliver-first.ensures.many in
    let len_is = first.answers.ok.0 in
    let count = c.len.ensures in
    omega (arith, most, len_is, count)

pub slice_bounds-rest-start : goal.slice_bounds-rest-start
slice_bounds-rest-start g c =
    let first = c.deliver-first.result in
    let most = at_most_all c.args.commands.now first.answers.items first.stop c.deliver-first.ensures.many in
    let len_is = first.answers.ok.0 in
    let count = c.len.ensures in
    omega (arith, most, len_is, count)

pub returns-clause-delivered : goal.returns-clause-delivered
returns-clause-delivered g c limits accepted ready clean =
    let sent = c.args.commands.now in
    let first = c.deliver-first.result.answers.items in
    let second = c.deliver-second.result.answers.items in
    let n = length first in
    let stopped = c.deliver-first.new.self in
    let again = c.in-Ok.again in
    let last = c.deliver-second.new.self in
    let opened : HasCleanDisk (file_state again.tables.conn) = c.deliver-second.ensures.keeps.clean clean in
    let told = c.deliver-first.ensures.delivered (c.in-Ok.ensures.clean opened) limits accepted ready in
    let are = are_answers limits accepted sent first c.deliver-first.result.stop stopped.session (file_state stopped.tables.conn) told in
    let left = delivery_leaves limits accepted sent first c.deliver-first.result.stop stopped.session (file_state stopped.tables.conn) told in
    let before = accepted_after_all limits accepted (take n sent) in
    let after = accepted_after_all limits accepted (take (suc n) sent) in
    let count : c.len.result ≡ n = c.len.ensures ∙ c.deliver-first.result.answers.ok.0 in
    let rest : take (length sent - c.len.result) (drop c.len.result sent) ≡ drop n sent = take_rest sent c.len.result ∙ ap (λ k. drop k sent) count in
    let done : (found : List Accepted) → IsReady limits found again.session (file_state again.tables.conn) → IsDelivered limits found (drop n sent) second c.deliver-second.result.stop last.session (file_state last.tables.conn) =
    λ found at. subst (λ more. IsDelivered limits found more second c.deliver-second.result.stop last.session (file_state last.tables.conn)) rest (c.deliver-second.ensures.delivered clean limits found at) in
    ∥∥₁_map (c.in-Ok.ensures.ready limits before after (admitted_after_all limits accepted (take n sent) ready.admitted) (admitted_after_all limits accepted (take (suc n) sent) ready.admitted) left opened) (λ which. elim which [
      | inl is ↦ delivered_again limits accepted sent first are before (inl refl) second c.deliver-second.result.stop last.session (file_state last.tables.conn) (done before is)
      | inr is ↦ delivered_again limits accepted sent first are after (inr refl) second c.deliver-second.result.stop last.session (file_state last.tables.conn) (done after is)
    ])

pub returns-in-Err-clause-refused : goal.returns-in-Err-clause-refused
returns-in-Err-clause-refused g c limits accepted ready =
    let sent = c.args.commands.now in
    let first = c.deliver-first.result in
    let n = length first.answers.items in
    let stopped = c.deliver-first.new.self in
    let before = accepted_after_all limits accepted (take n sent) in
    let after = accepted_after_all limits accepted (take (suc n) sent) in
    let told = λ (was : HasCleanDisk (file_state stopped.tables.conn)). c.deliver-first.ensures.delivered was limits accepted ready in
    let are = λ (was : HasCleanDisk (file_state stopped.tables.conn)). are_answers limits accepted sent first.answers.items first.stop stopped.session (file_state stopped.tables.conn) (told was) in
    let left = λ (was : HasCleanDisk (file_state stopped.tables.conn)). delivery_leaves limits accepted sent first.answers.items first.stop stopped.session (file_state stopped.tables.conn) (told was) in
    known_of limits before after (HasCleanDisk (file_state stopped.tables.conn)) (AreAnswers limits accepted sent first.answers.items) c.in-Err.why are
    (c.in-Err.ensures.refused limits before after (admitted_after_all limits accepted (take n sent) ready.admitted) (admitted_after_all limits accepted (take (suc n) sent) ready.admitted) left)
