use Rattle.std.proofs.Common.{◌≡◌, ◌∙◌, inl, sym, ap, subst, map, Ok, List}
use Rattle.wh_history.specs.Accepted.{Accepted}
use Rattle.wh_program.specs.Answer.{Printed}
use Rattle.wh_program.specs.Lists.{Questions, IsListed}
use Rattle.wh_program.specs.Readings.{query_answered}
use Rattle.wh_program.specs.Warehouse.{AnswersWork, Shows}
use Rattle.wh_words.specs.QueryList.{queries_of}
use Rattle.wh_words.specs.Task.{query_words}
use Rattle.wh_program.proofs.ListLemmas.{map_words}
use Rattle.wh_program.proofs.visits.queries.queries.Goals as goal

-- src/visits/queries.rt:46:1
pub returns-in-Ok-clause-answers : goal.returns-in-Ok-clause-answers
returns-in-Ok-clause-answers g c = λ content stood.
    let asked = c.in-Ok.asked.items in
    let fused = map_words query_answered query_words asked in
    let listed = ap (map (λ question. query_answered (query_words question))) c.as_slice-listed.ensures.value ∙ fused in
    let is = ap queries_of (sym c.deref.ensures.value) ∙ (sym c.in_ok-read.ensures ∙ c.in-Ok.ensures) in
    let made =
    subst (λ (questions : Questions). AnswersWork (g.H.Host.refuses c.args.host.now) (g.H.Host.stores c.work_on.new.host c.args.file.now) (Shows (IsListed questions)) content c.args.file.now c.work_on.result) listed
    (c.work_on.ensures.answers content stood) in
    inl (c.in-Some.text.items, rw c.in-Some.is at c.in_ok-text.ensures, rw is made)
