use Rattle.std.proofs.Common.{◌<◌, ◌≤◌, ◌++◌, ◌∷◌, [], ◌+◌, List, length, drop, get_or, sym, rules, ◌∙◌, ap, subst, arith, append-nil}
use Rattle.std.proofs.lemmas.List.{at_drop_all, length-map}
use Rattle.wh_history.specs.Accepted.{member_of}
use Rattle.wh_history.specs.Plan.{row_of}
use Rattle.wh_history.specs.declared.member.Member.{Member}
use Rattle.wh_plan.proofs.PlanRows.{Left, next_made, left_split, row_behind}
use Rattle.wh_plan.proofs.records.record_plan.rows_of_stored.Goals as goal
use Rattle.wh_sql.proofs.Sparing.{tables_again}
use Rattle.wh_sql.proofs.InTurn.{then_failed}

pub loop-member-preserved : goal.loop-member-preserved
loop-member-preserved g c =
    let kept = c.loop-member.invariant in
    let read = c.in_ok-rows.ensures in
    let dim = c.args.dim in
    let i = c.loop-member.member-index in
    let member = c.member-item.result in
    let found = c.loop-member.found.items in
    let rows = c.in_ok-rows.rows.items in
    record {
      reads = search rules;
      rows = λ clean limits commands t are at days naturals members_are key.
          let before = read.reads.spares.clean clean in
          let within = subst (λ (ms : List Member). i < length ms) members_are c.loop-member-test.true in
          let stands = c.member-item.is ∙ ap (λ (ms : List Member). get_or ms i member) members_are in
          let next = next_made (member_of dim commands) naturals i member within stands in
          let left = Left dim commands (drop (i + 1) naturals) in
          ap (λ items. row_of key (items ++ left)) c.in_ok-append.ensures.items
          ∙ row_behind key found rows (Left dim commands (next.0 ∷ [])) left (read.rows clean limits commands t are (tables_again kept.reads.spares before t at tt) days next.0 next.2 key)
          ∙ ap (λ others. row_of key (found ++ others)) (sym (left_split dim commands next.0 (drop (i + 1) naturals)))
          ∙ ap (λ ns. row_of key (found ++ Left dim commands ns)) (sym next.1)
          ∙ kept.rows before limits commands t are at days naturals members_are key;
    }

pub returns-clause-rows : goal.returns-clause-rows
returns-clause-rows g c clean limits commands t are at days naturals members_are key =
    let found = c.loop-member.found.items in
    let i = c.loop-member.member-index in
    let over : length naturals ≤ i =
    let size = ap (λ (ms : List Member). length ms) members_are in
    let same = length-map naturals (member_of c.args.dim commands) in
    let last = c.loop-member-test.false in
    omega arith in
    sym (ap (row_of key) (append-nil found))
    ∙ sym (at_drop_all (λ ns. row_of key (found ++ Left c.args.dim commands ns)) naturals i over)
    ∙ c.loop-member.invariant.rows clean limits commands t are at days naturals members_are key

pub returns-in_err-rows-clause-reads : goal.returns-in_err-rows-clause-reads
returns-in_err-rows-clause-reads g c = then_failed c.loop-member.invariant.reads c.in_err-rows.ensures.reads c.from_residual.ensures
