use Rattle.std.proofs.Common.{◌≡◌, ◌+◌, ◌++◌, suc, List, Some, None, sym, ◌∙◌, ap, arith, append-nil}
use Rattle.std.specs.Prelude.{option_map}
use Rattle.std.specs.Option.{option_copied}
use Rattle.std.proofs.lemmas.List.{at_drop_all}
use Rattle.wh_policy.specs.declared.record.DimensionRecord.{DimensionRecord}
use Rattle.wh_plan.specs.NewRows.{by_place, named, new_change, row_of_record}
use Rattle.wh_plan.proofs.PlanningChanges.{row_added, none_added, new_changes_planned}
use Rattle.wh_plan.proofs.new_rows.new_change_rows.Goals as goal
use Rattle.wh_plan.proofs.new_rows.new_change_rows.Goals.{in-Some+in_ok-row_of_record+in_ok-push, in_default}

pub loop-place-preserved : goal.loop-place-preserved
loop-place-preserved c =
    let touched = c.args.touched.now in
    let told = c.index-records-place.result in
    let place = c.loop-place.place in
    let give = new_change c.args.dim c.args.command touched in
    let rows = c.loop-place.rows.items in
    let all = by_place give 1 c.args.records.now in
    let named_is : option_copied c.copied.result ≡ named touched told.natural =
    ap option_copied c.copied.ensures ∙ ap option_copied c.get.ensures.value ∙ c.in_ok-found.ensures c.as_str.result.now ∙ ap (named touched) c.as_str.ensures in
    elim c.match-copied.branch [
      | in-Some+in_ok-row_of_record+in_ok-push w ↦
          let row = w.in_ok-row_of_record.field-0 in
          let next : place + 1 ≡ suc place = omega arith in
          let there : named touched told.natural ≡ Some w.in-Some.member.now = sym named_is ∙ ap option_copied w.in-Some.is in
          let given : give (suc place) told ≡ Some row =
          ap (option_map (row_of_record c.args.dim c.args.command (suc place) told)) there
          ∙ ap (λ n. Some (row_of_record c.args.dim c.args.command n told w.in-Some.member.now)) (sym next)
          ∙ ap Some (sym w.in_ok-row_of_record.ensures) in
          row_added give rows all place c.args.records.now told c.loop-place-test.true c.index-records-place.is c.loop-place.invariant c.match-copied.rows.items row (ap (λ v. v.items) w.rows-is ∙ w.in_ok-push.ensures.items) given
      | in_default w ↦
          let none : named touched told.natural ≡ None = sym named_is ∙ ap option_copied w.in_default.is in
          let given : give (suc place) told ≡ None = ap (option_map (row_of_record c.args.dim c.args.command (suc place) told)) none in
          none_added give rows all place c.args.records.now told c.loop-place-test.true c.index-records-place.is c.loop-place.invariant c.match-copied.rows.items (ap (λ v. v.items) w.rows-is) given
    ]

pub returns-clause-planned : goal.returns-clause-planned
returns-clause-planned c commands command is list number =
    let rows = c.loop-place.rows.items in
    let give = new_change c.args.dim c.args.command c.args.touched.now in
    let none = at_drop_all (λ (rs : List DimensionRecord). rows ++ by_place give (suc c.loop-place.place) rs) c.args.records.now c.loop-place.place c.loop-place-test.false in
    let made = sym (append-nil rows) ∙ sym none ∙ c.loop-place.invariant in
    new_changes_planned c.args.dim c.args.command c.args.touched.now c.args.records.now rows made commands command is list number
