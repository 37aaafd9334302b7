use Rattle.std.proofs.Common.{◌≡◌, ◌<◌, ◌≤◌, ℕ, List, length, get_or, Option, Some, None, Bor, refl, sym, ◌∙◌, ap}
use Rattle.std.specs.List.{slice_get, HoldsAt}
use Rattle.std.specs.Option.{option_copied, IfSome, MatchOption}
use Rattle.std.proofs.lemmas.Option.{slice_get_past, slice_get_read}
use Rattle.wh_rows.specs.declared.rows.ProfileRow.{ProfileRow}
use Rattle.wh_history.specs.Plan.{edit_between}
use Rattle.wh_rows.specs.SameRows.{same_values}
use Rattle.wh_migration.specs.Migration.{profile_edit_at}
use Rattle.wh_migration.proofs.NumberedPlans.{one_made, none_made}
use Rattle.wh_migration.proofs.profile_plan.edits_of_profiles.Goals as goal
use Rattle.wh_migration.proofs.profile_plan.edits_of_profiles.Goals.{in-Some+in_ok-push, in_default}

got : (o : Option (Bor ProfileRow)) (rows : List ProfileRow) (n : ℕ) → IfSome o (λ x. x.now ≡ get_or rows n x.now) → MatchOption o (length rows ≤ n) (λ x. (n < length rows) × HoldsAt (λ y. x.now ≡ y) rows n) → option_copied o ≡ slice_get rows n
got None rows n is there = sym (slice_get_past rows n there)
got (Some x) rows n is there = sym (slice_get_read rows (length rows) n x.now refl there.0 is)

pub loop-place-preserved : goal.loop-place-preserved
loop-place-preserved c =
    let place = c.loop-place.place in
    let stored = c.args.stored.now in
    let rows = c.args.rows.now in
    let make = profile_edit_at stored rows in
    let old = c.get.ensures.lookup in
    let new = c.get-in-loop-place.ensures.lookup in
    let made : c.in_ok-edit.field-0 ≡ make place =
    c.in_ok-edit.ensures
    ∙ ap (λ o. edit_between same_values place o (option_copied c.get-in-loop-place.result)) (got c.get.result stored place old.1 old.3)
    ∙ ap (edit_between same_values place (slice_get stored place)) (got c.get-in-loop-place.result rows place new.1 new.3) in
    elim c.match-branch-2.branch [
      | in-Some+in_ok-push w ↦ rw (w.edits-is, w.in_ok-push.ensures.items) (one_made make place _ c.loop-place.edits.items w.in-Some.edit _ c.loop-place-test.true (sym made ∙ w.in-Some.is) c.loop-place.invariant)
      | in_default w ↦ rw w.edits-is (none_made make place _ c.loop-place.edits.items _ c.loop-place-test.true (sym made ∙ w.in_default.is) c.loop-place.invariant)
    ]
