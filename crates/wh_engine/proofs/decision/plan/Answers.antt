use Rattle.std.proofs.Common.{◌≡◌, ◌∙◌, ◌++◌, ◌∷◌, [], ℕ, suc, sym, ap, subst, refl, Some}
use Rattle.wh_policy.proofs.FileLaws.{policies_are_sound}
use Rattle.wh_policy.specs.Written.{IsSound}
use Rattle.wh_policy.specs.Formats.{is_two}
use Rattle.wh_policy.specs.declared.format.Format.{Format}
use Rattle.wh_policy.specs.declared.format.Format.TheVariants.{One, Two}
use Rattle.std.specs.Prelude.{Bool, false}
use Rattle.wh_history.specs.Accepted.{Governs, Describes, Sells, Upgrades, Withdraws, format_of, placeholders_by}
use Rattle.wh_rows.specs.declared.rows.CommandRow.{CommandRow}
use Rattle.wh_admission.specs.Admission.{accepted_as, current_policy}
use Rattle.wh_admission.proofs.GoodVoids.{voids_are_second}
use Rattle.wh_admission.proofs.StaysAccepted.{content_well}
use Rattle.wh_engine.proofs.Contents.{governs_taken}
use Rattle.wh_engine.proofs.Decisions.{list_accepted, next_number, not_again, own_row, policy_in_force, sound_in_force, voids_stand}
use Rattle.wh_engine.proofs.decision.plan.Goals as goal

first_of : (format : Format) → is_two format ≡ false → format ≡ One
first_of One is = refl
first_of Two is = absurd cc

pub returns-in-Governs-clause-edits : goal.returns-in-Governs-clause-edits
returns-in-Governs-clause-edits g c = rw c.in-Governs.is (λ clean commands t held rests command number next row.
    let limits = c.args.session.now.limits in
    let newer = c.in-Governs.newer in
    let content = Governs newer in
    let taken = governs_taken command.kind (format_of commands) (current_policy commands) command.bytes newer next.read in
    let stored = own_row limits commands command next.good next.new content next.read number next.numbered ∙ ap Some (sym row) in
    c.plan_migration.ensures.edits clean limits commands t held.are rests held.format (accepted_as command content) (list_accepted limits commands command next.good next.new content next.read number next.numbered held.accepted)
    refl (policy_in_force commands held.accepted.governed ∙ ap Some (sym held.policy)) (policies_are_sound command.bytes newer taken.written) (rw held.policy taken.fit) stored)

pub returns-in-Describes-clause-edits : goal.returns-in-Describes-clause-edits
returns-in-Describes-clause-edits g c = rw c.in-Describes.is (λ clean commands t held rests command number next row.
    let limits = c.args.session.now.limits in
    let content = Describes c.in-Describes.dim c.in-Describes.records in
    let stored = own_row limits commands command next.good next.new content next.read number next.numbered ∙ ap Some (sym row) in
    c.plan_batch.ensures.edits clean limits commands t held.are rests held.format (accepted_as command content) (list_accepted limits commands command next.good next.new content next.read number next.numbered held.accepted)
    (ap (Describes c.in-Describes.dim) (sym c.as_slice.ensures)) (policy_in_force commands held.accepted.governed ∙ ap Some (sym held.policy)) (subst IsSound (sym held.policy) (sound_in_force limits commands held.accepted)) stored)

pub returns-in-Sells-clause-edits : goal.returns-in-Sells-clause-edits
returns-in-Sells-clause-edits g c = rw c.in-Sells.is (λ clean commands t held rests command number next row.
    let limits = c.args.session.now.limits in
    let content = Sells c.in-Sells.sales in
    let after = commands ++ accepted_as command content ∷ [] in
    let stored = own_row limits commands command next.good next.new content next.read number next.numbered
    ∙ ap (λ (r : CommandRow). Some (record r { placeholders = placeholders_by after number content })) (sym row)
    ∙ ap (λ (n : ℕ). Some (record (c.args.row) { placeholders = placeholders_by after n content })) (next_number limits commands command next.good next.new content next.read number next.numbered) in
    c.plan_sales.ensures.edits clean limits commands t held.are rests held.accepted held.format (accepted_as command content) (list_accepted limits commands command next.good next.new content next.read number next.numbered held.accepted)
    (ap Sells (sym c.as_slice-in-Sells.ensures)) (policy_in_force commands held.accepted.governed ∙ ap Some (sym held.policy)) (subst IsSound (sym held.policy) (sound_in_force limits commands held.accepted)) stored)

pub returns-in-Upgrades-clause-edits : goal.returns-in-Upgrades-clause-edits
returns-in-Upgrades-clause-edits g c = rw c.in-Upgrades.is (λ clean commands t held rests command number next row.
    let limits = c.args.session.now.limits in
    let first = first_of (format_of commands) (not_again limits commands Upgrades number next.numbered) in
    let stored = own_row limits commands command next.good next.new Upgrades next.read number next.numbered ∙ ap Some (sym row) in
    c.plan_upgrade.ensures.edits clean limits commands t held.are rests (accepted_as command Upgrades) refl first stored)

pub returns-in_ok-plan_voids-in-Withdraws-clause-edits : goal.returns-in_ok-plan_voids-in-Withdraws-clause-edits
returns-in_ok-plan_voids-in-Withdraws-clause-edits g c = rw c.in-Withdraws.is (λ clean commands t held rests command number next row.
    let limits = c.args.session.now.limits in
    let lines = c.in-Withdraws.lines in
    let content = Withdraws lines in
    let second = voids_are_second command.kind (format_of commands) (current_policy commands) command.bytes lines next.read in
    let stored = own_row limits commands command next.good next.new content next.read number next.numbered ∙ ap Some (sym row) in
    let well = content_well limits commands command held.accepted content next.read in
    c.in_ok-plan_voids-in-Withdraws.ensures.edits commands (accepted_as command content) (ap Withdraws (sym c.as_slice-in-Withdraws.ensures)) second stored (rw c.as_slice-in-Withdraws.ensures (voids_stand limits commands lines number next.numbered)) (rw c.as_slice-in-Withdraws.ensures well.good.voids_once))
