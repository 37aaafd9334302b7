-- The edits of a command that gives a policy.
use Rattle.std.proofs.Common.{◌≡◌, inl, inr, ℕ, suc, false, List, [], ◌∷◌, ◌++◌, length, Option, Some, None, sym, ap, subst, arith}
use Rattle.std.specs.Option.{option_and_then}
use Rattle.wh_policy.specs.declared.attribute.Dim.{Dim}
use Rattle.wh_policy.specs.declared.attribute.Dim.TheVariants.{Product, Store, Customer}
use Rattle.wh_policy.specs.declared.policy.Policy.{Policy}
use Rattle.wh_policy.specs.declared.format.Format.{Format}
use Rattle.wh_policy.specs.declared.format.Format.TheVariants.{One, Two}
use Rattle.wh_history.specs.Accepted.{Accepted, Governs, format_of, formatted, members, policy_after, withdrawn_by}
use Rattle.wh_history.specs.Laws.{governs}
use Rattle.wh_history.specs.Plan.{IsRowPlan}
use Rattle.wh_history.specs.Tables.{dimension_row}
use Rattle.wh_history.specs.declared.plan.Edit.{Edit}
use Rattle.wh_history.specs.declared.plan.Edit.TheVariants.{Put}
use Rattle.wh_day.specs.declared.calendar.DateRow.{DateRow}
use Rattle.wh_rows.proofs.Orders.{member_cmp_total, change_cmp_total}
use Rattle.wh_rows.specs.Rows as row
use Rattle.wh_rows.specs.declared.key.ChangeKey.{ChangeKey}
use Rattle.wh_rows.specs.declared.key.MemberKey.{MemberKey}
use Rattle.wh_rows.specs.declared.rows.CommandRow.{CommandRow}
use Rattle.wh_model.specs.Defined.{command_at, member_at, change_at, profile_at, calendar_at, day_at}
use Rattle.wh_plan.specs.Edits.{Edits, AreEdits, IsTablePlan, UpgradesTo, rows_of_dimension}
use Rattle.wh_plan.specs.FactEdits.{edits_in}
use Rattle.wh_migration.specs.Migrated.{ArePlannedAnew}
use Rattle.wh_migration.specs.declared.migrated.MigratedTables.{MigratedTables}
use Rattle.wh_model.proofs.Formatted.{format_stays}
use Rattle.wh_model.proofs.GovernedLists.{members_governed, policy_governed}
use Rattle.wh_model.proofs.GrownChanges.{changes_grow}
use Rattle.wh_model.proofs.GrownMembers as member
use Rattle.wh_plan.proofs.OwnRow.{own_row_plan}
use Rattle.wh_plan.proofs.Plans.{empty_plan}
use Rattle.wh_plan.proofs.BatchPlans.{meta_stays, voids_stay}
use Rattle.wh_plan.proofs.FactPlans.{plan_in_table}

-- a plan between the same rows
same_plan : (before after old new : ℕ → Option DateRow) (edits : List (Edit DateRow ℕ)) → ((day : ℕ) → before day ≡ old day) → ((day : ℕ) → after day ≡ new day) → IsTablePlan row.calendar before after edits → IsTablePlan row.calendar old new edits
same_plan before after old new edits old_is new_is plan = record { ordered = plan.ordered; exact = λ day. rw (sym (old_is day), sym (new_is day)) (plan.exact day) }

module _ (commands : List Accepted) (c : Accepted) (policy : Policy) (is : c.content ≡ Governs policy) where
  abbrev after : List Accepted
  after = commands ++ c ∷ []

  -- members and changes stay
  same_member : (key : MemberKey) → member_at after key ≡ member_at commands key
  same_member key =
      let as_many : length (members key.dim after) ≡ length (members key.dim commands) = ap length (members_governed commands c (ap governs is) key.dim) in
      elim (member.of_dimension key.dim commands c key.durable) [
        | inl kept ↦ kept.same
        | inr added ↦ let above = added.above in let within = added.within in absurd (omega (arith, as_many))
      ]

  same_change : (key : ChangeKey) → change_at after key ≡ change_at commands key
  same_change key = elim (changes_grow commands c (Governs policy) is key) [
    | inl kept ↦ kept.same
    | inr added ↦ let above = added.above in let within = added.within in absurd (omega arith)
  ]

  pub migration_edits : (older : Policy) (own : CommandRow) (migrated : MigratedTables) (edits : Edits) (format : Format) → format ≡ format_of commands → policy_after None commands ≡ Some older → command_at (commands ++ c ∷ []) (suc (length commands)) ≡ Some own
      → ArePlannedAnew commands (commands ++ c ∷ []) migrated
      → IsTablePlan row.profile (profile_at commands) (profile_at (commands ++ c ∷ [])) edits.profiles
      → IsTablePlan row.calendar (day_at older) (day_at policy) edits.calendar
      → edits.upgrades ≡ false → edits.meta ≡ [] → edits.commands ≡ Put own ∷ [] → edits.members ≡ [] → edits.changes ≡ [] → edits.products ≡ migrated.products.items → edits.stores ≡ migrated.stores.items → edits.customers ≡ migrated.customers.items → edits.facts ≡ edits_in One format migrated.facts.items → edits.facts2 ≡ edits_in Two format migrated.facts.items → edits.voids ≡ []
      → AreEdits commands (commands ++ c ∷ []) edits
  migration_edits older own migrated edits format same governed stands planned profiles days no_upgrade no_meta command_is no_members no_changes products_are stores_are customers_are facts_are facts2_are no_voids = record {
    upgrades = subst (λ b. UpgradesTo b (format_of commands) (format_of after)) (sym no_upgrade) stays;
    meta = λ limits. rw no_meta (meta_stays commands after stays limits);
    commands = rw command_is (own_row_plan commands c own stands);
    members = rw no_members (empty_plan row.member member_cmp_total (member_at commands) (member_at after) same_member);
    changes = rw no_changes (empty_plan row.change change_cmp_total (change_at commands) (change_at after) same_change);
    rows = of_dimension;
    profiles = profiles;
    calendar = same_plan (day_at older) (day_at policy) (calendar_at commands) (calendar_at after) edits.calendar
        (λ day. sym (ap (option_and_then (λ p. day_at p day)) governed)) (λ day. sym (ap (option_and_then (λ p. day_at p day)) (policy_governed None commands c policy is))) days;
    facts = rw facts_are (plan_in_table commands after One format migrated.facts.items same stays planned.facts);
    facts2 = rw facts2_are (plan_in_table commands after Two format migrated.facts.items same stays planned.facts);
    voids = rw no_voids (voids_stay commands c (ap withdrawn_by is));
  }
    where
      stays : format_of after ≡ format_of commands
      stays = format_stays commands c (ap (formatted One) is)

      of_dimension : (dim : Dim) → IsRowPlan (dimension_row commands dim) (dimension_row after dim) (rows_of_dimension dim edits)
      of_dimension Product = rw products_are planned.products
      of_dimension Store = rw stores_are planned.stores
      of_dimension Customer = rw customers_are planned.customers
