-- What an engine reads of any stored rows when it opens a warehouse.
use Rattle.std.proofs.Common.{◌≡◌, inl, inr, List, slice_get, Option, Some, None, Result, Ok, Err, IfOk, IfErr, ap, ◌∙◌}
use Rattle.sqlite.specs.State.{State}
use Rattle.wh_policy.specs.Policy.{read_policy}
use Rattle.wh_policy.specs.declared.policy.Policy.{Policy}
use Rattle.wh_policy.specs.declared.fault.PolicyFault.{PolicyFault}
use Rattle.wh_history.specs.Tables.{Limits}
use Rattle.wh_policy.specs.declared.format.Format.{Format}
use Rattle.wh_policy.specs.Formats.{is_two}
use Rattle.wh_rows.specs.Rows as row
use Rattle.wh_rows.specs.Firsts.{last_one}
use Rattle.wh_rows.specs.Raw.{Stored, AreAsked}
use Rattle.wh_rows.specs.declared.table.Table.TheVariants as tables
use Rattle.wh_rows.specs.declared.rows.CommandRow.{CommandRow}
use Rattle.wh_sql.specs.Answers.{ReadsOnly, Spares, IsOfAskedDamage, SparesStore as RefusesNothing}
use Rattle.wh_sql.specs.declared.fault.ReadFault.{ReadFault}
use Rattle.wh_sql.specs.declared.fault.ReadFault.TheVariants as reading
use Rattle.wh_store.specs.Opening.{SparesStore, unread}
use Rattle.wh_store.specs.Raw.{FormatIs, LimitsAre, IsRefusedOn, IsLimitless}
use Rattle.wh_store.specs.declared.fault.OpenFault.{OpenFault}
use Rattle.wh_store.specs.declared.fault.OpenFault.TheVariants as faults
use Rattle.wh_engine.specs.Opened.{of_policy, of_command, policies_stored, IsAsSaid, PolicyIs, IsPolicyless, IsSessionless, IsUnopened}
use Rattle.wh_policy.specs.declared.format.Format.TheVariants.{Two}
use Rattle.wh_sql.proofs.Sparing.{spares_where}

-- ---- what is left

-- rows that weren't read leave what a reading leaves
calm : (why : ReadFault) → SparesStore (unread why) → RefusesNothing why
calm reading.Memory spared = tt
calm (reading.Damaged table) spared = tt
calm (reading.Store cause) spared = absurd spared

pub unread_spares : {A : Type 0} (old new : State) (why : ReadFault) → ReadsOnly {A = A} old new (Err why) → Spares old new (SparesStore (unread why))
unread_spares old new why reads = spares_where (calm why) reads.spares

pub unlimited_spares : (old new : State) (why : ReadFault) → Spares old new (RefusesNothing why) → Spares old new (SparesStore (unread why))
unlimited_spares old new why reads = spares_where (calm why) reads

-- ---- a command that gives no policy

bytes_fault : (r : Result Policy PolicyFault) (fault : OpenFault) → of_policy r ≡ Err fault → fault ≡ faults.Damaged tables.Command
bytes_fault (Ok policy) fault is = cc
bytes_fault (Err e) fault is = cc

command_fault : (command : Option CommandRow) (fault : OpenFault) → of_command command ≡ Err fault → fault ≡ faults.Damaged tables.Command
command_fault None fault is = cc
command_fault (Some row) fault is = bytes_fault (read_policy row.bytes) fault is

module _ (stored : Stored) where
  -- ---- the policy

  pub policy_said : (rows : List CommandRow) (result : Result Policy OpenFault) → AreAsked (Some last_one) row.command (policies_stored stored) rows → IsAsSaid result (of_command (slice_get rows 0)) → IfOk result (λ policy. PolicyIs stored (Ok policy))
  policy_said rows (Ok policy) are told = (rows, are, told)
  policy_said rows (Err fault) are told = tt

  pub no_policy : (rows : List CommandRow) (result : Result Policy OpenFault) → AreAsked (Some last_one) row.command (policies_stored stored) rows → IsAsSaid result (of_command (slice_get rows 0)) → IfErr result (IsPolicyless stored)
  no_policy rows (Ok policy) are told = tt
  no_policy rows (Err faults.NotAWarehouse) are told = let never = command_fault (slice_get rows 0) faults.NotAWarehouse told in cc
  no_policy rows (Err faults.OldFormat) are told = let never = command_fault (slice_get rows 0) faults.OldFormat told in cc
  no_policy rows (Err faults.NewFormat) are told = let never = command_fault (slice_get rows 0) faults.NewFormat told in cc
  no_policy rows (Err (faults.Damaged table)) are told =
      let is = command_fault (slice_get rows 0) (faults.Damaged table) told in
      (cc is, inl (rows, are, told ∙ ap Err is))
  no_policy rows (Err faults.Memory) are told = tt
  no_policy rows (Err (faults.Store cause)) are told = tt

  pub policy_unread : (why : ReadFault) → IsOfAskedDamage (Some last_one) row.command tables.Command (policies_stored stored) why → IsPolicyless stored (unread why)
  policy_unread reading.Memory damage = tt
  policy_unread (reading.Damaged table) damage = (damage.0, inr damage.1)
  policy_unread (reading.Store cause) damage = tt

  -- ---- the session

  pub limits_refused : (why : ReadFault) → IsLimitless stored why → IsSessionless stored (unread why)
  limits_refused reading.Memory refused = tt
  limits_refused (reading.Damaged table) refused = inl refused
  limits_refused (reading.Store cause) refused = tt

  pub policy_refused : (limits : Limits) → LimitsAre stored (Some limits) → (fault : OpenFault) → IsPolicyless stored fault → IsSessionless stored fault
  policy_refused limits are faults.NotAWarehouse refused = refused
  policy_refused limits are faults.OldFormat refused = refused
  policy_refused limits are faults.NewFormat refused = refused
  policy_refused limits are (faults.Damaged table) refused = inr (limits, are, refused)
  policy_refused limits are faults.Memory refused = tt
  policy_refused limits are (faults.Store cause) refused = tt

  -- ---- the opening

  pub format_refused : (fault : OpenFault) → IsRefusedOn Two (is_two stored.format) stored fault → IsUnopened stored fault
  format_refused faults.NotAWarehouse refused = refused
  format_refused faults.OldFormat refused = refused
  format_refused faults.NewFormat refused = refused
  format_refused (faults.Damaged table) refused = inl refused
  format_refused faults.Memory refused = tt
  format_refused (faults.Store cause) refused = tt

  pub session_refused : ((format : Format) × FormatIs Two (is_two stored.format) stored (Ok format)) → (fault : OpenFault) → IsSessionless stored fault → IsUnopened stored fault
  session_refused taken faults.NotAWarehouse refused = absurd refused
  session_refused taken faults.OldFormat refused = absurd refused
  session_refused taken faults.NewFormat refused = absurd refused
  session_refused taken (faults.Damaged table) refused = inr (taken, refused)
  session_refused taken faults.Memory refused = tt
  session_refused taken (faults.Store cause) refused = tt
