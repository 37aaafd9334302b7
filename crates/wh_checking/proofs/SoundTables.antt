-- The tables of commands are sound, and a check of them says so.
use Rattle.std.proofs.Common.{◌≡◌, Bool, true, false, List, [], map, Option, Some, Result, Ok, Err, refl, sym, ap, subst, ◌∙◌}
use Rattle.std.specs.Prelude.{if◌then◌else◌}
use Rattle.std.specs.FinMap.{FinMap, entries, values, get}
use Rattle.std.proofs.lemmas.List.Sorted.{IsPermutation-refl}
use Rattle.sqlite.specs.State.{State}
use Rattle.wh_policy.specs.declared.format.Format.{Format}
use Rattle.wh_policy.specs.declared.format.Format.TheVariants.{One, Two}
use Rattle.wh_history.specs.Accepted.{Accepted}
use Rattle.wh_history.specs.Tables.{Limits}
use Rattle.wh_rows.specs.AtRest.{IsAtRest, Leaves}
use Rattle.wh_model.specs.Defined.{AreOf, fact_in, void_at}
use Rattle.wh_rows.specs.Holds.{Layout}
use Rattle.wh_rows.specs.Names.{is_there}
use Rattle.wh_rows.specs.Raw.{Stored, stored_of, IsTyped, AreTyped, RestsOn}
use Rattle.wh_rows.specs.Rows as row
use Rattle.wh_rows.specs.Tables.{Tables}
use Rattle.wh_rows.specs.declared.table.Table.{Table}
use Rattle.wh_rows.specs.declared.table.Table.TheVariants.{Meta, Command, Member, Change, Product, Store, Customer, Profile, Calendar, Fact, Fact2, Void}
use Rattle.wh_rows.proofs.RawTables.{rests_on, stores_typed}
use Rattle.wh_store.proofs.Absent.{none_there}
use Rattle.wh_sql.specs.declared.fault.ReadFault.{ReadFault}
use Rattle.wh_sql.specs.declared.fault.ReadFault.TheVariants as reading
use Rattle.wh_admission.specs.Admission.{AreAdmitted}
use Rattle.wh_admission.specs.Checked.{AreRowsAt, Covers, IsDefined, IsSoundStored, stored_in}
use Rattle.wh_checking.specs.Judged.{IsJudged}
use Rattle.wh_checking.specs.declared.verdict.Verdict.{Verdict}
use Rattle.wh_checking.specs.declared.verdict.Verdict.TheVariants.{Clean, Wrong}
use Rattle.wh_checking.proofs.Judging.{verdicts_are_one}
use Rattle.wh_checking.proofs.ListedMaps.{all_valid}
use Rattle.wh_engine.specs.Answered.{IsReady}
use Rattle.wh_checking.specs.Checked.{IsChecked, IsCheckedOf}
use Rattle.wh_engine.specs.Faults.{IsServed, stops}
use Rattle.wh_engine.specs.Outcome.{Outcome}
use Rattle.wh_engine.specs.declared.fault.Fault.{Fault}
use Rattle.wh_engine.specs.declared.fault.Fault.TheVariants as faults
use Rattle.wh_engine.specs.declared.session.Session.{Session}
use Rattle.wh_engine.proofs.Outcomes.{anywhere, read_and_noted}

-- the rows of a map are what a function gives that gives the same
rows_at : {K V : Type 0} (layout : Layout K V) (m : FinMap layout.order V) (row_at : K → Option V) → IsTyped layout m → ((key : K) → get m key ≡ row_at key) → AreRowsAt layout row_at (map layout.encode (values m))
rows_at layout m row_at typed are = record { rows = m; are = are; valid = all_valid layout (entries m) typed.valid; same = IsPermutation-refl (map layout.encode (values m)) }

module _ (limits : Limits) (commands : List Accepted) (t : Tables) (are : AreOf limits commands t) (typed : AreTyped t) where
  pub each_defined : (table : Table) → IsDefined limits commands (stored_of t) table
  each_defined Meta = rows_at row.meta t.meta _ typed.meta are.meta
  each_defined Command = rows_at row.command t.command _ typed.command are.command
  each_defined Member = rows_at row.member t.member _ typed.member are.member
  each_defined Change = rows_at row.change t.change _ typed.change are.change
  each_defined Product = rows_at row.product t.product _ typed.product are.product
  each_defined Store = rows_at row.store t.store _ typed.store are.store
  each_defined Customer = rows_at row.customer t.customer _ typed.customer are.customer
  each_defined Profile = rows_at row.profile t.profile _ typed.profile are.profile
  each_defined Calendar = rows_at row.calendar t.calendar _ typed.calendar are.calendar
  each_defined Fact = rows_at row.fact t.fact _ typed.fact are.fact
  each_defined Fact2 = rows_at row.fact2 t.fact2 _ typed.fact2 are.fact2
  each_defined Void = rows_at row.void t.void _ typed.void are.void

  pub sound_stored : AreAdmitted limits commands → IsSoundStored (stored_of t)
  sound_stored admitted = record { limits = limits; commands = commands; admitted = admitted; formatted = are.format; each = each_defined }

-- ---- in the tables of a format

-- of a table that the format hasn't, nothing is stored
module _ (stored : Stored) (s : State) (at : RestsOn stored s) where
  same_rows : (name : Table) → stored.rows name ≡ (stored_in stored.format stored).rows name
  same_rows name = go (is_there name stored.format) refl
    where
      shown : Bool → Type 0
      shown b = stored.rows name ≡ (if b then stored.rows name else [])

      go : (b : Bool) → is_there name stored.format ≡ b → shown (is_there name stored.format)
      go true is = subst shown (sym is) refl
      go false is = subst shown (sym is) (none_there name s stored at is)

  in_format : (limits : Limits) (commands : List Accepted) (table : Table) → IsDefined limits commands stored table → IsDefined limits commands (stored_in stored.format stored) table
  in_format limits commands Meta defined = defined
  in_format limits commands Command defined = defined
  in_format limits commands Member defined = defined
  in_format limits commands Change defined = defined
  in_format limits commands Product defined = defined
  in_format limits commands Store defined = defined
  in_format limits commands Customer defined = defined
  in_format limits commands Profile defined = defined
  in_format limits commands Calendar defined = defined
  in_format limits commands Fact defined = defined
  in_format limits commands Fact2 defined = subst (AreRowsAt row.fact2 (fact_in Two commands)) (same_rows Fact2) defined
  in_format limits commands Void defined = subst (AreRowsAt row.void (void_at commands)) (same_rows Void) defined

  -- so what is sound is sound by the tables of its format
  sound_in_format : IsSoundStored stored → IsSoundStored (stored_in stored.format stored)
  sound_in_format it = record { limits = it.limits; commands = it.commands; admitted = it.admitted; formatted = it.formatted; each = λ table. in_format it.limits it.commands table (it.each table) }

covers_itself : (has said : Format) → has ≡ said → Covers has said
covers_itself has One same = tt
covers_itself has Two same = same

-- ---- a check that was answered, or refused

module _ (limits : Limits) (commands : List Accepted) (session : Session) (old new : State) (ready : IsReady limits commands session old) where
  abbrev tables : Tables
  tables = ready.rests.tables

  abbrev held : Stored
  held = stored_in tables.format (stored_of tables)

  same : tables.format ≡ session.format
  same = ready.rests.are.format ∙ sym (ap (λ (s : Session). s.format) ready.session_is)

  pub covers : Covers tables.format session.format
  covers = covers_itself tables.format session.format same

  is_sound : IsSoundStored held
  is_sound =
      let sound = sound_stored limits commands tables ready.rests.are (stores_typed old.now tables ready.rests.rests.now.tables) ready.admitted in
      sound_in_format (stored_of tables) old (rests_on tables old ready.rests.rests) sound

  -- a verdict is that all is clean, and no table is named as damaged
  clean_is : (verdict : Verdict) → IsJudged held (Ok verdict) → verdict ≡ Clean
  clean_is Clean judged = refl
  clean_is (Wrong table) judged = absurd (other (verdicts_are_one held (Ok (Wrong table)) (Ok Clean) tt tt judged is_sound))
    where
      other : ◌≡◌ {A = Result Verdict ReadFault} (Ok (Wrong table)) (Ok Clean) → ⊥
      other h = cc

  not_damaged : (table : Table) → IsJudged held (Err (reading.Damaged table)) → ⊥
  not_damaged table judged = other (verdicts_are_one held (Err (reading.Damaged table)) (Ok Clean) tt tt judged is_sound)
    where
      other : ◌≡◌ {A = Result Verdict ReadFault} (Err (reading.Damaged table)) (Ok Clean) → ⊥
      other h = cc

  is_due : (result : Result Verdict Fault) → IsChecked held result → Outcome (λ told. told ≡ Ok Clean) commands commands result anywhere
  is_due (Ok verdict) judged = (ap Ok (clean_is verdict judged), tt)
  is_due (Err faults.Memory) judged = tt
  is_due (Err (faults.Store cause)) judged = tt
  is_due (Err (faults.Refused why)) judged = absurd judged
  is_due (Err (faults.Damaged table)) judged = not_damaged table judged
  is_due (Err faults.Reopen) judged = judged

  pub checked : (result : Result Verdict Fault) → IsChecked (stored_in session.format (stored_of tables)) result → (IsServed result → IsAtRest (Some tables) new) → Leaves (Some tables) new
      → IsCheckedOf limits commands result (record session { must_reopen = stops result }) new
  checked result judged rests left = read_and_noted limits commands session old new ready (λ told. told ≡ Ok Clean) left result (is_due result (subst (λ format. IsChecked (stored_in format (stored_of tables)) result) (sym same) judged)) rests
