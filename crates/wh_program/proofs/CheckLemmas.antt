-- What a check of a warehouse's file leaves of what stood.
use Rattle.std.proofs.Common.{◌≡◌, inl, inr, refl, sym, Bool, true, false, List, Option, Some, None, Result, Ok, Err}
use Rattle.std.specs.Prelude.{IfOk, ℤ, pos, int_lt, if◌then◌else◌}
use Rattle.sqlite.specs.State.{State}
use Rattle.wh_history.specs.Accepted.{Accepted}
use Rattle.wh_history.specs.Tables.{Limits}
use Rattle.wh_rows.specs.AtRest.{IsAtRest}
use Rattle.wh_rows.specs.Raw.{Stored, RestsOn, LeavesStored}
use Rattle.wh_store.specs.Opening.{SparesStore}
use Rattle.wh_policy.specs.Formats.{is_two}
use Rattle.wh_policy.specs.declared.format.Format.{Format}
use Rattle.wh_policy.specs.declared.format.Format.TheVariants.{One, Two}
use Rattle.wh_store.specs.Meta.{format_of}
use Rattle.wh_store.specs.Raw.{FormatIs}
use Rattle.wh_store.specs.declared.fault.OpenFault.{OpenFault}
use Rattle.wh_store.specs.declared.fault.OpenFault.TheVariants as opening
use Rattle.wh_admission.specs.Admission.{AreAdmitted}
use Rattle.wh_admission.specs.Checked.{Covers, stored_in}
use Rattle.wh_checking.specs.declared.verdict.Verdict.{Verdict}
use Rattle.wh_checking.specs.declared.verdict.Verdict.TheVariants.{Clean}
use Rattle.wh_engine.specs.Answered as engine
use Rattle.wh_engine.specs.Answered.{IsReady}
use Rattle.wh_checking.specs.Checked.{IsChecked, IsCheckedOf}
use Rattle.wh_engine.specs.Faults.{IsServed}
use Rattle.wh_engine.specs.Opened.{SessionIs, IsNotOpened, IsUnopened as UnopenedBy}
use Rattle.wh_engine.specs.declared.fault.Fault.{Fault}
use Rattle.wh_engine.specs.declared.fault.Fault.TheVariants as fault
use Rattle.wh_engine.specs.declared.session.Session.{Session}
use Rattle.wh_program.specs.Check.{IsFoundClean, IsVerdictOn, Checks}
use Rattle.wh_program.specs.Reply.{opening_answer, verdict_answer}
use Rattle.wh_program.specs.Standing.{DatabaseContent, Nothing, Holds, Keeps, Is, Standing, Rests, LeftAt, LeavesEither, LeavesIt, IsAt, Stands}
use Rattle.wh_program.specs.Warehouse.{Shown, LooksAt, IsOpenedBy}
use Rattle.wh_program.proofs.WarehouseLemmas.{left, unopened, unread, unread_file}

-- of accepted commands
found_clean : (limits : Limits) (commands : List Accepted) (shown : Shown) (verdict : Result Verdict Fault) (session : Session) (s : State)
    → IfOk shown (λ a. a ≡ verdict_answer verdict) → IsCheckedOf limits commands verdict session s
    → (after : Standing) × IsFoundClean limits commands shown after × Stands after s
found_clean limits commands shown verdict session s tells is =
    let l = left (λ shown. shown ≡ Ok Clean) commands commands limits verdict session s is in
    (l.0, record { verdict = verdict; leaves = l.1; tells = tells }, l.2)

-- ---- of rows that anybody wrote

-- without the tables of the second format no number says it
no_second : (old new first : Bool) (said : Format) → (if old then Err opening.OldFormat else if new then Err opening.NewFormat else if first then Ok One else Err opening.NotAWarehouse) ≡ Ok said → said ≡ One
no_second true new first said is = absurd (cc)
no_second false true first said is = absurd (cc)
no_second false false true said is = cc
no_second false false false said is = absurd (cc)

says_the_first : (number : Option ℤ) (said : Format) → format_of Two false number ≡ Ok said → said ≡ One
says_the_first None said is = absurd (cc)
says_the_first (Some number) said is = no_second (int_lt number (pos 1)) (int_lt (pos 2) number) (int_lt number (pos 2)) said is

-- so the schema has the tables of the format that meta says
covers : (stored : Stored) (has said : Format) → FormatIs Two (is_two has) stored (Ok said) → Covers has said
covers stored One One says = tt
covers stored One Two says = sym (says_the_first says.0 Two says.2)
covers stored Two One says = tt
covers stored Two Two says = refl

module _ (stored : Stored) (shown : Shown) (opened : IsOpenedBy stored) where
  judged : (verdict : Result Verdict Fault) (s : State)
      → IfOk shown (λ a. a ≡ verdict_answer verdict) → IsChecked (stored_in opened.session.format stored) verdict → (IsServed verdict → RestsOn stored s) → LeavesStored stored s
      → (after : Standing) × IsVerdictOn stored shown after × Stands after s
  judged (Ok verdict) s tells due rests left = (Rests (Keeps stored), record { opened = opened; verdict = Ok verdict; due = due; leaves = refl; tells = tells }, rests tt)
  judged (Err (fault.Refused why)) s tells due rests left = (Rests (Keeps stored), record { opened = opened; verdict = Err (fault.Refused why); due = due; leaves = refl; tells = tells }, rests tt)
  judged (Err (fault.Damaged table)) s tells due rests left = (Rests (Keeps stored), record { opened = opened; verdict = Err (fault.Damaged table); due = due; leaves = refl; tells = tells }, rests tt)
  judged (Err fault.Memory) s tells due rests left = (Rests (Keeps stored), record { opened = opened; verdict = Err fault.Memory; due = due; leaves = refl; tells = tells }, rests tt)
  judged (Err (fault.Store cause)) s tells due rests left =
      (LeftAt (Keeps stored) (Keeps stored), record { opened = opened; verdict = Err (fault.Store cause); due = due; leaves = refl; tells = tells }, record { each = λ trees may. inl (left.each trees may) })
  judged (Err fault.Reopen) s tells due rests left = (Rests (Keeps stored), record { opened = opened; verdict = Err fault.Reopen; due = due; leaves = refl; tells = tells }, rests tt)

module _ (content : DatabaseContent) (shown : Shown) where
  -- a file that was opened and checked
  pub checked : (verdict : Result Verdict Fault) (first last : Session) (s0 s1 s2 : State)
      → ((limits : Limits) (commands : List Accepted) → AreAdmitted limits commands → engine.Rests limits commands s0 → IsReady limits commands first s1)
      → ((limits : Limits) (commands : List Accepted) → IsReady limits commands first s1 → IsCheckedOf limits commands verdict last s2)
      → (IsAtRest None s0 → ⊥)
      → ((stored : Stored) → RestsOn stored s0 → SessionIs stored first × RestsOn stored s1)
      → ((stored : Stored) → RestsOn stored s1 → Covers stored.format first.format → IsChecked (stored_in first.format stored) verdict)
      → ((stored : Stored) → RestsOn stored s1 → IsServed verdict → RestsOn stored s2)
      → ((stored : Stored) → RestsOn stored s1 → LeavesStored stored s2)
      → ((what : DatabaseContent) → IsAt what s0 → IsAt what s1)
      → ((what : DatabaseContent) → IsAt what s1 → (after : Standing) × LeavesIt what after × Stands after s2)
      → IfOk shown (λ a. a ≡ verdict_answer verdict)
      → IsAt content s0 → (after : Standing) × Checks content shown after × Stands after s2
  checked verdict first last s0 s1 s2 opens sound missing found due rests left same looked tells at = elim content as (λ what. IsAt what s0 → (after : Standing) × Checks what shown after × Stands after s2) [
    | Nothing ↦ λ at. absurd (missing at)
    | Holds limits commands ↦ λ at.
        let it = found_clean limits commands shown verdict last s2 tells (sound limits commands (opens limits commands at.0 at.1)) in
        (it.0, inl it.1, it.2)
    | Keeps stored ↦ λ at.
        let here = found stored at in
        let it = judged stored shown (record { session = first; says = here.0 }) verdict s2 tells (due stored here.1 (covers stored stored.format first.format here.0.0)) (rests stored here.1) (left stored here.1) in
        (it.0, inl it.1, it.2)
    | Is db ↦ λ at. let it = looked (Is db) (same (Is db) at) in (it.0, inl it.1, it.2)
  ] at

  -- or one that was not opened
  pub unchecked : (why : OpenFault) (s0 s1 : State)
      → ((limits : Limits) (commands : List Accepted) → AreAdmitted limits commands → engine.Rests limits commands s0 → IsNotOpened limits commands why s1)
      → (IsAtRest None s0 → (why ≡ opening.NotAWarehouse) × IsAt Nothing s1)
      → ((stored : Stored) → RestsOn stored s0 → UnopenedBy stored why × LeavesStored stored s1 × (SparesStore why → RestsOn stored s1))
      → ((what : DatabaseContent) → IsAt what s0 → LeavesEither what what s1 × (SparesStore why → IsAt what s1))
      → IfOk shown (λ a. a ≡ opening_answer why)
      → IsAt content s0 → (after : Standing) × Checks content shown after × Stands after s1
  unchecked why s0 s1 refused missing bad same tells at = elim content as (λ what. IsAt what s0 → (after : Standing) × Checks what shown after × Stands after s1) [
    | Nothing ↦ λ at. unopened IsFoundClean LooksAt Nothing shown why s0 s1 refused missing bad same tells at
    | Holds limits commands ↦ λ at. unopened IsFoundClean LooksAt (Holds limits commands) shown why s0 s1 refused missing bad same tells at
    | Keeps stored ↦ λ at. let it = unread stored shown why s1 tells (bad stored at) in (it.0, inr it.1, it.2)
    | Is db ↦ λ at. let it = unread_file (Is db) shown why s1 tells (same (Is db) at) in (it.0, inr it.1, it.2)
  ] at
