-- What an engine reads when it opens a warehouse.
use Rattle.std.proofs.Common.{◌≡◌, ◌≢◌, ◌⊎◌, inl, inr, ℕ, Bool, true, false, List, [], ◌∷◌, filter, slice_get, Some, None, Result, Ok, Err, OnOk, refl, sym, ap, ◌∙◌}
use Rattle.std.specs.Prelude.{codes, pos}
use Rattle.sqlite.specs.Tree.{Trees}
use Rattle.sqlite.specs.State.{State}
use Rattle.wh_policy.specs.Policy.{read_policy}
use Rattle.wh_policy.specs.declared.policy.Policy.{Policy}
use Rattle.wh_history.specs.Accepted.{Accepted, format_of}
use Rattle.wh_history.specs.Tables.{Limits}
use Rattle.wh_history.proofs.Basics.{some_is}
use Rattle.wh_rows.specs.AtRest.{AreTrees, IsAtRest, Leaves}
use Rattle.wh_rows.specs.Firsts.{last_one, part}
use Rattle.wh_rows.specs.Questions.{gives_policy}
use Rattle.wh_rows.specs.Limits.{limits_of, are_limits}
use Rattle.wh_policy.specs.declared.format.Format.{Format}
use Rattle.wh_policy.specs.declared.format.Format.TheVariants.{One, Two}
use Rattle.wh_policy.specs.Formats.{format_number, is_two}
use Rattle.wh_rows.specs.Tables.{Tables}
use Rattle.wh_rows.specs.declared.cause.Cause.{Cause}
use Rattle.wh_rows.specs.declared.rows.CommandRow.{CommandRow}
use Rattle.wh_rows.specs.declared.rows.MetaRow.{MetaRow}
use Rattle.wh_store.specs.Meta.{meta_number, number_in, format_of as format_told, limits_in}
use Rattle.wh_store.specs.Opening.{SparesStore, IsTaken, IsRefusedWith, unread}
use Rattle.wh_rows.specs.declared.table.Table.{Table}
use Rattle.wh_sql.specs.Answers.{SparesRows, SparesStore as RefusesNothing}
use Rattle.wh_sql.specs.declared.fault.ReadFault.{ReadFault}
use Rattle.wh_sql.specs.declared.fault.ReadFault.TheVariants as reading
use Rattle.wh_store.specs.declared.fault.OpenFault.{OpenFault}
use Rattle.wh_admission.specs.Admission.{current_policy, AreAdmitted}
use Rattle.wh_engine.specs.Answered.{Rests, IsReady}
use Rattle.wh_model.specs.Defined.{AreOf, meta_at}
use Rattle.wh_model.specs.Sound.{init_of}
use Rattle.wh_engine.specs.Opened.{last_policy_in, of_limits, of_policy, of_command, session_in, opened, IsAsSaid, IsRead, IsNotOpened, LeavesMaking, LeavesMade}
use Rattle.wh_model.specs.Sound.{IsAccepted}
use Rattle.wh_store.specs.declared.fault.OpenFault.TheVariants as faults
use Rattle.wh_engine.specs.declared.session.Session.{Session}
use Rattle.wh_engine.proofs.Decisions.{policy_in_force}
use Rattle.wh_plan.proofs.FoundCommands.{command_rows}
use Rattle.wh_engine.proofs.FoundPolicy.{first_taken, last_gives}

-- ---- readings in turn

-- what was said of rows that were read
pub read_of_told : {A : Type 0} (result told : Result A OpenFault) (t : Tables) (s : State) → IsAsSaid result told → ((cause : Cause) → result ≢ Err (faults.Store cause)) → IsAtRest (Some t) s → IsRead result told t s
read_of_told (Ok x) told t s is plain rests = (is, rests)
read_of_told (Err faults.NotAWarehouse) told t s is plain rests = (is, rests)
read_of_told (Err faults.OldFormat) told t s is plain rests = (is, rests)
read_of_told (Err faults.NewFormat) told t s is plain rests = (is, rests)
read_of_told (Err (faults.Damaged table)) told t s is plain rests = (is, rests)
read_of_told (Err faults.Memory) told t s is plain rests = (is, rests)
read_of_told (Err (faults.Store cause)) told t s is plain rests = absurd (plain cause refl)

-- a fault of a first reading is that of the whole
pub fault_goes_on : {A B : Type 0} (fault : OpenFault) (first : Result A OpenFault) (whole : Result B OpenFault) (t : Tables) (s : State) → ((e : OpenFault) → first ≡ Err e → whole ≡ Err e) → IsRead (Err fault) first t s → IsRead (Err fault) whole t s
fault_goes_on faults.NotAWarehouse first whole t s goes read = (goes faults.NotAWarehouse read.0, read.1)
fault_goes_on faults.OldFormat first whole t s goes read = (goes faults.OldFormat read.0, read.1)
fault_goes_on faults.NewFormat first whole t s goes read = (goes faults.NewFormat read.0, read.1)
fault_goes_on (faults.Damaged table) first whole t s goes read = (goes (faults.Damaged table) read.0, read.1)
fault_goes_on faults.Memory first whole t s goes read = read
fault_goes_on (faults.Store cause) first whole t s goes read = read

module _ (t : Tables) where
  module _ (format : Format) where
    pub limits_fault : (e : OpenFault) → of_limits (limits_in t) ≡ Err e → session_in format t ≡ Err e
    unfolding session_in
    limits_fault e is = rw is refl

    pub policy_fault : (limits : Limits) (e : OpenFault) → of_limits (limits_in t) ≡ Ok limits → of_command (last_policy_in t) ≡ Err e → session_in format t ≡ Err e
    unfolding session_in
    policy_fault limits e first is = rw (first, is) refl

    pub session_is : (limits : Limits) (policy : Policy) → of_limits (limits_in t) ≡ Ok limits → of_command (last_policy_in t) ≡ Ok policy → session_in format t ≡ Ok (record { limits = limits; format = format; policy = policy; must_reopen = false })
    unfolding session_in
    session_is limits policy first second = rw (first, second) refl

  -- ---- the format comes first

  pub format_fault : (fault : OpenFault) → format_told Two (is_two t.format) (number_in t (codes "format")) ≡ Err fault → opened t ≡ Err fault
  unfolding opened
  format_fault fault is = rw is refl

  pub format_known : (format : Format) → IsTaken Two (is_two t.format) t format → opened t ≡ session_in format t
  unfolding opened
  format_known format is = rw is refl

  pub not_opened : (old s : State) (fault : OpenFault) → IsRefusedWith Two (is_two t.format) t old s fault → Leaves (Some t) s → (SparesStore fault → IsAtRest (Some t) s) → IsRead {A = Session} (Err fault) (opened t) t s
  not_opened old s faults.NotAWarehouse refused left rests = (format_fault faults.NotAWarehouse refused, rests tt)
  not_opened old s faults.OldFormat refused left rests = (format_fault faults.OldFormat refused, rests tt)
  not_opened old s faults.NewFormat refused left rests = (format_fault faults.NewFormat refused, rests tt)
  not_opened old s (faults.Damaged table) refused left rests = absurd refused
  not_opened old s faults.Memory refused left rests = (tt, rests tt)
  not_opened old s (faults.Store cause) refused left rests = left

  -- a reading that wasn't answered, by its fault
  pub rows_unread : {A : Type 0} (why : ReadFault) (told : Result A OpenFault) (s : State) → SparesRows why → (RefusesNothing why → IsAtRest (Some t) s) → Leaves (Some t) s → IsRead (Err (unread why)) told t s
  rows_unread reading.Memory told s undamaged rests left = (tt, rests tt)
  rows_unread (reading.Damaged table) told s undamaged rests left = absurd undamaged
  rows_unread (reading.Store cause) told s undamaged rests left = left

  -- so of the limits, which are damaged where one of them is not there
  pub limits_unread : (format : Format) (why : ReadFault) (s : State) → ((table : Table) → ◌≡◌ {A = Result Limits ReadFault} (Err why) (Err (reading.Damaged table)) → (table ≡ Table.Meta) × (limits_in t ≡ None)) → (RefusesNothing why → IsAtRest (Some t) s) → Leaves (Some t) s
      → IsRead {A = Session} (Err (unread why)) (session_in format t) t s
  limits_unread format reading.Memory s said rests left = (tt, rests tt)
  limits_unread format (reading.Damaged table) s said rests left = (limits_fault format (faults.Damaged table) (ap of_limits (said table refl).1 ∙ ap (λ which. Err (faults.Damaged which)) (sym (said table refl).0)), rests tt)
  limits_unread format (reading.Store cause) s said rests left = left

same_ok : {A F : Type 0} (r : Result A F) (x y : A) → r ≡ Ok x → r ≡ Ok y → x ≡ y
same_ok r x y first second = cc

never : {A F : Type 0} {x : A} {e : F} → Ok x ≡ Err e → ⊥
never h = cc

-- a format's number says it, where its tables are there
told_back : (format : Format) → format_told Two (is_two format) (Some (pos (format_number format))) ≡ Ok format
told_back One = refl
told_back Two = refl

-- ---- the tables of accepted commands

module _ (limits : Limits) (commands : List Accepted) (t : Tables) (accepted : IsAccepted limits commands) (are : AreOf limits commands t) where
  number_there : (name : List ℕ) (row : MetaRow) → meta_at (format_of commands) limits name ≡ Some row → number_in t name ≡ Some row.value
  number_there name row is = ap meta_number (are.meta name ∙ is)

  format_there : IsTaken Two (is_two t.format) t (format_of commands)
  format_there =
      let number = pos (format_number (format_of commands)) in
      ap (format_told Two (is_two t.format)) (number_there (codes "format") (record { name = codes "format"; value = number }) refl)
      ∙ ap (λ (f : Format). format_told Two (is_two f) (Some number)) are.format ∙ told_back (format_of commands)

  limits_if : (b : Bool) → are_limits limits ≡ b → b ≡ true → limits_of limits.commands limits.changes limits.facts ≡ Some limits
  limits_if b is good = rw (is ∙ good) refl

  limits_there : limits_in t ≡ Some limits
  limits_there =
      let commands_max = number_there (codes "commands_max") (record { name = codes "commands_max"; value = pos limits.commands }) refl in
      let changes_max = number_there (codes "changes_max") (record { name = codes "changes_max"; value = pos limits.changes }) refl in
      let facts_max = number_there (codes "facts_max") (record { name = codes "facts_max"; value = pos limits.facts }) refl in
      rw (commands_max, changes_max, facts_max) (limits_if (are_limits limits) refl accepted.limited)

  -- the last command that gives a policy gives the one in force
  policy_there : of_command (last_policy_in t) ≡ Ok (current_policy commands)
  policy_there = elim (last_gives commands accepted.policies) [
    | inl none ↦ let never : None ≡ Some (current_policy commands) = sym none.1 ∙ policy_in_force commands accepted.governed in cc
    | inr found ↦
        let there : last_policy_in t ≡ Some found.0 = ap (λ (rows : List CommandRow). slice_get (part (Some last_one) (filter (λ (r : CommandRow). gives_policy r.kind) rows)) 0) (command_rows limits commands t are) ∙ first_taken _ ∙ found.2 in
        let same : found.1 ≡ current_policy commands = some_is _ _ (sym found.4 ∙ policy_in_force commands accepted.governed) in
        ap of_command there ∙ ap of_policy found.3 ∙ ap Ok same
  ]

  pub opened_there : opened t ≡ Ok (record { limits = limits; format = format_of commands; policy = current_policy commands; must_reopen = false })
  opened_there = format_known t (format_of commands) format_there ∙ session_is t (format_of commands) limits (current_policy commands) (ap of_limits limits_there) policy_there

  -- it is opened ready
  pub opened_ready : AreAdmitted limits commands → (session : Session) (s : State) → opened t ≡ Ok session → IsAtRest (Some t) s → IsReady limits commands session s
  opened_ready admitted session s is rests =
      let same : record { limits = limits; format = format_of commands; policy = current_policy commands; must_reopen = false } ≡ session = same_ok (opened t) _ session opened_there is in
      record { admitted = admitted; rests = record { tables = t; are = are; rests = rests }; session_is = sym same }

  -- and refused by the store, or because memory ran out, alone
  pub opened_refused : (fault : OpenFault) (s : State) → IsRead {A = Session} (Err fault) (opened t) t s → IsNotOpened limits commands fault s
  opened_refused faults.Memory s read = record { tables = t; are = are; rests = read.1 }
  opened_refused (faults.Store cause) s read = record { each = λ trees may. inl (record { tables = t; are = are; trees_are = read.each trees may }) }
  opened_refused faults.NotAWarehouse s read = absurd (never (sym opened_there ∙ read.0))
  opened_refused faults.OldFormat s read = absurd (never (sym opened_there ∙ read.0))
  opened_refused faults.NewFormat s read = absurd (never (sym opened_there ∙ read.0))
  opened_refused (faults.Damaged table) s read = absurd (never (sym opened_there ∙ read.0))

-- ---- a making that was kept, or wasn't

pub rests_if_kept : {X : Type 0} (limits : Limits) (commands : List Accepted) (s : State) (t : Tables) → AreOf limits commands t → (result : Result X Cause) → OnOk result (IsAtRest (Some t) s) → OnOk result (Rests limits commands s)
rests_if_kept limits commands s t are (Ok done) rests = record { tables = t; are = are; rests = rests }
rests_if_kept limits commands s t are (Err cause) rests = tt

pub leaves_making : (limits : Limits) (policy : Policy) (bytes : List ℕ) (s : State) (t : Tables) → AreOf limits (init_of policy bytes ∷ []) t → ((trees : Trees) → s.may_leave trees → AreTrees None trees ⊎ AreTrees (Some t) trees) → LeavesMaking limits policy bytes s
leaves_making limits policy bytes s t are left = record {
  each = λ trees may. elim (left trees may) [
    | inl before ↦ inl before
    | inr made ↦ inr (record { tables = t; are = are; trees_are = made })
  ];
}

pub leaves_made : (limits : Limits) (policy : Policy) (bytes : List ℕ) (s : State) → read_policy bytes ≡ Ok policy → LeavesMaking limits policy bytes s → LeavesMade limits bytes s
leaves_made limits policy bytes s written left = record {
  each = λ trees may. elim (left.each trees may) [
    | inl before ↦ inl before
    | inr made ↦ inr (policy, written, made)
  ];
}

pub leaves_nothing : (limits : Limits) (bytes : List ℕ) (s : State) → IsAtRest None s → LeavesMade limits bytes s
leaves_nothing limits bytes s rests = record { each = λ trees may. inl (rests.left.each trees may) }

pub made_ready : (limits : Limits) (policy : Policy) (bytes : List ℕ) (s : State) → are_limits limits ≡ true → read_policy bytes ≡ Ok policy → Rests limits (init_of policy bytes ∷ []) s
    → IsReady limits (init_of policy bytes ∷ []) (record { limits = limits; format = One; policy = policy; must_reopen = false }) s
made_ready limits policy bytes s limited written rests = record {
  admitted = record { limited = limited; policy = policy; bytes = bytes; written = written; sent = []; admitted = refl };
  rests = rests;
  session_is = refl;
}
