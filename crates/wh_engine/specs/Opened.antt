-- Making a warehouse, and opening one.
use Rattle.std.specs.Prelude.{◌≡◌, ◌⊎◌, ℕ, codes, List, [], ◌∷◌, filter, slice_get, Bool, true, false, Option, Some, None, Result, Ok, Err, IfOk, IfErr, IsOk, ⊤}
use Rattle.std.specs.FinMap.{values}
use Rattle.sqlite_trees.specs.declared.store.Store.{Ghosts}
use Rattle.sqlite.specs.Held.{Held, state}
use Rattle.sqlite.specs.Tree.{Trees}
use Rattle.sqlite.specs.State.{State, HasCleanDisk}
use Rattle.sqlite.specs.Order.{Row}
use Rattle.wh_day.specs.Reading.{◌>>=◌}
use Rattle.wh_policy.specs.Policy.{read_policy}
use Rattle.wh_policy.specs.declared.fault.PolicyFault.{PolicyFault}
use Rattle.wh_policy.specs.declared.policy.Policy.{Policy}
use Rattle.wh_history.specs.Accepted.{Accepted}
use Rattle.wh_history.specs.Tables.{Limits}
use Rattle.wh_rows.specs.AtRest.{AreTrees, IsAtRest, Leaves}
use Rattle.wh_policy.specs.declared.format.Format.{Format}
use Rattle.wh_policy.specs.Formats.{is_two}
use Rattle.wh_rows.specs.Tables.{Tables}
use Rattle.wh_rows.specs.Rows as row
use Rattle.wh_rows.specs.Firsts.{last_one, part}
use Rattle.wh_rows.specs.Raw.{Stored, AreAsked, HasAskedDamage}
use Rattle.wh_rows.specs.Questions.{gives_policy, has_policy}
use Rattle.wh_rows.specs.declared.rows.CommandRow.{CommandRow}
use Rattle.wh_rows.specs.declared.table.Table.TheVariants as tables
use Rattle.wh_admission.specs.Admission.{AreAdmitted}
use Rattle.wh_store.specs.Meta.{number_in, format_of, limits_in}
use Rattle.wh_sql.specs.Answers.{state_of}
use Rattle.wh_store.specs.Raw.{FormatIs, LimitsAre, IsRefusedOn, IsLimitless}
use Rattle.wh_sql.specs.declared.fault.ReadFault.TheVariants as reading
use Rattle.wh_store.specs.declared.fault.OpenFault.{OpenFault}
use Rattle.wh_engine.specs.Answered.{Rests, AreTreesOf, LeavesOneOf}
use Rattle.wh_model.specs.Sound.{init_of}
use Rattle.wh_engine.specs.declared.engine.Engine.{Engine}
use Rattle.wh_engine.specs.declared.opening.InitFault.{InitFault}
use Rattle.wh_engine.specs.declared.opening.InitFault.TheVariants as init
use Rattle.wh_store.specs.declared.fault.OpenFault.TheVariants as faults
use Rattle.wh_engine.specs.declared.session.Session.{Session}
use Rattle.wh_policy.specs.declared.format.Format.TheVariants.{Two}

-- what is so where the tables of commands were at rest
abbrev pub WhenAdmitted : State → State → (Limits → List Accepted → State → Type 0) → Type 0
WhenAdmitted old new fact = HasCleanDisk new → (limits : Limits) (commands : List Accepted) → AreAdmitted limits commands → Rests limits commands old → fact limits commands new

-- where the database held nothing
abbrev pub WhenNothing : State → State → Type 0 → Type 0
WhenNothing old new fact = HasCleanDisk new → IsAtRest None old → fact

-- what an opened engine says of the states before and after, and what a connection says that is handed back with a fault
abbrev pub IfOpened : {S F : Type 0} → Ghosts S → Held S → Result (Engine S) (F × Held S) → (State → State → Engine S → Type 0) → Type 0
IfOpened g conn result fact = IfOk result (λ engine. fact (state g conn) (state_of g engine.tables) engine)

abbrev pub IfHandedBack : {S F : Type 0} → Ghosts S → Held S → Result (Engine S) (F × Held S) → (State → State → F → Type 0) → Type 0
IfHandedBack g conn result fact = IfErr result (λ e. fact (state g conn) (state g e.1) e.0)

-- the last command that gives a policy, where one does
abbrev pub last_policy_in : Tables → Option CommandRow
last_policy_in t = slice_get (part (Some last_one) (filter (λ r. gives_policy r.kind) (values t.command))) 0

-- the limits, or meta is damaged
abbrev pub of_limits : Option Limits → Result Limits OpenFault
of_limits (Some limits) = Ok limits
of_limits None = Err (faults.Damaged tables.Meta)

-- the policy that a command's bytes give, or command is damaged
abbrev pub of_policy : Result Policy PolicyFault → Result Policy OpenFault
of_policy (Ok policy) = Ok policy
of_policy (Err fault) = Err (faults.Damaged tables.Command)

abbrev pub of_command : Option CommandRow → Result Policy OpenFault
of_command (Some row) = of_policy (read_policy row.bytes)
of_command None = Err (faults.Damaged tables.Command)

-- What an engine has to know of tables of this format that are opened, or the first fault that is met.
unfoldable pub session_in : Format → Tables → Result Session OpenFault
session_in format t =
    of_limits (limits_in t) >>= λ limits. of_command (last_policy_in t) >>= λ policy. Ok (record { limits = limits; format = format; policy = policy; must_reopen = false })

unfoldable pub opened : Tables → Result Session OpenFault
opened t = format_of Two (is_two t.format) (number_in t (codes "format")) >>= λ format. session_in format t

-- what was read is what the bytes say, or memory ran out
abbrev pub IsAsSaid : {A : Type 0} → Result A OpenFault → Result A OpenFault → Type 0
IsAsSaid (Err faults.Memory) said = Unit {0}
IsAsSaid result said = said ≡ result

-- What was read of tables at rest is what they say, or the first fault that is met, or memory ran out, and nothing changed; or the store
-- refused a call, and a crash leaves what was held.
abbrev pub IsRead : {A : Type 0} → Result A OpenFault → Result A OpenFault → Tables → State → Type 0
IsRead (Err (faults.Store cause)) said t s = Leaves (Some t) s
IsRead result said t s = IsAsSaid result said × IsAtRest (Some t) s

-- ---- the same of any stored rows

-- the stored rows of commands that give a policy
abbrev pub policies_stored : Stored → List Row
policies_stored stored = filter has_policy (stored.rows tables.Command)

-- the last of them isn't damaged, and this is what it gives, or they are none
abbrev pub PolicyIs : Stored → Result Policy OpenFault → Type 0
PolicyIs stored policy = (last : List CommandRow) × AreAsked (Some last_one) row.command (policies_stored stored) last × (of_command (slice_get last 0) ≡ policy)

-- there is no policy in force, with this fault: the last of them gives none, or they are none, or the last is damaged; or memory ran out, or the database
-- refused a call
abbrev pub IsPolicyless : Stored → OpenFault → Type 0
IsPolicyless stored faults.Memory = ⊤
IsPolicyless stored (faults.Store cause) = ⊤
IsPolicyless stored (faults.Damaged table) = (table ≡ tables.Command) × (PolicyIs stored (Err (faults.Damaged tables.Command)) ⊎ HasAskedDamage (Some last_one) row.command (policies_stored stored))
IsPolicyless stored fault = ⊥

-- what an engine has to know of what is stored
abbrev pub SessionIs : Stored → Session → Type 0
SessionIs stored session =
    FormatIs Two (is_two stored.format) stored (Ok session.format) × LimitsAre stored (Some session.limits) × PolicyIs stored (Ok session.policy) × (session.must_reopen ≡ false)

-- it can't be known, with this fault: the limits are refused; or they are good, and there is no policy
abbrev pub IsSessionless : Stored → OpenFault → Type 0
IsSessionless stored faults.Memory = ⊤
IsSessionless stored (faults.Store cause) = ⊤
IsSessionless stored (faults.Damaged table) = IsLimitless stored (reading.Damaged table) ⊎ ((limits : Limits) × LimitsAre stored (Some limits) × IsPolicyless stored (faults.Damaged table))
IsSessionless stored fault = ⊥

-- what is stored isn't opened, with this fault: the format is why; or it is known, and the session can't be known
abbrev pub IsUnopened : Stored → OpenFault → Type 0
IsUnopened stored faults.Memory = ⊤
IsUnopened stored (faults.Store cause) = ⊤
IsUnopened stored (faults.Damaged table) = IsRefusedOn Two (is_two stored.format) stored (faults.Damaged table) ⊎ (((format : Format) × FormatIs Two (is_two stored.format) stored (Ok format)) × IsSessionless stored (faults.Damaged table))
IsUnopened stored fault = IsRefusedOn Two (is_two stored.format) stored fault

-- ---- a warehouse

-- A warehouse that wasn't opened: memory ran out, and nothing changed; or the database refused a call, and a crash leaves its tables. No other fault comes.
abbrev pub IsNotOpened : Limits → List Accepted → OpenFault → State → Type 0
IsNotOpened limits commands faults.Memory s = Rests limits commands s
IsNotOpened limits commands (faults.Store cause) s = LeavesOneOf limits commands commands s
IsNotOpened limits commands fault s = ⊥

-- a crash leaves a database with no object in it, or the tables of the making
pub record LeavesMaking (limits : Limits) (policy : Policy) (bytes : List ℕ) (s : State) : Type 0 where
  pub each : (trees : Trees) → s.may_leave trees → AreTrees None trees ⊎ AreTreesOf limits (init_of policy bytes ∷ []) trees

-- a crash leaves a database with no object in it, or, where the bytes give a policy, the tables of the making
pub record LeavesMade (limits : Limits) (bytes : List ℕ) (s : State) : Type 0 where
  pub each : (trees : Trees) → s.may_leave trees → AreTrees None trees ⊎ ((policy : Policy) × (read_policy bytes ≡ Ok policy) × AreTreesOf limits (init_of policy bytes ∷ []) trees)

-- Why no warehouse was made: the bytes' first fault; or the bytes give a policy, and a name of the twelve tables is taken; or memory ran out; or the
-- bytes give a policy, and the database refused a call.
abbrev pub IsNotMade : List ℕ → Bool → InitFault → Type 0
IsNotMade bytes taken (init.Policy fault) = read_policy bytes ≡ Err fault
IsNotMade bytes taken init.NotEmpty = IsOk (read_policy bytes) × (taken ≡ true)
IsNotMade bytes taken init.Memory = Unit {0}
IsNotMade bytes taken (init.Store cause) = IsOk (read_policy bytes)

-- what is answered before anything is written
abbrev pub NothingIsWritten : InitFault → Type 0
NothingIsWritten (init.Policy fault) = Unit {0}
NothingIsWritten init.NotEmpty = Unit {0}
NothingIsWritten init.Memory = Unit {0}
NothingIsWritten (init.Store cause) = ⊥
