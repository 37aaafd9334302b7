-- Faults of an engine, and what they say of the tables.
use Rattle.std.specs.Prelude.{◌≡◌, Bool, true, false, Result, Ok, Err, IsTrue, IfErr, ⊤}
use Rattle.wh_day.specs.declared.error.ParseError.{ParseError}
use Rattle.wh_day.specs.declared.error.ParseError.TheVariants as unread
use Rattle.wh_rows.specs.Raw.{Stored, HasDamageIn}
use Rattle.wh_rows.specs.declared.table.Table.{Table}
use Rattle.wh_sql.specs.declared.fault.ReadFault.{ReadFault}
use Rattle.wh_sql.specs.declared.fault.ReadFault.TheVariants as reading
use Rattle.wh_admission.specs.declared.command.Refusal.{Refusal}
use Rattle.wh_admission.specs.declared.command.Refusal.TheVariants.{NameTaken}
use Rattle.wh_engine.specs.declared.fault.Fault.{Fault}
use Rattle.wh_engine.specs.declared.fault.Fault.TheVariants as faults

-- why rows weren't read, as a fault
abbrev pub of_reading : ReadFault → Fault
of_reading reading.Memory = faults.Memory
of_reading (reading.Damaged table) = faults.Damaged table
of_reading (reading.Store cause) = faults.Store cause

-- why it isn't known what a command says, as a fault
abbrev pub of_content : ParseError Refusal → Fault
of_content unread.Memory = faults.Memory
of_content (unread.Fault why) = faults.Refused why

-- no call of the database was refused
abbrev pub SparesStore : Fault → Type 0
SparesStore (faults.Store cause) = ⊥
SparesStore fault = ⊤

-- there is an answer, or a fault for which the database refused no call
abbrev pub IsServed : {A : Type 0} → Result A Fault → Type 0
IsServed result = IfErr result SparesStore

-- the database refused a call
abbrev pub stops : {A : Type 0} → Result A Fault → Bool
stops (Ok answer) = false
stops (Err (faults.Refused why)) = false
stops (Err (faults.Damaged table)) = false
stops (Err faults.Memory) = false
stops (Err (faults.Store cause)) = true
stops (Err faults.Reopen) = false

-- the table that is blamed stores a damaged row
abbrev pub NamesDamage : Stored → Fault → Type 0
NamesDamage stored (faults.Damaged table) = HasDamageIn stored table
NamesDamage stored fault = ⊤

abbrev pub BlamesDamage : {A : Type 0} → Stored → Result A Fault → Type 0
BlamesDamage stored result = IfErr result (NamesDamage stored)

-- it is this table that is named as damaged
abbrev pub NamesTable : Table → Fault → Type 0
NamesTable table (faults.Refused why) = ⊤
NamesTable table (faults.Damaged which) = which ≡ table
NamesTable table faults.Memory = ⊤
NamesTable table (faults.Store cause) = ⊤
NamesTable table faults.Reopen = ⊤

-- it isn't one of the answers that are given before any work
abbrev pub ComesOfWork : Fault → Type 0
ComesOfWork faults.Reopen = ⊥
ComesOfWork fault = ⊤

abbrev pub IsWorkedOut : {A : Type 0} → Result A Fault → Type 0
IsWorkedOut result = IfErr result ComesOfWork

-- that a name of the second format is taken is told only where this is so
abbrev pub NamesTaken : Bool → Fault → Type 0
NamesTaken taken (faults.Refused NameTaken) = IsTrue taken
NamesTaken taken fault = ⊤

abbrev pub TellsTaken : {A : Type 0} → Bool → Result A Fault → Type 0
TellsTaken taken result = IfErr result (NamesTaken taken)

-- The answer is that of the definition; or memory ran out, or the database refused a call. Nothing else comes.
abbrev pub Judges : {X Y : Type 0} → (X → Y → Type 0) → Result X Fault → Result Y Refusal → Type 0
Judges fits (Ok x) (Ok y) = fits x y
Judges fits (Ok x) (Err why) = ⊥
Judges fits (Err (faults.Refused why)) judged = judged ≡ Err why
Judges fits (Err faults.Memory) judged = ⊤
Judges fits (Err (faults.Store cause)) judged = ⊤
Judges fits (Err fault) judged = ⊥
