-- What opening a warehouse answers.
use Rattle.std.specs.Prelude.{◌≡◌, Bool, [], ◌∷◌, Result, Ok, Err, IfErr, ⊤, codes}
use Rattle.sqlite_value.specs.declared.value.Value.TheVariants.{Text}
use Rattle.sqlite.specs.State.{State}
use Rattle.wh_policy.specs.declared.format.Format.{Format}
use Rattle.wh_rows.specs.Tables.{Tables}
use Rattle.wh_rows.specs.Texts as texts
use Rattle.wh_sql.specs.Refused.{IsCauseOfQuery}
use Rattle.sqlite.specs.Held.{Held, state}
use Rattle.sqlite_trees.specs.declared.store.Store.{Ghosts}
use Rattle.wh_rows.specs.Raw.{Stored}
use Rattle.wh_sql.specs.Answers.{SaysAtRest, SaysAsStored}
use Rattle.wh_sql.specs.Present.{has_tables, has_second}
use Rattle.wh_sql.specs.declared.fault.ReadFault.{ReadFault}
use Rattle.wh_sql.specs.declared.fault.ReadFault.TheVariants as reading
use Rattle.wh_sql.specs.declared.at_rest.Tables.{Tables as Opened}
use Rattle.wh_store.specs.declared.fault.OpenFault.{OpenFault}
use Rattle.wh_store.specs.declared.fault.OpenFault.TheVariants.{Memory, Damaged, Store}
use Rattle.wh_store.specs.Meta.{number_in, format_of}

-- it is taken for a warehouse of this format, by the newest format that is known, and where the tables of the second are there or not
abbrev pub IsTaken : Format → Bool → Tables → Format → Type 0
IsTaken newest second t format = format_of newest second (number_in t (codes "format")) ≡ Ok format

-- why rows weren't read, as why a warehouse isn't opened
abbrev pub unread : ReadFault → OpenFault
unread reading.Memory = Memory
unread (reading.Damaged table) = Damaged table
unread (reading.Store cause) = Store cause

-- the database refused nothing
abbrev pub SparesStore : OpenFault → Type 0
SparesStore (Store cause) = ⊥
SparesStore fault = ⊤

-- there is an answer, or a fault for which the database refused no call
abbrev pub IsServed : {A : Type 0} → Result A OpenFault → Type 0
IsServed result = IfErr result SparesStore

-- It is refused with this fault: memory ran out; or the database refused to show the format; or it is the format's fault. No row of a warehouse is damaged.
abbrev pub IsRefusedWith : Format → Bool → Tables → State → State → OpenFault → Type 0
IsRefusedWith newest second t old new Memory = ⊤
IsRefusedWith newest second t old new (Store cause) = IsCauseOfQuery texts.meta.get (Text (codes "format") ∷ []) old new cause
IsRefusedWith newest second t old new (Damaged table) = ⊥
IsRefusedWith newest second t old new fault = format_of newest second (number_in t (codes "format")) ≡ Err fault

-- the connection that opening leaves
abbrev pub connection_after : {S : Type 0} → Result (Opened S × Format) (OpenFault × Held S) → Held S
connection_after (Ok opened) = opened.0.conn
connection_after (Err e) = e.1

-- what is so where the database of a connection that is opened had these tables at rest, and where this was stored in it
abbrev pub FoundAtRest : {S : Type 0} → Ghosts S → Held S → Result (Opened S × Format) (OpenFault × Held S) → (Tables → Type 0) → Type 0
FoundAtRest g conn result fact = SaysAtRest (state g conn) (state g (connection_after result)) fact

abbrev pub FoundStored : {S : Type 0} → Ghosts S → Held S → Result (Opened S × Format) (OpenFault × Held S) → (Stored → Type 0) → Type 0
FoundStored g conn result fact = SaysAsStored (state g conn) (state g (connection_after result)) fact

-- whether it has the ten tables of both formats, and the two of the second, with their columns
abbrev pub has_ten : {S : Type 0} → Ghosts S → Held S → Bool
has_ten g conn = has_tables (state g conn).now.schema

abbrev pub has_two : {S : Type 0} → Ghosts S → Held S → Bool
has_two g conn = has_second (state g conn).now.schema
