-- From tables in memory to a verdict.
use Rattle.std.specs.Prelude.{◌≡◌, ⊤, Bool, List}
use Rattle.wh_history.specs.Accepted.{Accepted}
use Rattle.wh_history.specs.Tables.{Limits}
use Rattle.wh_rows.specs.Raw.{Stored, HasDamageIn}
use Rattle.wh_rows.specs.declared.table.Table.{Table}
use Rattle.wh_sql.specs.declared.fault.ReadFault.{ReadFault}
use Rattle.wh_sql.specs.declared.fault.ReadFault.TheVariants.{Memory, Damaged, Store}
use Rattle.wh_admission.specs.Checked.{IsDefined}
use Rattle.wh_checking.specs.Compared.{IsSoOrNot}

-- the table stores what the commands define; or it doesn't, and none of its rows is damaged
abbrev pub IsDefinedIn : Limits → List Accepted → Stored → Table → Bool → Type 0
IsDefinedIn limits commands stored table = IsSoOrNot (IsDefined limits commands stored table) (HasDamageIn stored table)

-- Damaged names this table, and one of its rows is damaged
abbrev pub IsOfDamageIn : Stored → Table → ReadFault → Type 0
IsOfDamageIn stored table Memory = ⊤
IsOfDamageIn stored table (Damaged which) = (which ≡ table) × HasDamageIn stored table
IsOfDamageIn stored table (Store why) = ⊤
