-- Tables and their names.
use Rattle.std.proofs.Common.{◌≡◌, ℕ, List, Option, Some, None, IfSome, refl, sym}
use Rattle.std.specs.Str.{bytes_eq}
use Rattle.wh_policy.proofs.WrittenLemmas.{same_bytes}
use Rattle.wh_history.proofs.Basics.{find_passes}
use Rattle.wh_rows.specs.declared.table.Table.{Table}
use Rattle.wh_rows.specs.declared.table.Table.TheVariants.{Meta, Command, Member, Change, Product, Store, Customer, Profile, Calendar, Fact, Fact2, Void}
use Rattle.wh_rows.specs.Names.{table_name, table_of_name, every_table}

named : (name : List ℕ) (found : Option Table) → table_of_name name ≡ found → IfSome found (λ table. table_name table ≡ name)
named name None is = tt
named name (Some table) is = sym (same_bytes name (table_name table) (find_passes (λ t. bytes_eq name (table_name t)) table every_table is))

-- what a name finds has it
pub named_so : (name : List ℕ) → IfSome (table_of_name name) (λ table. table_name table ≡ name)
named_so name = named name (table_of_name name) refl

-- a table is found by its name
pub named_back : (table : Table) → table_of_name (table_name table) ≡ Some table
named_back Meta = refl
named_back Command = refl
named_back Member = refl
named_back Change = refl
named_back Product = refl
named_back Store = refl
named_back Customer = refl
named_back Profile = refl
named_back Calendar = refl
named_back Fact = refl
named_back Fact2 = refl
named_back Void = refl
