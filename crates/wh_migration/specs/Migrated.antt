-- The members of a warehouse, shown anew under a policy that takes the place of another.
use Rattle.std.specs.Prelude.{◌≡◌, ℕ, List, map, option_map, unwrap_or, ◌++◌, flat_map, filter_map}
use Rattle.wh_policy.specs.declared.attribute.Dim.{Dim}
use Rattle.wh_policy.specs.declared.attribute.Dim.TheVariants.{Product, Store, Customer}
use Rattle.wh_history.specs.Accepted.{Accepted, types_in, members, member_of, profiles_of}
use Rattle.wh_history.specs.Facts.{keys_on, rekeyed_to}
use Rattle.wh_history.specs.Keys.{at_place}
use Rattle.wh_history.specs.Known.{number_in, all_numbered}
use Rattle.wh_history.specs.Picked.{first_rows}
use Rattle.wh_history.specs.Plan.{IsRowPlan}
use Rattle.wh_history.specs.Shapes.{Shape, RenderedMember, shape_of, shape_rows, rendered_in, shown}
use Rattle.wh_history.specs.Tables.{dimension_row}
use Rattle.wh_history.specs.declared.dimension.DimensionShape.{DimensionShape}
use Rattle.wh_history.specs.declared.facts.Fact.{Fact}
use Rattle.wh_history.specs.declared.facts.FactKeys.{FactKeys}
use Rattle.wh_history.specs.declared.facts.MemberKeys.{MemberKeys}
use Rattle.wh_history.specs.declared.member.Member.{Member}
use Rattle.wh_history.specs.declared.profiles.NumberedProfile.{NumberedProfile}
use Rattle.wh_history.specs.declared.rows.DimRow.{DimRow}
use Rattle.wh_model.specs.Defined.{fact_at}
use Rattle.wh_plan.specs.Edits.{IsFactPlan}
use Rattle.wh_migration.specs.Migration.{IsRenumbered}
use Rattle.wh_plan.specs.SoldMembers.{no_keys}
use Rattle.wh_migration.specs.declared.all_members.DimensionMembers.{DimensionMembers}
use Rattle.wh_migration.specs.declared.all_members.WarehouseMembers.{WarehouseMembers}
use Rattle.wh_migration.specs.declared.migrated.MigratedTables.{MigratedTables}
use Rattle.wh_migration.specs.declared.migrated.ShownDimension.{ShownDimension}
use Rattle.wh_migration.specs.declared.migrated.ShownDimensions.{ShownDimensions}
use Rattle.wh_migration.specs.declared.migration_plan.MigratedMembers.{MigratedMembers}

-- all members of a dimension, in order of their durable keys
abbrev pub all_members : Dim → List Accepted → List Member
all_members dim commands = map (member_of dim commands) (members dim commands)

-- what was read of a dimension are all its members, and the types of its slots under the policy in force
pub record AreDimensionMembers (dim : Dim) (commands : List Accepted) (read : DimensionMembers) : Type 0 where
  pub dim_is : read.dim ≡ dim
  pub types_are : read.types.items ≡ types_in dim commands
  pub members_are : read.members.items ≡ all_members dim commands

-- so it is of all three
pub record AreWarehouseMembers (commands : List Accepted) (read : WarehouseMembers) : Type 0 where
  pub products : AreDimensionMembers Product commands read.products
  pub stores : AreDimensionMembers Store commands read.stores
  pub customers : AreDimensionMembers Customer commands read.customers

-- members are shown under the policy in force: all of a dimension, by the types of its slots and the numbers of all profiles
pub record IsMigrated (commands : List Accepted) (d : DimensionShape) (ms : List Member) : Type 0 where
  pub types_are : d.types.now ≡ types_in d.dim commands
  pub profiles_are : d.profiles.now ≡ all_numbered (profiles_of commands)
  pub members_are : ms ≡ all_members d.dim commands

-- the edits lead from the rows of the dimensions and the facts under some commands to those under others
pub record ArePlannedAnew (before after : List Accepted) (planned : MigratedTables) : Type 0 where
  pub products : IsRowPlan (dimension_row before Product) (dimension_row after Product) planned.products.items
  pub stores : IsRowPlan (dimension_row before Store) (dimension_row after Store) planned.stores.items
  pub customers : IsRowPlan (dimension_row before Customer) (dimension_row after Customer) planned.customers.items
  pub facts : IsFactPlan (fact_at before) (fact_at after) planned.facts.items

-- the rows of a dimension's table: those of each member, one member after the other, after that of sales without a card
abbrev pub all_rows : Shape → List Member → List DimRow
all_rows shape ms = first_rows shape.dim shape.kinds ++ flat_map (shape_rows shape) ms

-- members, and how their dimension shows them
pub record Showing : Type 0 where
  pub shape : Shape
  pub list : List RenderedMember

abbrev pub showing : ShownDimension → Showing
showing d = record { shape = shape_of d.dimension; list = map shown d.members.items }

-- they are the members that were read, by the types of their slots and what is known of profiles
pub record AreShown (read : DimensionMembers) (known : List NumberedProfile) (s : Showing) : Type 0 where
  pub shape_is : s.shape ≡ record { dim = read.dim; kinds = read.types.items; number = number_in known }
  pub list_is : s.list ≡ map (rendered_in s.shape) read.members.items

-- so it is of all three
pub record AreAllShown (read : WarehouseMembers) (known : List NumberedProfile) (d : ShownDimensions) : Type 0 where
  pub products : AreShown read.products known (showing d.products)
  pub stores : AreShown read.stores known (showing d.stores)
  pub customers : AreShown read.customers known (showing d.customers)

-- what the member with a durable key gives a fact of a day; where there is none all is 0
abbrev pub keys_given : Showing → ℕ → ℕ → MemberKeys
keys_given s durable day = unwrap_or (option_map (λ m. keys_on s.shape m day) (at_place durable s.list)) no_keys

-- the keys of a fact by what its members give it
abbrev pub keys_by : MemberKeys → MemberKeys → MemberKeys → FactKeys
keys_by store product customer = record { store_key = store.key; product_key = product.key; customer_key = customer.key; profile = customer.profile }

abbrev pub keys_anew : ShownDimensions → Fact → FactKeys
keys_anew d f = keys_by (keys_given (showing d.stores) f.store_durable f.day) (keys_given (showing d.products) f.product_durable f.day) (keys_given (showing d.customers) f.customer_durable f.day)

-- of some facts those whose keys change, with the new ones
abbrev pub moved_anew : ShownDimensions → List Fact → List Fact
moved_anew d facts = filter_map (λ f. rekeyed_to f (keys_anew d f)) facts

-- what was read to be shown anew are all members, and the profiles under the numbers that they have after a command
pub record IsShownAnew (before after : List Accepted) (anew : MigratedMembers) : Type 0 where
  pub members : AreWarehouseMembers after anew.members
  pub profiles : IsRenumbered before after anew.profiles
