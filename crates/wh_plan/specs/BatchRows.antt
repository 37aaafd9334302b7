-- The rows that a batch brings, before they are the edits of the tables.
use Rattle.std.specs.Prelude.{◌≡◌, ℕ, suc, ◌-◌, List, [], ◌∷◌, ◌++◌, length, map, filter_map, find, if◌then◌else◌, bytes_eq, ◌≢◌, ◌==◌, ◌&&◌, Bool, Option, Some, None}
use Rattle.std.specs.List.{range_with_len, AllByRecursion, IsDistinct}
use Rattle.std.specs.Option.{option_or}
use Rattle.wh_policy.specs.declared.attribute.Dim.{Dim}
use Rattle.wh_policy.specs.declared.attribute.Dim.TheVariants.{Product, Store, Customer}
use Rattle.wh_policy.specs.declared.record.SaleRecord.{SaleRecord}
use Rattle.wh_history.specs.Accepted.{Accepted, same_dim, members, profiles_of, records_by}
use Rattle.wh_history.specs.Tables.{dimension_row}
use Rattle.wh_history.specs.Plan.{IsRowPlan}
use Rattle.wh_history.specs.declared.plan.Edit.{Edit}
use Rattle.wh_history.specs.declared.rows.DimRow.{DimRow}
use Rattle.wh_history.specs.declared.facts.Fact.{Fact}
use Rattle.wh_rows.specs.declared.rows.CommandRow.{CommandRow}
use Rattle.wh_rows.specs.declared.rows.MemberRow.{MemberRow}
use Rattle.wh_rows.specs.declared.rows.ChangeRow.{ChangeRow}
use Rattle.wh_rows.specs.declared.rows.ProfileRow.{ProfileRow}
use Rattle.wh_rows.specs.declared.key.MemberKey.{MemberKey}
use Rattle.wh_rows.specs.declared.key.LineKey.{LineKey}
use Rattle.wh_rows.specs.Rows as row
use Rattle.wh_plan.specs.declared.edits.FactEdit.{FactEdit}
use Rattle.wh_model.specs.Defined.{command_at, member_at, change_at, profile_at, fact_at, void_at}
use Rattle.wh_plan.specs.Edits.{IsFactPlan}

-- its own row, those of the members that it is the first to mention, of its records and of new profiles, the edits of facts, and those of the rows of the three dimensions
pub record BatchRows : Type 0 where
  pub command : CommandRow
  pub members : List MemberRow
  pub changes : List ChangeRow
  pub profiles : List ProfileRow
  pub facts : List FactEdit
  pub products : List (Edit DimRow ℕ)
  pub stores : List (Edit DimRow ℕ)
  pub customers : List (Edit DimRow ℕ)

-- those of the rows of a dimension
abbrev pub rows_brought : Dim → BatchRows → List (Edit DimRow ℕ)
rows_brought Product rows = rows.products
rows_brought Store rows = rows.stores
rows_brought Customer rows = rows.customers

-- with other edits of one dimension's rows
abbrev pub with_rows : Dim → List (Edit DimRow ℕ) → BatchRows → BatchRows
with_rows dim edits rows = record rows {
  products = if same_dim Product dim then edits else rows.products;
  stores = if same_dim Store dim then edits else rows.stores;
  customers = if same_dim Customer dim then edits else rows.customers;
}

-- the numbers after a number, up to another
abbrev pub numbers_after : ℕ → ℕ → List ℕ
numbers_after number upto = range_with_len (suc number) (upto - number)

-- the keys of the members of a dimension that the later list has and the earlier one hasn't
abbrev pub members_behind : List Accepted → List Accepted → Dim → List MemberKey
members_behind before after dim = map (λ n. record { dim = dim; durable = n }) (numbers_after (length (members dim before)) (length (members dim after)))

-- those of all dimensions
abbrev pub new_members : List Accepted → List Accepted → List MemberKey
new_members before after = members_behind before after Product ++ members_behind before after Store ++ members_behind before after Customer

-- a sale's line is new: no fact stands at it, and none was withdrawn from it
abbrev pub IsNewLine : List Accepted → SaleRecord → Type 0
IsNewLine commands s = (fact_at commands (record { ticket = s.ticket; line = s.line }) ≡ None) × (void_at commands (record { ticket = s.ticket; line = s.line }) ≡ None)

-- a fact has this key
abbrev pub has_line : LineKey → Fact → Bool
has_line key f = bytes_eq f.ticket key.ticket && (f.line == key.line)

-- The facts are exactly what leads from one table of facts to another: put at their keys they do, each differs from what stands there, and no two have one key.
pub record AreFacts (before after : LineKey → Option Fact) (facts : List Fact) : Type 0 where
  pub lead : (key : LineKey) → option_or (find (has_line key) facts) (before key) ≡ after key
  pub needed : AllByRecursion (λ f. before (row.fact.key f) ≢ Some f) facts
  pub once : IsDistinct (λ f. has_line (row.fact.key f)) facts

-- each is a stored fact with other keys
abbrev pub AreRekeyed : (LineKey → Option Fact) → List Fact → Type 0
AreRekeyed before facts = AllByRecursion (λ f. (old : Fact) × (before (row.fact.key f) ≡ Some old) × (f ≡ record old { keys = f.keys })) facts

-- The rows are those of the keys that the tables of the list with the command have and those of the list so far haven't, and the edits those that the other tables need.
pub record AreBatchRows (before : List Accepted) (c : Accepted) (brought : BatchRows) : Type 0 where
  pub command : command_at (before ++ c ∷ []) (suc (length before)) ≡ Some brought.command
  pub members : brought.members ≡ filter_map (member_at (before ++ c ∷ [])) (new_members before (before ++ c ∷ []))
  pub changes : brought.changes ≡ filter_map (λ n. change_at (before ++ c ∷ []) (record { command = length (before ++ c ∷ []); place = n })) (numbers_after 0 (records_by c.content))
  pub rows : (dim : Dim) → IsRowPlan (dimension_row before dim) (dimension_row (before ++ c ∷ []) dim) (rows_brought dim brought)
  pub profiles : brought.profiles ≡ filter_map (profile_at (before ++ c ∷ [])) (numbers_after (suc (length (profiles_of before))) (suc (length (profiles_of (before ++ c ∷ [])))))
  pub facts : IsFactPlan (fact_at before) (fact_at (before ++ c ∷ [])) brought.facts
