-- What holds of every batch.
use Rattle.std.specs.Prelude.{◌≡◌, ◌≢◌, ℕ, List, [], ◌∷◌, ◌++◌, map, filter_map, length}
use Rattle.std.specs.List.{AllByRecursion, IsDistinct}
use Rattle.wh_policy.specs.declared.attribute.Dim.{Dim}
use Rattle.wh_policy.specs.declared.attribute.Dim.TheVariants.{Customer}
use Rattle.wh_policy.specs.declared.record.DimensionRecord.{DimensionRecord}
use Rattle.wh_policy.specs.declared.record.SaleRecord.{SaleRecord}
use Rattle.wh_history.specs.Accepted.{Accepted, Describes, Sells, anchors}
use Rattle.wh_history.specs.Laws.{RecordsHaveDays}
use Rattle.wh_history.specs.Plan.{IsRowPlan, row_of}
use Rattle.wh_history.specs.Tables.{Limits, dimension_row, fact_of}
use Rattle.wh_history.specs.declared.plan.Edit.{Edit}
use Rattle.wh_history.specs.declared.plan.Edit.TheVariants.{Put}
use Rattle.wh_history.specs.declared.rows.DimRow.{DimRow}
use Rattle.wh_rows.specs.Tables.{Tables}
use Rattle.wh_model.specs.Defined.{fact_at, AreOf}
use Rattle.wh_plan.specs.Edits.{Edits, no_edits, with_all_edits, AreEdits}
use Rattle.wh_plan.specs.BatchRows.{numbers_after, AreFacts, IsNewLine}
use Rattle.wh_model.specs.Sound.{IsAccepted, same_line}
use Rattle.wh_plan.specs.Writable.{MayBeWritten}
use Rattle.wh_plan.specs.NewRows.{of_members, naturals_told, durables_touched, rows_of_members, members_among}
use Rattle.wh_model.specs.Laws.{ShowsNoProfile}

-- From the tables of some commands the exact edits lead to those of others.
abbrev pub EditsAreWritten : Type 0
EditsAreWritten = (limits : Limits) (before after : List Accepted) (tables : Tables) (edits : Edits)
    → AreOf limits before tables
    → AreEdits before after edits
    → AreOf limits after (with_all_edits edits tables)

-- Between the tables of two lists of commands there is one list of exact edits.
abbrev pub ExactEditsAreOne : Type 0
ExactEditsAreOne = (before after : List Accepted) (a b : Edits) → AreEdits before after a → AreEdits before after b → a ≡ b

-- Between the tables of the same commands there is no edit.
abbrev pub NoEditsStay : Type 0
NoEditsStay = (commands : List Accepted) → AreEdits commands commands no_edits

-- The edits of a command that can be accepted after the commands so far may be written: each row that they put is valid.
abbrev pub CommandsMayBeWritten : Type 0
CommandsMayBeWritten = (limits : Limits) (commands : List Accepted) (c : Accepted) (tables : Tables) (edits : Edits)
    → IsAccepted limits (commands ++ c ∷ [])
    → AreOf limits commands tables
    → AreEdits commands (commands ++ c ∷ []) edits
    → MayBeWritten edits

-- Where some rows are those of the touched members in the table before a batch, and others those in the table with it, the edits
-- between them are the edits between the tables.
abbrev pub TouchedRowsAreThePlan : Type 0
TouchedRowsAreThePlan = (commands : List Accepted) (c : Accepted) (dim : Dim) (records : List DimensionRecord) (stored after : List DimRow) (edits : List (Edit DimRow ℕ))
    → c.content ≡ Describes dim records
    → (dim ≢ Customer → ShowsNoProfile commands dim)
    → ((key : ℕ) → row_of key stored ≡ of_members (durables_touched dim commands (commands ++ c ∷ []) records) (dimension_row commands dim key))
    → ((key : ℕ) → row_of key after ≡ of_members (durables_touched dim commands (commands ++ c ∷ []) records) (dimension_row (commands ++ c ∷ []) dim key))
    → IsRowPlan (λ key. row_of key stored) (λ key. row_of key after) edits
    → IsRowPlan (dimension_row commands dim) (dimension_row (commands ++ c ∷ []) dim) edits

-- The rows of the touched members that the older commands mention, one member after the other, are those in the table before the batch.
abbrev pub TouchedRowsBefore : Type 0
TouchedRowsBefore = (commands : List Accepted) (c : Accepted) (dim : Dim) (records : List DimensionRecord) (key : ℕ)
    → c.content ≡ Describes dim records
    → RecordsHaveDays commands
    → row_of key (rows_of_members commands dim (members_among commands dim (naturals_told records))) ≡ of_members (durables_touched dim commands (commands ++ c ∷ []) records) (dimension_row commands dim key)

-- The rows of all touched members with the batch are those in the table with it.
abbrev pub TouchedRowsAfter : Type 0
TouchedRowsAfter = (commands : List Accepted) (c : Accepted) (dim : Dim) (records : List DimensionRecord) (key : ℕ)
    → c.content ≡ Describes dim records
    → RecordsHaveDays (commands ++ c ∷ [])
    → row_of key (rows_of_members (commands ++ c ∷ []) dim (naturals_told records)) ≡ of_members (durables_touched dim commands (commands ++ c ∷ []) records) (dimension_row (commands ++ c ∷ []) dim key)

-- The facts of a batch of sales whose lines are new, no two of them the same, are exactly what leads to the facts of the commands with it: each fact that was there stays as it was.
abbrev pub SalesAreFacts : Type 0
SalesAreFacts = (commands : List Accepted) (c : Accepted) (sales : List SaleRecord)
    → c.content ≡ Sells sales
    → AllByRecursion (IsNewLine commands) sales
    → IsDistinct same_line sales
    → AreFacts (fact_at commands) (fact_at (commands ++ c ∷ [])) (map (fact_of (commands ++ c ∷ [])) sales)

-- In a dimension's table a batch of sales puts the rows of the members that it is the first to mention, in order of their surrogate keys, and changes nothing else.
abbrev pub SalesPutPlaceholders : Type 0
SalesPutPlaceholders = (commands : List Accepted) (c : Accepted) (dim : Dim) (sales : List SaleRecord)
    → c.content ≡ Sells sales
    → IsRowPlan (dimension_row commands dim) (dimension_row (commands ++ c ∷ []) dim)
    (map Put (filter_map (dimension_row (commands ++ c ∷ []) dim) (numbers_after (length (anchors dim commands)) (length (anchors dim (commands ++ c ∷ []))))))
