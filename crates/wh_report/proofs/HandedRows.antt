-- What was made of the rows that a cursor handed out so far.
use Rattle.std.proofs.Common.{◌≡◌, ℕ, List, [], ◌∷◌, ◌++◌, refl, sym, ◌∙◌, ap, subst, append_assoc, append-nil}
use Rattle.std.specs.FinMap.{FinMap, values}
use Rattle.wh_policy.specs.declared.attribute.Dim.{Dim}
use Rattle.wh_policy.specs.declared.attribute.Dim.TheVariants.{Product, Store, Customer}
use Rattle.wh_history.specs.declared.rows.DimRow.{DimRow}
use Rattle.wh_rows.specs.Holds.{Layout}
use Rattle.wh_rows.specs.Rows as row
use Rattle.wh_rows.specs.Tables.{Tables}
use Rattle.wh_store.specs.Scan.{rows_left}
use Rattle.wh_store.specs.declared.scan.Cursor.{Cursor}
use Rattle.wh_report.specs.Labels.{AreLabels}
use Rattle.wh_report.specs.Reported.{left_of_dim, rows_of_dim}

-- of all rows some were handed out, of which this was made, and these are left
pub record Seen {R : Type 0} (Made : List R → Type 0) (left all : List R) : Type 0 where
  pub done : List R
  pub whole : done ++ left ≡ all
  pub made : Made done

pub none_seen : {R : Type 0} (Made : List R → Type 0) (left all : List R) → left ≡ all → Made [] → Seen Made left all
none_seen Made left all same made = record { done = []; whole = same; made = made }

pub one_seen : {R : Type 0} (Made Now : List R → Type 0) (row : R) (left rest all : List R) → left ≡ row ∷ rest → Seen Made left all → ((done : List R) → Made done → Now (done ++ row ∷ [])) → Seen Now rest all
one_seen Made Now row left rest all is before more = record {
  done = before.done ++ row ∷ [];
  whole = append_assoc before.done (row ∷ []) rest ∙ ap (λ rows. before.done ++ rows) (sym is) ∙ before.whole;
  made = more before.done before.made;
}

pub all_seen : {R : Type 0} (Made : List R → Type 0) (left all : List R) → left ≡ [] → Seen Made left all → Made all
all_seen Made left all none before = subst Made (sym (append-nil before.done) ∙ ap (λ rows. before.done ++ rows) (sym none) ∙ before.whole) before.made

-- no label of no row
pub no_labels : (labels : List (ℕ × List ℕ)) → labels ≡ [] → AreLabels labels []
no_labels labels is = rw is (record { found = λ key. refl })

-- before the first row of a dimension
pub all_left : (cursor : Cursor ℕ DimRow) → ((layout : Layout ℕ DimRow) (rows : FinMap layout.order DimRow) → rows_left layout rows cursor ≡ values rows) → (dim : Dim) (t : Tables) → left_of_dim dim t cursor ≡ rows_of_dim dim t
all_left cursor fresh Product t = fresh row.product t.product
all_left cursor fresh Store t = fresh row.store t.store
all_left cursor fresh Customer t = fresh row.customer t.customer
