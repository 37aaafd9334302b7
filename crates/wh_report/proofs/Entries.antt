-- One entry more.
use Rattle.std.proofs.Common.{◌≡◌, ℕ, ◌==◌, true, false, cond, List, [], ◌∷◌, ◌++◌, Option, Some, None, Result, OnOk, refl, sym, ◌∙◌, ap, subst}
use Rattle.std.specs.Prelude.{filter_map, option_to_list}
use Rattle.std.specs.Option.{option_or}
use Rattle.std.specs.List.{cons_option}
use Rattle.std.proofs.lemmas.List.{append-nil}
use Rattle.std.proofs.lemmas.List.Elements.{filter_map-append}
use Rattle.wh_history.specs.declared.rows.DimRow.{DimRow}
use Rattle.wh_report.specs.Labels.{entry, first_text, with_text, labels_get, row_key, row_text, row_labels, AreLabels}
use Rattle.wh_report.specs.declared.column.LabelColumn.{LabelColumn}
use Rattle.wh_report.specs.declared.column.LabelColumn.TheVariants.{Main, Second, CurrentMain, FactProfile, CurrentProfile, CalendarMonth, CalendarHoliday}

pub first_text-append : (key : ℕ) (entries : List (ℕ × List ℕ)) (more : List (ℕ × List ℕ)) → first_text key (entries ++ more) ≡ option_or (first_text key entries) (first_text key more)
first_text-append key [] more = refl
first_text-append key (e ∷ entries) more =
    elim (e.0 == key) as (λ b. cond b (Some e.1) (first_text key (entries ++ more)) ≡ option_or (cond b (Some e.1) (first_text key entries)) (first_text key more)) [
      | true ↦ refl
      | false ↦ first_text-append key entries more
    ]

one-cons_option : {X : Type 0} (o : Option X) → cons_option o [] ≡ option_to_list o
one-cons_option None = refl
one-cons_option (Some x) = refl

pub filter_map-last : {X Y : Type 0} (f : X → Option Y) (xs : List X) (x : X) → filter_map f (xs ++ x ∷ []) ≡ filter_map f xs ++ option_to_list (f x)
filter_map-last f xs x = filter_map-append f xs (x ∷ []) ∙ ap (λ ys. filter_map f xs ++ ys) (one-cons_option (f x))

pub with_one_more : (old new entries : List (ℕ × List ℕ)) (key : ℕ) (text : List ℕ) → AreLabels old entries → ((k : ℕ) → labels_get new k ≡ with_text key text (labels_get old) k) → AreLabels new (entries ++ (key, text) ∷ [])
with_one_more old new entries key text are put = record {
  found = λ k. put k ∙ ap (λ o. option_or o (cond (key == k) (Some text) None)) (are.found k) ∙ sym (first_text-append k entries ((key, text) ∷ []));
}

pub with_none : (labels entries : List (ℕ × List ℕ)) → AreLabels labels entries → AreLabels labels (entries ++ [])
with_none labels entries are = rw (append-nil entries) are

-- one row more, by the entry that it has
pub with_row : {R E : Type 0} (f : R → Option (ℕ × List ℕ)) (rows : List R) (r : R) (key : Option ℕ) (text : Option (List ℕ)) (result : Result (Unit {0}) E) (new : List (ℕ × List ℕ)) → f r ≡ entry key text
    → OnOk result (AreLabels new (filter_map f rows ++ option_to_list (entry key text))) → OnOk result (AreLabels new (filter_map f (rows ++ r ∷ [])))
with_row f rows r key text result new is h =
    subst (λ (es : List (ℕ × List ℕ)). OnOk result (AreLabels new es)) (sym (filter_map-last f rows r ∙ ap (λ o. filter_map f rows ++ option_to_list o) is)) h

-- ---- rows by the labels of profiles

row_labels_same : (column : LabelColumn) (p q : ℕ → Option (List ℕ)) → ((number : ℕ) → p number ≡ q number) → (r : DimRow) → row_text column p r ≡ row_text column q r
row_labels_same (Main dim place) p q same r = refl
row_labels_same (Second dim place) p q same r = refl
row_labels_same (CurrentMain dim place) p q same r = refl
row_labels_same (FactProfile place) p q same r = refl
row_labels_same (CurrentProfile place) p q same r = same r.profile_now
row_labels_same CalendarMonth p q same r = refl
row_labels_same CalendarHoliday p q same r = refl

rows_same : (column : LabelColumn) (p q : ℕ → Option (List ℕ)) → ((number : ℕ) → p number ≡ q number) → (rows : List DimRow) → row_labels column p rows ≡ row_labels column q rows
rows_same column p q same [] = refl
rows_same column p q same (r ∷ rows) =
    ap (λ o. cons_option (entry (row_key column r) o) (row_labels column p rows)) (row_labels_same column p q same r)
    ∙ ap (cons_option (entry (row_key column r) (row_text column q r))) (rows_same column p q same rows)

-- the labels that were made of the profiles, and by them of the rows, are those of the entries of the profiles
pub labels_through : (column : LabelColumn) (rows : List DimRow) (entries profiles labels : List (ℕ × List ℕ)) → AreLabels profiles entries → AreLabels labels (row_labels column (labels_get profiles) rows) → AreLabels labels (row_labels column (λ number. first_text number entries) rows)
labels_through column rows entries profiles labels are of =
    subst (AreLabels labels) (rows_same column (labels_get profiles) (λ number. first_text number entries) are.found rows) of
