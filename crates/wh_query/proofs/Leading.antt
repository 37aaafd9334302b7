-- The labels of a sale in several columns, one after the other.
use Rattle.std.proofs.Common.{◌≡◌, ℕ, List, [], ◌∷◌, ◌++◌, Some, Ok, Err, refl, ap, append-nil, append_assoc}
use Rattle.std.specs.Prelude.{Result}
use Rattle.wh_report.specs.declared.column.LabelColumn.{LabelColumn}
use Rattle.wh_query.specs.Slice.{with_label}

-- what was put, before what is left
abbrev pub after_front : List (List ℕ) → Result (List (List ℕ)) LabelColumn → Result (List (List ℕ)) LabelColumn
after_front done (Ok labels) = Ok (done ++ labels)
after_front done (Err column) = Err column

pub front_none : (r : Result (List (List ℕ)) LabelColumn) → after_front [] r ≡ r
front_none (Ok labels) = refl
front_none (Err column) = refl

pub front_more : (done : List (List ℕ)) (label : List ℕ) (column : LabelColumn) (r : Result (List (List ℕ)) LabelColumn) → after_front (done ++ label ∷ []) r ≡ after_front done (with_label column (Some label) r)
front_more done label column (Ok labels) = ap Ok (append_assoc done (label ∷ []) labels)
front_more done label column (Err other) = refl

pub front_all : (done : List (List ℕ)) → after_front done (Ok []) ≡ Ok done
front_all done = ap Ok (append-nil done)
