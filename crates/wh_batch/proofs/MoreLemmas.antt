-- A batch with one row more.
use Rattle.std.proofs.Common.{◌≡◌, ℕ, suc, ◌+◌, Bool, true, false, cond, ltb, List, [], ◌∷◌, ◌++◌, length, map, Result, Ok, Err, refl, ap, ◌∙◌, append_assoc, add-zero, arith}
use Rattle.std.proofs.lemmas.List.{append-nil}
use Rattle.wh_day.specs.Reading.{◌>>=◌}
use Rattle.wh_batch.specs.declared.fault.FaultKind.TheVariants.{TooLarge}
use Rattle.wh_batch.specs.declared.fault.BatchFault.{BatchFault}
use Rattle.wh_batch.specs.Rows.{Table}
use Rattle.wh_batch.specs.Batch.{Key, Layout, at, numbered, next_record, records_after}
use Rattle.wh_batch.specs.Laws.{with_last, OneRecordMore}

-- what follows earlier ones, with the last row's
abbrev after : {R : Type 0} → Layout R → List Key → List R → ℕ → List (List ℕ) → Result (List R) BatchFault
after layout earlier found number row =
    cond (ltb 5000 number) (Err (at number TooLarge)) (numbered number (next_record layout (earlier ++ map layout.key found) row) >>= λ entry. Ok (found ++ entry ∷ []))

regroup : {R : Type 0} (layout : Layout R) (earlier : List Key) (entry : R) (number : ℕ) (row : List (List ℕ)) (read : Result (List R) BatchFault)
    → ((read >>= λ found. after layout (earlier ++ layout.key entry ∷ []) found number row) >>= λ xs. Ok (entry ∷ xs))
    ≡ ((read >>= λ xs. Ok (entry ∷ xs)) >>= λ found. after layout earlier found number row)
regroup layout earlier entry number row (Err e) = refl
regroup {R} layout earlier entry number row (Ok found) =
    rw (append_assoc earlier (layout.key entry ∷ []) (map layout.key found)) (last (ltb 5000 number) (numbered number (next_record layout (earlier ++ layout.key entry ∷ map layout.key found) row)))
  where
    last : (b : Bool) (read : Result R BatchFault) → (cond b (Err (at number TooLarge)) (read >>= λ x. Ok (found ++ x ∷ [])) >>= λ xs. Ok (entry ∷ xs)) ≡ cond b (Err (at number TooLarge)) (read >>= λ x. Ok (entry ∷ found ++ x ∷ []))
    last true read = refl
    last false (Ok x) = refl
    last false (Err e) = refl

step : {R : Type 0} (layout : Layout R) (earlier : List Key) (number : ℕ) (rows : Table) (row : List (List ℕ)) (b : Bool) (read : Result R BatchFault)
    → ((entry : R) → records_after layout (earlier ++ layout.key entry ∷ []) (number + 1) (rows ++ row ∷ [])
    ≡ (records_after layout (earlier ++ layout.key entry ∷ []) (number + 1) rows >>= λ found. after layout (earlier ++ layout.key entry ∷ []) found (number + 1 + length rows) row))
    → cond b (Err (at number TooLarge)) (read >>= λ entry. records_after layout (earlier ++ layout.key entry ∷ []) (number + 1) (rows ++ row ∷ []) >>= λ xs. Ok (entry ∷ xs))
    ≡ (cond b (Err (at number TooLarge)) (read >>= λ entry. records_after layout (earlier ++ layout.key entry ∷ []) (number + 1) rows >>= λ xs. Ok (entry ∷ xs))
    >>= λ found. after layout earlier found (number + suc (length rows)) row)
step layout earlier number rows row true read h = refl
step layout earlier number rows row false (Err e) h = refl
step {R} layout earlier number rows row false (Ok entry) h =
    let rest = records_after layout (earlier ++ layout.key entry ∷ []) (number + 1) rows in
    let last : number + 1 + length rows ≡ number + suc (length rows) = omega arith in
    ap (λ (xs : Result (List R) BatchFault). xs >>= λ ys. Ok (entry ∷ ys)) (h entry)
    ∙ regroup layout earlier entry (number + 1 + length rows) row rest
    ∙ ap (λ (k : ℕ). (rest >>= λ xs. Ok (entry ∷ xs)) >>= λ found. after layout earlier found k row) last

more : {R : Type 0} (layout : Layout R) (earlier : List Key) (number : ℕ) (rows : Table) (row : List (List ℕ))
    → records_after layout earlier number (rows ++ row ∷ []) ≡ (records_after layout earlier number rows >>= λ found. after layout earlier found (number + length rows) row)
unfolding records_after
more layout earlier number [] row = rw (add-zero, append-nil) refl
more layout earlier number (fields ∷ rows) row =
    step layout earlier number rows row (ltb 5000 number) (numbered number (next_record layout earlier fields)) (λ entry. more layout (earlier ++ layout.key entry ∷ []) (number + 1) rows row)

pub one_record_more : {R : Type 0} (layout : Layout R) → OneRecordMore layout
one_record_more layout rows row =
    let last : 1 + length rows ≡ length rows + 1 = omega arith in
    more layout [] 1 rows row ∙ ap (λ (k : ℕ). records_after layout [] 1 rows >>= λ before. with_last layout before k row) last
