-- What reading the fields of a record finds wrong, column by column.
use Rattle.std.proofs.Common.{◌≡◌, ℕ, Bool, true, false, not, cond, eqb, List, [], ◌∷◌, ◌++◌, codes, length, map, Option, Some, None, Result, Ok, Err, refl, sym, ap, ◌∙◌, arith}
use Rattle.std.specs.Option.{is_some, option_or, option_and_then}
use Rattle.std.specs.Result.{result_err}
use Rattle.std.specs.List.{find, zip}
use Rattle.std.proofs.lemmas.Bool.{eqb-true, eqb-false}
use Rattle.std.proofs.lemmas.Bool.Decides.{Decides-eqb}
use Rattle.std.proofs.lemmas.List.{length-map}
use Rattle.wh_policy.proofs.Options.{option_or-none}
use Rattle.csv.specs.Records.{field_at}
use Rattle.wh_day.specs.Reading.{◌>>=◌}
use Rattle.wh_policy.specs.declared.attribute.Attribute.{Attribute}
use Rattle.wh_policy.specs.declared.format.Format.{Format}
use Rattle.wh_policy.specs.declared.format.Format.TheVariants.{One, Two}
use Rattle.wh_policy.specs.declared.policy.Years.{Years}
use Rattle.wh_policy.specs.declared.record.DimensionRecord.{DimensionRecord}
use Rattle.wh_policy.specs.declared.record.SaleRecord.{SaleRecord}
use Rattle.wh_batch.specs.declared.fault.FaultKind.{FaultKind}
use Rattle.wh_batch.specs.declared.fault.FaultKind.TheVariants.{WrongLength}
use Rattle.wh_batch.specs.declared.holds.Holds.TheVariants as holds
use Rattle.wh_batch.specs.Columns.{Column, fault_in, is_at_fault, first_fault, fault_by_columns}
use Rattle.wh_batch.specs.Fields.{key_of, customer_of, day_of, effective_day_of, value_of, values_of}
use Rattle.wh_batch.specs.Numbers.{line_of, quantity_of, amount_of, discount_of}
use Rattle.wh_batch.specs.Layouts.{column, dimension_columns, dimension_record, dimension_layout, undiscounted, undiscounted_columns, sales_columns, discount_in, sale_record, sales_layout, void_columns, void_record, voids_layout}
use Rattle.wh_batch.specs.Laws.{FaultsByColumns}

-- the first fault, by recursion
abbrev in_turn : List Column → List (List ℕ) → Option FaultKind
in_turn (first ∷ columns) (field ∷ fields) = option_or (fault_in first.holds field) (in_turn columns fields)
in_turn columns fields = None

first-in_turn : (columns : List Column) (fields : List (List ℕ)) → in_turn columns fields ≡ first_fault columns fields
first-in_turn [] fields = refl
first-in_turn (first ∷ columns) [] = refl
first-in_turn (first ∷ columns) (field ∷ fields) = by_fault (fault_in first.holds field) refl (first-in_turn columns fields)
  where
    by_fault : (fault : Option FaultKind) → fault ≡ fault_in first.holds field → in_turn columns fields ≡ first_fault columns fields
        → option_or fault (in_turn columns fields) ≡ option_and_then (λ p. fault_in p.0.holds p.1) (cond (is_some fault) (Some (first, field)) (find is_at_fault (zip columns fields)))
    by_fault None same rest = rest
    by_fault (Some kind) same rest = same

or-assoc : {A : Type 0} (x y z : Option A) → option_or (option_or x y) z ≡ option_or x (option_or y z)
or-assoc None y z = refl
or-assoc (Some x) y z = refl

-- a step, and what comes after it
then-fault : {A B : Type 0} (read : Result A FaultKind) (more : A → Result B FaultKind) (rest : Option FaultKind) → ((x : A) → result_err (more x) ≡ rest) → result_err (read >>= more) ≡ option_or (result_err read) rest
then-fault (Ok x) more rest h = h x
then-fault (Err kind) more rest h = refl

pub same-fault : {F A B : Type 0} (read : Result A F) (made : A → B) → result_err (read >>= λ x. Ok (made x)) ≡ result_err read
same-fault (Ok x) made = refl
same-fault (Err kind) made = refl

-- the number of fields is wrong
wrong-length : (columns : List Column) (fields : List (List ℕ)) → (length fields ≡ length columns → ⊥) → Some WrongLength ≡ fault_by_columns columns fields
wrong-length columns fields other = by_test (eqb (length fields) (length columns)) refl
  where
    by_test : (b : Bool) → b ≡ eqb (length fields) (length columns) → Some WrongLength ≡ cond b (first_fault columns fields) (Some WrongLength)
    by_test true same = absurd (other (eqb-true (length fields) (length columns) (sym same)))
    by_test false same = refl

right-length : (columns : List Column) (fields : List (List ℕ)) → length fields ≡ length columns → in_turn columns fields ≡ fault_by_columns columns fields
right-length columns fields same = rw ((Decides-eqb (length fields) (length columns)).1 same) (first-in_turn columns fields)

pub void-by-columns : FaultsByColumns voids_layout
unfolding void_record
void-by-columns [] = wrong-length void_columns [] (λ e. absurd cc)
void-by-columns (ticket ∷ []) = wrong-length void_columns (ticket ∷ []) (λ e. absurd cc)
void-by-columns (ticket ∷ line ∷ []) =
    then-fault (key_of 20 ticket) _ _ (λ ticket. then-fault (line_of line) _ None (λ line. refl)) ∙ right-length void_columns (ticket ∷ line ∷ []) refl
void-by-columns (ticket ∷ line ∷ other ∷ fields) = wrong-length void_columns (ticket ∷ line ∷ other ∷ fields) (λ e. absurd cc)

values-fault : (fields : List (List ℕ)) (attributes : List Attribute) → length fields ≡ length attributes → result_err (values_of fields) ≡ in_turn (map (λ a. column a.name holds.Value) attributes) fields
unfolding values_of
values-fault [] [] same = refl
values-fault [] (a ∷ attributes) same = absurd (omega arith)
values-fault (field ∷ fields) [] same = absurd (omega arith)
values-fault (field ∷ fields) (a ∷ attributes) same = then-fault (value_of field) _ _ (λ value. same-fault (values_of fields) _ ∙ values-fault fields attributes (omega arith))

pub dimension-by-columns : (attributes : List Attribute) → FaultsByColumns (dimension_layout attributes)
unfolding dimension_record
dimension-by-columns attributes [] = wrong-length (dimension_columns attributes) [] (λ e. absurd (omega arith))
dimension-by-columns attributes (id ∷ []) = wrong-length (dimension_columns attributes) (id ∷ []) (λ e. absurd (omega arith))
dimension-by-columns attributes (id ∷ day ∷ fields) = by_length (eqb (length fields) (length attributes)) refl
  where
    by_length : (b : Bool) → b ≡ eqb (length fields) (length attributes)
        → result_err {T = DimensionRecord} (cond (not b) (Err WrongLength) (key_of 32 id >>= λ natural. effective_day_of day >>= λ day. values_of fields >>= λ values. Ok (record { natural = natural; day = day; values = values })))
        ≡ fault_by_columns (dimension_columns attributes) (id ∷ day ∷ fields)
    by_length false same =
        let other = eqb-false (length fields) (length attributes) (sym same) in
        wrong-length (dimension_columns attributes) (id ∷ day ∷ fields) (λ e. other (omega (arith, length-map attributes (λ a. column a.name holds.Value))))
    by_length true same =
        let few = eqb-true (length fields) (length attributes) (sym same) in
        then-fault (key_of 32 id) _ _ (λ natural. then-fault (effective_day_of day) _ _ (λ day. same-fault (values_of fields) _ ∙ values-fault fields attributes few))
        ∙ right-length (dimension_columns attributes) (id ∷ day ∷ fields) (omega (arith, length-map attributes (λ a. column a.name holds.Value)))

-- the first nine fields of a sale
undiscounted-fault : (ticket line day store product customer quantity amount cost : List ℕ)
    → result_err (undiscounted (ticket ∷ line ∷ day ∷ store ∷ product ∷ customer ∷ quantity ∷ amount ∷ cost ∷ []))
    ≡ in_turn undiscounted_columns (ticket ∷ line ∷ day ∷ store ∷ product ∷ customer ∷ quantity ∷ amount ∷ cost ∷ [])
unfolding undiscounted
undiscounted-fault ticket line day store product customer quantity amount cost =
    then-fault (key_of 20 ticket) _ _ (λ a. then-fault (line_of line) _ _ (λ b. then-fault (day_of day) _ _ (λ c. then-fault (key_of 32 store) _ _ (λ d. then-fault (key_of 32 product) _ _ (λ e.
    then-fault (customer_of customer) _ _ (λ f. then-fault (quantity_of quantity) _ _ (λ g. then-fault (amount_of amount) _ _ (λ h. then-fault (amount_of cost) _ None (λ i. refl)))))))))

in_turn-append : (columns others : List Column) (fields more : List (List ℕ)) → length columns ≡ length fields → in_turn (columns ++ others) (fields ++ more) ≡ option_or (in_turn columns fields) (in_turn others more)
in_turn-append [] others [] more same = refl
in_turn-append [] others (field ∷ fields) more same = absurd (omega arith)
in_turn-append (first ∷ columns) others [] more same = absurd (omega arith)
in_turn-append (first ∷ columns) others (field ∷ fields) more same =
    ap (option_or (fault_in first.holds field)) (in_turn-append columns others fields more (omega arith)) ∙ sym (or-assoc (fault_in first.holds field) (in_turn columns fields) (in_turn others more))

sale-one : (fields : List (List ℕ)) → length fields ≡ 9 → result_err (sale_record One fields) ≡ in_turn undiscounted_columns fields
unfolding sale_record discount_in
sale-one (a ∷ b ∷ c ∷ d ∷ e ∷ f ∷ g ∷ h ∷ i ∷ []) nine = same-fault (undiscounted (a ∷ b ∷ c ∷ d ∷ e ∷ f ∷ g ∷ h ∷ i ∷ [])) _ ∙ undiscounted-fault a b c d e f g h i
sale-one _ nine = absurd (omega arith)

sale-two : (fields : List (List ℕ)) → length fields ≡ 10 → result_err (sale_record Two fields) ≡ in_turn (sales_columns Two) fields
unfolding sale_record discount_in field_at
sale-two (a ∷ b ∷ c ∷ d ∷ e ∷ f ∷ g ∷ h ∷ i ∷ j ∷ []) ten =
    let nine = a ∷ b ∷ c ∷ d ∷ e ∷ f ∷ g ∷ h ∷ i ∷ [] in
    then-fault (undiscounted nine) _ (result_err (discount_of j)) (λ sale. same-fault (discount_of j) _)
    ∙ ap (λ (o : Option FaultKind). option_or o (result_err (discount_of j))) (undiscounted-fault a b c d e f g h i)
    ∙ ap (option_or (in_turn undiscounted_columns nine)) (sym (option_or-none (result_err (discount_of j))))
    ∙ sym (in_turn-append undiscounted_columns (column (codes "discount") holds.Discount ∷ []) nine (j ∷ []) refl)
sale-two _ ten = absurd (omega arith)

-- a sale of another number of fields
sale-length : (read : Result SaleRecord FaultKind) (n m : ℕ) → (n ≡ m → ⊥) → result_err (cond (not (eqb n m)) (Err WrongLength) read) ≡ Some WrongLength
sale-length read n m other = by_test (eqb n m) refl
  where
    by_test : (b : Bool) → b ≡ eqb n m → result_err (cond (not b) (Err WrongLength) read) ≡ Some WrongLength
    by_test true same = absurd (other (eqb-true n m (sym same)))
    by_test false same = refl

sale-one-by-columns : (years : Years) → FaultsByColumns (sales_layout One years)
unfolding sale_record
sale-one-by-columns years fields = by_length (eqb (length fields) 9) refl
  where
    by_length : (b : Bool) → b ≡ eqb (length fields) 9 → result_err (sale_record One fields) ≡ fault_by_columns undiscounted_columns fields
    by_length true same = let nine = eqb-true (length fields) 9 (sym same) in sale-one fields nine ∙ right-length undiscounted_columns fields nine
    by_length false same = let other = eqb-false (length fields) 9 (sym same) in sale-length _ (length fields) 9 other ∙ wrong-length undiscounted_columns fields other

sale-two-by-columns : (years : Years) → FaultsByColumns (sales_layout Two years)
unfolding sale_record
sale-two-by-columns years fields = by_length (eqb (length fields) 10) refl
  where
    by_length : (b : Bool) → b ≡ eqb (length fields) 10 → result_err (sale_record Two fields) ≡ fault_by_columns (sales_columns Two) fields
    by_length true same = let ten = eqb-true (length fields) 10 (sym same) in sale-two fields ten ∙ right-length (sales_columns Two) fields ten
    by_length false same = let other = eqb-false (length fields) 10 (sym same) in sale-length _ (length fields) 10 other ∙ wrong-length (sales_columns Two) fields other

pub sale-by-columns : (format : Format) (years : Years) → FaultsByColumns (sales_layout format years)
sale-by-columns One years = sale-one-by-columns years
sale-by-columns Two years = sale-two-by-columns years
