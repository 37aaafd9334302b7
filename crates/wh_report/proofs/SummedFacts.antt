-- What is counted of facts, in whatever order they come.
use Rattle.std.proofs.Common.{◌==◌, ◌≡◌, inl, inr, ℕ, ℤ, pos, negsuc, ◌≤◌, ◌&&◌, ◌⊎◌, Bool, true, cond, List, [], ◌∷◌, ◌++◌, map, length, Option, Some, None, Ok, Err, Result, refl, sym, ◌∙◌, ap, subst, subst₂, arith, length-append, zero, suc}
use Rattle.std.specs.Prelude.{filter_map, flat_map, Contains, IsSome, IsTrue, is_some, false}
use Rattle.std.specs.FinMap.{values, entries}
use Rattle.std.specs.List.{AllByRecursion, cons_option}
use Rattle.std.specs.List.Sorted.{IsPermutation}
use Rattle.std.specs.Option.{option_to_list}
use Rattle.std.proofs.lemmas.List.{length-map}
use Rattle.std.proofs.lemmas.Bool.{and_parts}
use Rattle.std.proofs.lemmas.Bool.Decides.{nat_tests}
use Rattle.std.proofs.lemmas.Int.{ints}
use Rattle.std.proofs.lemmas.List.Elements.{Contains-append_right, All-from_recursion, recursion_from_All}
use Rattle.std.proofs.lemmas.List.Sorted.{Contains-permutation, length_permutation, IsPermutation-sym, All-permutation}
use Rattle.sqlite.specs.State.{State}
use Rattle.sqlite_keyed.proofs.ListLemmas.{IsPermutation-flat_map}
use Rattle.wh_day.specs.Day.{is_day}
use Rattle.wh_history.specs.declared.facts.Fact.{Fact}
use Rattle.wh_rows.specs.AtRest.{IsAtRest}
use Rattle.wh_rows.specs.KeyedSales.{keyed}
use Rattle.sqlite.specs.Effect.{Database}
use Rattle.wh_policy.specs.declared.format.Format.{Format}
use Rattle.wh_policy.specs.declared.format.Format.TheVariants.{One, Two}
use Rattle.wh_rows.proofs.Formats.{valid_in}
use Rattle.wh_rows.specs.Facts.{facts_in}
use Rattle.wh_rows.specs.Rows as row
use Rattle.wh_rows.specs.Rows.{has_good_columns}
use Rattle.wh_rows.specs.Tables.{Tables, Stores}
use Rattle.wh_rows.specs.Types.{is_discount}
use Rattle.wh_rows.specs.declared.key.LineKey.{LineKey}
use Rattle.wh_rows.specs.Types.{is_key, is_line, is_measure, is_number}
use Rattle.wh_rows.specs.declared.keyed_sale.FactColumn.{FactColumn}
use Rattle.wh_rows.specs.declared.keyed_sale.KeyedSale.{KeyedSale}
use Rattle.wh_report.specs.Asked.{Asked}
use Rattle.wh_report.specs.Counting.{counted, counted_sale, fault_of, measures_of, sales_asked, sales_of, AreLabelled, HasNoLabel}
use Rattle.wh_report.specs.Joined.{label_column_fact_key}
use Rattle.wh_report.specs.KeySums.{AreKeySums, IsLabelled}
use Rattle.wh_report.specs.Request.{is_asked_of}
use Rattle.wh_report.specs.Reported.{IsSummed, uncounted}
use Rattle.wh_report.specs.Summary.{Summed, summed}
use Rattle.wh_report.specs.Sums.{Figures, IsMeasured, IsUpTo}
use Rattle.wh_report.specs.Tallied.{IsCounted, IsTally}
use Rattle.wh_report.specs.declared.column.LabelColumn.{LabelColumn}
use Rattle.wh_report.specs.declared.fact.FactFault.{FactFault}
use Rattle.wh_report.specs.declared.fact.FactFault.TheVariants as uncountable
use Rattle.wh_report.specs.declared.summary.AddError.{AddError}
use Rattle.wh_report.specs.declared.summary.AddError.TheVariants.{Memory, Damaged}
use Rattle.wh_report.proofs.Counted.{asked_counted, few_asked, one_asked, passed_over}
use Rattle.wh_report.proofs.Summaries.{any_order}

-- ---- one sale more

pub all_before : {X : Type 0} (P : X → Type 0) (xs : List X) (x : X) → AllByRecursion P (xs ++ x ∷ []) → AllByRecursion P xs
all_before P [] x all = tt
all_before P (y ∷ xs) x all = (all.0, all_before P xs x all.1)

pub last_of : {X : Type 0} (P : X → Type 0) (xs : List X) (x : X) → AllByRecursion P (xs ++ x ∷ []) → P x
last_of P [] x all = all.0
last_of P (y ∷ xs) x all = last_of P xs x all.1

-- where a sale was refused, or is of another day, one more changes nothing
pub not_counted : (r : Asked) (sales : List KeyedSale) (s : KeyedSale) (sums : List (ℕ × Figures)) (fault : Option AddError) → is_some fault ≡ true ⊎ (is_asked_of r s.day ≡ false) → IsTally r sales sums fault → IsTally r (sales ++ s ∷ []) sums fault
not_counted r sales s sums None (inl there) tally = absurd cc
not_counted r sales s sums None (inr other) tally = subst (AreKeySums sums) (sym (passed_over r sales s other)) tally
not_counted r sales s sums (Some Memory) why tally = tt
not_counted r sales s sums (Some Damaged) why tally = λ all.
    let many = tally (all_before (λ x. IsMeasured (measures_of x)) sales s all) in
    omega (arith, length-append sales (s ∷ []))

-- one of the range is counted
pub one_counted : (r : Asked) (sales : List KeyedSale) (s : KeyedSale) (old new : List (ℕ × Figures)) (fault : Option AddError) → is_some fault ≡ false → is_asked_of r s.day ≡ true → IsTally r sales old fault
    → (AreKeySums old (sales_asked r sales) → AreKeySums new (sales_asked r sales ++ s ∷ [])) → IsTally r (sales ++ s ∷ []) new fault
one_counted r sales s old new None none within tally put = subst (AreKeySums new) (sym (one_asked r sales s within)) (put tally)
one_counted r sales s old new (Some fault) none within tally put = absurd cc

-- or refused
pub one_refused : (r : Asked) (sales : List KeyedSale) (s : KeyedSale) (old new : List (ℕ × Figures)) (before : Option AddError) (fault : AddError) → is_some before ≡ false → IsTally r sales old before
    → (AreKeySums old (sales_asked r sales) → fault ≡ Damaged → IsMeasured (measures_of s) → 4_294_967_295 ≤ length (sales_asked r sales)) → IsTally r (sales ++ s ∷ []) new (Some fault)
one_refused r sales s old new (Some other) fault none tally many = absurd cc
one_refused r sales s old new None Memory none tally many = tt
one_refused r sales s old new None Damaged none tally many = λ all.
    let most = many tally refl (last_of (λ x. IsMeasured (measures_of x)) sales s all) in
    let few = few_asked r sales in
    omega (arith, length-append sales (s ∷ []))

-- what the sales come to by their labels
pub by_labels : (r : Asked) (labels : ℕ → Option (List ℕ)) (sales : List KeyedSale) (result : Result Summed FactFault) → IsLabelled labels (sales_asked r sales) result → IsCounted r labels sales result
by_labels r labels sales (Ok sums) are = are
by_labels r labels sales (Err uncountable.Memory) are = tt
by_labels r labels sales (Err uncountable.NoLabel) are = are
by_labels r labels sales (Err uncountable.Damaged) are = λ all. let few = few_asked r sales in omega (arith, few, are)

pub not_by_labels : (r : Asked) (labels : ℕ → Option (List ℕ)) (sales : List KeyedSale) (sums : List (ℕ × Figures)) (fault : AddError) → IsTally r sales sums (Some fault) → IsCounted r labels sales (Err (fault_of fault))
not_by_labels r labels sales sums Memory tally = tt
not_by_labels r labels sales sums Damaged tally = tally

-- ---- facts at rest have measures that a sale may have

up_to : (most : ℕ) (z : ℤ) → is_measure most z ≡ true → IsUpTo most z
up_to most (pos n) within = (grind (arith, ints, nat_tests), grind (arith, ints, nat_tests))
up_to most (negsuc n) within = (grind (arith, ints, nat_tests), grind (arith, ints, nat_tests))

last_three : (a b c d e f g h i j x y z : Bool) → (a && b && c && d && e && f && g && h && i && j && x && y && z) ≡ true → (x ≡ true) × (y ≡ true) × (z ≡ true)
last_three a b c d e f g h i j x y z all =
    let cost = and_parts _ z all in
    let amount = and_parts _ y cost.0 in
    let quantity = and_parts _ x amount.0 in
    (quantity.1, amount.1, cost.1)

pub valid_measures : (column : LabelColumn) (f : Fact) → has_good_columns f ≡ true → IsMeasured (measures_of (keyed (label_column_fact_key column) f))
valid_measures column f valid =
    let last = last_three (is_key 20 f.ticket) (is_line f.line) (is_day f.day) (is_number f.keys.store_key) (is_number f.keys.product_key) (is_number f.keys.customer_key) (is_number f.store_durable) (is_number f.product_durable) (is_number f.customer_durable) (is_number f.keys.profile)
    (is_measure 9_999 f.quantity) (is_measure 999_999_999 f.amount) (is_measure 999_999_999 f.cost) valid in
    record { quantity = up_to 9_999 f.quantity last.0; amount = up_to 999_999_999 f.amount last.1; cost = up_to 999_999_999 f.cost last.2 }

abbrev pub HasGoodColumns : Fact → Type 0
HasGoodColumns f = IsTrue (has_good_columns f)

-- what is valid in either format has good columns
all_good : (rest : Fact → Bool) (es : List (LineKey × Fact)) → AllByRecursion (λ e. IsTrue (has_good_columns e.1 && rest e.1)) es → AllByRecursion HasGoodColumns (map (λ e. e.1) es)
all_good rest [] all = tt
all_good rest (e ∷ es) all = ((and_parts (has_good_columns e.1) (rest e.1) all.0).0, all_good rest es all.1)

pub good_facts : (db : Database) (t : Tables) → Stores db t → (format : Format) → AllByRecursion HasGoodColumns (values (facts_in format t))
good_facts db t stored One = all_good (λ f. f.discount == 0) (entries t.fact) stored.fact.valid
good_facts db t stored Two = all_good (λ f. is_discount f.discount) (entries t.fact2) (valid_in t.format row.fact2 db.trees t.fact2 stored.fact2)

all_keyed : (column : LabelColumn) (facts : List Fact) → AllByRecursion HasGoodColumns facts → AllByRecursion (λ s. IsMeasured (measures_of s)) (map (keyed (label_column_fact_key column)) facts)
all_keyed column [] all = tt
all_keyed column (f ∷ facts) all = (valid_measures column f all.0, all_keyed column facts all.1)

-- ---- in any order

through : (r : Asked) (column : LabelColumn) (labels : ℕ → Option (List ℕ)) (facts : List Fact) → filter_map (counted_sale r labels) (map (keyed (label_column_fact_key column)) facts) ≡ filter_map (counted r column labels) facts
through r column labels [] = refl
through r column labels (f ∷ facts) = ap (cons_option (counted r column labels f)) (through r column labels facts)

as_flat_map : {X Y : Type 0} (h : X → Option Y) (xs : List X) → filter_map h xs ≡ flat_map (λ x. option_to_list (h x)) xs
as_flat_map h [] = refl
as_flat_map h (x ∷ xs) = elim (h x) as (λ o. cons_option o (filter_map h xs) ≡ option_to_list o ++ flat_map (λ y. option_to_list (h y)) xs) [ None ↦ as_flat_map h xs | Some y ↦ ap (λ l. y ∷ l) (as_flat_map h xs) ]

pub reordered : {X Y : Type 0} (h : X → Option Y) (xs ys : List X) → IsPermutation xs ys → IsPermutation (filter_map h xs) (filter_map h ys)
reordered h xs ys same = rw (as_flat_map h xs, as_flat_map h ys) (IsPermutation-flat_map (λ x. option_to_list (h x)) xs ys same)

-- a sale of the range is that of a fact
pub record IsOfFact (r : Asked) (column : LabelColumn) (facts : List Fact) (s : KeyedSale) : Type 0 where
  pub fact : Fact
  pub there : Contains facts fact
  pub asked : is_asked_of r fact.day ≡ true
  pub is : s ≡ keyed (label_column_fact_key column) fact

further : (r : Asked) (column : LabelColumn) (f : Fact) (facts : List Fact) (s : KeyedSale) → IsOfFact r column facts s → IsOfFact r column (f ∷ facts) s
further r column f facts s rest = record { fact = rest.fact; there = Contains-append_right (f ∷ []) facts rest.fact rest.there; asked = rest.asked; is = rest.is }

first_or : (r : Asked) (column : LabelColumn) (f : Fact) (facts : List Fact) (s : KeyedSale) → is_asked_of r f.day ≡ true → (Contains (sales_of r column facts) s → IsOfFact r column facts s) → Contains (keyed (label_column_fact_key column) f ∷ sales_of r column facts) s → IsOfFact r column (f ∷ facts) s
first_or r column f facts s asked later (zero, within, is) = record { fact = f; there = (0, omega arith, refl); asked = asked; is = sym is }
first_or r column f facts s asked later (suc k, within, is) = further r column f facts s (later (k, omega arith, is))

pub sale_of_fact : (r : Asked) (column : LabelColumn) (facts : List Fact) (s : KeyedSale) → Contains (sales_of r column facts) s → IsOfFact r column facts s
sale_of_fact r column [] s there = let within = there.1 in absurd (omega arith)
sale_of_fact r column (f ∷ facts) s there =
    elim (is_asked_of r f.day) as (λ b. (is_asked_of r f.day ≡ b) → Contains (cond b (keyed (label_column_fact_key column) f ∷ sales_of r column facts) (sales_of r column facts)) s → IsOfFact r column (f ∷ facts) s) [
      | true ↦ λ within here. first_or r column f facts s within (sale_of_fact r column facts s) here
      | false ↦ λ other later. further r column f facts s (sale_of_fact r column facts s later)
    ] refl there

-- and each fact of the range has its sale
fact_in_sales : (r : Asked) (column : LabelColumn) (facts : List Fact) (f : Fact) → Contains facts f → is_asked_of r f.day ≡ true → Contains (sales_of r column facts) (keyed (label_column_fact_key column) f)
fact_in_sales r column [] f there asked = let within = there.1 in absurd (omega arith)
fact_in_sales r column (g ∷ facts) f (zero, within, is) asked =
    subst (λ (h : Fact). Contains (cond (is_asked_of r h.day) (keyed (label_column_fact_key column) h ∷ sales_of r column facts) (sales_of r column facts)) (keyed (label_column_fact_key column) f)) (sym is)
    (subst (λ b. Contains (cond b (keyed (label_column_fact_key column) f ∷ sales_of r column facts) (sales_of r column facts)) (keyed (label_column_fact_key column) f)) (sym asked) (0, omega arith, refl))
fact_in_sales r column (g ∷ facts) f (suc k, within, is) asked =
    let rest = fact_in_sales r column facts f (k, omega arith, is) asked in
    elim (is_asked_of r g.day) as (λ b. Contains (cond b (keyed (label_column_fact_key column) g ∷ sales_of r column facts) (sales_of r column facts)) (keyed (label_column_fact_key column) f)) [
      | true ↦ Contains-append_right (keyed (label_column_fact_key column) g ∷ []) (sales_of r column facts) (keyed (label_column_fact_key column) f) rest
      | false ↦ rest
    ]

-- a fact of the range leads to a label
abbrev HasLabel : Asked → LabelColumn → (ℕ → Option (List ℕ)) → Fact → Type 0
HasLabel r column labels f = is_asked_of r f.day ≡ true → IsSome (labels (keyed (label_column_fact_key column) f).key)

facts_labelled : (r : Asked) (column : LabelColumn) (labels : ℕ → Option (List ℕ)) (facts : List Fact) → AreLabelled labels (sales_of r column facts) → AllByRecursion (HasLabel r column labels) facts
facts_labelled r column labels [] all = tt
facts_labelled r column labels (f ∷ facts) all =
    elim (is_asked_of r f.day) as (λ b. AreLabelled labels (cond b (keyed (label_column_fact_key column) f ∷ sales_of r column facts) (sales_of r column facts)) → (b ≡ true → IsSome (labels (keyed (label_column_fact_key column) f).key)) × AllByRecursion (HasLabel r column labels) facts) [
      | true ↦ λ own. (λ _. own.0, facts_labelled r column labels facts own.1)
      | false ↦ λ own. (λ is. absurd cc, facts_labelled r column labels facts own)
    ] all

sales_labelled : (r : Asked) (column : LabelColumn) (labels : ℕ → Option (List ℕ)) (facts : List Fact) → AllByRecursion (HasLabel r column labels) facts → AreLabelled labels (sales_of r column facts)
sales_labelled r column labels [] all = tt
sales_labelled r column labels (f ∷ facts) all =
    elim (is_asked_of r f.day) as (λ b. (b ≡ true → IsSome (labels (keyed (label_column_fact_key column) f).key)) → AreLabelled labels (cond b (keyed (label_column_fact_key column) f ∷ sales_of r column facts) (sales_of r column facts))) [
      | true ↦ λ own. (own refl, sales_labelled r column labels facts all.1)
      | false ↦ λ own. sales_labelled r column labels facts all.1
    ] all.0

module _ (format : Format) (r : Asked) (column : LabelColumn) (labels : ℕ → Option (List ℕ)) (st : State) (t : Tables) (at : IsAtRest (Some t) st) (which : FactColumn) (leads : which ≡ label_column_fact_key column) (ordered : List Fact) (same : IsPermutation ordered (values (facts_in format t))) where
  labelled_too : AreLabelled labels (sales_of r column ordered) → AreLabelled labels (sales_of r column (values (facts_in format t)))
  labelled_too all =
      sales_labelled r column labels (values (facts_in format t)) (recursion_from_All (HasLabel r column labels) (values (facts_in format t))
      (All-permutation (HasLabel r column labels) ordered (values (facts_in format t)) same (All-from_recursion (HasLabel r column labels) ordered (facts_labelled r column labels ordered all))))

  lacks_too : HasNoLabel labels (sales_of r column ordered) → HasNoLabel labels (sales_of r column (values (facts_in format t)))
  lacks_too lacks =
      let from = sale_of_fact r column ordered lacks.sale lacks.there in
      let there = fact_in_sales r column (values (facts_in format t)) from.fact (Contains-permutation ordered (values (facts_in format t)) from.fact same from.there) from.asked in
      record { sale = lacks.sale; there = subst (Contains (sales_of r column (values (facts_in format t)))) (sym from.is) there; none = lacks.none }

  -- the facts come to what was counted of them
  facts_summed : (sums : Summed) → IsLabelled labels (sales_of r column ordered) (Ok sums) → IsSummed format r column labels (values (facts_in format t)) (Ok sums)
  facts_summed sums are = (
    are.0 ∙ ap summed (asked_counted r labels (map (keyed (label_column_fact_key column)) ordered) ∙ through r column labels ordered)
        ∙ sym (any_order (filter_map (counted r column labels) ordered) (filter_map (counted r column labels) (values (facts_in format t))) (reordered (counted r column labels) ordered (values (facts_in format t)) same)),
    labelled_too are.1,
  )

  -- or they can't be counted
  facts_cut : (f : FactFault) → IsCounted r labels (map (keyed (label_column_fact_key column)) ordered) (Err f) → IsSummed format r column labels (values (facts_in format t)) (Err (uncounted format column f))
  facts_cut uncountable.Memory cut = tt
  facts_cut uncountable.NoLabel cut = inl (refl, lacks_too cut)
  facts_cut uncountable.Damaged cut =
      let valid = good_facts st.now t at.now.tables format in
      let all = all_keyed column ordered (recursion_from_All HasGoodColumns ordered (All-permutation HasGoodColumns (values (facts_in format t)) ordered (IsPermutation-sym ordered (values (facts_in format t)) same) (All-from_recursion HasGoodColumns (values (facts_in format t)) valid))) in
      let most = cut all in
      inr (refl, omega (arith, length_permutation ordered (values (facts_in format t)) same, length-map ordered (keyed (label_column_fact_key column)), most))

  module _ (q : Asked) (same_request : q ≡ r) (sums : List (ℕ × Figures)) (fault : Option AddError) (tally : IsTally r (map (keyed which) ordered) sums fault) (result : Result Summed FactFault) (told : (sales : List KeyedSale) → IsTally q sales sums fault → IsCounted q labels sales result) where
    counted_by_labels : IsCounted r labels (map (keyed (label_column_fact_key column)) ordered) result
    counted_by_labels =
        subst₂ (λ (a : Asked) (w : FactColumn). IsCounted a labels (map (keyed w) ordered) result) same_request leads
        (told (map (keyed which) ordered) (subst (λ (a : Asked). IsTally a (map (keyed which) ordered) sums fault) (sym same_request) tally))

    pub summed_by_labels : (made : Summed) → result ≡ Ok made → IsSummed format r column labels (values (facts_in format t)) (Ok made)
    summed_by_labels made is = facts_summed made (subst (IsCounted r labels (map (keyed (label_column_fact_key column)) ordered)) is counted_by_labels)

    pub cut_by_labels : (f : FactFault) → result ≡ Err f → IsSummed format r column labels (values (facts_in format t)) (Err (uncounted format column f))
    cut_by_labels f is = facts_cut f (subst (IsCounted r labels (map (keyed (label_column_fact_key column)) ordered)) is counted_by_labels)
