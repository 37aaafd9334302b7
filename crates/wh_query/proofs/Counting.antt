-- What is counted of sales, in whatever order they come.
use Rattle.std.proofs.Common.{◌≡◌, ℕ, ◌≤◌, suc, ◌⊎◌, inl, inr, true, false, cond, List, [], ◌∷◌, ◌++◌, map, length, Option, None, Some, Result, Ok, Err, refl, sym, ◌∙◌, ap, subst, arith, length-append}
use Rattle.std.specs.Prelude.{filter_map, is_some, IsOk}
use Rattle.std.specs.FinMap.{values}
use Rattle.std.specs.List.{AllByRecursion, cons_option}
use Rattle.std.specs.List.Sorted.{IsPermutation}
use Rattle.std.specs.Option.{option_to_list}
use Rattle.std.proofs.lemmas.List.{length-map, append-nil}
use Rattle.std.proofs.lemmas.List.Elements.{filter_map-append, Contains-append_left, Contains-append_right, All-from_recursion, recursion_from_All}
use Rattle.std.proofs.lemmas.List.Sorted.{Contains-permutation, length_permutation, IsPermutation-sym, IsPermutation-map, All-permutation}
use Rattle.sqlite.specs.State.{State}
use Rattle.wh_history.specs.declared.facts.Fact.{Fact}
use Rattle.wh_policy.specs.declared.format.Format.{Format}
use Rattle.wh_rows.specs.AtRest.{IsAtRest}
use Rattle.wh_rows.specs.Facts.{facts_in}
use Rattle.wh_rows.specs.LinkedSales.{linked}
use Rattle.wh_rows.specs.Raw.{Stored}
use Rattle.wh_rows.specs.Tables.{Tables}
use Rattle.wh_rows.specs.declared.linked_sale.LinkedSale.{LinkedSale}
use Rattle.wh_report.specs.Sums.{Figures, IsMeasured}
use Rattle.wh_report.specs.declared.column.LabelColumn.{LabelColumn}
use Rattle.wh_report.specs.declared.column.LabelColumn.TheVariants.{CalendarMonth}
use Rattle.wh_report.specs.declared.output.ReportFault.{ReportFault}
use Rattle.wh_report.specs.declared.output.ReportFault.TheVariants.{Write, Warehouse, Unwritten, Inconsistent}
use Rattle.wh_report.proofs.SummedFacts.{HasGoodColumns, good_facts, valid_measures, reordered, all_before, last_of}
use Rattle.wh_report.specs.Lines.{Labelled, lines}
use Rattle.wh_report.proofs.AddedLines.{any_order}
use Rattle.wh_query.specs.Answered.{report_fault, IsSummed, SumsTables, facts_linked, AreAllLinked, TooManyOf, SumsStored}
use Rattle.wh_query.specs.Asked.{QueryAsked, is_between}
use Rattle.wh_query.specs.Words.{by_texts}
use Rattle.wh_query.specs.Slice.{Lead, measures_of, slice_label, sold_with, sold_sale, sold_sales, IsLed, AreLed, LacksLabel}
use Rattle.wh_query.specs.Tallied.{IsTally, tallied}
use Rattle.wh_query.specs.declared.fault.SaleFault.{SaleFault}
use Rattle.wh_query.specs.declared.fault.SaleFault.TheVariants.{Memory, NoLabel, Damaged}
use Rattle.wh_query.proofs.Texts.{texts_total, same_texts}

all_with : {X : Type 0} (P : X → Type 0) (xs : List X) (x : X) → AllByRecursion P xs → P x → AllByRecursion P (xs ++ x ∷ [])
all_with P [] x all own = (own, tt)
all_with P (y ∷ xs) x all own = (all.0, all_with P xs x all.1 own)

one_option : {X : Type 0} (o : Option X) → cons_option o [] ≡ option_to_list o
one_option None = refl
one_option (Some x) = refl

few_options : {X Y : Type 0} (h : X → Option Y) (xs : List X) → length (filter_map h xs) ≤ length xs
few_options h [] = omega arith
few_options h (x ∷ xs) =
    let rest = few_options h xs in
    elim (h x) as (λ o. length (cons_option o (filter_map h xs)) ≤ suc (length xs)) [ None ↦ omega (arith, rest) | Some y ↦ omega (arith, rest) ]

made_is : (ls made : List (List (List ℕ) × Figures)) → tallied ls None ≡ Ok made → ls ≡ made
made_is ls made is = cc

why_is : (ls : List (List (List ℕ) × Figures)) (fault why : SaleFault) → tallied ls (Some fault) ≡ Err why → fault ≡ why
why_is ls fault why is = cc

module _ (q : QueryAsked) (filters columns : List Lead) where
  -- ---- one sale more

  sold_more : (sales : List LinkedSale) (s : LinkedSale) → sold_sales q filters columns (sales ++ s ∷ []) ≡ sold_sales q filters columns sales ++ option_to_list (sold_sale q filters columns s)
  sold_more sales s =
      filter_map-append (sold_sale q filters columns) sales (s ∷ []) ∙ ap (λ xs. sold_sales q filters columns sales ++ xs) (one_option (sold_sale q filters columns s))

  abbrev sold_of : LinkedSale → Option (Labelled (List (List ℕ)))
  sold_of s = sold_with (measures_of s) (slice_label q.conditions filters columns s)

  sold_within : (sales : List LinkedSale) (s : LinkedSale) → is_between q s.day ≡ true → sold_sales q filters columns (sales ++ s ∷ []) ≡ sold_sales q filters columns sales ++ option_to_list (sold_of s)
  sold_within sales s within = sold_more sales s ∙ ap (λ b. sold_sales q filters columns sales ++ option_to_list (cond b (sold_of s) None)) within

  sold_without : (sales : List LinkedSale) (s : LinkedSale) → is_between q s.day ≡ false → sold_sales q filters columns (sales ++ s ∷ []) ≡ sold_sales q filters columns sales
  sold_without sales s other =
      sold_more sales s ∙ ap (λ b. sold_sales q filters columns sales ++ option_to_list (cond b (sold_of s) None)) other ∙ append-nil (sold_sales q filters columns sales)

  still_lacks : (column : LabelColumn) (sales : List LinkedSale) (s : LinkedSale) → LacksLabel q filters columns column sales → LacksLabel q filters columns column (sales ++ s ∷ [])
  still_lacks column sales s lacks = record { sale = lacks.sale; there = Contains-append_left sales (s ∷ []) lacks.sale lacks.there; asked = lacks.asked; lacks = lacks.lacks }

  -- where a sale was refused, or is of another day, one more changes nothing
  pub not_counted : (sales : List LinkedSale) (s : LinkedSale) (ls : List (List (List ℕ) × Figures)) (fault : Option SaleFault) → is_some fault ≡ true ⊎ (is_between q s.day ≡ false) → IsTally q filters columns sales ls fault → IsTally q filters columns (sales ++ s ∷ []) ls fault
  not_counted sales s ls None (inl there) tally = absurd cc
  not_counted sales s ls None (inr other) tally = (tally.0 ∙ ap (lines by_texts) (sym (sold_without sales s other)), all_with (IsLed q filters columns) sales s tally.1 (λ within. absurd cc))
  not_counted sales s ls (Some Memory) why tally = tt
  not_counted sales s ls (Some (NoLabel column)) why tally = still_lacks column sales s tally
  not_counted sales s ls (Some Damaged) why tally = λ all.
      let many = tally (all_before (λ x. IsMeasured (measures_of x)) sales s all) in
      omega (arith, length-append sales (s ∷ []))

  -- one of the range is counted
  pub one_counted : (sales : List LinkedSale) (s : LinkedSale) (old new : List (List (List ℕ) × Figures)) (fault : Option SaleFault) → is_some fault ≡ false → is_between q s.day ≡ true → IsTally q filters columns sales old fault
      → IsOk (slice_label q.conditions filters columns s) → ((sold : List (Labelled (List (List ℕ)))) → old ≡ lines by_texts sold → new ≡ lines by_texts (sold ++ option_to_list (sold_of s))) → IsTally q filters columns (sales ++ s ∷ []) new fault
  one_counted sales s old new None none within tally led put =
      (put (sold_sales q filters columns sales) tally.0 ∙ ap (lines by_texts) (sym (sold_within sales s within)), all_with (IsLed q filters columns) sales s tally.1 (λ _. led))
  one_counted sales s old new (Some fault) none within tally led put = absurd cc

  -- or refused
  pub one_refused : (sales : List LinkedSale) (s : LinkedSale) (old new : List (List (List ℕ) × Figures)) (before : Option SaleFault) (fault : SaleFault) → is_some before ≡ false → is_between q s.day ≡ true → IsTally q filters columns sales old before
      → ((column : LabelColumn) → fault ≡ NoLabel column → slice_label q.conditions filters columns s ≡ Err column)
      → ((sold : List (Labelled (List (List ℕ)))) → old ≡ lines by_texts sold → fault ≡ Damaged → IsMeasured (measures_of s) → 4_294_967_295 ≤ length sold) → IsTally q filters columns (sales ++ s ∷ []) new (Some fault)
  one_refused sales s old new (Some other) fault none within tally lacks many = absurd cc
  one_refused sales s old new None Memory none within tally lacks many = tt
  one_refused sales s old new None (NoLabel column) none within tally lacks many =
      record { sale = s; there = Contains-append_right sales (s ∷ []) s (0, omega arith, refl); asked = within; lacks = lacks column refl }
  one_refused sales s old new None Damaged none within tally lacks many = λ all.
      let most = many (sold_sales q filters columns sales) tally.0 refl (last_of (λ x. IsMeasured (measures_of x)) sales s all) in
      let few = few_options (sold_sale q filters columns) sales in
      omega (arith, most, few, length-append sales (s ∷ []))

  -- none yet
  pub none_counted : (ls : List (List (List ℕ) × Figures)) → ls ≡ lines by_texts [] → IsTally q filters columns [] ls None
  none_counted ls is = (is, tt)

  -- ---- what they come to

  module _ (format : Format) where
    -- of any sales
    pub made_of : (sales : List LinkedSale) (TooMany : Type 0) (ls made : List (List (List ℕ) × Figures)) (fault : Option SaleFault) → IsTally q filters columns sales ls fault → tallied ls fault ≡ Ok made → IsSummed format q filters columns sales TooMany (Ok made)
    made_of sales TooMany ls made None tally is = (sym (made_is ls made is) ∙ tally.0, tally.1)
    made_of sales TooMany ls made (Some fault) tally is = absurd cc

    pub cut_of : (sales : List LinkedSale) (TooMany : Type 0) → (TooManyOf sales → TooMany) → (ls : List (List (List ℕ) × Figures)) (fault : Option SaleFault) (why : SaleFault) → IsTally q filters columns sales ls fault → tallied ls fault ≡ Err why → IsSummed format q filters columns sales TooMany (Err (report_fault format why))
    cut_of sales TooMany many ls None why tally is = absurd cc
    cut_of sales TooMany many ls (Some fault) why tally is = subst (λ w. IsSummed format q filters columns sales TooMany (Err (report_fault format w))) (why_is ls fault why is) (by_fault fault tally)
      where
        by_fault : (fault : SaleFault) → IsTally q filters columns sales ls (Some fault) → IsSummed format q filters columns sales TooMany (Err (report_fault format fault))
        by_fault Memory tally = tt
        by_fault (NoLabel column) tally = inl (column, refl, tally)
        by_fault Damaged tally = inr (refl, many tally)

    -- of sales in another order
    module _ (ordered facts : List LinkedSale) (same : IsPermutation ordered facts) (TooMany : Type 0) where
      led_too : AreLed q filters columns ordered → AreLed q filters columns facts
      led_too all = recursion_from_All (IsLed q filters columns) facts (All-permutation (IsLed q filters columns) ordered facts same (All-from_recursion (IsLed q filters columns) ordered all))

      pub reordered_sums : (result : Result (List (List (List ℕ) × Figures)) ReportFault) → IsSummed format q filters columns ordered TooMany result → IsSummed format q filters columns facts TooMany result
      reordered_sums (Ok ls) summed = (
        summed.0 ∙ sym (any_order by_texts texts_total same_texts (sold_sales q filters columns ordered) (sold_sales q filters columns facts) (reordered (sold_sale q filters columns) ordered facts same)),
        led_too summed.1,
      )
      reordered_sums (Err (Inconsistent found)) summed = elim summed [
        | inl lacks ↦ inl (lacks.0, lacks.1, record { sale = lacks.2.sale; there = Contains-permutation ordered facts lacks.2.sale same lacks.2.there; asked = lacks.2.asked; lacks = lacks.2.lacks })
        | inr many ↦ inr many
      ]
      reordered_sums (Err Write) summed = tt
      reordered_sums (Err (Warehouse fault)) summed = tt
      reordered_sums (Err (Unwritten fault)) summed = tt

-- ---- facts at rest have measures that a sale may have

all_measured : (facts : List Fact) → AllByRecursion HasGoodColumns facts → AllByRecursion (λ s. IsMeasured (measures_of s)) (map linked facts)
all_measured [] all = tt
all_measured (f ∷ facts) all = (valid_measures CalendarMonth f all.0, all_measured facts all.1)

pub too_many_facts : (format : Format) (st : State) (t : Tables) → IsAtRest (Some t) st → (ordered : List Fact) → IsPermutation ordered (values (facts_in format t)) → TooManyOf (map linked ordered) → 4_294_967_295 ≤ length (values (facts_in format t))
too_many_facts format st t at ordered same many =
    let valid = good_facts st.now t at.now.tables format in
    let all = all_measured ordered (recursion_from_All HasGoodColumns ordered (All-permutation HasGoodColumns (values (facts_in format t)) ordered (IsPermutation-sym ordered (values (facts_in format t)) same) (All-from_recursion HasGoodColumns (values (facts_in format t)) valid))) in
    let most = many all in
    omega (arith, length_permutation ordered (values (facts_in format t)) same, length-map ordered linked, most)

-- ---- what a call says that had them counted

module _ (q p : QueryAsked) (fs gs cs ds : List Lead) (same_query : p ≡ q) (same_filters : gs ≡ fs) (same_columns : ds ≡ cs) (format : Format) (ls : List (List (List ℕ) × Figures)) (fault : Option SaleFault) where
  as_asked : (sales : List LinkedSale) → IsTally p gs ds sales ls fault → IsTally q fs cs sales ls fault
  as_asked sales tally =
      subst (λ a. IsTally a fs cs sales ls fault) same_query (subst (λ a. IsTally p a cs sales ls fault) same_filters (subst (λ a. IsTally p gs a sales ls fault) same_columns tally))

  module _ (st : State) (t : Tables) (at : IsAtRest (Some t) st) (ordered : List Fact) (same : IsPermutation ordered (values (facts_in format t))) (tally : IsTally p gs ds (map linked ordered) ls fault) where
    abbrev TooMany : Type 0
    TooMany = 4_294_967_295 ≤ length (values (facts_in format t))

    in_order : (result : Result (List (List (List ℕ) × Figures)) ReportFault) → IsSummed format q fs cs (map linked ordered) TooMany result → SumsTables format q fs cs t result
    in_order result summed = reordered_sums q fs cs format (map linked ordered) (facts_linked format t) (IsPermutation-map linked ordered (values (facts_in format t)) same) TooMany result summed

    pub made_at_rest : (made : List (List (List ℕ) × Figures)) → tallied ls fault ≡ Ok made → SumsTables format q fs cs t (Ok made)
    made_at_rest made is = in_order (Ok made) (made_of q fs cs format (map linked ordered) TooMany ls made fault (as_asked (map linked ordered) tally) is)

    pub cut_at_rest : (why : SaleFault) → tallied ls fault ≡ Err why → SumsTables format q fs cs t (Err (report_fault format why))
    cut_at_rest why is =
        in_order (Err (report_fault format why)) (cut_of q fs cs format (map linked ordered) TooMany (too_many_facts format st t at ordered same) ls fault why (as_asked (map linked ordered) tally) is)

  module _ (stored : Stored) (sales : List LinkedSale) (all : AreAllLinked format stored sales) (tally : IsTally p gs ds sales ls fault) where
    pub made_stored : (made : List (List (List ℕ) × Figures)) → tallied ls fault ≡ Ok made → SumsStored format q fs cs stored (Ok made)
    made_stored made is = record { sales = sales; all = all; summed = made_of q fs cs format sales (TooManyOf sales) ls made fault (as_asked sales tally) is }

    pub cut_stored : (why : SaleFault) → tallied ls fault ≡ Err why → SumsStored format q fs cs stored (Err (report_fault format why))
    cut_stored why is = by_why why (cut_of q fs cs format sales (TooManyOf sales) (λ many. many) ls fault why (as_asked sales tally) is)
      where
        by_why : (why : SaleFault) → IsSummed format q fs cs sales (TooManyOf sales) (Err (report_fault format why)) → SumsStored format q fs cs stored (Err (report_fault format why))
        by_why Memory summed = tt
        by_why (NoLabel column) summed = record { sales = sales; all = all; summed = summed }
        by_why Damaged summed = record { sales = sales; all = all; summed = summed }
