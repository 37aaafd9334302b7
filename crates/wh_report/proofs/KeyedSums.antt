-- What sales come to by their keys, and by the labels that these lead to.
use Rattle.std.proofs.Common.{◌≡◌, ℕ, suc, ◌==◌, ◌<◌, ◌≤◌, true, false, cond, ◌||◌, List, [], ◌∷◌, ◌++◌, map, length, Option, Some, None, Ok, Err, unwrap_or, refl, sym, ◌∙◌, ap, subst, arith, length-append}
use Rattle.std.specs.Prelude.{filter, filter_map, flat_map, option_map, Contains, IsSome}
use Rattle.std.specs.BTreeMap.{is_at}
use Rattle.std.specs.List.{cons_option, list_any, AllByRecursion}
use Rattle.std.specs.List.Sorted.{IsStrictlySortedBy}
use Rattle.std.specs.Map.{keys_of, lookup}
use Rattle.std.specs.Cmp.{ranks}
use Rattle.std.specs.Ordering.{is_eq, nat_cmp, MatchOrdering}
use Rattle.std.specs.declared.cmp.Ordering.{Ordering}
use Rattle.std.specs.declared.cmp.Ordering.TheVariants.{Less, Equal, Greater}
use Rattle.std.proofs.lemmas.Bool.{eq-eqb, eqb-true}
use Rattle.std.proofs.lemmas.Cmp.{nat_list_cmp_total}
use Rattle.std.proofs.lemmas.List.{append-nil, length-map, map-append}
use Rattle.std.proofs.lemmas.List.Elements.{filter-append, Contains-append_right}
use Rattle.std.proofs.lemmas.Map.Keys.{sorted_head, sorted_tail}
use Rattle.wh_history.proofs.Basics.{some_is}
use Rattle.wh_rows.specs.declared.keyed_sale.KeyedSale.{KeyedSale}
use Rattle.wh_report.specs.Counting.{fault_of, measures_of, with_label, AreLabelled, HasNoLabel}
use Rattle.wh_report.specs.KeySums.{has_key, figures_of, AreKeySums, IsLabelled}
use Rattle.wh_report.specs.Lines.{figures, lines}
use Rattle.wh_report.specs.Sums.{Figures, Measured, nothing, with_line}
use Rattle.wh_report.specs.Summary.{Sold, Summed, AreSoldAs, by_bytes, summed}
use Rattle.wh_report.specs.declared.summary.AddError.{AddError}
use Rattle.wh_report.specs.declared.summary.AddError.TheVariants.{Memory, Damaged}
use Rattle.wh_report.proofs.AddedLines.{figures-push, moved, after_one}
use Rattle.wh_report.proofs.Summaries.{how_many, same_summed}
use Rattle.wh_report.proofs.TextMaps.{same_label}

-- ---- one sale more

figures_of-push : (sales : List KeyedSale) (s : KeyedSale) → figures_of (sales ++ s ∷ []) ≡ Some (with_line (measures_of s) (unwrap_or (figures_of sales) nothing))
figures_of-push [] s = ap Some (figures-push [] (measures_of s))
figures_of-push (t ∷ sales) s = ap Some (ap figures (map-append measures_of (t ∷ sales) (s ∷ [])) ∙ figures-push (map measures_of (t ∷ sales)) (measures_of s))

-- two numbers, by the order
same_number : (k q : ℕ) → k ≡ q → is_eq (nat_cmp k q) ≡ true
same_number k q is = go (nat_cmp k q) (ranks k q)
  where
    go : (o : Ordering) → MatchOrdering o (k < q) (k ≡ q) (q < k) → is_eq o ≡ true
    go Less less = absurd (omega (arith, is, less))
    go Equal same = refl
    go Greater more = absurd (omega (arith, is, more))

other_number : (k q : ℕ) → (k == q) ≡ false → is_eq (nat_cmp k q) ≡ false
other_number k q differs = go (nat_cmp k q) (ranks k q)
  where
    go : (o : Ordering) → MatchOrdering o (k < q) (k ≡ q) (q < k) → is_eq o ≡ false
    go Less less = refl
    go Equal same = let equal = eq-eqb k q same in absurd cc
    go Greater more = refl

below_number : (k q : ℕ) → nat_cmp k q ≡ Less → k < q
below_number k q less = go (nat_cmp k q) (ranks k q) less
  where
    go : (o : Ordering) → MatchOrdering o (k < q) (k ≡ q) (q < k) → o ≡ Less → k < q
    go Less less is = less
    go Equal same is = absurd cc
    go Greater more is = absurd cc

-- the sums by keys with one sale more
pub one_key_more : (old new : List (ℕ × Figures)) (sales : List KeyedSale) (s : KeyedSale) (m : Measured) → m ≡ measures_of s → AreKeySums old sales
    → ((q : ℕ) → lookup (is_at (nat_cmp q)) new ≡ cond (is_at (nat_cmp s.key) q) (Some (with_line m (unwrap_or (lookup (is_at (nat_cmp s.key)) old) nothing))) (lookup (is_at (nat_cmp q)) old))
    → AreKeySums new (sales ++ s ∷ [])
one_key_more old new sales s m is are put = record { found = found }
  where
    found : (q : ℕ) → lookup (is_at (nat_cmp q)) new ≡ figures_of (filter (has_key q) (sales ++ s ∷ []))
    found q =
        let split = filter-append (has_key q) sales (s ∷ []) in
        elim (s.key == q) as (λ b. ((s.key == q) ≡ b) → lookup (is_at (nat_cmp q)) new ≡ figures_of (filter (has_key q) sales ++ cond b (s ∷ []) [])) [
          | true ↦ λ e.
              let same : s.key ≡ q = eqb-true s.key q e in
              put q
              ∙ ap (λ b. cond b (Some (with_line m (unwrap_or (lookup (is_at (nat_cmp s.key)) old) nothing))) (lookup (is_at (nat_cmp q)) old)) (same_number s.key q same)
              ∙ ap (λ (o : Option Figures). Some (with_line m (unwrap_or o nothing))) (are.found s.key ∙ ap (λ k. figures_of (filter (has_key k) sales)) same)
              ∙ ap (λ (n : Measured). Some (with_line n (unwrap_or (figures_of (filter (has_key q) sales)) nothing))) is
              ∙ sym (figures_of-push (filter (has_key q) sales) s)
          | false ↦ λ e.
              put q
              ∙ ap (λ b. cond b (Some (with_line m (unwrap_or (lookup (is_at (nat_cmp s.key)) old) nothing))) (lookup (is_at (nat_cmp q)) old)) (other_number s.key q e)
              ∙ are.found q
              ∙ ap figures_of (sym (append-nil (filter (has_key q) sales)))
        ] refl ∙ sym (ap figures_of split)

figures_lines : (sales : List KeyedSale) (f : Figures) → figures_of sales ≡ Some f → f.lines ≡ length sales
figures_lines [] f is = absurd cc
figures_lines (s ∷ sales) f is = sym (ap (λ (t : Figures). t.lines) (some_is (figures (map measures_of (s ∷ sales))) f is)) ∙ length-map (s ∷ sales) measures_of

few_of_key : (key : ℕ) (sales : List KeyedSale) → length (filter (has_key key) sales) ≤ length sales
few_of_key key [] = omega arith
few_of_key key (s ∷ sales) =
    let rest = few_of_key key sales in
    elim (has_key key s) as (λ b. length (cond b (s ∷ filter (has_key key) sales) (filter (has_key key) sales)) ≤ length (s ∷ sales)) [ true ↦ omega (arith, rest) | false ↦ omega (arith, rest) ]

-- a key that can't have a further sale has too many
pub key_full : (sums : List (ℕ × Figures)) (sales : List KeyedSale) (key : ℕ) (f : Figures) → AreKeySums sums sales → f ≡ unwrap_or (lookup (is_at (nat_cmp key)) sums) nothing → 4_294_967_295 ≤ f.lines → 4_294_967_295 ≤ length sales
key_full sums sales key f are is full = by_figures (figures_of (filter (has_key key) sales)) refl (is ∙ ap (λ o. unwrap_or o nothing) (are.found key))
  where
    by_figures : (o : Option Figures) → figures_of (filter (has_key key) sales) ≡ o → f ≡ unwrap_or o nothing → 4_294_967_295 ≤ length sales
    by_figures None found none = let zero_lines : f.lines ≡ 0 = ap (λ (t : Figures). t.lines) none in absurd (omega (arith, zero_lines, full))
    by_figures (Some g) found same =
        let n = figures_lines (filter (has_key key) sales) g found in
        let m : f.lines ≡ g.lines = ap (λ (t : Figures). t.lines) same in
        let few = few_of_key key sales in
        omega (arith, n, m, few, full)

-- ---- the sales of a key, under the label that it leads to

abbrev sold_with : List ℕ → KeyedSale → Sold
sold_with label s = record { label = label; measures = measures_of s }

measured : (label : List ℕ) (sales : List KeyedSale) → map measures_of sales ≡ map (λ (q : Sold). q.measures) (map (sold_with label) sales)
measured label [] = refl
measured label (s ∷ sales) = ap (λ ms. measures_of s ∷ ms) (measured label sales)

all_labelled : (label : List ℕ) (sales : List KeyedSale) → AllByRecursion (λ (q : Sold). q.label ≡ label) (map (sold_with label) sales)
all_labelled label [] = tt
all_labelled label (s ∷ sales) = (refl, all_labelled label sales)

sold_some : (label : List ℕ) (f : Figures) (sales : List KeyedSale) → figures_of sales ≡ Some f → AreSoldAs label f (map (sold_with label) sales)
sold_some label f [] is = absurd cc
sold_some label f (s ∷ sales) is = record {
  some = omega arith;
  labelled = all_labelled label (s ∷ sales);
  made = sym (some_is (figures (map measures_of (s ∷ sales))) f is) ∙ ap figures (measured label (s ∷ sales));
}

module _ (labels : ℕ → Option (List ℕ)) where
  abbrev labelled : KeyedSale → Option Sold
  labelled = with_label labels

  -- those of a key with their labels
  abbrev pub of_key : List KeyedSale → ℕ → List Sold
  of_key sales key = filter_map labelled (filter (has_key key) sales)

  of_key_is : (key : ℕ) (label : List ℕ) → labels key ≡ Some label → (sales : List KeyedSale) → of_key sales key ≡ map (sold_with label) (filter (has_key key) sales)
  of_key_is key label leads [] = refl
  of_key_is key label leads (s ∷ sales) =
      elim (s.key == key) as (λ b. ((s.key == key) ≡ b) → filter_map labelled (cond b (s ∷ filter (has_key key) sales) (filter (has_key key) sales)) ≡ map (sold_with label) (cond b (s ∷ filter (has_key key) sales) (filter (has_key key) sales))) [
        | true ↦ λ e.
            let one : labelled s ≡ Some (sold_with label s) = ap (λ k. option_map (λ text. sold_with text s) (labels k)) (eqb-true s.key key e) ∙ ap (option_map (λ text. sold_with text s)) leads in
            ap (λ o. cons_option o (of_key sales key)) one ∙ ap (λ qs. sold_with label s ∷ qs) (of_key_is key label leads sales)
        | false ↦ λ e. of_key_is key label leads sales
      ] refl

  pub key_sold : (sales : List KeyedSale) (key : ℕ) (label : List ℕ) (f : Figures) → labels key ≡ Some label → figures_of (filter (has_key key) sales) ≡ Some f → AreSoldAs label f (of_key sales key)
  key_sold sales key label f leads is = subst (AreSoldAs label f) (sym (of_key_is key label leads sales)) (sold_some label f (filter (has_key key) sales) is)

-- ---- all keys

-- what two lists are, of which one has an element more
record Placed {X : Type 0} (x : Option X) (without with_it : List X) : Type 0 where
  before : List X
  after : List X
  is_without : without ≡ before ++ after
  is_with : with_it ≡ before ++ cons_option x after

append-assoc : {X : Type 0} (xs ys zs : List X) → (xs ++ ys) ++ zs ≡ xs ++ (ys ++ zs)
append-assoc [] ys zs = refl
append-assoc (x ∷ xs) ys zs = ap (λ l. x ∷ l) (append-assoc xs ys zs)

cons_option-append : {X : Type 0} (x : Option X) (xs ys : List X) → cons_option x xs ++ ys ≡ cons_option x (xs ++ ys)
cons_option-append None xs ys = refl
cons_option-append (Some x) xs ys = refl

module _ {X : Type 0} (f g : ℕ → List X) (x : Option X) (key : ℕ) (here : g key ≡ cons_option x (f key)) (elsewhere : (k : ℕ) → (key == k) ≡ false → g k ≡ f k) where
  same_above : (low : ℕ) (ks : List ℕ) → key ≤ low → AllByRecursion (λ k. nat_cmp low k ≡ Less) ks → flat_map g ks ≡ flat_map f ks
  same_above low [] within above = refl
  same_above low (k ∷ ks) within above =
      let more = below_number low k above.0 in
      let differs : (key == k) ≡ false = elim (key == k) as (λ b. ((key == k) ≡ b) → b ≡ false) [ true ↦ λ e. absurd (let same = eqb-true key k e in omega (arith, same, more, within)) | false ↦ λ e. refl ] refl in
      ap (λ l. l ++ flat_map g ks) (elsewhere k differs) ∙ ap (λ l. f k ++ l) (same_above low ks within above.1)

  placed : (ks : List ℕ) → IsStrictlySortedBy nat_cmp ks → list_any (is_at (nat_cmp key)) ks ≡ true → Placed x (flat_map f ks) (flat_map g ks)
  placed [] up there = absurd cc
  placed (k ∷ ks) up there =
      elim (key == k) as (λ b. ((key == k) ≡ b) → Placed x (flat_map f (k ∷ ks)) (flat_map g (k ∷ ks))) [
        | true ↦ λ e.
            let same = eqb-true key k e in
            let rest = same_above k ks (omega (arith, same)) (sorted_head nat_cmp k ks up) in
            let head : g k ≡ cons_option x (f k) = subst (λ q. g q ≡ cons_option x (f q)) same here in
            record { before = []; after = f k ++ flat_map f ks; is_without = refl; is_with = ap (λ l. l ++ flat_map g ks) head ∙ ap (λ l. cons_option x (f k) ++ l) rest ∙ cons_option-append x (f k) (flat_map f ks) }
        | false ↦ λ e.
            let later : list_any (is_at (nat_cmp key)) ks ≡ true = sym (ap (λ b. b || list_any (is_at (nat_cmp key)) ks) (other_number key k e)) ∙ there in
            let rest = placed ks (sorted_tail nat_cmp k ks up) later in
            record {
              before = f k ++ rest.before;
              after = rest.after;
              is_without = ap (λ l. f k ++ l) rest.is_without ∙ sym (append-assoc (f k) rest.before rest.after);
              is_with = ap (λ l. l ++ flat_map g ks) (elsewhere k e) ∙ ap (λ l. f k ++ l) rest.is_with ∙ sym (append-assoc (f k) rest.before (cons_option x rest.after));
            }
      ] refl

none_at_all : (labels : ℕ → Option (List ℕ)) (ks : List ℕ) → flat_map (of_key labels []) ks ≡ []
none_at_all labels [] = refl
none_at_all labels (k ∷ ks) = none_at_all labels ks

module _ (labels : ℕ → Option (List ℕ)) where
  all_moved : (x : Option Sold) (before after : List Sold) (sales : List Sold) → lines by_bytes (before ++ after) ≡ lines by_bytes sales → lines by_bytes (before ++ cons_option x after) ≡ lines by_bytes (cons_option x sales)
  all_moved None before after sales same = same
  all_moved (Some x) before after sales same = moved by_bytes nat_list_cmp_total same_label before after x ∙ after_one by_bytes nat_list_cmp_total same_label x (before ++ after) sales same

  -- the sales of all keys, one key after the other, come to what they come to in their own order
  key_by_key : (sales : List KeyedSale) (ks : List ℕ) → IsStrictlySortedBy nat_cmp ks → AllByRecursion (λ (s : KeyedSale). list_any (is_at (nat_cmp s.key)) ks ≡ true) sales → lines by_bytes (flat_map (of_key labels sales) ks) ≡ lines by_bytes (filter_map (with_label labels) sales)
  key_by_key [] ks up all = ap (lines by_bytes) (none_at_all labels ks)
  key_by_key (s ∷ sales) ks up all =
      let rest = key_by_key sales ks up all.1 in
      let x = with_label labels s in
      let here : of_key labels (s ∷ sales) s.key ≡ cons_option x (of_key labels sales s.key) =
      ap (λ b. filter_map (with_label labels) (cond b (s ∷ filter (has_key s.key) sales) (filter (has_key s.key) sales))) (eq-eqb s.key s.key refl) in
      let elsewhere : (k : ℕ) → (s.key == k) ≡ false → of_key labels (s ∷ sales) k ≡ of_key labels sales k =
      λ k differs. ap (λ b. filter_map (with_label labels) (cond b (s ∷ filter (has_key k) sales) (filter (has_key k) sales))) differs in
      let place = placed (of_key labels sales) (of_key labels (s ∷ sales)) x s.key here elsewhere ks up all.0 in
      ap (lines by_bytes) place.is_with ∙ all_moved x place.before place.after (filter_map (with_label labels) sales) (ap (lines by_bytes) (sym place.is_without) ∙ rest)

-- ---- the entries of a map

-- each has its own figures
own_figures : (done : List (ℕ × Figures)) (e : ℕ × Figures) (left : List (ℕ × Figures)) → IsStrictlySortedBy nat_cmp (keys_of (done ++ e ∷ left)) → lookup (is_at (nat_cmp e.0)) (done ++ e ∷ left) ≡ Some e.1
own_figures [] e left up = ap (λ b. cond b (Some e.1) (lookup (is_at (nat_cmp e.0)) left)) (same_number e.0 e.0 refl)
own_figures (d ∷ done) e left up =
    let less = below_number d.0 e.0 (head_below done (sorted_head nat_cmp d.0 (keys_of (done ++ e ∷ left)) up)) in
    let differs : (e.0 == d.0) ≡ false = elim (e.0 == d.0) as (λ b. ((e.0 == d.0) ≡ b) → b ≡ false) [ true ↦ λ is. absurd (let same = eqb-true e.0 d.0 is in omega (arith, same, less)) | false ↦ λ is. refl ] refl in
    ap (λ b. cond b (Some d.1) (lookup (is_at (nat_cmp e.0)) (done ++ e ∷ left))) (other_number e.0 d.0 differs)
    ∙ own_figures done e left (sorted_tail nat_cmp d.0 (keys_of (done ++ e ∷ left)) up)
  where
    head_below : (ds : List (ℕ × Figures)) → AllByRecursion (λ k. nat_cmp d.0 k ≡ Less) (keys_of (ds ++ e ∷ left)) → nat_cmp d.0 e.0 ≡ Less
    head_below [] all = all.0
    head_below (c ∷ ds) all = head_below ds all.1

found_key : (key : ℕ) (es : List (ℕ × Figures)) (f : Figures) → lookup (is_at (nat_cmp key)) es ≡ Some f → list_any (is_at (nat_cmp key)) (keys_of es) ≡ true
found_key key [] f is = absurd cc
found_key key (e ∷ es) f is =
    elim (is_at (nat_cmp key) e.0) as (λ b. cond b (Some e.1) (lookup (is_at (nat_cmp key)) es) ≡ Some f → (b || list_any (is_at (nat_cmp key)) (keys_of es)) ≡ true) [ true ↦ λ _. refl | false ↦ λ more. found_key key es f more ] is

figures_there : (before : List KeyedSale) (s : KeyedSale) (after : List KeyedSale) → (f : Figures) × (figures_of (before ++ s ∷ after) ≡ Some f)
figures_there [] s after = (figures (map measures_of (s ∷ after)), refl)
figures_there (t ∷ before) s after = (figures (map measures_of (t ∷ before ++ s ∷ after)), refl)

-- a sale that is there, by what its key comes to
first_of : (key : ℕ) (sales : List KeyedSale) (f : Figures) → figures_of (filter (has_key key) sales) ≡ Some f → (s : KeyedSale) × Contains sales s × (s.key ≡ key)
first_of key [] f is = absurd cc
first_of key (s ∷ sales) f is =
    elim (s.key == key) as (λ b. ((s.key == key) ≡ b) → figures_of (cond b (s ∷ filter (has_key key) sales) (filter (has_key key) sales)) ≡ Some f → (t : KeyedSale) × Contains (s ∷ sales) t × (t.key ≡ key)) [
      | true ↦ λ e _. (s, (0, omega arith, refl), eqb-true s.key key e)
      | false ↦ λ e more.
          let rest = first_of key sales f more in
          (rest.0, Contains-append_right (s ∷ []) sales rest.0 rest.1, rest.2)
    ] refl is

-- what comes to the same has as many sales
lengths_same : (sales others : List Sold) → summed sales ≡ summed others → length sales ≡ length others
lengths_same sales others same = sym (how_many (summed sales) sales refl) ∙ how_many (summed sales) others same

abbrev pub by_entries : (ℕ → Option (List ℕ)) → List KeyedSale → List (ℕ × Figures) → List Sold
by_entries labels sales es = flat_map (of_key labels sales) (keys_of es)

by_entries-append : (labels : ℕ → Option (List ℕ)) (sales : List KeyedSale) (es fs : List (ℕ × Figures)) → by_entries labels sales (es ++ fs) ≡ by_entries labels sales es ++ by_entries labels sales fs
by_entries-append labels sales [] fs = refl
by_entries-append labels sales (e ∷ es) fs = ap (λ l. of_key labels sales e.0 ++ l) (by_entries-append labels sales es fs) ∙ sym (append-assoc (of_key labels sales e.0) (by_entries labels sales es) (by_entries labels sales fs))

-- what was added to a summary of the entries before those that are left
pub record IsJoined (labels : ℕ → Option (List ℕ)) (sales : List KeyedSale) (sums left : List (ℕ × Figures)) (summary : Summed) : Type 0 where
  pub done : List (ℕ × Figures)
  pub split : sums ≡ done ++ left
  pub made : summary ≡ summed (by_entries labels sales done)
  pub labelled : AllByRecursion (λ (e : ℕ × Figures). IsSome (labels e.0)) done

pub none_joined : (labels : ℕ → Option (List ℕ)) (sales : List KeyedSale) (sums : List (ℕ × Figures)) → IsJoined labels sales sums sums (summed [])
none_joined labels sales sums = record { done = []; split = refl; made = refl; labelled = tt }

all_with : (P : ℕ × Figures → Type 0) (es : List (ℕ × Figures)) (e : ℕ × Figures) → AllByRecursion P es → P e → AllByRecursion P (es ++ e ∷ [])
all_with P [] e all own = (own, tt)
all_with P (d ∷ es) e all own = (all.0, all_with P es e all.1 own)

label_at : (labels : ℕ → Option (List ℕ)) (key : ℕ) (es : List (ℕ × Figures)) → AllByRecursion (λ (e : ℕ × Figures). IsSome (labels e.0)) es → list_any (is_at (nat_cmp key)) (keys_of es) ≡ true → IsSome (labels key)
label_at labels key [] all there = absurd cc
label_at labels key (e ∷ es) all there =
    elim (key == e.0) as (λ b. ((key == e.0) ≡ b) → IsSome (labels key)) [
      | true ↦ λ is. subst (λ k. IsSome (labels k)) (sym (eqb-true key e.0 is)) all.0
      | false ↦ λ other. label_at labels key es all.1 (sym (ap (λ b. b || list_any (is_at (nat_cmp key)) (keys_of es)) (other_number key e.0 other)) ∙ there)
    ] refl

all_have : (labels : ℕ → Option (List ℕ)) (es : List (ℕ × Figures)) → AllByRecursion (λ (e : ℕ × Figures). IsSome (labels e.0)) es → (sales : List KeyedSale) → AllByRecursion (λ (s : KeyedSale). list_any (is_at (nat_cmp s.key)) (keys_of es) ≡ true) sales → AreLabelled labels sales
all_have labels es all [] there = tt
all_have labels es all (s ∷ sales) there = (label_at labels s.key es all there.0, all_have labels es all sales there.1)

few_with_label : (labels : ℕ → Option (List ℕ)) (sales : List KeyedSale) → length (filter_map (with_label labels) sales) ≤ length sales
few_with_label labels [] = omega arith
few_with_label labels (s ∷ sales) =
    let rest = few_with_label labels sales in
    elim (with_label labels s) as (λ o. length (cons_option o (filter_map (with_label labels) sales)) ≤ suc (length sales)) [ None ↦ omega (arith, rest) | Some q ↦ omega (arith, rest) ]

module _ (labels : ℕ → Option (List ℕ)) (sums : List (ℕ × Figures)) (up : IsStrictlySortedBy nat_cmp (keys_of sums)) (sales : List KeyedSale) (are : AreKeySums sums sales) where
  -- every sale has its key there
  keys_there : (before after : List KeyedSale) → before ++ after ≡ sales → AllByRecursion (λ (s : KeyedSale). list_any (is_at (nat_cmp s.key)) (keys_of sums) ≡ true) after
  keys_there before [] is = tt
  keys_there before (s ∷ after) is =
      let own : filter (has_key s.key) sales ≡ filter (has_key s.key) before ++ s ∷ filter (has_key s.key) after =
      ap (filter (has_key s.key)) (sym is) ∙ filter-append (has_key s.key) before (s ∷ after) ∙ ap (λ b. filter (has_key s.key) before ++ cond b (s ∷ filter (has_key s.key) after) (filter (has_key s.key) after)) (eq-eqb s.key s.key refl) in
      let some = figures_there (filter (has_key s.key) before) s (filter (has_key s.key) after) in
      (found_key s.key sums some.0 (are.found s.key ∙ ap figures_of own ∙ some.1), keys_there (before ++ s ∷ []) after (append-assoc before (s ∷ []) after ∙ is))

  all_keys : AllByRecursion (λ (s : KeyedSale). list_any (is_at (nat_cmp s.key)) (keys_of sums) ≡ true) sales
  all_keys = keys_there [] sales refl

  all_entries : summed (by_entries labels sales sums) ≡ summed (filter_map (with_label labels) sales)
  all_entries = same_summed (by_entries labels sales sums) (filter_map (with_label labels) sales) (key_by_key labels sales (keys_of sums) up all_keys)

  -- none is left
  pub all_joined : (left : List (ℕ × Figures)) (summary : Summed) → IsJoined labels sales sums left summary → left ≡ [] → IsLabelled labels sales (Ok summary)
  all_joined left summary so none =
      let whole : sums ≡ so.done = so.split ∙ ap (λ l. so.done ++ l) none ∙ append-nil so.done in
      (so.made ∙ ap (λ es. summed (by_entries labels sales es)) (sym whole) ∙ all_entries, all_have labels sums (subst (AllByRecursion (λ (e : ℕ × Figures). IsSome (labels e.0))) (sym whole) so.labelled) sales all_keys)

  module _ (e : ℕ × Figures) (left rest : List (ℕ × Figures)) (summary : Summed) (so : IsJoined labels sales sums left summary) (next : left ≡ e ∷ rest) where
    whole : sums ≡ so.done ++ e ∷ rest
    whole = so.split ∙ ap (λ l. so.done ++ l) next

    own : figures_of (filter (has_key e.0) sales) ≡ Some e.1
    own =
        let found = own_figures so.done e rest (subst (λ es. IsStrictlySortedBy nat_cmp (keys_of es)) whole up) in
        sym (are.found e.0) ∙ ap (lookup (is_at (nat_cmp e.0))) whole ∙ found

    -- the sales of the next key
    pub next_sold : (label : List ℕ) → labels e.0 ≡ Some label → AreSoldAs label e.1 (of_key labels sales e.0)
    next_sold label leads = key_sold labels sales e.0 label e.1 leads own

    pub one_joined : (label : List ℕ) (new : Summed) → labels e.0 ≡ Some label → new ≡ summed (by_entries labels sales so.done ++ of_key labels sales e.0) → IsJoined labels sales sums rest new
    one_joined label new leads is = record {
      done = so.done ++ e ∷ [];
      split = whole ∙ sym (append-assoc so.done (e ∷ []) rest);
      made = is ∙ ap summed (sym (by_entries-append labels sales so.done (e ∷ []) ∙ ap (λ l. by_entries labels sales so.done ++ l) (append-nil (of_key labels sales e.0))));
      labelled = all_with (λ (e : ℕ × Figures). IsSome (labels e.0)) so.done e so.labelled (subst IsSome (sym leads) refl);
    }

    -- it has no label
    pub next_lacks : labels e.0 ≡ None → HasNoLabel labels sales
    next_lacks none =
        let first = first_of e.0 sales e.1 own in
        record { sale = first.0; there = first.1; none = ap labels first.2 ∙ none }

    -- there are too many
    pub next_full : 4_294_967_295 ≤ length (by_entries labels sales so.done ++ of_key labels sales e.0) → 4_294_967_295 ≤ length sales
    next_full full =
        let parts : by_entries labels sales sums ≡ (by_entries labels sales so.done ++ of_key labels sales e.0) ++ by_entries labels sales rest =
        ap (by_entries labels sales) whole ∙ by_entries-append labels sales so.done (e ∷ rest) ∙ sym (append-assoc (by_entries labels sales so.done) (of_key labels sales e.0) (by_entries labels sales rest)) in
        let same : length (by_entries labels sales sums) ≡ length (filter_map (with_label labels) sales) = lengths_same (by_entries labels sales sums) (filter_map (with_label labels) sales) all_entries in
        let few = few_with_label labels sales in
        let n = ap length parts in
        omega (arith, n, same, few, full, length-append (by_entries labels sales so.done ++ of_key labels sales e.0) (by_entries labels sales rest))

-- why a sum isn't added
pub not_added : (labels : ℕ → Option (List ℕ)) (sales : List KeyedSale) (error : AddError) → (error ≡ Damaged → 4_294_967_295 ≤ length sales) → IsLabelled labels sales (Err (fault_of error))
not_added labels sales Memory many = tt
not_added labels sales Damaged many = many refl
