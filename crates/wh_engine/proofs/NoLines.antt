-- Of which tickets no line is stored, by the first that is stored from one of them on.
use Rattle.std.proofs.Common.{◌≡◌, ◌∙◌, ◌<◌, ◌≤◌, ◌+◌, ◌&&◌, ℕ, T, Bool, true, false, cond, List, [], ◌∷◌, map, filter, slice_get, Option, Some, None, option_map, Result, Ok, Err, IfOk, refl, sym, ap, subst, arith, Ordering, Less, Equal, Greater}
use Rattle.std.specs.Prelude.{IsTrue, is_some}
use Rattle.std.specs.Cmp.{ranks, tied_itself, upto}
use Rattle.std.specs.Cmp.Lexicographic.{slice_cmp, nat_list_cmp_total}
use Rattle.std.specs.BTreeMap.Comparable.{le_lt_trans}
use Rattle.std.specs.FinMap.{FinMap, entries, values, get, find, is_sorted, entries_sorted, get-entries}
use Rattle.std.specs.FinMap.Entries.{below_all}
use Rattle.std.specs.List.{AllByRecursion, list_any}
use Rattle.std.specs.Ordering.{MatchOrdering, is_eq, is_lt, is_le, is_gt, eq_by_cmp, nat_cmp, ord_min, ord_max, ordering_reverse, ordering_then}
use Rattle.std.proofs.lemmas.Bool.{and_parts, leb-true}
use Rattle.sqlite.specs.State.{State}
use Rattle.sqlite.specs.Effect.{Database}
use Rattle.wh_policy.specs.declared.format.Format.{Format}
use Rattle.wh_policy.specs.declared.format.Format.TheVariants.{One, Two}
use Rattle.wh_policy.specs.declared.record.SaleRecord.{SaleRecord}
use Rattle.wh_history.specs.declared.facts.Fact.{Fact}
use Rattle.wh_rows.specs.declared.key.LineKey.{LineKey}
use Rattle.wh_rows.specs.declared.rows.VoidRow.{VoidRow}
use Rattle.wh_rows.specs.Facts.{facts_in, fact_layout}
use Rattle.wh_rows.specs.Rows.{line_cmp, is_fact, is_fact2, is_void}
use Rattle.wh_rows.specs.Rows as row
use Rattle.wh_rows.specs.Tables.{Tables, Stores}
use Rattle.wh_rows.proofs.Maps.{both_true, less_is}
use Rattle.wh_rows.proofs.Orders.{line_cmp_total, line_cmp-IsAntisymmetric}
use Rattle.wh_rows.proofs.Places as places
use Rattle.wh_sql.specs.declared.fault.ReadFault.{ReadFault}
use Rattle.wh_sql.specs.declared.fault.ReadFault.TheVariants.{Memory, Damaged, Store}
use Rattle.wh_sql.specs.Answers.{ReadsOnly}
use Rattle.wh_admission.specs.Admission.{first_line_there}
use Rattle.wh_admission.proofs.SameLines.{none_first}
use Rattle.wh_model.specs.Sound.{same_line}
use Rattle.wh_engine.specs.Tickets.{least_ticket, greatest_ticket, is_between, first_behind, is_past, tells_none}
use Rattle.wh_sql.proofs.InTurn.{answers_other, fails_other}

abbrev text_cmp : List ℕ → List ℕ → Ordering
text_cmp = slice_cmp nat_cmp

-- ---- the least and the greatest

not_gt : (o : Ordering) → is_le o ≡ true → is_gt o ≡ false
not_gt Less h = refl
not_gt Equal h = refl
not_gt Greater h = absurd (cc)

not_greater : (o : Ordering) → is_gt o ≡ false → is_le o ≡ true
not_greater Less h = refl
not_greater Equal h = refl
not_greater Greater h = absurd (cc)

less_or_equal : (o : Ordering) → is_lt o ≡ true → is_le o ≡ true
less_or_equal Less h = refl
less_or_equal Equal h = absurd (cc)
less_or_equal Greater h = absurd (cc)

turned : (o : Ordering) → is_lt o ≡ false → is_le (ordering_reverse o) ≡ true
turned Less h = absurd (cc)
turned Equal h = refl
turned Greater h = refl

le_trans : (a b c : List ℕ) → is_le (text_cmp a b) ≡ true → is_le (text_cmp b c) ≡ true → is_le (text_cmp a c) ≡ true
le_trans a b c p q = not_greater (text_cmp a c) (upto nat_list_cmp_total a b c (not_gt _ p) (not_gt _ q))

le_itself : (a : List ℕ) → is_le (text_cmp a a) ≡ true
le_itself a = ap is_le (tied_itself nat_list_cmp_total a)

not_less : (a b : List ℕ) → is_lt (text_cmp b a) ≡ false → is_le (text_cmp a b) ≡ true
not_less a b h = ap is_le (nat_list_cmp_total.antisymm a b) ∙ turned (text_cmp b a) h

module _ (a b : List ℕ) where
  min_left : is_le (text_cmp (ord_min text_cmp a b) a) ≡ true
  min_left = go (is_lt (text_cmp b a)) refl
    where
      go : (t : Bool) → is_lt (text_cmp b a) ≡ t → is_le (text_cmp (cond t b a) a) ≡ true
      go true h = less_or_equal _ h
      go false h = le_itself a

  min_right : is_le (text_cmp (ord_min text_cmp a b) b) ≡ true
  min_right = go (is_lt (text_cmp b a)) refl
    where
      go : (t : Bool) → is_lt (text_cmp b a) ≡ t → is_le (text_cmp (cond t b a) b) ≡ true
      go true h = le_itself b
      go false h = not_less a b h

  max_left : is_le (text_cmp a (ord_max text_cmp a b)) ≡ true
  max_left = go (is_lt (text_cmp b a)) refl
    where
      go : (t : Bool) → is_lt (text_cmp b a) ≡ t → is_le (text_cmp a (cond t a b)) ≡ true
      go true h = le_itself a
      go false h = not_less a b h

  max_right : is_le (text_cmp b (ord_max text_cmp a b)) ≡ true
  max_right = go (is_lt (text_cmp b a)) refl
    where
      go : (t : Bool) → is_lt (text_cmp b a) ≡ t → is_le (text_cmp b (cond t a b)) ≡ true
      go true h = less_or_equal _ h
      go false h = le_itself b

least_is : (ticket : List ℕ) (sales : List SaleRecord) → (is_le (text_cmp (least_ticket ticket sales) ticket) ≡ true) × AllByRecursion (λ s. is_le (text_cmp (least_ticket ticket sales) s.ticket) ≡ true) sales
least_is ticket [] = (le_itself ticket, tt)
least_is ticket (s ∷ sales) =
    let low = ord_min text_cmp ticket s.ticket in
    let least = least_ticket low sales in
    let rest = least_is low sales in
    (le_trans least low ticket rest.0 (min_left ticket s.ticket), (le_trans least low s.ticket rest.0 (min_right ticket s.ticket), rest.1))

greatest_is : (ticket : List ℕ) (sales : List SaleRecord) → (is_le (text_cmp ticket (greatest_ticket ticket sales)) ≡ true) × AllByRecursion (λ s. is_le (text_cmp s.ticket (greatest_ticket ticket sales)) ≡ true) sales
greatest_is ticket [] = (le_itself ticket, tt)
greatest_is ticket (s ∷ sales) =
    let high = ord_max text_cmp ticket s.ticket in
    let greatest = greatest_ticket high sales in
    let rest = greatest_is high sales in
    (le_trans ticket high greatest (max_left ticket s.ticket) rest.0, (le_trans s.ticket high greatest (max_right ticket s.ticket) rest.0, rest.1))

both : (a b : Bool) → a ≡ true → b ≡ true → (a && b) ≡ true
both a b p q = rw (p, q) refl

-- Where no line of any ticket from the least to the greatest was sold, none of the sales is there.
module _ (before : List SaleRecord) (first last : List ℕ) (none : (s : SaleRecord) → is_between first last s.ticket ≡ true → list_any (λ t. same_line t s) before ≡ false) where
  none_there : (number : ℕ) (sales : List SaleRecord) → AllByRecursion (λ s. is_le (text_cmp first s.ticket) ≡ true) sales → AllByRecursion (λ s. is_le (text_cmp s.ticket last) ≡ true) sales → first_line_there before number sales ≡ None
  none_there number [] low high = refl
  none_there number (s ∷ sales) low high = none_first before number s sales (none s (both _ _ low.0 high.0)) ∙ none_there (number + 1) sales low.1 high.1

pub none_is_there : (before : List SaleRecord) (ticket : List ℕ) (sales : List SaleRecord) → ((s : SaleRecord) → is_between (least_ticket ticket sales) (greatest_ticket ticket sales) s.ticket ≡ true → list_any (λ t. same_line t s) before ≡ false)
    → first_line_there before 1 sales ≡ None
none_is_there before ticket sales none = none_there before (least_ticket ticket sales) (greatest_ticket ticket sales) none 1 sales (least_is ticket sales).1 (greatest_is ticket sales).1

-- ---- lines in order

past_zero : (n : ℕ) → 1 ≤ n → is_gt (nat_cmp n 0) ≡ true
past_zero n some = go (nat_cmp n 0) (ranks n 0)
  where
    go : (o : Ordering) → MatchOrdering o (n < 0) (n ≡ 0) (0 < n) → is_gt o ≡ true
    go Less h = absurd (omega (arith, h))
    go Equal h = absurd (omega (arith, h, some))
    go Greater h = refl

-- every line of a ticket that isn't before the first stands after its line 0
behind_first : (first : List ℕ) (k : LineKey) → is_le (text_cmp first k.ticket) ≡ true → 1 ≤ k.line → is_gt (line_cmp k (record { ticket = first; line = 0 })) ≡ true
behind_first first k low some = ap (λ o. is_gt (ordering_then o (nat_cmp k.line 0))) (nat_list_cmp_total.antisymm k.ticket first) ∙ go (text_cmp first k.ticket) low
  where
    go : (o : Ordering) → is_le o ≡ true → is_gt (ordering_then (ordering_reverse o) (nat_cmp k.line 0)) ≡ true
    go Less h = refl
    go Equal h = past_zero k.line some
    go Greater h = absurd (cc)

-- and every line of one that isn't after the last stands before those that are
before_past : (last : List ℕ) (k j : LineKey) → is_le (text_cmp k.ticket last) ≡ true → is_lt (text_cmp last j.ticket) ≡ true → line_cmp k j ≡ Less
before_past last k j high past = ap (λ o. ordering_then o (nat_cmp k.line j.line)) (le_lt_trans nat_list_cmp_total k.ticket last j.ticket high (less_is _ past))

-- ---- rows in order

module _ {V : Type 0} where
  -- what is before the first of some rows is none of them
  before_all : (k x : LineKey) (es : List (LineKey × V)) → line_cmp k x ≡ Less → T (below_all line_cmp x es) → find line_cmp k es ≡ None
  before_all k x [] less below = refl
  before_all k x (e ∷ es) less below =
      let parts = both_true _ _ below in
      let here : line_cmp k e.0 ≡ Less = line_cmp_total.trans k x e.0 less (less_is _ parts.0) in
      ap (λ o. cond (is_eq o) (Some e.1) (find line_cmp k es)) here ∙ before_all k x es less parts.1

  module _ (key : V → LineKey) (valid : V → Bool) (lined : (v : V) → valid v ≡ true → 1 ≤ (key v).line) (first last : List ℕ) where
    abbrev behind : V → Bool
    behind v = is_gt (line_cmp (key v) (record { ticket = first; line = 0 }))

    abbrev next : List V → Option LineKey
    next rows = option_map key (slice_get (filter behind rows) 0)

    none_at : (es : List (LineKey × V)) → AllByRecursion (λ e. e.0 ≡ key e.1) es → AllByRecursion (λ e. IsTrue (valid e.1)) es → T (is_sorted line_cmp es) → is_past last (next (map (λ e. e.1) es)) ≡ true
        → (k : LineKey) → is_between first last k.ticket ≡ true → find line_cmp k es ≡ None
    none_at [] keyed valids sorted free k within = refl
    none_at (e ∷ es) keyed valids sorted free k within = go (behind e.1) refl free (λ later. none_at es keyed.1 valids.1 (both_true _ _ sorted).1 later k within)
      where
        ends : (is_le (text_cmp first k.ticket) ≡ true) × (is_le (text_cmp k.ticket last) ≡ true)
        ends = and_parts _ _ within

        -- a row before the first isn't of the ticket
        other : (o : Ordering) → line_cmp k e.0 ≡ o → behind e.1 ≡ false → find line_cmp k es ≡ None → cond (is_eq o) (Some e.1) (find line_cmp k es) ≡ None
        other Less is not rest = rest
        other Equal is not rest =
            let same : k ≡ key e.1 = line_cmp-IsAntisymmetric k e.0 is ∙ keyed.0 in
            let low : is_le (text_cmp first (key e.1).ticket) ≡ true = ap (λ j. is_le (text_cmp first j.ticket)) (sym same) ∙ ends.0 in
            let here = behind_first first (key e.1) low (lined e.1 valids.0) in
            absurd (cc)
        other Greater is not rest = rest

        go : (b : Bool) → behind e.1 ≡ b → is_past last (option_map key (slice_get (cond b (e.1 ∷ filter behind (map (λ e. e.1) es)) (filter behind (map (λ e. e.1) es))) 0)) ≡ true
            → (is_past last (next (map (λ e. e.1) es)) ≡ true → find line_cmp k es ≡ None) → cond (eq_by_cmp line_cmp k e.0) (Some e.1) (find line_cmp k es) ≡ None
        go true is past rest =
            let less : line_cmp k e.0 ≡ Less = ap (line_cmp k) keyed.0 ∙ before_past last k (key e.1) ends.1 past in
            ap (λ o. cond (is_eq o) (Some e.1) (find line_cmp k es)) less ∙ before_all k e.0 es less (subst T (sym (both_true _ _ sorted).0) tt)
        go false is past rest = other (line_cmp k e.0) refl is (rest past)

    none_stored : (m : FinMap line_cmp V) → AllByRecursion (λ e. e.0 ≡ key e.1) (entries m) → AllByRecursion (λ e. IsTrue (valid e.1)) (entries m) → is_past last (next (values m)) ≡ true
        → (k : LineKey) → is_between first last k.ticket ≡ true → get m k ≡ None
    none_stored m keyed valids free k within = get-entries m k ∙ none_at (entries m) keyed valids (entries_sorted m) free k within

-- ---- the tables of lines

front : (a b : Bool) → (a && b) ≡ true → a ≡ true
front a b h = (and_parts a b h).0

back : (a b : Bool) → (a && b) ≡ true → b ≡ true
back a b h = (and_parts a b h).1

fact_lined : (r : Fact) → row.has_good_columns r ≡ true → 1 ≤ r.line
fact_lined r h = leb-true 1 r.line (front _ _ (back _ _ (front _ _ (front _ _ (front _ _ (front _ _ (front _ _ (front _ _ (front _ _ (front _ _ (front _ _ (front _ _ (front _ _ h)))))))))))))

void_lined : (r : VoidRow) → is_void r ≡ true → 1 ≤ r.line
void_lined r h = leb-true 1 r.line (front _ _ (back _ _ (front _ _ h)))

module _ (first last : List ℕ) (db : Database) (t : Tables) (stored : Stores db t) where
  abbrev from : LineKey
  from = record { ticket = first; line = 0 }

  pub no_fact : (format : Format) → is_past last (first_behind (fact_layout format) (Some from) (values (facts_in format t))) ≡ true → (k : LineKey) → is_between first last k.ticket ≡ true → get (facts_in format t) k ≡ None
  no_fact One free = none_stored row.fact.key is_fact (λ r h. fact_lined r (and_parts _ _ h).0) first last t.fact stored.fact.keyed stored.fact.valid free
  no_fact Two free = none_stored row.fact2.key is_fact2 (λ r h. fact_lined r (and_parts _ _ h).0) first last t.fact2 (places.fact2.keyed db t stored) (places.fact2.valid db t stored) free

  pub no_void : is_past last (first_behind row.void (Some from) (values t.void)) ≡ true → (k : LineKey) → is_between first last k.ticket ≡ true → get t.void k ≡ None
  no_void free = none_stored row.void.key is_void void_lined first last t.void (places.void.keyed db t stored) (places.void.valid db t stored) free

-- ---- what was found tells

pub not_some : {X : Type 0} (o : Option X) → is_some o ≡ false → o ≡ None
not_some None h = refl
not_some (Some x) h = absurd (cc)

pub reads_told : {old new : State} (last : List ℕ) (found : Result (Option LineKey) ReadFault) → ReadsOnly old new found → ReadsOnly old new (tells_none last found)
reads_told last (Ok key) r = answers_other r
reads_told last (Err Memory) r = fails_other r
reads_told last (Err (Damaged table)) r = record { spares = r.spares; sound = λ clean t rests. tt; named = λ clean stored rests. tt }
reads_told last (Err (Store why)) r = fails_other r

pub none_told : (P : Type 0) (last : List ℕ) (found : Result (Option LineKey) ReadFault) → IfOk found (λ key. is_past last key ≡ true → P) → IfOk (tells_none last found) (λ none. IsTrue none → P)
none_told P last (Ok key) h = h
none_told P last (Err Memory) h = tt
none_told P last (Err (Damaged table)) h = λ never. absurd (cc)
none_told P last (Err (Store why)) h = tt
