-- Exact edits of a table whose rows are put and taken out.
use Rattle.std.proofs.Common.{◌≡◌, ◌⊎◌, inl, inr, ℕ, zero, suc, ◌+◌, ◌-◌, ◌<◌, ◌≤◌, arith, Bool, true, false, cond, ◌||◌, List, [], ◌∷◌, map, Option, Some, None, refl, sym, ◌∙◌, ap, subst}
use Rattle.std.specs.Prelude.{filter_map, find, option_map}
use Rattle.std.specs.Cmp.{IsTotalOrder, eq_by_cmp_equiv, Equal-is}
use Rattle.std.specs.FinMap.{FinMap, get, IsAntisymmetric, get-insert, get-remove}
use Rattle.std.specs.List.{AllByRecursion, list_any, cons_option, range_with_len}
use Rattle.std.specs.Ordering.{eq_by_cmp}
use Rattle.std.specs.declared.cmp.Ordering.TheVariants.{Less}
use Rattle.wh_history.specs.Plan.{Needs, edited, Above, Ascends}
use Rattle.wh_history.specs.declared.plan.Edit.{Edit}
use Rattle.wh_history.specs.declared.plan.Edit.TheVariants.{Put, Remove}
use Rattle.wh_history.proofs.Basics.{or_none, some_is}
use Rattle.wh_rows.specs.Holds.{Layout}
use Rattle.wh_sql.specs.Edits.{Puts, with_edit}
use Rattle.wh_plan.specs.BatchRows.{numbers_after}
use Rattle.wh_plan.specs.Edits.{with_edits, IsTablePlan}
use Rattle.wh_model.proofs.Growing.{AmongKeys, Grows, among_mapped, among_range}
use Rattle.wh_plan.proofs.Exact as exact

pub made_mapped : {X Y Z : Type 0} (f : X → Y) (make : Y → Option Z) (xs : List X) → filter_map make (map f xs) ≡ filter_map (λ x. make (f x)) xs
made_mapped f make [] = refl
made_mapped f make (x ∷ xs) = ap (cons_option (make (f x))) (made_mapped f make xs)

-- a row that stays needs no edit
pub none_needed : {Key Row : Type 0} (key : Key) (old new : Option Row) → new ≡ old → Needs key old new None
none_needed key None None is = refl
none_needed key None (Some new) is = absurd cc
none_needed key (Some old) None is = absurd cc
none_needed key (Some old) (Some new) is = inl (sym (some_is new old is), refl)

pub put_needed : {Key Row : Type 0} (key : Key) (new : Option Row) → Needs key None new (option_map Put new)
put_needed key None = refl
put_needed key (Some r) = refl

-- a put that a key needs is of the row after
put_is : {Key Row : Type 0} (key : Key) (before after : Option Row) (row : Row) → Needs key before after (Some (Put row)) → after ≡ Some row
put_is key None None row is = absurd cc
put_is key (Some old) None row is = absurd cc
put_is key None (Some new) row is = let same : new ≡ row = cc in ap Some same
put_is key (Some old) (Some new) row is = elim is [
  | inl kept ↦ let none = kept.1 in absurd cc
  | inr other ↦ let put = other.1 in let same : new ≡ row = cc in ap Some same
]

-- and of one that the key hasn't got
put_is_new : {Key Row : Type 0} (key : Key) (before after : Option Row) (row : Row) → Needs key before after (Some (Put row)) → before ≡ Some row → ⊥
put_is_new key None after row is stands = cc
put_is_new key (Some old) None row is stands = cc
put_is_new key (Some old) (Some new) row is stands = elim is [
  | inl kept ↦ let none = kept.1 in cc
  | inr other ↦ let put = other.1 in let same : new ≡ row = cc in let stood : old ≡ row = cc in other.0 (stood ∙ sym same)
]

module _ {K V : Type 0} (layout : Layout K V) (total : IsTotalOrder layout.order) where
  abbrev Table : Type 0
  Table = FinMap layout.order V

  key_in : Edit V K → K
  key_in e = edited layout.key e

  abbrev pub made : Edit V K → Option V → Option V
  made (Put row) old = Some row
  made (Remove key) old = None

  pub turned : (k key : K) (b : Bool) → eq_by_cmp layout.order k key ≡ b → eq_by_cmp layout.order key k ≡ b
  turned k key b h = (eq_by_cmp_equiv total).symm key k ∙ h

  pub elsewhere : (m : Table) (e : Edit V K) (key : K) → eq_by_cmp layout.order (edited layout.key e) key ≡ false → get (with_edit layout e m) key ≡ get m key
  elsewhere m (Put row) key other = get-insert total m (layout.key row) row key ∙ ap (λ b. cond b (Some row) (get m key)) (turned (layout.key row) key false other)
  elsewhere m (Remove gone) key other = get-remove total m gone key ∙ ap (λ b. cond b None (get m key)) (turned gone key false other)

  pub there : (m : Table) (e : Edit V K) (key : K) → eq_by_cmp layout.order (edited layout.key e) key ≡ true → get (with_edit layout e m) key ≡ made e (get m key)
  there m (Put row) key is = get-insert total m (layout.key row) row key ∙ ap (λ b. cond b (Some row) (get m key)) (turned (layout.key row) key true is)
  there m (Remove gone) key is = get-remove total m gone key ∙ ap (λ b. cond b None (get m key)) (turned gone key true is)

  abbrev applied : Option (Edit V K) → Option V → Option V
  applied None row = row
  applied (Some e) row = made e row

  needed : (key : K) (before after : Option V) (e : Option (Edit V K)) → Needs key before after e → applied e before ≡ after
  needed key None None e is = rw is refl
  needed key (Some old) None e is = rw is refl
  needed key None (Some new) e is = rw is refl
  needed key (Some old) (Some new) e is = elim is [
    | inl same ↦ rw (same.1, same.0) refl
    | inr other ↦ rw other.1 refl
  ]

  -- a plan leads from the rows before to those after
  pub plan_leads : (before after : K → Option V) (es : List (Edit V K)) (m : Table) (key : K) → IsTablePlan layout before after es → get m key ≡ before key → get (with_edits layout es m) key ≡ after key
  plan_leads before after es m key plan has =
      exact.exact_leads layout.order total (edited layout.key) (λ t k. get t k) (with_edit layout) made elsewhere there Needs needed before after es m key plan has

  -- each row that a plan puts is one of those after it, and none of those before it
  pub plan_puts : (P : V → Type 0) (before after : K → Option V) (es : List (Edit V K)) → IsTablePlan layout before after es
      → ((row : V) → (before (layout.key row) ≡ Some row → ⊥) → after (layout.key row) ≡ Some row → P row) → AllByRecursion (Puts P) es
  plan_puts P before after es plan each = exact.exact_all layout.order total (edited layout.key) Needs (Puts P) before after es plan such
    where
      such : (e : Edit V K) → Needs (edited layout.key e) (before (edited layout.key e)) (after (edited layout.key e)) (Some e) → Puts P e
      such (Put row) is = each row (put_is_new (layout.key row) (before (layout.key row)) (after (layout.key row)) row is) (put_is (layout.key row) (before (layout.key row)) (after (layout.key row)) row is)
      such (Remove key) is = tt

  -- between the same rows there is one plan
  one_need : (key : K) (before after : Option V) (d e : Option (Edit V K)) → Needs key before after d → Needs key before after e → d ≡ e
  one_need key None None d e is so = is ∙ sym so
  one_need key (Some old) None d e is so = is ∙ sym so
  one_need key None (Some new) d e is so = is ∙ sym so
  one_need key (Some old) (Some new) d e is so = elim is [
    | inl kept ↦ elim so [ inl stays ↦ kept.1 ∙ sym stays.1 | inr put ↦ absurd (put.0 kept.0) ]
    | inr new ↦ elim so [ inl stays ↦ absurd (new.0 stays.0) | inr put ↦ new.1 ∙ sym put.1 ]
  ]

  pub one_plan : (before after : K → Option V) (es fs : List (Edit V K)) → IsTablePlan layout before after es → IsTablePlan layout before after fs → es ≡ fs
  one_plan before after es fs plan other =
      exact.one_list layout.order total (edited layout.key) es fs plan.ordered other.ordered (λ key. one_need key (before key) (after key) _ _ (plan.exact key) (other.exact key))

  -- no edit leads to the same rows
  pub empty_plan : (before after : K → Option V) → ((key : K) → after key ≡ before key) → IsTablePlan layout before after []
  empty_plan before after same = record { ordered = tt; exact = λ key. none_needed key (before key) (after key) (same key) }

  -- ---- rows that are put under keys that have none

  -- keys that ascend
  abbrev pub AboveKey : K → List K → Type 0
  AboveKey low [] = Unit {0}
  AboveKey low (k ∷ ks) = (layout.order low k ≡ Less) × AboveKey k ks

  abbrev pub AscendKeys : List K → Type 0
  AscendKeys [] = Unit {0}
  AscendKeys (k ∷ ks) = AboveKey k ks

  abbrev pub is_among : K → List K → Bool
  is_among key ks = list_any (λ k. eq_by_cmp layout.order k key) ks

  module _ (same : IsAntisymmetric layout.order) (new : K → Option V) (keyed : (k : K) (v : V) → new k ≡ Some v → layout.key v ≡ k) where
    abbrev puts : List K → List (Edit V K)
    puts ks = map Put (filter_map new ks)

    abbrev key_of : Edit V K → K
    key_of e = edited layout.key e

    abbrev edit_at : K → List (Edit V K) → Option (Edit V K)
    edit_at key es = find (λ e. eq_by_cmp layout.order (key_of e) key) es

    lower : (low k : K) (es : List (Edit V K)) → layout.order low k ≡ Less → Above layout.order key_of k es → Above layout.order key_of low es
    lower low k [] less above = tt
    lower low k (e ∷ es) less above = (total.trans low k (key_of e) less above.0, above.1)

    from_above : (k : K) (es : List (Edit V K)) → Above layout.order key_of k es → Ascends layout.order key_of es
    from_above k [] above = tt
    from_above k (e ∷ es) above = above.1

    above_puts : (low : K) (ks : List K) → AboveKey low ks → Above layout.order key_of low (puts ks)
    above_puts low [] up = tt
    above_puts low (k ∷ ks) up =
        let rest = above_puts k ks up.1 in
        elim (new k) as (λ o. (new k ≡ o) → Above layout.order key_of low (map Put (cons_option o (filter_map new ks)))) [
          | None ↦ λ none. lower low k (puts ks) up.0 rest
          | Some v ↦ λ some. let at = keyed k v some in rw at (up.0, rest)
        ] refl

    ascend_puts : (ks : List K) → AscendKeys ks → Ascends layout.order key_of (puts ks)
    ascend_puts [] up = tt
    ascend_puts (k ∷ ks) up =
        let rest = above_puts k ks up in
        elim (new k) as (λ o. (new k ≡ o) → Ascends layout.order key_of (map Put (cons_option o (filter_map new ks)))) [
          | None ↦ λ none. from_above k (puts ks) rest
          | Some v ↦ λ some. let at = keyed k v some in rw at rest
        ] refl

    -- the edit of a key that is not among them
    none_put : (key : K) (ks : List K) → is_among key ks ≡ false → edit_at key (puts ks) ≡ None
    none_put key [] h = refl
    none_put key (k ∷ ks) h =
        let split = or_none (eq_by_cmp layout.order k key) (is_among key ks) h in
        let rest = none_put key ks split.1 in
        elim (new k) as (λ o. (new k ≡ o) → edit_at key (map Put (cons_option o (filter_map new ks))) ≡ None) [
          | None ↦ λ none. rest
          | Some v ↦ λ some. let at = keyed k v some in let other : eq_by_cmp layout.order (layout.key v) key ≡ false = ap (λ j. eq_by_cmp layout.order j key) at ∙ split.0 in rw other rest
        ] refl

    -- no edit where the key gets no row
    none_made : (key : K) (ks : List K) → new key ≡ None → edit_at key (puts ks) ≡ None
    none_made key [] none = refl
    none_made key (k ∷ ks) none =
        let rest = none_made key ks none in
        elim (new k) as (λ o. (new k ≡ o) → edit_at key (map Put (cons_option o (filter_map new ks))) ≡ None) [
          | None ↦ λ _. rest
          | Some v ↦ λ some.
              elim (eq_by_cmp layout.order (layout.key v) key) as (λ b. (eq_by_cmp layout.order (layout.key v) key ≡ b) → cond b (Some (Put v)) (edit_at key (puts ks)) ≡ None) [
                | true ↦ λ tied.
                    let here : k ≡ key = sym (keyed k v some) ∙ same (layout.key v) key ((Equal-is (layout.order (layout.key v) key)).0 tied) in
                    let there : new key ≡ Some v = ap new (sym here) ∙ some in
                    absurd cc
                | false ↦ λ _. rest
              ] refl
        ] refl

    -- that of one that is
    one_put : (key : K) (v : V) (ks : List K) → new key ≡ Some v → is_among key ks ≡ true → edit_at key (puts ks) ≡ Some (Put v)
    one_put key v [] some h = absurd cc
    one_put key v (k ∷ ks) some h =
        elim (eq_by_cmp layout.order k key) as (λ b. (eq_by_cmp layout.order k key ≡ b) → (b || is_among key ks) ≡ true → edit_at key (map Put (cons_option (new k) (filter_map new ks))) ≡ Some (Put v)) [
          | true ↦ λ tied _.
              let here : k ≡ key = same k key ((Equal-is (layout.order k key)).0 tied) in
              let first : new k ≡ Some v = ap new here ∙ some in
              let own : eq_by_cmp layout.order (layout.key v) key ≡ true = ap (λ j. eq_by_cmp layout.order j key) (keyed key v some) ∙ (eq_by_cmp_equiv total).refl key in
              rw first (rw own refl)
          | false ↦ λ other among.
              let rest = one_put key v ks some among in
              elim (new k) as (λ o. (new k ≡ o) → edit_at key (map Put (cons_option o (filter_map new ks))) ≡ Some (Put v)) [
                | None ↦ λ _. rest
                | Some w ↦ λ is. let apart : eq_by_cmp layout.order (layout.key w) key ≡ false = ap (λ j. eq_by_cmp layout.order j key) (keyed k w is) ∙ other in rw apart rest
              ] refl
        ] refl h

    -- what holds of all keys holds of one that is among them
    among_all : (P : K → Type 0) (key : K) (ks : List K) → AllByRecursion P ks → is_among key ks ≡ true → P key
    among_all P key [] all h = absurd cc
    among_all P key (k ∷ ks) all h =
        elim (eq_by_cmp layout.order k key) as (λ b. (eq_by_cmp layout.order k key ≡ b) → (b || is_among key ks) ≡ true → P key) [
          | true ↦ λ tied _. subst P (same k key ((Equal-is (layout.order k key)).0 tied)) all.0
          | false ↦ λ _ rest. among_all P key ks all.1 rest
        ] refl h

    is_among_them : (key : K) (ks : List K) → AmongKeys (λ k. k) key ks → is_among key ks ≡ true
    is_among_them key [] h = absurd h
    is_among_them key (k ∷ ks) h =
        elim h [
          | inl first ↦ let tied : eq_by_cmp layout.order k key ≡ true = ap (λ j. eq_by_cmp layout.order j key) (sym first) ∙ (eq_by_cmp_equiv total).refl key in rw tied refl
          | inr rest ↦ let later = is_among_them key ks rest in elim (eq_by_cmp layout.order k key) as (λ b. (b || is_among key ks) ≡ true) [ true ↦ refl | false ↦ later ]
        ]

    -- the keys that had no row get theirs, and the rows of all others stay
    pub added_plan : (old : K → Option V) (ks : List K) → AscendKeys ks → AllByRecursion (λ k. old k ≡ None) ks → ((key : K) → (new key ≡ old key) ⊎ AmongKeys (λ k. k) key ks) → IsTablePlan layout old new (map Put (filter_map new ks))
    added_plan old ks up fresh kept = record {
      ordered = ascend_puts ks up;
      exact = λ key. elim (is_among key ks) as (λ b. (is_among key ks ≡ b) → Needs key (old key) (new key) (edit_at key (puts ks))) [
        | false ↦ λ apart. rw (none_put key ks apart) (elim (kept key) [
          | inl stays ↦ none_needed key (old key) (new key) stays
          | inr among ↦ let is = is_among_them key ks among in absurd cc
        ])
        | true ↦ λ among.
            let none_before = among_all (λ k. old k ≡ None) key ks fresh among in
            elim (new key) as (λ o. (new key ≡ o) → Needs key (old key) o (edit_at key (puts ks))) [
              | None ↦ λ none. rw (none_before, none_made key ks none) refl
              | Some v ↦ λ some. rw (none_before, one_put key v ks some among) refl
            ] refl
      ] refl;
    }

    -- where the keys are those of numbers after one and up to another
    module _ (at : ℕ → K) (rises : (n m : ℕ) → n < m → layout.order (at n) (at m) ≡ Less) where
      keys_above : (low start len : ℕ) → low < start → AboveKey (at low) (map at (range_with_len start len))
      keys_above low start zero below = tt
      keys_above low start (suc len) below = (rises low start below, keys_above start (start + 1) len (omega arith))

      pub keys_ascend : (start len : ℕ) → AscendKeys (map at (range_with_len start len))
      keys_ascend start zero = tt
      keys_ascend start (suc len) = keys_above start (start + 1) len (omega arith)

      pub all_in_range : (P : K → Type 0) (start len : ℕ) → ((n : ℕ) → start ≤ n → P (at n)) → AllByRecursion P (map at (range_with_len start len))
      all_in_range P start zero each = tt
      all_in_range P start (suc len) each = (each start (omega arith), all_in_range P (start + 1) len (λ n h. each n (omega arith)))

      pub grown_plan : (old : K → Option V) (low high : ℕ) → ((n : ℕ) → low < n → old (at n) ≡ None) → ((key : K) → Grows at low high old new key)
          → IsTablePlan layout old new (map Put (filter_map (λ n. new (at n)) (numbers_after low high)))
      grown_plan old low high none grows =
          subst (λ rows. IsTablePlan layout old new (map Put rows)) (made_mapped at new (numbers_after low high))
          (added_plan old (map at (numbers_after low high)) (keys_ascend (suc low) (high - low)) (all_in_range (λ k. old k ≡ None) (suc low) (high - low) (λ n h. none n (omega arith))) kept)
        where
          kept : (key : K) → (new key ≡ old key) ⊎ AmongKeys (λ k. k) key (map at (numbers_after low high))
          kept key = elim (grows key) [
            | inl stays ↦ inl stays.same
            | inr added ↦
                let above = added.above in
                let within = added.within in
                inr (among_mapped at key (numbers_after low high) (among_range at key added.number (suc low) (high - low) added.is (omega arith) (omega arith)))
          ]
