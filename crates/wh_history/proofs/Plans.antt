-- The edits of all keys make the exact plan.
use Rattle.std.proofs.Common.{◌≡◌, ℕ, ◌<◌, ◌==◌, Bool, true, false, cond, ◌||◌, List, [], ◌∷◌, Option, Some, None, refl, sym, ◌∙◌, ap, arith, drop, get_or, length, ◌+◌, ◌-◌, ◌≤◌, inl, inr, nat_lt}
use Rattle.std.specs.Prelude.{filter_map, find, bytes_eq}
use Rattle.std.specs.List.{list_any, cons_option}
use Rattle.std.proofs.lemmas.Bool.{cases_lt, cases_eq, lt-ltb, le-ltb, eq-eqb, ne_eqb, eqb-true}
use Rattle.std.proofs.lemmas.Slice.Eq.{bytes_eq-Decides}
use Rattle.std.proofs.lemmas.List.{drop_more}
use Rattle.std.specs.BTreeSet.{insert_key}
use Rattle.std.specs.Ordering.{nat_cmp, eq_by_cmp}
use Rattle.std.specs.Cmp.{nat_cmp_is, unsigned_tied}
use Rattle.std.proofs.lemmas.Cmp.{nat_cmp_total}
use Rattle.std.specs.declared.cmp.Ordering.TheVariants as Ordering
use Rattle.wh_history.specs.Slots.{are_same}
use Rattle.wh_history.proofs.Basics.{or_none, both_true, texts_decide}
use Rattle.wh_history.specs.Plan.{Needs, edited, Above, Ascends, IsRowPlan, row_of, with_key, with_keys, same_flag, same_frame, same_row, edit_between, edit_in, edit_at}
use Rattle.wh_history.specs.declared.plan.Edit.{Edit}
use Rattle.wh_history.specs.declared.plan.Edit.TheVariants.{Put, Remove}
use Rattle.wh_history.specs.declared.rows.DimRow.{DimRow}

flags_decide : (a b : Bool) → same_flag a b ≡ true → a ≡ b
flags_decide true b h = sym h
flags_decide false true h = cc
flags_decide false false h = refl

-- a row by its fields
make : ℕ → ℕ → List ℕ → ℕ → ℕ → Bool → List (List ℕ) → List (List ℕ) → ℕ → DimRow
make s d n f t c a b p = record { surrogate = s; durable = d; natural = n; from_day = f; to_day = t; is_current = c; a = a; b = b; profile_now = p }

made : (r : DimRow) → r ≡ make r.surrogate r.durable r.natural r.from_day r.to_day r.is_current r.a r.b r.profile_now
unfolding make
made r = refl

-- rows that the test calls the same are
pub same_row_is : (q r : DimRow) → same_row q r ≡ true → q ≡ r
same_row_is q r h =
    let h8 = both_true _ (are_same q.b r.b) h in
    let h7 = both_true _ (are_same q.a r.a) h8.0 in
    let h6 = both_true (same_frame q r) (bytes_eq q.natural r.natural) h7.0 in
    let f5 = both_true _ (q.profile_now == r.profile_now) h6.0 in
    let f4 = both_true _ (same_flag q.is_current r.is_current) f5.0 in
    let f3 = both_true _ (q.to_day == r.to_day) f4.0 in
    let f2 = both_true _ (q.from_day == r.from_day) f3.0 in
    let f1 = both_true (q.surrogate == r.surrogate) (q.durable == r.durable) f2.0 in
    let e1 = eqb-true q.surrogate r.surrogate f1.0 in
    let e2 = eqb-true q.durable r.durable f1.1 in
    let e3 = eqb-true q.from_day r.from_day f2.1 in
    let e4 = eqb-true q.to_day r.to_day f3.1 in
    let e5 = flags_decide q.is_current r.is_current f4.1 in
    let e6 = eqb-true q.profile_now r.profile_now f5.1 in
    let e7 = (bytes_eq-Decides q.natural r.natural).0 h6.1 in
    let e8 = (texts_decide q.a r.a).0 h7.1 in
    let e9 = (texts_decide q.b r.b).0 h8.1 in
    let mq = made q in
    let mr = made r in
    cc

flag_itself : (a : Bool) → same_flag a a ≡ true
flag_itself true = refl
flag_itself false = refl

pub same_row_itself : (r : DimRow) → same_row r r ≡ true
same_row_itself r =
    let e7 = (bytes_eq-Decides r.natural r.natural).1 refl in
    let e8 = (texts_decide r.a r.a).1 refl in
    let e9 = (texts_decide r.b r.b).1 refl in
    rw (eq-eqb r.surrogate r.surrogate refl, eq-eqb r.durable r.durable refl, eq-eqb r.from_day r.from_day refl, eq-eqb r.to_day r.to_day refl, flag_itself r.is_current, eq-eqb r.profile_now r.profile_now refl, e7, e8, e9) refl

-- the edit of a key is the one that it needs
needed : (key : ℕ) (old new : Option DimRow) → Needs key old new (edit_between same_row key old new)
needed key None None = refl
needed key (Some q) None = refl
needed key None (Some r) = refl
needed key (Some q) (Some r) =
    elim (same_row q r) as (λ b. (same_row q r ≡ b) → Needs key (Some q) (Some r) (cond b None (Some (Put r)))) [
      | true ↦ λ e. inl (same_row_is q r e, refl)
      | false ↦ λ e. inr ((λ same. let t = same_row_itself r in let u : same_row q r ≡ true = rw same t in cc), refl)
    ] refl

-- what is found under a key has it
row_of_key : (key : ℕ) (rows : List DimRow) (r : DimRow) → row_of key rows ≡ Some r → r.surrogate ≡ key
row_of_key key [] r h = cc
row_of_key key (x ∷ xs) r h =
    elim (x.surrogate == key) as (λ b. ((x.surrogate == key) ≡ b) → cond b (Some x) (row_of key xs) ≡ Some r → r.surrogate ≡ key) [
      | true ↦ λ e found. let here = eqb-true x.surrogate key e in cc
      | false ↦ λ e found. row_of_key key xs r found
    ] refl h

abbrev put_unless : Bool → DimRow → Option (Edit DimRow ℕ)
put_unless b r = cond b None (Some (Put r))

put_made : (b : Bool) (r x : DimRow) → put_unless b r ≡ Some (Put x) → r ≡ x
put_made true r x h = cc
put_made false r x h = cc

remove_made : (b : Bool) (r : DimRow) (k key : ℕ) → put_unless b r ≡ Some (Remove k) → k ≡ key
remove_made true r k key h = cc
remove_made false r k key h = cc

-- an edit that a key needs is of that key
edit_key : (key : ℕ) (old new : Option DimRow) → ((r : DimRow) → new ≡ Some r → r.surrogate ≡ key) → (e : Edit DimRow ℕ) → edit_between same_row key old new ≡ Some e → edited (λ r. r.surrogate) e ≡ key
edit_key key None None under e h = cc
edit_key key (Some q) None under (Put r) h = cc
edit_key key (Some q) None under (Remove k) h = cc
edit_key key None (Some r) under (Put x) h = let here = under r refl in cc
edit_key key None (Some r) under (Remove k) h = cc
edit_key key (Some q) (Some r) under (Put x) h = let here = under r refl in let is = put_made (same_row q r) r x h in ap (λ (y : DimRow). y.surrogate) (sym is) ∙ here
edit_key key (Some q) (Some r) under (Remove k) h = remove_made (same_row q r) r k key h

edit_at_key : (stored after : List DimRow) (key : ℕ) (e : Edit DimRow ℕ) → edit_at stored after key ≡ Some e → edited (λ r. r.surrogate) e ≡ key
edit_at_key stored after key e h = edit_key key (row_of key stored) (row_of key after) (row_of_key key after) e h

module _ (f : ℕ → Option (Edit DimRow ℕ)) (of_key : (key : ℕ) (e : Edit DimRow ℕ) → f key ≡ Some e → edited (λ r. r.surrogate) e ≡ key) where
  -- the edit of a key
  abbrev is_of : ℕ → Edit DimRow ℕ → Bool
  is_of key e = eq_by_cmp nat_cmp (edited (λ (r : DimRow). r.surrogate) e) key

  -- the edit of another key is passed over
  skipped : (key k : ℕ) (es : List (Edit DimRow ℕ)) → (k == key) ≡ false → find (is_of key) (cons_option (f k) es) ≡ find (is_of key) es
  skipped key k es other =
      elim (f k) as (λ o. (f k ≡ o) → find (is_of key) (cons_option o es) ≡ find (is_of key) es) [
        | None ↦ λ e. refl
        | Some e ↦ λ is. let at = of_key k e is in let apart : is_of key e ≡ false = ap (λ n. eq_by_cmp nat_cmp n key) at ∙ unsigned_tied k key ∙ other in rw apart refl
      ] refl

  -- no edit of a key is found where the key is not among the keys
  none_found : (key : ℕ) (keys : List ℕ) → list_any (λ k. k == key) keys ≡ false → find (is_of key) (filter_map f keys) ≡ None
  none_found key [] h = refl
  none_found key (k ∷ keys) h =
      let split = or_none (k == key) _ h in
      let rest = none_found key keys split.1 in
      skipped key k (filter_map f keys) split.0 ∙ rest

  -- that of a key among the keys is found
  found : (key : ℕ) (keys : List ℕ) → list_any (λ k. k == key) keys ≡ true → find (is_of key) (filter_map f keys) ≡ f key
  found key [] h = cc
  found key (k ∷ keys) h =
      elim (k == key) as (λ b. ((k == key) ≡ b) → (b || list_any (λ k. k == key) keys) ≡ true → find (is_of key) (cons_option (f k) (filter_map f keys)) ≡ f key) [
        | false ↦ λ other among. skipped key k (filter_map f keys) other ∙ found key keys among
        | true ↦ λ same _.
            let is = eqb-true k key same in
            elim (f k) as (λ o. (f k ≡ o) → find (is_of key) (cons_option o (filter_map f keys)) ≡ f key) [
              | Some e ↦ λ made. let at = of_key k e made in let t : is_of key e ≡ true = unsigned_tied _ key ∙ eq-eqb _ _ (at ∙ is) in rw t (sym made ∙ ap f is)
              | None ↦ λ made. elim (list_any (λ k. k == key) keys) as (λ b. (list_any (λ k. k == key) keys ≡ b) → find (is_of key) (filter_map f keys) ≡ f key) [
                | true ↦ λ among. found key keys among
                | false ↦ λ absent. none_found key keys absent ∙ sym made ∙ ap f is
              ] refl
            ] refl
      ] refl h

-- keys that ascend
abbrev AboveKey : ℕ → List ℕ → Type 0
AboveKey k [] = Unit {0}
AboveKey k (x ∷ xs) = (k < x) × AboveKey x xs

abbrev AscendKeys : List ℕ → Type 0
AscendKeys [] = Unit {0}
AscendKeys (x ∷ xs) = AboveKey x xs

above_with : (low k : ℕ) (xs : List ℕ) → low < k → AboveKey low xs → AboveKey low (with_key k xs)
above_with low k [] less up = (less, tt)
above_with low k (x ∷ xs) less up =
    elim (cases_lt k x) [
      | inl before ↦ rw (lt-ltb k x before) (less, (before, up.1))
      | inr late ↦ rw (le-ltb k x late) (elim (cases_eq k x) [
        | inl same ↦ rw (eq-eqb k x same) up
        | inr other ↦ rw (ne_eqb k x other) (up.0, above_with x k xs (omega arith) up.1)
      ])
    ]

ascend_with : (k : ℕ) (xs : List ℕ) → AscendKeys xs → AscendKeys (with_key k xs)
ascend_with k [] up = tt
ascend_with k (x ∷ xs) up =
    elim (cases_lt k x) [
      | inl before ↦ rw (lt-ltb k x before) (before, up)
      | inr late ↦ rw (le-ltb k x late) (elim (cases_eq k x) [
        | inl same ↦ rw (eq-eqb k x same) up
        | inr other ↦ rw (ne_eqb k x other) (above_with x k xs (omega arith) up)
      ])
    ]

ascend_with_all : (rows : List DimRow) (ks : List ℕ) → AscendKeys ks → AscendKeys (with_keys rows ks)
ascend_with_all [] ks up = up
ascend_with_all (r ∷ rs) ks up = ascend_with r.surrogate (with_keys rs ks) (ascend_with_all rs ks up)

-- a key that isn't there after an addition was not added, and was not there
not_with : (key k : ℕ) (xs : List ℕ) → list_any (λ x. x == key) (with_key k xs) ≡ false → ((k == key) ≡ false) × (list_any (λ x. x == key) xs ≡ false)
not_with key k [] h = ((or_none (k == key) false h).0, refl)
not_with key k (x ∷ xs) h =
    elim (nat_lt k x) as (λ b. list_any (λ y. y == key) (cond b (k ∷ x ∷ xs) (cond (k == x) (x ∷ xs) (x ∷ with_key k xs))) ≡ false → ((k == key) ≡ false) × (list_any (λ y. y == key) (x ∷ xs) ≡ false)) [
      | true ↦ λ absent. or_none (k == key) (list_any (λ y. y == key) (x ∷ xs)) absent
      | false ↦ λ absent. elim (k == x) as (λ b. ((k == x) ≡ b) → list_any (λ y. y == key) (cond b (x ∷ xs) (x ∷ with_key k xs)) ≡ false → ((k == key) ≡ false) × (list_any (λ y. y == key) (x ∷ xs) ≡ false)) [
        | true ↦ λ same gone. let is = eqb-true k x same in let first = or_none (x == key) (list_any (λ y. y == key) xs) gone in (rw is first.0, gone)
        | false ↦ λ other gone. let first = or_none (x == key) (list_any (λ y. y == key) (with_key k xs)) gone in let rest = not_with key k xs first.1 in (rest.0, rw (first.0) rest.1)
      ] refl absent
    ] h

-- a row is found only under a key that is there
no_row : (key : ℕ) (rows : List DimRow) (ks : List ℕ) → list_any (λ x. x == key) (with_keys rows ks) ≡ false → (row_of key rows ≡ None) × (list_any (λ x. x == key) ks ≡ false)
no_row key [] ks h = (refl, h)
no_row key (r ∷ rs) ks h =
    let split = not_with key r.surrogate (with_keys rs ks) h in
    let rest = no_row key rs ks split.1 in
    (rw split.0 rest.0, rest.1)

-- edits above a key are above a lower one, and ascend
abbrev key_in : Edit DimRow ℕ → ℕ
key_in e = edited (λ (r : DimRow). r.surrogate) e

lower : (low k : ℕ) (es : List (Edit DimRow ℕ)) → low < k → Above nat_cmp key_in k es → Above nat_cmp key_in low es
lower low k [] less up = tt
lower low k (e ∷ es) less up = (nat_cmp_total.trans low k (key_in e) (sym (nat_cmp_is low k Ordering.Less less)) up.0, up.1)

from_above : (k : ℕ) (es : List (Edit DimRow ℕ)) → Above nat_cmp key_in k es → Ascends nat_cmp key_in es
from_above k [] up = tt
from_above k (e ∷ es) up = up.1

module _ (f : ℕ → Option (Edit DimRow ℕ)) (of_key : (key : ℕ) (e : Edit DimRow ℕ) → f key ≡ Some e → edited (λ r. r.surrogate) e ≡ key) where
  -- edits ascend with their keys
  above_edits : (low : ℕ) (keys : List ℕ) → AboveKey low keys → Above nat_cmp key_in low (filter_map f keys)
  above_edits low [] up = tt
  above_edits low (k ∷ keys) up =
      let rest = above_edits k keys up.1 in
      elim (f k) as (λ o. (f k ≡ o) → Above nat_cmp key_in low (cons_option o (filter_map f keys))) [
        | None ↦ λ none. lower low k (filter_map f keys) up.0 rest
        | Some e ↦ λ made. let at = of_key k e made in rw at (sym (nat_cmp_is low k Ordering.Less up.0), rest)
      ] refl

  ascend_edits : (keys : List ℕ) → AscendKeys keys → Ascends nat_cmp key_in (filter_map f keys)
  ascend_edits [] up = tt
  ascend_edits (k ∷ keys) up =
      let rest = above_edits k keys up in
      elim (f k) as (λ o. (f k ≡ o) → Ascends nat_cmp key_in (cons_option o (filter_map f keys))) [
        | None ↦ λ none. from_above k (filter_map f keys) rest
        | Some e ↦ λ made. let at = of_key k e made in rw at rest
      ] refl

pub is_plan : (stored after : List DimRow) → IsRowPlan (λ key. row_of key stored) (λ key. row_of key after) (filter_map (edit_at stored after) (with_keys stored (with_keys after [])))
is_plan stored after =
    let keys = with_keys stored (with_keys after []) in
    let f = edit_at stored after in
    let of_key = edit_at_key stored after in
    record {
      ordered = ascend_edits f of_key keys (ascend_with_all stored (with_keys after []) (ascend_with_all after [] tt));
      exact = λ key. elim (list_any (λ k. k == key) keys) as (λ b. (list_any (λ k. k == key) keys ≡ b) → Needs key (row_of key stored) (row_of key after) (find (λ (e : Edit DimRow ℕ). eq_by_cmp nat_cmp (edited (λ (r : DimRow). r.surrogate) e) key) (filter_map f keys))) [
        | true ↦ λ among. rw (found f of_key key keys among) (needed key (row_of key stored) (row_of key after))
        | false ↦ λ absent.
            let first = no_row key stored (with_keys after []) absent in
            let second = no_row key after [] first.1 in
            rw (first.0, second.0, none_found f of_key key keys absent) refl
      ] refl;
    }

-- a set of numbers takes a key at its place, as the definition does
pub with_key-insert : (key : ℕ) (keys : List ℕ) → insert_key nat_cmp keys key ≡ with_key key keys
with_key-insert key [] = refl
with_key-insert key (x ∷ xs) =
    elim (cases_lt key x) [
      | inl less ↦ rw (sym (nat_cmp_is key x Ordering.Less less), lt-ltb key x less) refl
      | inr late ↦ elim (cases_eq key x) [
        | inl same ↦ rw (sym (nat_cmp_is key x Ordering.Equal same), le-ltb key x late, eq-eqb key x same) refl
        | inr other ↦ rw (sym (nat_cmp_is key x Ordering.Greater (omega arith)), le-ltb key x late, ne_eqb key x other) (ap (λ ks. x ∷ ks) (with_key-insert key xs))
      ]
    ]

-- the step of a loop over rows from the last on
pub keys_more : (rows : List DimRow) (left : ℕ) (row : DimRow) (keys before after : List ℕ) → 0 < left → left ≤ length rows → keys ≡ with_keys (drop left rows) before
    → after ≡ insert_key nat_cmp keys (get_or rows (left - 1) row).surrogate → after ≡ with_keys (drop (left - 1) rows) before
keys_more rows left row keys before after low high so_far inserted =
    let back : left - 1 + 1 ≡ left = omega arith in
    let next : drop (left - 1) rows ≡ get_or rows (left - 1) row ∷ drop left rows = drop_more rows (left - 1) row (omega arith) ∙ ap (λ n. get_or rows (left - 1) row ∷ drop n rows) back in
    inserted ∙ with_key-insert (get_or rows (left - 1) row).surrogate keys ∙ ap (with_key (get_or rows (left - 1) row).surrogate) so_far ∙ ap (λ rs. with_keys rs before) (sym next)

filter_map_same : (f g : ℕ → Option (Edit DimRow ℕ)) → ((key : ℕ) → f key ≡ g key) → (keys : List ℕ) → filter_map f keys ≡ filter_map g keys
filter_map_same f g same [] = refl
filter_map_same f g same (key ∷ keys) = let here = same key in let rest = filter_map_same f g same keys in rw (here, rest) refl

-- the same by maps that have the rows of the lists
pub plan_by_maps : (stored after : List DimRow) (old new : ℕ → Option DimRow) (keys : List ℕ) (edits : List (Edit DimRow ℕ)) → ((key : ℕ) → old key ≡ row_of key stored) → ((key : ℕ) → new key ≡ row_of key after)
    → keys ≡ with_keys stored (with_keys after []) → edits ≡ filter_map (edit_in old new) keys → IsRowPlan (λ key. row_of key stored) (λ key. row_of key after) edits
plan_by_maps stored after old new keys edits olds news keys_are made =
    let same : (key : ℕ) → edit_in old new key ≡ edit_at stored after key = λ key. let o = olds key in let n = news key in rw (o, n) refl in
    rw (made, filter_map_same (edit_in old new) (edit_at stored after) same keys, keys_are) (is_plan stored after)
