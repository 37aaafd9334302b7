-- The keys and tables of a policy file, judged.
use Rattle.std.proofs.Common.{◌≡◌, ◌≢◌, ◌⊎◌, ℕ, suc, ◌<◌, ℤ, Bool, true, false, List, [], ◌∷◌, ◌++◌, length, get_or, map, Option, Some, None, IsSome, Ordering, Less, Equal, Greater, nat_cmp, refl, sym, ap, ◌∙◌, arith, inl, inr}
use Rattle.std.specs.List.{All, AllPairs, AllZip, list_any}
use Rattle.std.specs.Str.{bytes_eq}
use Rattle.std.specs.Cmp.Lexicographic.{slice_cmp}
use Rattle.std.specs.Ordering.{match_ordering, ordering_reverse}
use Rattle.std.proofs.lemmas.Bool.{and_parts, and_from, or_cases, or_parts, false≢true}
use Rattle.std.proofs.lemmas.Cmp.{nat_list_cmp_total, nat_list_eq_equiv}
use Rattle.std.proofs.lemmas.List.{get_or_at, get_or_append_left, length-append, append-nil, append_assoc}
use Rattle.std.proofs.lemmas.List.Elements.{All-nil, All-cons}
use Rattle.std.proofs.lemmas.List.Kept.{AllPairs-cons}
use Rattle.std.proofs.lemmas.List.Quantifiers.{all_pairs_push}
use Rattle.std.proofs.lemmas.Map.Lookups.{exact_bytes}
use Rattle.std.proofs.lemmas.Map.Views.{Contains-from_any, list_any-from_Contains}
use Rattle.std.proofs.lemmas.Option.{same_Some, none-some}
use Rattle.std.proofs.lemmas.Slice.Eq.{bytes_eq-Decides}
use Rattle.toml.specs.Data.{Data, string, integer, array, table, Items, no_items, item, Members, no_members, member, get_member, as_str, as_integer, as_array, as_table}
use Rattle.toml.specs.View.{items_of}
use Rattle.wh_policy.specs.declared.fault.PolicyFault.{PolicyFault}
use Rattle.wh_policy.specs.declared.fault.PolicyFault.TheVariants.{Missing}
use Rattle.wh_policy.specs.Document.{has_only, required, tables_in, tables_of, each_after}
use Rattle.wh_policy.specs.Written.{HasKey, HasOnly, IsArrayOf}
use Rattle.wh_policy.proofs.ReadingLemmas.{Reader}
use Rattle.wh_policy.proofs.Judged.{Judged, judged-ok, judged-bind, judged-more, judged-or}

-- what an accessor gives is what the value is

pub as_str-is : (content : Data) (text : List ℕ) → as_str content ≡ Some text → content ≡ string text
as_str-is (string s) text e = ap string (same_Some _ _ e)
as_str-is _ text e = absurd cc

pub as_integer-is : (content : Data) (z : ℤ) → as_integer content ≡ Some z → content ≡ integer z
as_integer-is (integer n) z e = ap integer (same_Some _ _ e)
as_integer-is _ z e = absurd cc

pub as_array-is : (content : Data) (items : Items) → as_array content ≡ Some items → content ≡ array items
as_array-is (array ds) items e = ap array (same_Some _ _ e)
as_array-is _ items e = absurd cc

pub as_table-is : (content : Data) (t : Members) → as_table content ≡ Some t → content ≡ table t
as_table-is (table ms) t e = ap table (same_Some _ _ e)
as_table-is _ t e = absurd cc

-- constructors are one to one

abbrev first_of_items : Data → Items → Data
first_of_items d no_items = d
first_of_items d (item x xs) = x

abbrev rest_of_items : Items → Items
rest_of_items no_items = no_items
rest_of_items (item x xs) = xs

item_same : (a b : Data) (xs ys : Items) → item a xs ≡ item b ys → (a ≡ b) × (xs ≡ ys)
item_same a b xs ys e = (ap (first_of_items a) e, ap rest_of_items e)

pub table_same : (t u : Members) → table t ≡ table u → t ≡ u
table_same t u e = same_Some _ _ (ap as_table e)

pub string_same : (s t : List ℕ) → string s ≡ string t → s ≡ t
string_same s t e = same_Some _ _ (ap as_str e)

pub integer_same : (y z : ℤ) → integer y ≡ integer z → y ≡ z
integer_same y z e = same_Some _ _ (ap as_integer e)

pub array_same : (xs ys : Items) → array xs ≡ array ys → xs ≡ ys
array_same xs ys e = same_Some _ _ (ap as_array e)

-- the items are those of one list of tables only
pub tables_same : (ts us : List Members) → items_of (map table ts) ≡ items_of (map table us) → ts ≡ us
tables_same [] [] e = refl
tables_same [] (u ∷ us) e = absurd cc
tables_same (t ∷ ts) [] e = absurd cc
tables_same (t ∷ ts) (u ∷ us) e =
    let p = item_same (table t) (table u) (items_of (map table ts)) (items_of (map table us)) e in
    rw (table_same t u p.0, tables_same ts us p.1) refl

pub arrays_same : (content : Data) (ts us : List Members) → IsArrayOf ts content → IsArrayOf us content → ts ≡ us
arrays_same content ts us a b = tables_same ts us (array_same _ _ (sym a ∙ b))

-- a key that has to be there
pub required-judged : {bad : PolicyFault → Type 0} (key : List ℕ) (members : Members) → (get_member key members ≡ None → bad Missing)
    → Judged (λ content. get_member key members ≡ Some content) bad (required key members)
unfolding required
required-judged key members fails = judged-or Missing (get_member key members) fails (λ content e. e)

pub absent : {content : Option Data} → content ≡ None → IsSome content → ⊥
absent none some = false≢true (rw none at some)

-- the tables of an array

no_table : (content : Data) (items : Items) → as_table content ≡ None → (tables : List Members) → item content items ≢ items_of (map table tables)
no_table content items none [] e = absurd cc
no_table content items none (t ∷ ts) e =
    let p = item_same content (table t) items (items_of (map table ts)) e in
    none-some t (sym none ∙ ap as_table p.0)

no_tables : (content : Data) (items : Items) → ((tables : List Members) → items ≢ items_of (map table tables)) → (tables : List Members) → item content items ≢ items_of (map table tables)
no_tables content items none [] e = absurd cc
no_tables content items none (t ∷ ts) e = none ts (item_same content (table t) items (items_of (map table ts)) e).1

tables_in-judged : {bad : PolicyFault → Type 0} (fault : PolicyFault) (items : Items) → (((tables : List Members) → items ≢ items_of (map table tables)) → bad fault)
    → Judged (λ tables. items ≡ items_of (map table tables)) bad (tables_in fault items)
unfolding tables_in
tables_in-judged fault no_items fails = judged-ok [] refl
tables_in-judged fault (item content items) fails =
    judged-bind {mid = λ t. content ≡ table t} _ _
    (judged-or fault (as_table content) (λ none. fails (no_table content items none)) (λ t e. as_table-is content t e))
    (λ t is. judged-bind {mid = λ ts. items ≡ items_of (map table ts)} _ _
    (tables_in-judged fault items (λ none. fails (no_tables content items none)))
    (λ ts same. judged-ok (t ∷ ts) (rw (is, same) refl)))

pub tables_of-judged : {bad : PolicyFault → Type 0} (fault : PolicyFault) (content : Data) → (((tables : List Members) → ¬ IsArrayOf tables content) → bad fault)
    → Judged (λ tables. IsArrayOf tables content) bad (tables_of fault content)
unfolding tables_of
tables_of-judged fault content fails =
    judged-bind {mid = λ items. content ≡ array items} _ _
    (judged-or fault (as_array content) (λ none. fails (λ ts is. none-some _ (sym none ∙ ap as_array is))) (λ items e. as_array-is content items e))
    (λ items is. judged-more {mid = λ ts. items ≡ items_of (map table ts)} (tables_in fault items)
    (tables_in-judged fault items (λ none. fails (λ ts whole. none ts (array_same _ _ (sym is ∙ whole)))))
    (λ ts same. rw (is, same) refl))

-- which keys a table has

tied : (o : Ordering) → (o ≡ Equal) ⊎ ((found more : Option Data) → match_ordering o more found more ≡ more)
tied Less = inr (λ found more. refl)
tied Equal = inl refl
tied Greater = inr (λ found more. refl)

-- what is as it is the other way round is a tie
pub reverse_tied : (o : Ordering) → o ≡ ordering_reverse o → o ≡ Equal
reverse_tied Less e = absurd cc
reverse_tied Equal e = refl
reverse_tied Greater e = absurd cc

get_member-here : (key : List ℕ) (d : Data) (ms : Members) → get_member key (member key d ms) ≡ Some d
get_member-here key d ms = rw (reverse_tied _ (nat_list_cmp_total.antisymm key key)) refl

-- a key of a table is the first or a later one
get_member-cons : (key l : List ℕ) (d : Data) (ms : Members) → HasKey key (member l d ms) → (key ≡ l) ⊎ HasKey key ms
get_member-cons key l d ms h = elim (tied (slice_cmp nat_cmp key l)) [
  | inl same ↦ inl (exact_bytes key l same)
  | inr other ↦ inr (rw (other (Some d) (get_member key ms)) at h)
]

get_member-later : (key l : List ℕ) (d : Data) (ms : Members) → HasKey key ms → HasKey key (member l d ms)
get_member-later key l d ms h = elim (tied (slice_cmp nat_cmp key l)) [
  | inl same ↦ rw same refl
  | inr other ↦ rw (other (Some d) (get_member key ms)) h
]

pub same_bytes : (s t : List ℕ) → bytes_eq s t ≡ true → s ≡ t
same_bytes s t = (bytes_eq-Decides s t).0

pub has_only-true : (known : List (List ℕ)) (ms : Members) → has_only known ms ≡ true → HasOnly known ms
has_only-true known no_members h key has = absurd (false≢true has)
has_only-true known (member l d ms) h key has =
    let p = and_parts (list_any (bytes_eq l) known) (has_only known ms) h in
    elim (get_member-cons key l d ms has) [
      | inl same ↦ rw same (Contains-from_any same_bytes l known p.0)
      | inr later ↦ has_only-true known ms p.1 key later
    ]

pub has_only-from : (known : List (List ℕ)) (ms : Members) → HasOnly known ms → has_only known ms ≡ true
has_only-from known no_members h = refl
has_only-from known (member l d ms) h =
    and_from _ _ (list_any-from_Contains nat_list_eq_equiv l known (h l (rw (get_member-here l d ms) refl)))
    (has_only-from known ms (λ key has. h key (get_member-later key l d ms has)))

-- one table among the others

pub All-middle : {X : Type 0} (P : X → Type 0) (before : List X) (x : X) (after : List X) → All P (before ++ x ∷ after) → P x
All-middle P before x after h =
    let lt : length before < length (before ++ x ∷ after) = rw (length-append before (x ∷ after)) (omega arith) in
    rw (get_or_at before x after x (length before) refl) at (h (length before) x lt)

pub AllPairs-middle : {X : Type 0} (R : X → X → Type 0) (before : List X) (x : X) (after : List X) (k : ℕ) → k < length before → AllPairs R (before ++ x ∷ after) → R (get_or before k x) x
AllPairs-middle R before x after k lt h =
    let within : length before < length (before ++ x ∷ after) = rw (length-append before (x ∷ after)) (omega arith) in
    rw (get_or_at before x after x (length before) refl, get_or_append_left before (x ∷ after) x k lt) at (h k (length before) x lt within)

-- lists side by side

pub zip-push : {A B : Type 0} (R : A → B → Type 0) (xs : List A) (ys : List B) (x : A) (y : B) → AllZip R xs ys → R x y → AllZip R (xs ++ x ∷ []) (ys ++ y ∷ [])
zip-push R [] [] x y h r = (r, tt)
zip-push R [] (b ∷ ys) x y h r = absurd h
zip-push R (a ∷ xs) [] x y h r = absurd h
zip-push R (a ∷ xs) (b ∷ ys) x y h r = (h.0, zip-push R xs ys x y h.1 r)

pub zip-all : {A B : Type 0} (R : A → B → Type 0) (P : A → Type 0) → ((x : A) (y : B) → R x y → P x) → (xs : List A) (ys : List B) → AllZip R xs ys → All P xs
zip-all R P f [] ys h = All-nil P
zip-all R P f (x ∷ xs) [] h = absurd h
zip-all R P f (x ∷ xs) (y ∷ ys) h = All-cons P x xs (f x y h.0) (zip-all R P f xs ys h.1)

pub zip-all_right : {A B : Type 0} (R : A → B → Type 0) (P : B → Type 0) → ((x : A) (y : B) → R x y → P y) → (xs : List A) (ys : List B) → AllZip R xs ys → All P ys
zip-all_right R P f xs [] h = All-nil P
zip-all_right R P f [] (y ∷ ys) h = absurd h
zip-all_right R P f (x ∷ xs) (y ∷ ys) h = All-cons P y ys (f x y h.0) (zip-all_right R P f xs ys h.1)

pub zip-more : {A B : Type 0} (R S : A → B → Type 0) → ((x : A) (y : B) → R x y → S x y) → (xs : List A) (ys : List B) → AllZip R xs ys → AllZip S xs ys
zip-more R S f [] [] h = tt
zip-more R S f [] (y ∷ ys) h = absurd h
zip-more R S f (x ∷ xs) [] h = absurd h
zip-more R S f (x ∷ xs) (y ∷ ys) h = (f x y h.0, zip-more R S f xs ys h.1)

pub AllPairs-first : {X : Type 0} (R : X → X → Type 0) (x : X) (xs : List X) → AllPairs R (x ∷ xs) → All (R x) xs
AllPairs-first R x xs h k d lt = h 0 (suc k) d (omega arith) (omega arith)

pub AllPairs-rest : {X : Type 0} (R : X → X → Type 0) (x : X) (xs : List X) → AllPairs R (x ∷ xs) → AllPairs R xs
AllPairs-rest R x xs h i j d below within = h (suc i) (suc j) d (omega arith) (omega arith)

pub zip-with_first : {A B : Type 0} (R : A → B → Type 0) (P : A → Type 0) (S : B → Type 0) → ((u : A) (v : B) → R u v → S v → P u) → (xs : List A) (ys : List B) → AllZip R xs ys → All S ys → All P xs
zip-with_first R P S f [] ys h all = All-nil P
zip-with_first R P S f (x ∷ xs) [] h all = absurd h
zip-with_first R P S f (x ∷ xs) (y ∷ ys) h all = All-cons P x xs (f x y h.0 (all 0 y (omega arith))) (zip-with_first R P S f xs ys h.1 (λ k d lt. all (suc k) d (omega arith)))

-- what differs on the one side differs on the other
pub zip-pairs : {A B : Type 0} (R : A → B → Type 0) (Q : A → A → Type 0) (S : B → B → Type 0) → ((x u : A) (y v : B) → R x y → R u v → S y v → Q x u)
    → (xs : List A) (ys : List B) → AllZip R xs ys → AllPairs S ys → AllPairs Q xs
zip-pairs R Q S f [] ys h pairs = λ i j d below within. absurd (omega arith)
zip-pairs R Q S f (x ∷ xs) [] h pairs = absurd h
zip-pairs R Q S f (x ∷ xs) (y ∷ ys) h pairs =
    AllPairs-cons Q x xs (zip-with_first R (Q x) (S y) (λ u v r s. f x u y v h.0 r s) xs ys h.1 (AllPairs-first S y ys pairs))
    (zip-pairs R Q S f xs ys h.1 (AllPairs-rest S y ys pairs))

-- a test that an earlier one passes
pub found_before : {A B : Type 0} (R : A → B → Type 0) (test : B → Bool) (xs : List A) (ys : List B) (d : A) → AllZip R xs ys → list_any test ys ≡ true
    → (k : ℕ) × (y : B) × (k < length xs) × (test y ≡ true) × R (get_or xs k d) y
found_before R test xs [] d h found = absurd (false≢true found)
found_before R test [] (y ∷ ys) d h found = absurd h
found_before R test (x ∷ xs) (y ∷ ys) d h found = elim (or_cases (test y) (list_any test ys) found) [
  | inl here ↦ (0, y, omega arith, here, h.0)
  | inr later ↦ let (k, z, lt, passes, r) = found_before R test xs ys d h.1 later in (suc k, z, omega arith, passes, r)
]

pub none_found : {A : Type 0} (test : A → Bool) (xs : List A) → list_any test xs ≡ false → All (λ x. test x ≡ false) xs
none_found test [] none = All-nil (λ x. test x ≡ false)
none_found test (x ∷ xs) none =
    let (here, later) = or_parts (test x) (list_any test xs) none in
    All-cons (λ y. test y ≡ false) x xs here (none_found test xs later)

-- what each table gives, where the reading of one table is judged
pub each_after-judged : {A : Type 0} {bad : PolicyFault → Type 0} (read : Reader A) (R : Members → A → Type 0) (Apart : A → A → Type 0) (Reasons : List Members → Type 0)
    → ((before : List Members) (t : Members) (after : List Members) (earlier : List A) → AllZip R before earlier → Reasons (before ++ t ∷ after) → Judged (λ x. R t x × All (λ y. Apart y x) earlier) bad (read earlier t))
    → (before : List Members) (earlier : List A) (tables : List Members) → AllZip R before earlier → AllPairs Apart earlier → Reasons (before ++ tables)
    → Judged (λ xs. AllZip R tables xs × AllPairs Apart (earlier ++ xs)) bad (each_after read earlier tables)
unfolding each_after
each_after-judged read R Apart Reasons step before earlier [] zip apart reasons = judged-ok [] (tt, rw (append-nil earlier) apart)
each_after-judged read R Apart Reasons step before earlier (t ∷ tables) zip apart reasons =
    judged-bind {mid = λ x. R t x × All (λ y. Apart y x) earlier} _ _ (step before t tables earlier zip reasons) (λ x first.
    judged-bind {mid = λ others. AllZip R tables others × AllPairs Apart ((earlier ++ x ∷ []) ++ others)} _ _
    (each_after-judged read R Apart Reasons step (before ++ t ∷ []) (earlier ++ x ∷ []) tables
    (zip-push R before earlier t x zip first.0) (all_pairs_push Apart earlier x apart first.1) (rw (append_assoc before (t ∷ []) tables) reasons)) (λ others rest.
    judged-ok (x ∷ others) ((first.0, rest.0), rw (append_assoc earlier (x ∷ []) others) at rest.1)))
