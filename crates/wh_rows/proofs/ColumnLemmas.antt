-- What the columns of a row are read as.
use Rattle.std.proofs.Common.{◌≡◌, ◌<◌, ◌+◌, ◌⊎◌, arith, ℕ, ℤ, zero, suc, pos, negsuc, Bool, true, false, ◌&&◌, ◌||◌, ◌==◌, not, List, [], ◌∷◌, length, map, slice_index_or, Some, None, Ok, Err, Result, inl, inr, refl, sym, ap, subst, ◌∙◌}
use Rattle.std.specs.Prelude.{if◌then◌else◌, nat_lt}
use Rattle.std.specs.List.{list_all, list_any, range_with_len, AllByRecursion}
use Rattle.std.specs.Str.{is_utf8, IsAscii}
use Rattle.std.proofs.lemmas.Bool.{and_parts, eqb-true}
use Rattle.std.proofs.lemmas.Bool.Decides.{nat_tests}
use Rattle.std.proofs.lemmas.Str.{IsUtf8-from_ascii, is_utf8-from_IsUtf8}
use Rattle.std.proofs.lemmas.List.{ext_get_or}
use Rattle.std.proofs.lemmas.List.FromFn.{length-map-range_with_len, get_or-map-range_with_len}
use Rattle.sqlite_value.specs.declared.value.Value.{Value}
use Rattle.sqlite_value.specs.declared.value.Value.TheVariants.{Null, Int, Real, Text, Blob}
use Rattle.sqlite.specs.Order.{Row, column}
use Rattle.wh_day.specs.Day.{is_day}
use Rattle.wh_day.specs.Value.{read_value, is_plain, none_text, unknown_text, no_card_text}
use Rattle.wh_day.specs.Reading.{◌>>=◌}
use Rattle.wh_policy.specs.declared.attribute.Dim.{Dim}
use Rattle.wh_policy.specs.declared.attribute.Dim.TheVariants.{Product, Store, Customer}
use Rattle.wh_policy.proofs.WrittenLemmas.{same_bytes}
use Rattle.std.specs.Str.{bytes_eq}
use Rattle.wh_rows.specs.declared.columns.Damaged.{Damaged}
use Rattle.wh_rows.proofs.Edits.{same_value}
use Rattle.wh_day.specs.NaturalKey.{is_key_byte}
use Rattle.wh_day.proofs.KeyBytes.{key_is_text}
use Rattle.wh_rows.specs.Types.{is_number, is_discount, is_line, is_measure, is_key, is_kind, kinds, is_special, is_given, is_slot, are_slots, dim_number}
use Rattle.wh_rows.specs.Rows.{flag, slot_column, is_natural}
use Rattle.wh_rows.specs.Columns.{damaged, of_type, or_damaged, integer_of, number_of, discount_of, line_of, measure_of, day_of, flag_of, dim_of, blob_of, text_of, tested_of, slot_of, slots_of}
use Rattle.wh_history.proofs.Beginnings.{either}

-- ---- reading in steps

pub bind_ok : {A B : Type 0} (m : Result A Damaged) (f : A → Result B Damaged) (y : B) → (m >>= f) ≡ Ok y → (x : A) × (m ≡ Ok x) × (f x ≡ Ok y)
bind_ok (Ok x) f y h = (x, refl, h)
bind_ok (Err e) f y h = absurd (cc)

pub bind_is : {A B : Type 0} (m : Result A Damaged) (x : A) (f : A → Result B Damaged) (y : B) → m ≡ Ok x → f x ≡ Ok y → (m >>= f) ≡ Ok y
bind_is m x f y is next = ap (λ m. m >>= f) is ∙ next

pub when_ok : {A : Type 0} (b : Bool) (m : Result A Damaged) (y : A) → (if b then m else damaged) ≡ Ok y → (b ≡ true) × (m ≡ Ok y)
when_ok true m y h = (refl, h)
when_ok false m y h = absurd (cc)

pub of_type_ok : {A : Type 0} (b : Bool) (x y : A) → of_type b x ≡ Ok y → (b ≡ true) × (x ≡ y)
of_type_ok true x y h = (refl, same_value h)
of_type_ok false x y h = absurd (cc)

pub both : {a b : Bool} → a ≡ true → b ≡ true → (a && b) ≡ true
both p q = rw (p, q) refl

-- a list is its elements, one by one
pub whole : {X : Type 0} (d : X) (xs : List X) (n : ℕ) → length xs ≡ n → xs ≡ map (λ i. slice_index_or xs i d) (range_with_len 0 n)
whole d xs n is = ext_get_or d xs _ (is ∙ sym (length-map-range_with_len _ 0 n)) (λ i lt. sym (get_or-map-range_with_len (λ i. slice_index_or xs i d) 0 n i i d (omega (arith, is)) (omega arith)))

-- ---- numbers

pub integer_so : (v : Value) (n : ℤ) → integer_of v ≡ Ok n → v ≡ Int n
unfolding integer_of
integer_so Null n h = absurd (cc)
integer_so (Int k) n h = ap Int (same_value h)
integer_so (Real x) n h = absurd (cc)
integer_so (Text t) n h = absurd (cc)
integer_so (Blob b) n h = absurd (cc)

pub integer_is : (n : ℤ) → integer_of (Int n) ≡ Ok n
unfolding integer_of
integer_is n = refl

pub number_so : (v : Value) (n : ℕ) → number_of v ≡ Ok n → (v ≡ Int (pos n)) × (is_number n ≡ true)
unfolding number_of
number_so Null n h = absurd (cc)
number_so (Int (pos k)) n h = let p = of_type_ok (is_number k) k n h in (ap (λ k. Int (pos k)) p.1, subst (λ k. is_number k ≡ true) p.1 p.0)
number_so (Int (negsuc k)) n h = absurd (cc)
number_so (Real x) n h = absurd (cc)
number_so (Text t) n h = absurd (cc)
number_so (Blob b) n h = absurd (cc)

pub number_is : (n : ℕ) → is_number n ≡ true → number_of (Int (pos n)) ≡ Ok n
unfolding number_of
number_is n h = ap (λ b. of_type b n) h

pub discount_so : (v : Value) (n : ℕ) → discount_of v ≡ Ok n → (v ≡ Int (pos n)) × (is_discount n ≡ true)
unfolding discount_of
discount_so Null n h = absurd (cc)
discount_so (Int (pos k)) n h = let p = of_type_ok (is_discount k) k n h in (ap (λ k. Int (pos k)) p.1, subst (λ k. is_discount k ≡ true) p.1 p.0)
discount_so (Int (negsuc k)) n h = absurd (cc)
discount_so (Real x) n h = absurd (cc)
discount_so (Text t) n h = absurd (cc)
discount_so (Blob b) n h = absurd (cc)

pub discount_is : (n : ℕ) → is_discount n ≡ true → discount_of (Int (pos n)) ≡ Ok n
unfolding discount_of
discount_is n h = ap (λ b. of_type b n) h

pub line_so : (v : Value) (n : ℕ) → line_of v ≡ Ok n → (v ≡ Int (pos n)) × (is_line n ≡ true)
unfolding line_of
line_so Null n h = absurd (cc)
line_so (Int (pos k)) n h = let p = of_type_ok (is_line k) k n h in (ap (λ k. Int (pos k)) p.1, subst (λ k. is_line k ≡ true) p.1 p.0)
line_so (Int (negsuc k)) n h = absurd (cc)
line_so (Real x) n h = absurd (cc)
line_so (Text t) n h = absurd (cc)
line_so (Blob b) n h = absurd (cc)

pub line_is : (n : ℕ) → is_line n ≡ true → line_of (Int (pos n)) ≡ Ok n
unfolding line_of
line_is n h = ap (λ b. of_type b n) h

pub measure_so : (most : ℕ) (v : Value) (n : ℤ) → measure_of most v ≡ Ok n → (v ≡ Int n) × (is_measure most n ≡ true)
unfolding measure_of
measure_so most Null n h = absurd (cc)
measure_so most (Int k) n h = let p = of_type_ok (is_measure most k) k n h in (ap Int p.1, subst (λ k. is_measure most k ≡ true) p.1 p.0)
measure_so most (Real x) n h = absurd (cc)
measure_so most (Text t) n h = absurd (cc)
measure_so most (Blob b) n h = absurd (cc)

pub measure_is : (most : ℕ) (n : ℤ) → is_measure most n ≡ true → measure_of most (Int n) ≡ Ok n
unfolding measure_of
measure_is most n h = ap (λ b. of_type b n) h

pub day_so : (v : Value) (n : ℕ) → day_of v ≡ Ok n → (v ≡ Int (pos n)) × (is_day n ≡ true)
unfolding day_of
day_so Null n h = absurd (cc)
day_so (Int (pos k)) n h = go (is_day k) refl h
  where
    go : (b : Bool) → is_day k ≡ b → or_damaged (if b then Some k else None) ≡ Ok n → (◌≡◌ {A = Value} (Int (pos k)) (Int (pos n))) × (is_day n ≡ true)
    go true is h = let same : k ≡ n = same_value h in (ap (λ k. Int (pos k)) same, subst (λ k. is_day k ≡ true) same is)
    go false is h = absurd (cc)
day_so (Int (negsuc k)) n h = absurd (cc)
day_so (Real x) n h = absurd (cc)
day_so (Text t) n h = absurd (cc)
day_so (Blob b) n h = absurd (cc)

pub day_is : (n : ℕ) → is_day n ≡ true → day_of (Int (pos n)) ≡ Ok n
unfolding day_of
day_is n h = ap (λ b. or_damaged (if b then Some n else None)) h

pub flag_so : (v : Value) (b : Bool) → flag_of v ≡ Ok b → v ≡ flag b
unfolding flag_of
flag_so Null b h = absurd (cc)
flag_so (Int (pos k)) b h = go (k == 0) refl h
  where
    go : (none : Bool) → (k == 0) ≡ none → (if none then Ok false else of_type (k == 1) true) ≡ Ok b → ◌≡◌ {A = Value} (Int (pos k)) (flag b)
    go true is h = let same : false ≡ b = same_value h in ap (λ k. Int (pos k)) (eqb-true k 0 is) ∙ ap flag same
    go false is h = let p = of_type_ok (k == 1) true b h in ap (λ k. Int (pos k)) (eqb-true k 1 p.0) ∙ ap flag p.1
flag_so (Int (negsuc k)) b h = absurd (cc)
flag_so (Real x) b h = absurd (cc)
flag_so (Text t) b h = absurd (cc)
flag_so (Blob c) b h = absurd (cc)

pub flag_is : (b : Bool) → flag_of (flag b) ≡ Ok b
unfolding flag_of
flag_is true = refl
flag_is false = refl

pub dim_so : (v : Value) (dim : Dim) → dim_of v ≡ Ok dim → v ≡ Int (pos (dim_number dim))
unfolding dim_of
dim_so Null dim h = absurd (cc)
dim_so (Int (pos k)) dim h = go (k == 1) (k == 2) refl refl h
  where
    go : (one two : Bool) → (k == 1) ≡ one → (k == 2) ≡ two → (if one then Ok Product else if two then Ok Store else of_type (k == 3) Customer) ≡ Ok dim → ◌≡◌ {A = Value} (Int (pos k)) (Int (pos (dim_number dim)))
    go true two is_one is_two h = let same : Product ≡ dim = same_value h in ap (λ k. Int (pos k)) (eqb-true k 1 is_one ∙ ap dim_number same)
    go false true is_one is_two h = let same : Store ≡ dim = same_value h in ap (λ k. Int (pos k)) (eqb-true k 2 is_two ∙ ap dim_number same)
    go false false is_one is_two h = let p = of_type_ok (k == 3) Customer dim h in ap (λ k. Int (pos k)) (eqb-true k 3 p.0 ∙ ap dim_number p.1)
dim_so (Int (negsuc k)) dim h = absurd (cc)
dim_so (Real x) dim h = absurd (cc)
dim_so (Text t) dim h = absurd (cc)
dim_so (Blob b) dim h = absurd (cc)

pub dim_is : (dim : Dim) → dim_of (Int (pos (dim_number dim))) ≡ Ok dim
unfolding dim_of
dim_is Product = refl
dim_is Store = refl
dim_is Customer = refl

-- ---- texts and bytes

pub blob_so : (v : Value) (bytes : List ℕ) → blob_of v ≡ Ok bytes → v ≡ Blob bytes
unfolding blob_of
blob_so Null bytes h = absurd (cc)
blob_so (Int k) bytes h = absurd (cc)
blob_so (Real x) bytes h = absurd (cc)
blob_so (Text t) bytes h = absurd (cc)
blob_so (Blob b) bytes h = ap Blob (same_value h)

pub blob_is : (bytes : List ℕ) → blob_of (Blob bytes) ≡ Ok bytes
unfolding blob_of
blob_is bytes = refl

pub text_so : (v : Value) (t : List ℕ) → text_of v ≡ Ok t → (v ≡ Text t) × (is_utf8 t ≡ true)
unfolding text_of
text_so Null t h = absurd (cc)
text_so (Int k) t h = absurd (cc)
text_so (Real x) t h = absurd (cc)
text_so (Text s) t h = let p = of_type_ok (is_utf8 s) s t h in (ap Text p.1, subst (λ s. is_utf8 s ≡ true) p.1 p.0)
text_so (Blob b) t h = absurd (cc)

pub text_is : (t : List ℕ) → is_utf8 t ≡ true → text_of (Text t) ≡ Ok t
unfolding text_of
text_is t h = ap (λ b. of_type b t) h

pub tested_so : (test : List ℕ → Bool) (v : Value) (t : List ℕ) → tested_of test v ≡ Ok t → (v ≡ Text t) × (test t ≡ true)
unfolding tested_of
tested_so test v t h =
    let c = bind_ok (text_of v) _ t h in
    let p = of_type_ok (test c.0) c.0 t c.2 in
    ((text_so v c.0 c.1).0 ∙ ap Text p.1, subst (λ s. test s ≡ true) p.1 p.0)

pub tested_is : (test : List ℕ → Bool) (t : List ℕ) → is_utf8 t ≡ true → test t ≡ true → tested_of test (Text t) ≡ Ok t
unfolding tested_of
tested_is test t utf8 h = bind_is (text_of (Text t)) t _ t (text_is t utf8) (ap (λ b. of_type b t) h)

-- ---- which texts are UTF-8

below-ascii : (byte : ℕ) → nat_lt byte 128 ≡ true → byte < 128
below-ascii byte h = grind (arith, nat_tests)

-- bytes that pass a test which only ASCII passes
all-ascii : (test : ℕ → Bool) → ((byte : ℕ) → test byte ≡ true → byte < 128) → (text : List ℕ) → list_all test text ≡ true → IsAscii text
all-ascii test low [] h i = omega arith
all-ascii test low (byte ∷ bytes) h zero = low byte (and_parts (test byte) (list_all test bytes) h).0
all-ascii test low (byte ∷ bytes) h (suc i) = all-ascii test low bytes (and_parts (test byte) (list_all test bytes) h).1 i

ascii_text : (text : List ℕ) → list_all (λ byte. nat_lt byte 128) text ≡ true → is_utf8 text ≡ true
ascii_text text h = is_utf8-from_IsUtf8 text (IsUtf8-from_ascii text (all-ascii (λ byte. nat_lt byte 128) below-ascii text h))

pub key_text : (most : ℕ) (text : List ℕ) → is_key most text ≡ true → is_utf8 text ≡ true
key_text most text h = is_utf8-from_IsUtf8 text (key_is_text text (and_parts _ (list_all is_key_byte text) h).1)

any_text : (text : List ℕ) (texts : List (List ℕ)) → AllByRecursion (λ t. list_all (λ byte. nat_lt byte 128) t ≡ true) texts → list_any (bytes_eq text) texts ≡ true → is_utf8 text ≡ true
any_text text [] all h = absurd (cc)
any_text text (t ∷ ts) all h = elim (either (bytes_eq text t) _ h) [ inl same ↦ ap is_utf8 (same_bytes text t same) ∙ ascii_text t all.0 | inr later ↦ any_text text ts all.1 later ]

pub kind_text : (text : List ℕ) → is_kind text ≡ true → is_utf8 text ≡ true
kind_text text h = any_text text kinds (refl, (refl, (refl, (refl, (refl, (refl, (refl, (refl, tt)))))))) h

pub natural_text : (dim : Dim) (surrogate : ℕ) (text : List ℕ) → is_natural dim surrogate text ≡ true → is_utf8 text ≡ true
unfolding no_card_text
natural_text Product surrogate text h = key_text 32 text h
natural_text Store surrogate text h = key_text 32 text h
natural_text Customer surrogate text h = elim (either (is_key 32 text) _ h) [
  | inl key ↦ key_text 32 text key
  | inr card ↦ let same = (and_parts (surrogate == 0) (bytes_eq text no_card_text) card).1 in ap is_utf8 (same_bytes text no_card_text same) ∙ ascii_text no_card_text refl
]

-- ---- slots

special_text : (text : List ℕ) → is_special text ≡ true → is_utf8 text ≡ true
unfolding is_special none_text unknown_text no_card_text
special_text text h = elim (either (bytes_eq text [] || bytes_eq text none_text || bytes_eq text unknown_text) (bytes_eq text no_card_text) h) [
  | inr four ↦ ap is_utf8 (same_bytes text no_card_text four) ∙ ascii_text no_card_text refl
  | inl rest ↦ elim (either (bytes_eq text [] || bytes_eq text none_text) (bytes_eq text unknown_text) rest) [
    | inr three ↦ ap is_utf8 (same_bytes text unknown_text three) ∙ ascii_text unknown_text refl
    | inl rest ↦ elim (either (bytes_eq text []) (bytes_eq text none_text) rest) [
      | inr two ↦ ap is_utf8 (same_bytes text none_text two) ∙ ascii_text none_text refl
      | inl one ↦ ap is_utf8 (same_bytes text [] one) ∙ ascii_text [] refl
    ]
  ]
]

given_text : (text : List ℕ) → is_given text ≡ true → is_utf8 text ≡ true
unfolding is_plain
given_text [] h = absurd (cc)
given_text (first ∷ rest) h = (and_parts _ (is_utf8 (first ∷ rest)) (and_parts (not (first == 40)) (is_plain (first ∷ rest)) h).1).1

-- what a source can give, if it isn't empty, is read as it is
given_read : (text : List ℕ) → is_special text ≡ false → (t : List ℕ) → or_damaged (read_value text) ≡ Ok t → (text ≡ t) × (is_given text ≡ true)
unfolding read_value is_special
given_read [] other t h = absurd (cc)
given_read (first ∷ rest) other t h = go (not (first == 40) && is_plain (first ∷ rest)) refl h
  where
    go : (b : Bool) → (not (first == 40) && is_plain (first ∷ rest)) ≡ b → or_damaged (if b then Some (first ∷ rest) else None) ≡ Ok t → ((first ∷ rest) ≡ t) × (is_given (first ∷ rest) ≡ true)
    go true is h = (same_value h, is)
    go false is h = absurd (cc)

read_given : (text : List ℕ) → is_given text ≡ true → or_damaged (read_value text) ≡ Ok text
unfolding read_value
read_given [] h = absurd (cc)
read_given (first ∷ rest) h = ap (λ b. or_damaged (if b then Some (first ∷ rest) else None)) h

pub slot_so : (v : Value) (t : List ℕ) → slot_of v ≡ Ok t → (v ≡ Text t) × (is_slot t ≡ true)
unfolding slot_of is_slot
slot_so v t h =
    let c = bind_ok (text_of v) _ t h in
    let is = (text_so v c.0 c.1).0 in
    go c.0 is (is_special c.0) refl c.2
  where
    go : (s : List ℕ) → v ≡ Text s → (b : Bool) → is_special s ≡ b → (if b then Ok s else or_damaged (read_value s)) ≡ Ok t → (v ≡ Text t) × ((is_special t || is_given t) ≡ true)
    go s is true special h = let same : s ≡ t = same_value h in (is ∙ ap Text same, subst (λ s. (is_special s || is_given s) ≡ true) same (rw special refl))
    go s is false special h = let p = given_read s special t h in (is ∙ ap Text p.0, subst (λ s. (is_special s || is_given s) ≡ true) p.0 (rw special p.1))

pub slot_is : (t : List ℕ) → is_slot t ≡ true → slot_of (Text t) ≡ Ok t
unfolding slot_of is_slot
slot_is t h = bind_is (text_of (Text t)) t _ t (text_is t (utf8 (either (is_special t) (is_given t) h))) (go (is_special t) refl)
  where
    utf8 : (is_special t ≡ true) ⊎ (is_given t ≡ true) → is_utf8 t ≡ true
    utf8 (inl special) = special_text t special
    utf8 (inr given) = given_text t given

    go : (b : Bool) → is_special t ≡ b → (if b then Ok t else or_damaged (read_value t)) ≡ Ok t
    go true special = refl
    go false special = read_given t (rw special at h)

pub slots_so : (row : Row) (from : ℕ) (texts : List (List ℕ)) → slots_of row from ≡ Ok texts
    → (are_slots texts ≡ true) × (column row from ≡ slot_column texts 0) × (column row (from + 1) ≡ slot_column texts 1) × (column row (from + 2) ≡ slot_column texts 2)
    × (column row (from + 3) ≡ slot_column texts 3) × (column row (from + 4) ≡ slot_column texts 4) × (column row (from + 5) ≡ slot_column texts 5)
unfolding slots_of
slots_so row from texts h =
    let c0 = bind_ok (slot_of (column row from)) _ texts h in
    let c1 = bind_ok (slot_of (column row (from + 1))) _ texts c0.2 in
    let c2 = bind_ok (slot_of (column row (from + 2))) _ texts c1.2 in
    let c3 = bind_ok (slot_of (column row (from + 3))) _ texts c2.2 in
    let c4 = bind_ok (slot_of (column row (from + 4))) _ texts c3.2 in
    let c5 = bind_ok (slot_of (column row (from + 5))) _ texts c4.2 in
    let e0 = slot_so (column row from) c0.0 c0.1 in
    let e1 = slot_so (column row (from + 1)) c1.0 c1.1 in
    let e2 = slot_so (column row (from + 2)) c2.0 c2.1 in
    let e3 = slot_so (column row (from + 3)) c3.0 c3.1 in
    let e4 = slot_so (column row (from + 4)) c4.0 c4.1 in
    let e5 = slot_so (column row (from + 5)) c5.0 c5.1 in
    let found : List (List ℕ) = c0.0 ∷ c1.0 ∷ c2.0 ∷ c3.0 ∷ c4.0 ∷ c5.0 ∷ [] in
    let valid : are_slots found ≡ true = both e0.1 (both e1.1 (both e2.1 (both e3.1 (both e4.1 (both e5.1 refl))))) in
    subst (λ texts. (are_slots texts ≡ true) × (column row from ≡ slot_column texts 0) × (column row (from + 1) ≡ slot_column texts 1) × (column row (from + 2) ≡ slot_column texts 2)
    × (column row (from + 3) ≡ slot_column texts 3) × (column row (from + 4) ≡ slot_column texts 4) × (column row (from + 5) ≡ slot_column texts 5)) (same_value c5.2) (valid, e0.0, e1.0, e2.0, e3.0, e4.0, e5.0)

pub slots_is : (row : Row) (from : ℕ) (texts : List (List ℕ)) → are_slots texts ≡ true → column row from ≡ slot_column texts 0 → column row (from + 1) ≡ slot_column texts 1 → column row (from + 2) ≡ slot_column texts 2
    → column row (from + 3) ≡ slot_column texts 3 → column row (from + 4) ≡ slot_column texts 4 → column row (from + 5) ≡ slot_column texts 5 → slots_of row from ≡ Ok texts
unfolding slots_of
slots_is row from texts valid s0 s1 s2 s3 s4 s5 =
    let text : ℕ → List ℕ = λ i. slice_index_or texts i [] in
    let parts = and_parts (length texts == 6) (list_all is_slot texts) valid in
    let is : texts ≡ text 0 ∷ text 1 ∷ text 2 ∷ text 3 ∷ text 4 ∷ text 5 ∷ [] = whole [] texts 6 (eqb-true (length texts) 6 parts.0) in
    let all : list_all is_slot (text 0 ∷ text 1 ∷ text 2 ∷ text 3 ∷ text 4 ∷ text 5 ∷ []) ≡ true = ap (list_all is_slot) (sym is) ∙ parts.1 in
    let a0 = and_parts (is_slot (text 0)) _ all in
    let a1 = and_parts (is_slot (text 1)) _ a0.1 in
    let a2 = and_parts (is_slot (text 2)) _ a1.1 in
    let a3 = and_parts (is_slot (text 3)) _ a2.1 in
    let a4 = and_parts (is_slot (text 4)) _ a3.1 in
    let a5 = and_parts (is_slot (text 5)) _ a4.1 in
    bind_is _ (text 0) _ texts (ap slot_of s0 ∙ slot_is (text 0) a0.0)
    (bind_is _ (text 1) _ texts (ap slot_of s1 ∙ slot_is (text 1) a1.0)
    (bind_is _ (text 2) _ texts (ap slot_of s2 ∙ slot_is (text 2) a2.0)
    (bind_is _ (text 3) _ texts (ap slot_of s3 ∙ slot_is (text 3) a3.0)
    (bind_is _ (text 4) _ texts (ap slot_of s4 ∙ slot_is (text 4) a4.0)
    (bind_is _ (text 5) _ texts (ap slot_of s5 ∙ slot_is (text 5) a5.0) (ap Ok (sym is)))))))
