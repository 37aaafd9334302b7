-- Which batches are read.
use Rattle.std.proofs.Common.{◌≡◌, ℕ, ◌+◌, ◌-◌, ◌≤◌, Bool, true, false, cond, ltb, List, [], ◌∷◌, ◌++◌, length, map, Result, Ok, Err, refl, sym, ap, ◌∙◌, arith}
use Rattle.std.specs.Bool.{Decides}
use Rattle.std.specs.List.{IsDistinct, AllByRecursion, list_any, list_all}
use Rattle.std.specs.Str.{bytes_eq}
use Rattle.std.specs.Cmp.Lexicographic.{pointwise, pointwise_decides}
use Rattle.std.proofs.lemmas.Bool.{and_parts, and_from, or_parts, le-ltb, ltb-false}
use Rattle.std.proofs.lemmas.Bool.Decides.{Decides-eqb, same_from_decides}
use Rattle.std.proofs.lemmas.List.Folds.{list_any-append}
use Rattle.std.proofs.lemmas.Slice.Eq.{bytes_eq-Decides}
use Rattle.wh_day.specs.Reading.{◌>>=◌}
use Rattle.wh_batch.specs.declared.fault.FaultKind.{FaultKind}
use Rattle.wh_batch.specs.declared.fault.FaultKind.TheVariants.{WrongHeader, TwiceInBatch, OutsideCalendar}
use Rattle.wh_batch.specs.Columns.{names}
use Rattle.wh_batch.specs.Rows.{Table}
use Rattle.wh_batch.specs.Batch.{Key, Layout, at, is_same_key, admitted, numbered, next_record, records_after, below_header, batch_of}
use Rattle.wh_batch.specs.Laws.{IsBatch, ReadsBatches}

abbrev key_at : List ℕ → ℕ → Key
key_at text number = record { text = text; number = number }

-- a key, by its parts
key_at-same : (text other : List ℕ) (number place : ℕ) → text ≡ other → number ≡ place → key_at text number ≡ key_at other place
key_at-same text other number place e f = rw (e, f) refl

pub is_same_key-Decides : (a b : Key) → Decides (is_same_key a b) (a ≡ b)
is_same_key-Decides a b = (to, from)
  where
    to : is_same_key a b ≡ true → a ≡ b
    to h =
        let (texts, numbers) = and_parts (bytes_eq a.text b.text) _ h in
        key_at-same a.text b.text a.number b.number ((bytes_eq-Decides a.text b.text).0 texts) ((Decides-eqb a.number b.number).0 numbers)

    from : a ≡ b → is_same_key a b ≡ true
    from e = rw e (rw ((bytes_eq-Decides b.text b.text).1 refl, (Decides-eqb b.number b.number).1 refl) refl)

is_same_key-sym : (a b : Key) → is_same_key a b ≡ is_same_key b a
is_same_key-sym a b = same_from_decides _ _ (is_same_key-Decides a b) (λ h. sym ((is_same_key-Decides b a).0 h), λ e. (is_same_key-Decides b a).1 (sym e))

-- none of the earlier keys is that of one of these records
abbrev AreNew : {R : Type 0} → Layout R → List Key → List R → Type 0
AreNew layout earlier entries = AllByRecursion (λ entry. list_any (is_same_key (layout.key entry)) earlier ≡ false) entries

-- none of these records has this key
abbrev LackKey : {R : Type 0} → Layout R → Key → List R → Type 0
LackKey layout key entries = AllByRecursion (λ other. is_same_key key other ≡ false) (map layout.key entries)

-- one more earlier key
new-more : {R : Type 0} (layout : Layout R) (earlier : List Key) (key : Key) (entries : List R) → AreNew layout (earlier ++ key ∷ []) entries → AreNew layout earlier entries × LackKey layout key entries
new-more layout earlier key [] h = (tt, tt)
new-more layout earlier key (entry ∷ entries) h =
    let here = or_parts (list_any (is_same_key (layout.key entry)) earlier) _ (rw (list_any-append (is_same_key (layout.key entry)) earlier (key ∷ [])) at h.0) in
    let other = (or_parts (is_same_key (layout.key entry) key) false here.1).0 in
    let more = new-more layout earlier key entries h.1 in
    ((here.0, more.0), (is_same_key-sym key (layout.key entry) ∙ other, more.1))

new-from : {R : Type 0} (layout : Layout R) (earlier : List Key) (key : Key) (entries : List R) → AreNew layout earlier entries → LackKey layout key entries → AreNew layout (earlier ++ key ∷ []) entries
new-from layout earlier key [] h k = tt
new-from layout earlier key (entry ∷ entries) h k =
    let other = is_same_key-sym (layout.key entry) key ∙ k.0 in
    (rw (list_any-append (is_same_key (layout.key entry)) earlier (key ∷ []), h.0, other) refl, new-from layout earlier key entries h.1 k.1)

-- what rows below earlier ones write
record AreRead {R : Type 0} (layout : Layout R) (earlier : List Key) (number : ℕ) (rows : Table) (entries : List R) : Type 0 where
  few : length rows ≤ 5001 - number
  each : map layout.read rows ≡ map (λ entry. Ok entry) entries
  new : AreNew layout earlier entries
  distinct : IsDistinct is_same_key (map layout.key entries)
  within : list_all layout.is_within entries ≡ true

-- a step that gave something
pub bind_ok : {F A B : Type 0} (read : Result A F) (more : A → Result B F) (y : B) → (read >>= more) ≡ Ok y → (x : A) × (read ≡ Ok x) × (more x ≡ Ok y)
bind_ok (Ok x) more y h = (x, refl, h)
bind_ok (Err e) more y h = absurd cc

pub cond_ok : {F A : Type 0} (b : Bool) (fault : F) (read : Result A F) (x : A) → cond b (Err fault) read ≡ Ok x → (b ≡ false) × (read ≡ Ok x)
cond_ok true fault read x h = absurd cc
cond_ok false fault read x h = (refl, h)

numbered_ok : {A : Type 0} (number : ℕ) (read : Result A FaultKind) (x : A) → numbered number read ≡ Ok x → read ≡ Ok x
numbered_ok number (Ok y) x h = let e : y ≡ x = cc in rw e refl
numbered_ok number (Err kind) x h = absurd cc

-- a row whose record was taken
pub record IsTaken {R : Type 0} (layout : Layout R) (earlier : List Key) (fields : List (List ℕ)) (entry : R) : Type 0 where
  pub read : layout.read fields ≡ Ok entry
  new : list_any (is_same_key (layout.key entry)) earlier ≡ false
  within : layout.is_within entry ≡ true

admitted_ok : {R : Type 0} (layout : Layout R) (earlier : List Key) (fields : List (List ℕ)) (x entry : R) (repeated within : Bool)
    → layout.read fields ≡ Ok x → repeated ≡ list_any (is_same_key (layout.key x)) earlier → within ≡ layout.is_within x
    → cond repeated (Err TwiceInBatch) (cond within (Ok x) (Err OutsideCalendar)) ≡ Ok entry → IsTaken layout earlier fields entry
admitted_ok layout earlier fields x entry true within read new calendar h = absurd cc
admitted_ok layout earlier fields x entry false false read new calendar h = absurd cc
admitted_ok layout earlier fields x entry false true read new calendar h =
    let e : x ≡ entry = cc in
    rw (← e) (record { read = read; new = sym new; within = sym calendar })

pub taken : {R : Type 0} (layout : Layout R) (earlier : List Key) (fields : List (List ℕ)) (entry : R) → next_record layout earlier fields ≡ Ok entry → IsTaken layout earlier fields entry
unfolding next_record
taken layout earlier fields entry h =
    let (x, read, last) = bind_ok (layout.read fields) (admitted layout earlier) entry h in
    admitted_ok layout earlier fields x entry (list_any (is_same_key (layout.key x)) earlier) (layout.is_within x) read refl refl last

take_record : {R : Type 0} (layout : Layout R) (earlier : List Key) (fields : List (List ℕ)) (entry : R) → IsTaken layout earlier fields entry → next_record layout earlier fields ≡ Ok entry
unfolding next_record
take_record layout earlier fields entry t = rw (t.read, t.new, t.within) refl

-- what is read
are_read : {R : Type 0} (layout : Layout R) (earlier : List Key) (number : ℕ) (rows : Table) (entries : List R) → records_after layout earlier number rows ≡ Ok entries → AreRead layout earlier number rows entries
unfolding records_after IsDistinct
are_read layout earlier number [] [] h = record { few = omega arith; each = refl; new = tt; distinct = tt; within = refl }
are_read layout earlier number [] (entry ∷ entries) h = absurd cc
are_read layout earlier number (fields ∷ rows) entries h =
    let (small, below) = cond_ok (ltb 5000 number) _ _ entries h in
    let (entry, here, more) = bind_ok (numbered number (next_record layout earlier fields)) _ entries below in
    let (others, rest, last) = bind_ok (records_after layout (earlier ++ layout.key entry ∷ []) (number + 1) rows) _ entries more in
    let e : entry ∷ others ≡ entries = cc in
    let first = taken layout earlier fields entry (numbered_ok number _ entry here) in
    let next = are_read layout (earlier ++ layout.key entry ∷ []) (number + 1) rows others rest in
    let (new, lack) = new-more layout earlier (layout.key entry) others next.new in
    let le = ltb-false 5000 number small in
    let few = next.few in
    rw (← e) (record {
      few = omega arith;
      each = rw first.read (ap (λ (rs : List _). Ok entry ∷ rs) next.each);
      new = (first.new, new);
      distinct = (lack, next.distinct);
      within = and_from _ _ first.within next.within;
    })

-- and everything that can be
read_all : {R : Type 0} (layout : Layout R) (earlier : List Key) (number : ℕ) (rows : Table) (entries : List R) → AreRead layout earlier number rows entries → records_after layout earlier number rows ≡ Ok entries
unfolding records_after IsDistinct
read_all layout earlier number [] [] a = refl
read_all layout earlier number [] (entry ∷ entries) a = let each = a.each in absurd cc
read_all layout earlier number (fields ∷ rows) [] a = let each = a.each in absurd cc
read_all {R} layout earlier number (fields ∷ rows) (entry ∷ entries) a =
    let each = a.each in
    let few = a.few in
    let read : layout.read fields ≡ Ok entry = cc in
    let others : map layout.read rows ≡ map (λ (e : R). Ok e) entries = cc in
    let calendar = and_parts (layout.is_within entry) _ a.within in
    let le : number ≤ 5000 = omega arith in
    let first = take_record layout earlier fields entry (record { read = read; new = a.new.0; within = calendar.0 }) in
    let rest = read_all layout (earlier ++ layout.key entry ∷ []) (number + 1) rows entries (record {
      few = omega arith;
      each = others;
      new = new-from layout earlier (layout.key entry) entries a.new.1 a.distinct.0;
      distinct = a.distinct.1;
      within = calendar.1;
    }) in
    rw (le-ltb 5000 number le, first, rest) refl

-- the rows below the header
record BelowHeader {R : Type 0} (layout : Layout R) (table : Table) (entries : List R) : Type 0 where
  rows : Table
  split : table ≡ names layout.columns ∷ rows
  read : records_after layout [] 1 rows ≡ Ok entries

is_header : {R : Type 0} (layout : Layout R) (header : List (List ℕ)) (rows : Table) (entries : List R) (b : Bool) → b ≡ pointwise bytes_eq header (names layout.columns)
    → cond b (records_after layout [] 1 rows) (Err (at 0 WrongHeader)) ≡ Ok entries → BelowHeader layout (header ∷ rows) entries
is_header layout header rows entries true same h = record { rows = rows; split = ap (λ (x : List (List ℕ)). x ∷ rows) ((pointwise_decides bytes_eq-Decides header (names layout.columns)).0 (sym same)); read = h }
is_header layout header rows entries false same h = absurd cc

below : {R : Type 0} (layout : Layout R) (table : Table) (entries : List R) → below_header layout table ≡ Ok entries → BelowHeader layout table entries
unfolding below_header
below layout [] entries h = absurd cc
below layout (header ∷ rows) entries h = is_header layout header rows entries (pointwise bytes_eq header (names layout.columns)) refl h

below_all : {R : Type 0} (layout : Layout R) (rows : Table) → below_header layout (names layout.columns ∷ rows) ≡ records_after layout [] 1 rows
unfolding below_header
below_all layout rows = rw ((pointwise_decides bytes_eq-Decides (names layout.columns) (names layout.columns)).1 refl) refl

good : {R : Type 0} (layout : Layout R) (bytes : List ℕ) (entries : List R) → batch_of layout bytes ≡ Ok entries → IsBatch layout bytes entries
unfolding batch_of
good layout bytes entries h =
    let (small, rest) = cond_ok (ltb 1000000 (length bytes)) _ _ entries h in
    let b = below layout _ entries rest in
    let a = are_read layout [] 1 b.rows entries b.read in
    record { size = ltb-false 1000000 (length bytes) small; rows = b.rows; table = b.split; few = omega (arith, a.few); each = a.each; distinct = a.distinct; within = a.within }

all_new : {R : Type 0} (layout : Layout R) (entries : List R) → AreNew layout [] entries
all_new layout [] = tt
all_new layout (entry ∷ entries) = (refl, all_new layout entries)

all_good : {R : Type 0} (layout : Layout R) (bytes : List ℕ) (entries : List R) → IsBatch layout bytes entries → batch_of layout bytes ≡ Ok entries
unfolding batch_of
all_good layout bytes entries b =
    let few = b.few in
    let read = read_all layout [] 1 b.rows entries (record { few = omega arith; each = b.each; new = all_new layout entries; distinct = b.distinct; within = b.within }) in
    rw (le-ltb 1000000 (length bytes) b.size, b.table, below_all layout b.rows) read

-- exactly the good batches are read
pub reads_batches : {R : Type 0} (layout : Layout R) → ReadsBatches layout (batch_of layout)
reads_batches layout bytes entries = (good layout bytes entries, all_good layout bytes entries)
