-- A list of entries that are texts, or of queries, is a bad one where it ends in a byte that is in no text.
use Rattle.std.proofs.Common.{◌≡◌, ◌⊎◌, inl, inr, refl, arith, Bool, true, false, ℕ, zero, suc, ◌+◌, ◌<◌, ◌≤◌, List, [], ◌∷◌, ◌++◌, length, take, Some, None, Err}
use Rattle.std.specs.Prelude.{◌&&◌, ◌||◌, ◌==◌, ⊤, if◌then◌else◌, nat_lt}
use Rattle.std.specs.Str.{is_utf8}
use Rattle.std.proofs.lemmas.List.{length-append, length-take}
use Rattle.std.proofs.lemmas.Bool.{lt-ltb}
use Rattle.csv.specs.declared.parser.Action.{Action}
use Rattle.csv.specs.declared.parser.Action.TheVariants as act
use Rattle.csv.specs.declared.parser.State.{State}
use Rattle.csv.specs.declared.parser.State.TheVariants as st
use Rattle.csv.specs.Machine.{step, in_field, start_field, start_record, ends_with, is_end, fields_after, field_after, next_record}
use Rattle.csv.specs.Reading.{default_config, records, records_from, strip_bom, is_bom}
use Rattle.wh_batch.specs.Entries.{Writes, entries_from, list_of}
use Rattle.wh_batch.specs.Manifest.{entry_of}
use Rattle.wh_batch.specs.ReportList.{listed_report}
use Rattle.wh_batch.specs.declared.manifest.BadManifest.{BadManifest}
use Rattle.wh_words.proofs.CutLists.{cut_lists, no_text}
use Rattle.wh_words.specs.QueryList.{queries_of}
use Rattle.wh_program.specs.Inputs.{manifest_limit, manifest_part}
use Rattle.wh_program.specs.Laws.{LongListsAreBad}

-- ---- a reader of records

-- what a comment would be: no reader with the defaults is in one
abbrev NoComment : State → Type 0
NoComment st.StartRecord = ⊤
NoComment st.StartField = ⊤
NoComment st.InField = ⊤
NoComment st.InQuoted = ⊤
NoComment st.AfterQuote = ⊤
NoComment st.InEscape = ⊤
NoComment st.InComment = ⊥
NoComment st.AfterCr = ⊤

either : (test : Bool) (a b : State × Action) → NoComment a.0 → NoComment b.0 → NoComment (if test then a else b).0
either true a b first second = first
either false a b first second = second

either_state : (test : Bool) (a b : State) → NoComment a → NoComment b → NoComment (if test then a else b)
either_state true a b first second = first
either_state false a b first second = second

in_field_stays : (c : ℕ) → NoComment (in_field default_config c).0
in_field_stays c = either (c == 44) _ _ tt (either ((c == 13) || (c == 10)) _ _ (either_state (c == 13) _ _ tt tt) tt)

start_field_stays : (c : ℕ) → NoComment (start_field default_config c).0
start_field_stays c = either (c == 34) _ _ tt (in_field_stays c)

start_record_stays : (c : ℕ) → NoComment (start_record default_config c).0
start_record_stays c = either (ends_with default_config.terminator c) (st.StartRecord, act.Skip) _ tt (start_field_stays c)

step_stays : (s : State) (c : ℕ) → NoComment s → NoComment (step default_config s c).0
step_stays st.StartRecord c plain = start_record_stays c
step_stays st.StartField c plain = start_field_stays c
step_stays st.InField c plain = in_field_stays c
step_stays st.InQuoted c plain = either (c == 34) _ _ tt tt
step_stays st.AfterQuote c plain = either (c == 34) _ _ tt (in_field_stays c)
step_stays st.InEscape c plain = tt
step_stays st.InComment c plain = absurd plain
step_stays st.AfterCr c plain = either (c == 10) _ _ tt (start_record_stays c)

-- the record that the byte ends, or one before it
record Ends (s : State) (fields : List (List ℕ)) (field bytes : List ℕ) : Type 0 where
  before : List (List ℕ)
  cut : List ℕ
  is : next_record default_config s fields field (bytes ++ 255 ∷ []) ≡ Some (before ++ (cut ++ 255 ∷ []) ∷ [], st.StartRecord, [])

record Goes (s : State) (fields : List (List ℕ)) (field bytes : List ℕ) : Type 0 where
  first : List (List ℕ)
  then_in : State
  left : List ℕ
  plain : NoComment then_in
  shorter : length left < length bytes
  is : next_record default_config s fields field (bytes ++ 255 ∷ []) ≡ Some (first, then_in, left ++ 255 ∷ [])

last : (s : State) (fields : List (List ℕ)) (field : List ℕ) → NoComment s → Ends s fields field []
unfolding next_record
last st.StartRecord fields field plain = record { before = fields; cut = field; is = refl }
last st.StartField fields field plain = record { before = fields; cut = field; is = refl }
last st.InField fields field plain = record { before = fields; cut = field; is = refl }
last st.InQuoted fields field plain = record { before = fields; cut = field; is = refl }
last st.AfterQuote fields field plain = record { before = fields; cut = field; is = refl }
last st.InEscape fields field plain = record { before = fields; cut = field; is = refl }
last st.InComment fields field plain = absurd plain
last st.AfterCr fields field plain = record { before = fields; cut = field; is = refl }

-- what a byte that ends a record leaves, and one that doesn't
one_more : (s : State) (fields : List (List ℕ)) (field : List ℕ) (c : ℕ) (rest : List ℕ) → NoComment s
    → (Ends (step default_config s c).0 (fields_after (step default_config s c).1 fields field) (field_after (step default_config s c).1 c field) rest
    ⊎ Goes (step default_config s c).0 (fields_after (step default_config s c).1 fields field) (field_after (step default_config s c).1 c field) rest)
    → Ends s fields field (c ∷ rest) ⊎ Goes s fields field (c ∷ rest)
unfolding next_record
one_more s fields field c rest plain more = elim (is_end (step default_config s c).1) as (λ b. is_end (step default_config s c).1 ≡ b → Ends s fields field (c ∷ rest) ⊎ Goes s fields field (c ∷ rest)) [
  | true ↦ λ ends. inr (record {
    first = fields_after (step default_config s c).1 fields field;
    then_in = (step default_config s c).0;
    left = rest;
    plain = step_stays s c plain;
    shorter = omega arith;
    is = rw ends refl;
  })
  | false ↦ λ on. elim more [
    | inl e ↦ inl (record { before = e.before; cut = e.cut; is = rw on e.is })
    | inr g ↦ inr (record { first = g.first; then_in = g.then_in; left = g.left; plain = g.plain; shorter = omega (arith, g.shorter); is = rw on g.is })
  ]
] refl

next : (s : State) (fields : List (List ℕ)) (field bytes : List ℕ) → NoComment s → Ends s fields field bytes ⊎ Goes s fields field bytes
next s fields field [] plain = inl (last s fields field plain)
next s fields field (c ∷ rest) plain =
    one_more s fields field c rest plain (next (step default_config s c).0 (fields_after (step default_config s c).1 fields field) (field_after (step default_config s c).1 c field) rest (step_stays s c plain))

-- ---- the entries

-- no record whose last field ends in the byte is an entry
abbrev pub RefusesCut : {E : Type 0} → Writes E → Type 0
RefusesCut entry = (before : List (List ℕ)) (cut : List ℕ) → entry (before ++ (cut ++ 255 ∷ []) ∷ []) ≡ None

module _ {E : Type 0} (entry : Writes E) (refuses : RefusesCut entry) where
  abbrev IsBad : ℕ → List (List (List ℕ)) → Type 0
  IsBad number rows = (bad : BadManifest) × (entries_from entry number rows ≡ Err bad)

  bad_here : (number : ℕ) (fields : List (List ℕ)) (rows : List (List (List ℕ))) → entry fields ≡ None → IsBad number (fields ∷ rows)
  unfolding entries_from
  bad_here number fields rows none = (record { number = number }, rw none refl)

  bad_later : (number : ℕ) (fields : List (List ℕ)) (rows : List (List (List ℕ))) → IsBad (number + 1) rows → IsBad number (fields ∷ rows)
  unfolding entries_from
  bad_later number fields rows (bad, is) = elim (entry fields) as (λ e. entry fields ≡ e → IsBad number (fields ∷ rows)) [
    | Some first ↦ λ some. (bad, rw (some, is) refl)
    | None ↦ λ none. bad_here number fields rows none
  ] refl

  bad_from : (turns : ℕ) (s : State) (bytes : List ℕ) (number : ℕ) → NoComment s → length bytes < turns → IsBad number (records_from default_config turns s (bytes ++ 255 ∷ []))
  unfolding records_from
  bad_from zero s bytes number plain few = absurd (omega arith)
  bad_from (suc turns) s bytes number plain few = elim (next s [] [] bytes plain) [
    | inl e ↦ rw e.is (bad_here number (e.before ++ (e.cut ++ 255 ∷ []) ∷ []) _ (refuses e.before e.cut))
    | inr g ↦ rw g.is (bad_later number g.first _ (bad_from turns g.then_in g.left (number + 1) g.plain (omega (arith, g.shorter))))
  ]

  whole_is_bad : (bytes : List ℕ) → IsBad 1 (records default_config (bytes ++ 255 ∷ []))
  whole_is_bad bytes = bad_from (length (bytes ++ 255 ∷ []) + 1) st.StartRecord bytes 1 tt (omega (arith, length-append bytes (255 ∷ [])))

  cut_is_bad : (bytes : List ℕ) → 3 ≤ length bytes → (bad : BadManifest) × (list_of entry (bytes ++ 255 ∷ []) ≡ Err bad)
  unfolding list_of strip_bom
  cut_is_bad [] long = absurd (omega arith)
  cut_is_bad (a ∷ []) long = absurd (omega arith)
  cut_is_bad (a ∷ b ∷ []) long = absurd (omega arith)
  cut_is_bad (a ∷ b ∷ c ∷ rest) long = elim (is_bom a b c) as (λ t. IsBad 1 (records default_config (if t then rest ++ 255 ∷ [] else a ∷ b ∷ c ∷ (rest ++ 255 ∷ [])))) [
    | true ↦ whole_is_bad rest
    | false ↦ whole_is_bad (a ∷ b ∷ c ∷ rest)
  ]

  -- so is what counts of a list that is longer than the limit
  pub long_lists : LongListsAreBad (list_of entry)
  unfolding manifest_part
  long_lists bytes longer =
      let past : nat_lt manifest_limit (length bytes) ≡ true = lt-ltb manifest_limit (length bytes) longer in
      rw past (cut_is_bad (take manifest_limit bytes) (omega (arith, length-take manifest_limit bytes)))

-- ---- the entries of a manifest, and the reports of a list

never : (a b : Bool) → (a && b && false) ≡ false
never true true = refl
never true false = refl
never false b = refl

pub cut_entry : RefusesCut entry_of
unfolding entry_of
cut_entry [] cut = refl
cut_entry (a ∷ []) cut = refl
cut_entry (a ∷ b ∷ []) cut = rw (no_text cut, never (is_utf8 a) (is_utf8 b)) refl
cut_entry (a ∷ b ∷ c ∷ []) cut = refl
cut_entry (a ∷ b ∷ c ∷ d ∷ rest) cut = refl

never_either : (a b c : Bool) → (a && b && c && false) ≡ false
never_either true true true = refl
never_either true true false = refl
never_either true false c = refl
never_either false b c = refl

pub cut_report : RefusesCut listed_report
unfolding listed_report
cut_report [] cut = refl
cut_report (a ∷ []) cut = refl
cut_report (a ∷ b ∷ []) cut = refl
cut_report (a ∷ b ∷ c ∷ []) cut = rw (no_text cut, never_either (is_utf8 a) (is_utf8 b) (is_utf8 c)) refl
cut_report (a ∷ b ∷ c ∷ d ∷ []) cut = refl
cut_report (a ∷ b ∷ c ∷ d ∷ e ∷ rest) cut = refl

-- ---- the queries of a list

pub long_queries : LongListsAreBad queries_of
unfolding manifest_part
long_queries bytes longer =
    let past : nat_lt manifest_limit (length bytes) ≡ true = lt-ltb manifest_limit (length bytes) longer in
    rw past (cut_lists (take manifest_limit bytes))
