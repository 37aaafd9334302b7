-- What the lines of a list of queries say, and the queries of all of them.
use Rattle.std.proofs.Common.{◌≡◌, ◌≢◌, ◌∙◌, refl, sym, ap, subst, arith, map, codes, Bool, true, false, ◌==◌, ℕ, zero, suc, ◌+◌, ◌<◌, ◌≤◌, List, [], ◌∷◌, ◌++◌, append-nil, Option, Some, None, Ok, Err, length, take, drop, get_or, true≢false}
use Rattle.std.specs.Prelude.{All, IsUtf8, Result, nat_lt, string_bytes}
use Rattle.std.specs.List.{after_first, before_first, list_all, position_or_len}
use Rattle.std.specs.Str.{is_utf8}
use Rattle.std.specs.declared.alloc.Global.{Global}
use Rattle.std.specs.declared.string.String.{String}
use Rattle.std.specs.declared.vec.Vec.{Vec}
use Rattle.std.proofs.lemmas.List.{at_drop_all, at_drop_more, drop_all, take_all}
use Rattle.std.proofs.lemmas.Bool.Decides.{nat_tests}
use Rattle.std.proofs.lemmas.Str.{IsUtf8-from_is_utf8, IsUtf8-string_bytes, is_utf8-from_IsUtf8}
use Rattle.clap.specs.Words.{Kinds}
use Rattle.wh_batch.specs.declared.manifest.BadManifest.{BadManifest}
use Rattle.wh_day.proofs.Loops.{with_front, with_front-cons, with_front-nil}
use Rattle.wh_history.proofs.Basics.{both_true}
use Rattle.wh_rows.proofs.ColumnLemmas.{both}
use Rattle.wh_words.specs.Line.{Meaning, Passed, NoCommand, Words, IsRead, first_line, lines_of, meaning_of, onto}
use Rattle.wh_words.specs.QueryList.{IsAdded, Said, Nothing, NoQuery, Asks, line_says, meaning_says, queries_from, says, says_of, task_says}
use Rattle.wh_words.specs.Request.{IsReadAs, asked_in}
use Rattle.wh_words.specs.Asked.{asked_by}
use Rattle.wh_words.specs.Task.{QueryWords, Task}
use Rattle.wh_words.specs.declared.command.Request.{Request}
use Rattle.wh_words.specs.declared.command.Request.TheVariants as request
use Rattle.wh_words.specs.declared.line.Line.{Line}
use Rattle.wh_words.specs.declared.line.Line.TheVariants as read

-- ---- texts

next_text : (w : List ℕ) (words : List (List ℕ)) → is_utf8 w ≡ true → All IsUtf8 words → (k : ℕ) (d : List ℕ) → k < length (w ∷ words) → IsUtf8 (get_or (w ∷ words) k d)
next_text w words is are zero d within = IsUtf8-from_is_utf8 w is
next_text w words is are (suc k) d within = are k d (omega (arith, within))

all_texts : (words : List (List ℕ)) → list_all is_utf8 words ≡ true → All IsUtf8 words
all_texts [] are = λ k d within. absurd (omega (arith, within))
all_texts (w ∷ words) are = let parts = both_true (is_utf8 w) _ are in next_text w words parts.0 (all_texts words parts.1)

texts_all : (texts : List (String Global)) → list_all is_utf8 (map string_bytes texts) ≡ true
texts_all [] = refl
texts_all (t ∷ texts) = both (is_utf8-from_IsUtf8 (string_bytes t) (IsUtf8-string_bytes t)) (texts_all texts)

none_texts : (words : List (List ℕ)) → ¬ (All IsUtf8 words) → list_all is_utf8 words ≡ false
none_texts words isnt = elim (list_all is_utf8 words) as (λ b. list_all is_utf8 words ≡ b → b ≡ false) [
  | true ↦ λ are. absurd (isnt (all_texts words are))
  | false ↦ λ _. refl
] refl

-- ---- what is kept of a line

pub passed_says : (line : List ℕ) → IsRead (meaning_of line) read.Passed → meaning_says line Passed ≡ line_says line
unfolding line_says
passed_says line is = by (meaning_of line) is
  where
    by : (m : Meaning) → IsRead m read.Passed → meaning_says line Passed ≡ meaning_says line m
    by Passed is = refl
    by NoCommand is = absurd is
    by (Words words) is = absurd is

pub no_command_says : (line : List ℕ) → IsRead (meaning_of line) read.NoCommand → NoQuery ≡ line_says line
unfolding line_says
no_command_says line is = by (meaning_of line) is
  where
    by : (m : Meaning) → IsRead m read.NoCommand → NoQuery ≡ meaning_says line m
    by Passed is = absurd is
    by NoCommand is = refl
    by (Words words) is = rw (none_texts words is) refl

pub words_say_so : (line : List ℕ) (texts whole : Vec (String Global) Global) → IsRead (meaning_of line) (read.Words texts) → map string_bytes whole.items ≡ codes "query" ∷ codes "FILE" ∷ map string_bytes texts.items
    → says (read.Words whole) ≡ line_says line
unfolding line_says
words_say_so line texts whole is words = by (meaning_of line) is
  where
    by : (m : Meaning) → IsRead m (read.Words texts) → says (read.Words whole) ≡ meaning_says line m
    by Passed is = absurd is
    by NoCommand is = absurd is
    by (Words ws) is =
        let are : list_all is_utf8 ws ≡ true = subst (λ (w : List (List ℕ)). list_all is_utf8 w ≡ true) is (texts_all texts.items) in
        rw are (ap (λ (w : List (List ℕ)). task_says (asked_by w)) (words ∙ ap (λ (w : List (List ℕ)). codes "query" ∷ codes "FILE" ∷ w) is))

-- ---- the lines of a text

abbrev pub is_end : ℕ → Bool
is_end b = b == 10

-- the place of the first line end, or the length
abbrev ends_at : List ℕ → ℕ
ends_at bytes = position_or_len is_end bytes

first_of : (b : ℕ) (rest : List ℕ) (p : ℕ) → take (1 + p) (b ∷ rest) ≡ b ∷ take p rest
first_of b rest p = let e : 1 + p ≡ suc p = omega arith in rw e refl

behind : (b : ℕ) (rest : List ℕ) (p : ℕ) → drop (1 + p + 1) (b ∷ rest) ≡ drop (p + 1) rest
behind b rest p = let e : 1 + p + 1 ≡ suc (p + 1) = omega arith in rw e refl

pub first_of_lines : (bytes : List ℕ) → bytes ≢ [] → lines_of bytes ≡ before_first is_end bytes ∷ lines_of (after_first is_end bytes)
unfolding lines_of
first_of_lines [] some = absurd (some refl)
first_of_lines (b ∷ []) some = by (b == 10) refl
  where
    by : (t : Bool) → (b == 10) ≡ t → lines_of (b ∷ []) ≡ before_first is_end (b ∷ []) ∷ lines_of (after_first is_end (b ∷ []))
    by true e = rw e refl
    by false e = rw e refl
first_of_lines (b ∷ c ∷ rest) some = by (b == 10) refl (first_of_lines (c ∷ rest) (λ e. absurd (cc e)))
  where
    by : (t : Bool) → (b == 10) ≡ t → lines_of (c ∷ rest) ≡ before_first is_end (c ∷ rest) ∷ lines_of (after_first is_end (c ∷ rest)) → lines_of (b ∷ c ∷ rest) ≡ before_first is_end (b ∷ c ∷ rest) ∷ lines_of (after_first is_end (b ∷ c ∷ rest))
    by true e here = rw e refl
    by false e here = rw (e, first_of b (c ∷ rest) (ends_at (c ∷ rest)), behind b (c ∷ rest) (ends_at (c ∷ rest))) (ap (onto b) here)

first_parts : (bytes : List ℕ) → first_line bytes ≡ (before_first is_end bytes, after_first is_end bytes)
first_parts bytes = by (nat_lt (ends_at bytes) (length bytes)) refl
  where
    by : (t : Bool) → nat_lt (ends_at bytes) (length bytes) ≡ t → first_line bytes ≡ (before_first is_end bytes, after_first is_end bytes)
    by true e = rw e refl
    by false e =
        let past : length bytes ≤ ends_at bytes = grind (arith, nat_tests, e) in
        rw (e, take_all (ends_at bytes) bytes past, drop_all (ends_at bytes + 1) bytes (omega (arith, past))) refl

pub no_lines : lines_of [] ≡ []
unfolding lines_of
no_lines = refl

-- those that are kept, before those that are left, are the whole
abbrev pub AreKept : List Line → (rest bytes : List ℕ) → Type 0
AreKept kept rest bytes = map says kept ++ map line_says (lines_of rest) ≡ map line_says (lines_of bytes)

says-push : (kept : List Line) (line : Line) (left : List Said) → map says (kept ++ line ∷ []) ++ left ≡ map says kept ++ says line ∷ left
says-push [] line left = refl
says-push (k ∷ kept) line left = ap (λ (more : List Said). says k ∷ more) (says-push kept line left)

pub one_more_kept : (kept : List Line) (line : Line) (rest bytes first others : List ℕ) → 1 ≤ length rest → (first, others) ≡ first_line rest → says line ≡ line_says first
    → AreKept kept rest bytes → AreKept (kept ++ line ∷ []) others bytes
one_more_kept kept line rest bytes first others some parted line-is so =
    let parts : lines_of rest ≡ first ∷ lines_of others = first_of_lines rest (λ e. absurd (omega (arith, some, ap length e))) ∙ ap (λ (p : List ℕ × List ℕ). p.0 ∷ lines_of p.1) (sym (parted ∙ first_parts rest)) in
    says-push kept line (map line_says (lines_of others)) ∙ ap (λ (s : Said). map says kept ++ s ∷ map line_says (lines_of others)) line-is
    ∙ ap (λ (ls : List (List ℕ)). map says kept ++ map line_says ls) (sym parts) ∙ so

pub all_kept : (kept : List Line) (rest bytes : List ℕ) → length rest ≤ 0 → AreKept kept rest bytes → map says kept ≡ map line_says (lines_of bytes)
all_kept kept [] bytes none so = sym (ap (λ (ls : List (List ℕ)). map says kept ++ map line_says ls) no_lines ∙ append-nil (map says kept)) ∙ so
all_kept kept (b ∷ rest) bytes none so = absurd (omega (arith, none))

-- ---- the query of a line

pub said_so : (found : Option Task) (faults : Kinds) (r : Request) → IsReadAs found faults r → says_of (asked_in r) ≡ task_says found
said_so (Some t) faults r is = ap says_of is
said_so None faults (request.Task t) is = absurd is
said_so None faults (request.Help text) is = refl
said_so None faults (request.Usage text) is = refl

-- ---- the queries

module _ (front : List QueryWords) (number : ℕ) where
  done : with_front front (queries_from number []) ≡ Ok front
  unfolding queries_from
  done = with_front-nil front

  next : (words : QueryWords) (lines : List Said) → with_front front (queries_from number (Asks words ∷ lines)) ≡ with_front (front ++ words ∷ []) (queries_from (number + 1) lines)
  unfolding queries_from
  next words lines = with_front-cons front words (queries_from (number + 1) lines)

  passed : (lines : List Said) → with_front front (queries_from number (Nothing ∷ lines)) ≡ with_front front (queries_from (number + 1) lines)
  unfolding queries_from
  passed lines = refl

  bad : (lines : List Said) → with_front front (queries_from number (NoQuery ∷ lines)) ≡ Err (record { number = number })
  unfolding queries_from
  bad lines = refl

-- those of the lines so far, before those of the lines that are left, are those of all lines
abbrev pub AreSaid : List QueryWords → List Line → ℕ → Result (List QueryWords) BadManifest → Type 0
AreSaid front lines i whole = with_front front (queries_from (i + 1) (map says (drop i lines))) ≡ whole

module _ (front more : List QueryWords) (lines : List Line) (i : ℕ) (line : Line) (whole : Result (List QueryWords) BadManifest) (within : i < length lines) (at : line ≡ get_or lines i line) (so : AreSaid front lines i whole) where
  -- with what the next line says in front
  here : (said : Said) → said ≡ says line → with_front front (queries_from (i + 1) (said ∷ map says (drop (i + 1) lines))) ≡ whole
  here said is =
      ap (λ (s : Said). with_front front (queries_from (i + 1) (s ∷ map says (drop (i + 1) lines)))) (is ∙ ap says at)
      ∙ sym (at_drop_more (λ (ls : List Line). with_front front (queries_from (i + 1) (map says ls))) lines i line within) ∙ so

  pub good_at : (said : Said) → said ≡ says line → IsAdded said front more true → AreSaid more lines (i + 1) whole
  good_at Nothing is added = subst (λ (f : List QueryWords). AreSaid f lines (i + 1) whole) (sym added.1) (sym (passed front (i + 1) (map says (drop (i + 1) lines))) ∙ here Nothing is)
  good_at NoQuery is added = absurd (true≢false added)
  good_at (Asks words) is added = subst (λ (f : List QueryWords). AreSaid f lines (i + 1) whole) (sym added.1) (sym (next front (i + 1) words (map says (drop (i + 1) lines))) ∙ here (Asks words) is)

  pub bad_at : (said : Said) → said ≡ says line → IsAdded said front more false → whole ≡ Err (record { number = i + 1 })
  bad_at Nothing is added = absurd (true≢false (sym added.0))
  bad_at NoQuery is added = sym (here NoQuery is) ∙ bad front (i + 1) (map says (drop (i + 1) lines))
  bad_at (Asks words) is added = absurd (true≢false (sym added.0))

pub all_said : (front : List QueryWords) (lines : List Line) (i : ℕ) (whole : Result (List QueryWords) BadManifest) → length lines ≤ i → AreSaid front lines i whole → whole ≡ Ok front
all_said front lines i whole past so = sym so ∙ at_drop_all (λ (ls : List Line). with_front front (queries_from (i + 1) (map says ls))) lines i past ∙ done front (i + 1)
