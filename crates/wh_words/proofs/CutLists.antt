-- A list of queries that ends in a byte which is in no text is a bad one.
use Rattle.std.proofs.Common.{◌≡◌, ◌⊎◌, inl, inr, refl, ap, sym, subst, arith, map, Bool, true, false, ◌==◌, ℕ, ◌+◌, ◌<◌, ◌≤◌, List, [], ◌∷◌, ◌++◌, Option, Some, None, Err, length, encode_utf8, encode_utf8_all}
use Rattle.std.specs.Prelude.{◌&&◌, fold, if◌then◌else◌, nat_lt}
use Rattle.std.specs.Char.{len_utf8}
use Rattle.std.specs.List.{list_all}
use Rattle.std.specs.Str.{is_utf8, IsUtf8, IsCharBoundary}
use Rattle.std.proofs.Math.Seq.{get_or-append_seam}
use Rattle.std.proofs.lemmas.Bool.Decides.{nat_tests}
use Rattle.std.proofs.lemmas.Grind.{fold-append}
use Rattle.std.proofs.lemmas.List.{drop_at, length-append}
use Rattle.std.proofs.lemmas.Str.{IsUtf8-from_is_utf8, IsUtf8-drop, byte_from_char, length-encode}
use Rattle.wh_batch.specs.declared.manifest.BadManifest.{BadManifest}
use Rattle.wh_words.specs.Line.{Passed, NoCommand, Split, after_byte, ended, is_remark, line_limit, lines_of, meaning_of, meant, none_yet, onto, words_of_text}
use Rattle.wh_words.specs.QueryList.{Said, Nothing, NoQuery, Asks, line_says, meaning_says, queries_from, queries_of}
use Rattle.wh_words.specs.declared.line.Place.{Place}
use Rattle.wh_words.specs.declared.line.Place.TheVariants.{Between, Bare, Quoted, Closed, Wrong}

-- ---- the byte is in no text

ascii-alone : (byte : ℕ) → IsUtf8 (byte ∷ []) → byte < 128
ascii-alone byte text = of_chars text.0 text.1.1
  where
    of_chars : (chars : List ℕ) → encode_utf8_all chars ≡ byte ∷ [] → byte < 128
    of_chars [] e = absurd (omega (arith, ap length e))
    of_chars (c ∷ chars) e =
        let short : len_utf8 c ≤ 1 = omega (arith, ap length e, length-append (encode_utf8 c) (encode_utf8_all chars), length-encode c) in
        let ascii : c < 128 = grind (arith, nat_tests) in
        omega (arith, byte_from_char (byte ∷ []) (encode_utf8_all chars) c (sym e) ascii)

pub no_text : (field : List ℕ) → is_utf8 (field ++ 255 ∷ []) ≡ false
no_text field = elim (is_utf8 (field ++ 255 ∷ [])) as (λ b. is_utf8 (field ++ 255 ∷ []) ≡ b → b ≡ false) [
  | true ↦ λ is.
      let boundary : IsCharBoundary (field ++ 255 ∷ []) (length field) = (omega (arith, length-append field (255 ∷ [])), λ within high. rw (get_or-append_seam field 255 [] 0) (omega arith)) in
      let rest : IsUtf8 (255 ∷ []) = subst IsUtf8 (drop_at field (255 ∷ []) (length field) refl) (IsUtf8-drop (field ++ 255 ∷ []) (length field) (IsUtf8-from_is_utf8 (field ++ 255 ∷ []) is) boundary) in
      absurd (omega (arith, ascii-alone 255 rest))
  | false ↦ λ is. refl
] refl

-- ---- the words of a line

-- there are none, or the last ends in the byte
abbrev AreCut : Option (List (List ℕ)) → Type 0
AreCut found = (found ≡ None) ⊎ ((before : List (List ℕ)) × (cut : List ℕ) × (found ≡ Some (before ++ (cut ++ 255 ∷ []) ∷ [])))

split_is_cut : (place : Place) (words : List (List ℕ)) (word : List ℕ) → AreCut (ended (after_byte (after_byte (record { place = place; words = words; word = word }) 255) 32))
unfolding after_byte
split_is_cut Between words word = inr (words, word, refl)
split_is_cut Bare words word = inr (words, word, refl)
split_is_cut Quoted words word = inl refl
split_is_cut Closed words word = inl refl
split_is_cut Wrong words word = inl refl

words_are_cut : (line : List ℕ) → AreCut (words_of_text (line ++ 255 ∷ []))
unfolding words_of_text
words_are_cut line =
    let s : Split = fold after_byte none_yet line in
    rw (fold-append after_byte none_yet line (255 ∷ [])) (split_is_cut s.place s.words s.word)

never : (a : Bool) → (a && false) ≡ false
never true = refl
never false = refl

not_texts : (before : List (List ℕ)) (cut : List ℕ) → list_all is_utf8 (before ++ (cut ++ 255 ∷ []) ∷ []) ≡ false
not_texts [] cut = rw (no_text cut) refl
not_texts (word ∷ before) cut = rw (not_texts before cut) (never (is_utf8 word))

-- ---- a line

module _ (line : List ℕ) where
  worded : (found : Option (List (List ℕ))) → AreCut found → meaning_says (line ++ 255 ∷ []) (meant found) ≡ NoQuery
  worded found (inl none) = rw none refl
  worded found (inr ([], cut, is)) = rw (is, not_texts [] cut) refl
  worded found (inr (word ∷ before, cut, is)) = rw (is, not_texts (word ∷ before) cut) refl

  unremarked : (remarked : Bool) → meaning_says (line ++ 255 ∷ []) (if remarked then Passed else meant (words_of_text (line ++ 255 ∷ []))) ≡ NoQuery
  unremarked true = rw (no_text line) refl
  unremarked false = worded (words_of_text (line ++ 255 ∷ [])) (words_are_cut line)

  within : (long remarked : Bool) → meaning_says (line ++ 255 ∷ []) (if long then NoCommand else if remarked then Passed else meant (words_of_text (line ++ 255 ∷ []))) ≡ NoQuery
  within true remarked = refl
  within false remarked = unremarked remarked

  cut_line : line_says (line ++ 255 ∷ []) ≡ NoQuery
  unfolding line_says meaning_of
  cut_line = within (nat_lt line_limit (length (line ++ 255 ∷ []))) (is_remark (line ++ 255 ∷ []))

-- ---- the lines of a list

-- the last ends in the byte
abbrev EndsCut : List (List ℕ) → Type 0
EndsCut lines = (before : List (List ℕ)) × (line : List ℕ) × (lines ≡ before ++ (line ++ 255 ∷ []) ∷ [])

begun : (b : ℕ) (lines : List (List ℕ)) → EndsCut lines → EndsCut (onto b lines)
begun b lines ([], line, is) = ([], b ∷ line, ap (onto b) is)
begun b lines (first ∷ before, line, is) = ((b ∷ first) ∷ before, line, ap (onto b) is)

ended_or_begun : (b : ℕ) (is_end : Bool) (lines : List (List ℕ)) → EndsCut lines → EndsCut (if is_end then [] ∷ lines else onto b lines)
ended_or_begun b true lines (before, line, is) = ([] ∷ before, line, ap (λ (ls : List (List ℕ)). [] ∷ ls) is)
ended_or_begun b false lines cut = begun b lines cut

last_line : (bytes : List ℕ) → EndsCut (lines_of (bytes ++ 255 ∷ []))
unfolding lines_of
last_line [] = ([], [], refl)
last_line (b ∷ bytes) = ended_or_begun b (b == 10) (lines_of (bytes ++ 255 ∷ [])) (last_line bytes)

-- ---- the list

abbrev IsBad : ℕ → List Said → Type 0
IsBad number said = (bad : BadManifest) × (queries_from number said ≡ Err bad)

bad_after : (number : ℕ) (said : Said) (others : List Said) → IsBad (number + 1) others → IsBad number (said ∷ others)
unfolding queries_from
bad_after number Nothing others is = is
bad_after number NoQuery others is = (record { number = number }, refl)
bad_after number (Asks words) others (bad, is) = (bad, rw is refl)

bad_from : (number : ℕ) (before : List (List ℕ)) (line : List ℕ) → IsBad number (map line_says (before ++ (line ++ 255 ∷ []) ∷ []))
unfolding queries_from
bad_from number [] line = rw (cut_line line) (record { number = number }, refl)
bad_from number (first ∷ before) line = bad_after number (line_says first) (map line_says (before ++ (line ++ 255 ∷ []) ∷ [])) (bad_from (number + 1) before line)

pub cut_lists : (bytes : List ℕ) → (bad : BadManifest) × (queries_of (bytes ++ 255 ∷ []) ≡ Err bad)
unfolding queries_of
cut_lists bytes =
    let (before, line, is) = last_line bytes in
    rw is (bad_from 1 before line)
