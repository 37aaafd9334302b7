-- The meaning of a line.
use Rattle.std.proofs.Common.{◌≡◌, ◌∙◌, refl, sym, subst, ap, arith, map, true, false, ℕ, List, [], ◌∷◌, ◌++◌, Some, length, drop, drop-cons, add-one, get_or, ◌+◌, ◌<◌, ◌≤◌}
use Rattle.std.specs.Prelude.{All, IsUtf8, fold}
use Rattle.std.specs.Global.{Vec}
use Rattle.std.proofs.lemmas.List.{get_or-map, length-map}
use Rattle.std.proofs.lemmas.Bool.{lt-ltb, le-ltb}
use Rattle.wh_words.specs.Line.{Passed, NoCommand, IsRead, Split, after_byte, after_turn, ended, none_yet, turned, is_remark, line_limit, meaning_of, meant, words_of_text}
use Rattle.wh_words.specs.declared.line.Line.TheVariants as line
use Rattle.wh_words.specs.declared.line.Turn.{Turn}
use Rattle.wh_words.specs.declared.line.Place.{Place}
use Rattle.wh_words.specs.declared.line.Turn.TheVariants.{Leaves, Adds, Ends}

pub too_long : (line : List ℕ) → line_limit < length line → meaning_of line ≡ NoCommand
unfolding meaning_of
too_long line longer = rw (lt-ltb line_limit (length line) longer) refl

pub remarked : (line : List ℕ) → length line ≤ line_limit → is_remark line ≡ true → meaning_of line ≡ Passed
unfolding meaning_of
remarked line short is = rw (le-ltb line_limit (length line) short, is) refl

pub worded : (line : List ℕ) → length line ≤ line_limit → is_remark line ≡ false → meaning_of line ≡ meant (words_of_text line)
unfolding meaning_of
worded line short is = rw (le-ltb line_limit (length line) short, is) refl

-- ---- words

-- with the i-th byte, those after it are left
pub next_split : (text : List ℕ) (i d : ℕ) (s new whole : Split) → i < length text → new ≡ after_byte s (get_or text i d) → fold after_byte s (drop i text) ≡ whole → fold after_byte new (drop (i + 1) text) ≡ whole
next_split text i d s new whole h is was =
    let next : fold after_byte s (drop i text) ≡ fold after_byte (after_byte s (get_or text i d)) (drop (i + 1) text) = rw (add-one i, drop-cons text i d h) refl in
    rw is (sym next ∙ was)

-- what a byte does to the words so far, by what it does to the word

adds_or_leaves : Adds ≡ Leaves → ⊥
adds_or_leaves e = cc

ends_or_leaves : Ends ≡ Leaves → ⊥
ends_or_leaves e = cc

ends_or_adds : Ends ≡ Adds → ⊥
ends_or_adds e = cc

pub leaves : (s : Split) (b : ℕ) (t : Place × Turn) → t ≡ turned s.place b → t.1 ≡ Leaves → record s { place = t.0 } ≡ after_byte s b
unfolding after_byte
leaves s b (place, Leaves) is e = ap (after_turn s b) is
leaves s b (place, Adds) is e = absurd (adds_or_leaves e)
leaves s b (place, Ends) is e = absurd (ends_or_leaves e)

pub adds : (s : Split) (b : ℕ) (t : Place × Turn) → t ≡ turned s.place b → t.1 ≡ Adds → record s { place = t.0; word = s.word ++ b ∷ [] } ≡ after_byte s b
unfolding after_byte
adds s b (place, Leaves) is e = absurd (adds_or_leaves (sym e))
adds s b (place, Adds) is e = ap (after_turn s b) is
adds s b (place, Ends) is e = absurd (ends_or_adds e)

pub ends : (s : Split) (b : ℕ) (t : Place × Turn) → t ≡ turned s.place b → t.1 ≡ Ends → record { place = t.0; words = s.words ++ s.word ∷ []; word = [] } ≡ after_byte s b
unfolding after_byte
ends s b (place, Leaves) is e = absurd (ends_or_leaves (sym e))
ends s b (place, Adds) is e = absurd (ends_or_adds (sym e))
ends s b (place, Ends) is e = ap (after_turn s b) is

pub split_words : (text : List ℕ) (s t : Split) → s ≡ fold after_byte none_yet text → t ≡ after_byte s 32 → ended t ≡ words_of_text text
unfolding words_of_text
split_words text s t is next = ap ended (next ∙ ap (λ (u : Split). after_byte u 32) is)

pub not_all : (words : List (Vec ℕ)) (i : ℕ) (w : Vec ℕ) → i < length words → w ≡ get_or words i w → ¬ (IsUtf8 w.items) → ¬ (All IsUtf8 (map (λ v. v.items) words))
not_all words i w within at isnt = λ all.
    let here : get_or (map (λ (v : Vec ℕ). v.items) words) i [] ≡ w.items = get_or-map (λ (v : Vec ℕ). v.items) words i w [] within ∙ ap (λ (v : Vec ℕ). v.items) (sym at) in
    isnt (subst IsUtf8 here (all i [] (omega (arith, length-map words (λ (v : Vec ℕ). v.items), within))))

pub no_texts : (words : List (List ℕ)) → ¬ (All IsUtf8 words) → IsRead (meant (Some words)) line.NoCommand
no_texts [] isnt = isnt (λ k d within. absurd (omega (arith, within)))
no_texts (w ∷ words) isnt = isnt
