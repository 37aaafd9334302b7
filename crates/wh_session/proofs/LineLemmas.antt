-- The lines of an input, and the meaning of a line.
use Rattle.std.proofs.Common.{◌≡◌, ◌≢◌, ◌∙◌, inl, inr, refl, sym, subst, ap, arith, map, Bool, true, false, ◌==◌, ℕ, suc, List, [], ◌∷◌, ◌++◌, Option, Some, None, length, take, drop, drop-cons, add-one, get_or, ◌+◌, ◌<◌, ◌≤◌}
use Rattle.std.specs.Prelude.{All, IsUtf8, fold, option_map}
use Rattle.std.specs.Global.{Vec}
use Rattle.std.proofs.lemmas.List.{get_or-map, length-map}
use Rattle.std.proofs.lemmas.Bool.{eqb-true, lt-ltb, le-ltb}
use Rattle.wh_program.proofs.InputLemmas.{past_or_whole}
use Rattle.wh_words.specs.Line.{Meaning, Passed, NoCommand, Words, IsRead, line_limit, lines_of, meaning_of, onto}
use Rattle.wh_words.specs.declared.line.Line.TheVariants as line
use Rattle.wh_session.specs.Line.{IsNext, IsNextByte, last_line}

pub some_is : {X : Type 0} (x y : X) → Some x ≡ Some y → x ≡ y
some_is x y h = cc

-- what is read of a line means the same
pub meaning_so : (line : List ℕ) → meaning_of (take (suc line_limit) line) ≡ meaning_of line
unfolding meaning_of
meaning_so line = elim (past_or_whole line_limit line) [
  | inl past ↦ rw (past.0, past.1) refl
  | inr whole ↦ rw whole refl
]

-- ---- a line byte by byte

-- with these bytes in front of the first line
abbrev pub fronted : List ℕ → List (List ℕ) → List (List ℕ)
fronted [] lines = lines
fronted (b ∷ seen) lines = onto b (fronted seen lines)

pub fronted-onto : (seen : List ℕ) (byte : ℕ) (lines : List (List ℕ)) → fronted seen (onto byte lines) ≡ fronted (seen ++ byte ∷ []) lines
fronted-onto [] byte lines = refl
fronted-onto (b ∷ seen) byte lines = ap (onto b) (fronted-onto seen byte lines)

pub fronted-line : (seen : List ℕ) (lines : List (List ℕ)) → fronted seen ([] ∷ lines) ≡ seen ∷ lines
fronted-line [] lines = refl
fronted-line (b ∷ seen) lines = ap (onto b) (fronted-line seen lines)

pub fronted-last : (b : ℕ) (seen : List ℕ) → fronted (b ∷ seen) [] ≡ (b ∷ seen) ∷ []
fronted-last b [] = refl
fronted-last b (c ∷ seen) = ap (onto b) (fronted-last c seen)

other_byte : (byte : ℕ) → byte ≢ 10 → (byte == 10) ≡ false
other_byte byte other = by (byte == 10) refl
  where
    by : (b : Bool) → (byte == 10) ≡ b → (byte == 10) ≡ false
    by true e = absurd (other (eqb-true byte 10 e))
    by false e = e

-- a byte that ends no line
lines_of-byte : (byte : ℕ) (rest : List ℕ) → byte ≢ 10 → lines_of (byte ∷ rest) ≡ onto byte (lines_of rest)
unfolding lines_of
lines_of-byte byte rest other = rw (other_byte byte other) refl

lines_of-end : (rest : List ℕ) → lines_of (10 ∷ rest) ≡ [] ∷ lines_of rest
unfolding lines_of
lines_of-end rest = refl

lines_of-none : lines_of [] ≡ []
unfolding lines_of
lines_of-none = refl

-- of some bytes these were read of a line, as far as it is kept, and those are still to come
pub record IsWithin (most : ℕ) (line bytes : List ℕ) (now : Option (List ℕ)) : Type 0 where
  pub seen : List ℕ
  pub left : List ℕ
  pub kept : line ≡ take (suc most) seen
  pub now_is : now ≡ Some left
  pub lines : fronted seen (lines_of left) ≡ lines_of bytes

pub at_first : (most : ℕ) (bytes : List ℕ) (now : Option (List ℕ)) → now ≡ Some bytes → IsWithin most [] bytes now
at_first most bytes now is = record { seen = []; left = bytes; kept = refl; now_is = is; lines = refl }

pub read_byte : (most : ℕ) (line more bytes : List ℕ) (mid now : Option (List ℕ)) (byte : ℕ) → IsWithin most line bytes mid
    → ((left : List ℕ) → mid ≡ Some left → IsNextByte left (Some byte) now) → byte ≢ 10
    → ((whole : List ℕ) → line ≡ take (suc most) whole → more ≡ take (suc most) (whole ++ byte ∷ [])) → IsWithin most more bytes now
read_byte most line more bytes mid now byte r next other adds =
    let n = next r.left r.now_is in
    record {
      seen = r.seen ++ byte ∷ [];
      left = n.0;
      kept = adds r.seen r.kept;
      now_is = n.2;
      lines = sym (fronted-onto r.seen byte (lines_of n.0)) ∙ ap (fronted r.seen) (sym (lines_of-byte byte n.0 other) ∙ ap lines_of (sym n.1)) ∙ r.lines;
    }

pub line_ends : (most : ℕ) (line bytes : List ℕ) (mid now : Option (List ℕ)) → IsWithin most line bytes mid
    → ((left : List ℕ) → mid ≡ Some left → IsNextByte left (Some 10) now) → IsNext most (lines_of bytes) (Some line) (option_map lines_of now)
line_ends most line bytes mid now r next =
    let n = next r.left r.now_is in
    (r.seen, lines_of n.0, sym r.lines ∙ ap (fronted r.seen) (ap lines_of n.1 ∙ lines_of-end n.0) ∙ fronted-line r.seen (lines_of n.0), r.kept, ap (option_map lines_of) n.2)

pub input_ends : (most : ℕ) (line bytes : List ℕ) (mid now : Option (List ℕ)) → IsWithin most line bytes mid
    → ((left : List ℕ) → mid ≡ Some left → IsNextByte left None now) → IsNext most (lines_of bytes) (last_line line) (option_map lines_of now)
input_ends most line bytes mid now r next =
    let n = next r.left r.now_is in
    by r.seen r.kept (sym (sym (ap (λ (left : List ℕ). fronted r.seen (lines_of left)) n.0 ∙ ap (fronted r.seen) lines_of-none) ∙ r.lines)) (ap (option_map lines_of) n.1 ∙ ap Some lines_of-none)
  where
    by : (seen : List ℕ) → line ≡ take (suc most) seen → lines_of bytes ≡ fronted seen [] → option_map lines_of now ≡ Some [] → IsNext most (lines_of bytes) (last_line line) (option_map lines_of now)
    by [] kept lines after = rw kept (lines, after)
    by (b ∷ seen) kept lines after = rw kept (b ∷ seen, [], lines ∙ fronted-last b seen, refl, after)

-- a console of a reader tells lines where the reader tells bytes
pub heard : (bytes : Option (List ℕ)) (lines : List (List ℕ)) → option_map lines_of bytes ≡ Some lines → (known : List ℕ) × (bytes ≡ Some known) × (lines_of known ≡ lines)
heard None lines e = absurd (none_is e)
  where
    none_is : None ≡ Some lines → ⊥
    none_is e = cc
heard (Some bytes) lines e = (bytes, refl, some_is (lines_of bytes) lines e)

pub is_passed : (meaning : Meaning) → IsRead meaning line.Passed → meaning ≡ Passed
is_passed Passed is = refl
is_passed NoCommand is = absurd is
is_passed (Words words) is = absurd is
