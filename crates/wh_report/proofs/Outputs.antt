-- What goes out piece by piece.
use Rattle.std.proofs.Common.{◌≡◌, ℕ, ◌<◌, zero, suc, List, [], ◌∷◌, ◌++◌, Option, Some, None, refl, sym, ap, ◌∙◌, subst, length, take, append_assoc, append-nil, arith}
use Rattle.std.specs.Io.KnownBytes.{Appends}
use Rattle.std.proofs.KnownBytes.{Appends-nil, Appends-trans}
use Rattle.wh_store.specs.Scan.{HandsOut}
use Rattle.wh_report.specs.Output.{IsOutBut, IsCut}

-- what stands after a beginning
rest_of : (text : List ℕ) (n : ℕ) → n < length text → (byte : ℕ) × (rest : List ℕ) × (text ≡ take n text ++ byte ∷ rest)
rest_of [] n short = absurd (omega (arith, short))
rest_of (t ∷ text) zero short = (t, text, refl)
rest_of (t ∷ text) (suc n) short = let found = rest_of text n (omega (arith, short)) in (found.0, found.1, ap (λ ts. t ∷ ts) found.2)

-- the writer failed after a beginning
pub cut_off : (text : List ℕ) (a b : Option (List ℕ)) → (kept : ℕ) × (kept < length text) × Appends a b (take kept text) → IsCut a b text
cut_off text a b cut = let found = rest_of text cut.0 cut.1 in (found.0, found.1, record { part = take cut.0 text; whole = found.2; went = cut.2 })

pub none_out : (a : Option (List ℕ)) (text : List ℕ) → IsOutBut text a a text
none_out a text = record { part = []; whole = refl; went = Appends-nil a }

-- more text is to go out behind it
pub longer : (a b : Option (List ℕ)) (text rest more : List ℕ) → IsOutBut rest a b text → IsOutBut (rest ++ more) a b (text ++ more)
longer a b text rest more out = record { part = out.part; whole = ap (λ t. t ++ more) out.whole ∙ append_assoc out.part rest more; went = out.went }

-- what was left of it went out but a rest
pub joined : (a b c : Option (List ℕ)) (text piece rest : List ℕ) → IsOutBut piece a b text → IsOutBut rest b c piece → IsOutBut rest a c text
joined a b c text piece rest before now = record {
  part = before.part ++ now.part;
  whole = before.whole ∙ ap (λ p. before.part ++ p) now.whole ∙ sym (append_assoc before.part now.part rest);
  went = Appends-trans a b c before.part now.part before.went now.went;
}

-- or all of it
pub sent : (a b c : Option (List ℕ)) (text piece : List ℕ) → IsOutBut piece a b text → Appends b c piece → Appends a c text
sent a b c text piece before went =
    let all = joined a b c text piece [] before (record { part = piece; whole = sym (append-nil piece); went = went }) in
    subst (Appends a c) (sym (all.whole ∙ append-nil all.part)) all.went

-- or the writer failed
pub cut_then : (a b c : Option (List ℕ)) (text piece : List ℕ) → IsOutBut piece a b text → IsCut b c piece → IsCut a c text
cut_then a b c text piece before (byte, rest, out) = (byte, rest, joined a b c text piece (byte ∷ rest) before out)

pub cut_before : (a b : Option (List ℕ)) (text more : List ℕ) → IsCut a b text → IsCut a b (text ++ more)
cut_before a b text more (byte, rest, out) = (byte, rest ++ more, longer a b text (byte ∷ rest) more out)

-- ---- a row at a time

pub row_handed : {V : Type 0} (left rest : List V) (found : Option V) (row : V) → found ≡ Some row → HandsOut left found rest → left ≡ row ∷ rest
row_handed left rest found row is out = subst (λ f. HandsOut left f rest) is out

pub none_handed : {V : Type 0} (left rest : List V) (found : Option V) → found ≡ None → HandsOut left found rest → left ≡ []
none_handed left rest found is out = (subst (λ f. HandsOut left f rest) is out).0
