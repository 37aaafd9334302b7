-- Tables that grow by the rows of new keys.
use Rattle.std.proofs.Common.{◌≡◌, ◌⊎◌, inl, inr, ℕ, zero, suc, ◌+◌, ◌<◌, ◌≤◌, List, [], ◌∷◌, ◌++◌, map, Option, None, ◌∙◌, ap, arith}
use Rattle.std.specs.List.{range_with_len}
use Rattle.std.proofs.lemmas.Bool.{cases_eq}

-- a key that is of one of the numbers, or of what else tells keys
abbrev pub AmongKeys : {I K : Type 0} → (I → K) → K → List I → Type 0
AmongKeys at q [] = ⊥
AmongKeys at q (n ∷ ns) = (q ≡ at n) ⊎ AmongKeys at q ns

pub among_front : {I K : Type 0} (at : I → K) (q : K) (ns ms : List I) → AmongKeys at q ns → AmongKeys at q (ns ++ ms)
among_front at q [] ms h = absurd h
among_front at q (n ∷ ns) ms h = elim h [ inl first ↦ inl first | inr rest ↦ inr (among_front at q ns ms rest) ]

pub among_back : {I K : Type 0} (at : I → K) (q : K) (ns ms : List I) → AmongKeys at q ms → AmongKeys at q (ns ++ ms)
among_back at q [] ms h = h
among_back at q (n ∷ ns) ms h = inr (among_back at q ns ms h)

pub among_mapped : {I K : Type 0} (at : I → K) (q : K) (ns : List I) → AmongKeys at q ns → AmongKeys (λ (k : K). k) q (map at ns)
among_mapped at q [] h = h
among_mapped at q (n ∷ ns) h = elim h [ inl first ↦ inl first | inr rest ↦ inr (among_mapped at q ns rest) ]

pub among_range : {K : Type 0} (at : ℕ → K) (q : K) (n start len : ℕ) → q ≡ at n → start ≤ n → n < start + len → AmongKeys at q (range_with_len start len)
among_range at q n start zero is from to = absurd (omega arith)
among_range at q n start (suc len) is from to =
    elim (cases_eq n start) [
      | inl first ↦ inl (is ∙ ap at first)
      | inr later ↦ inr (among_range at q n (start + 1) len is (omega arith) (omega arith))
    ]

-- a table whose rows stand, and one that has more rows, of numbers after the first and up to the second
pub record IsKept {K V : Type 0} (old new : K → Option V) (q : K) : Type 0 where
  pub same : new q ≡ old q

pub record IsAdded {K V : Type 0} (at : ℕ → K) (low high : ℕ) (old : K → Option V) (q : K) : Type 0 where
  pub number : ℕ
  pub is : q ≡ at number
  pub above : low < number
  pub within : number ≤ high
  pub none : old q ≡ None

abbrev pub Grows : {K V : Type 0} → (ℕ → K) → ℕ → ℕ → (K → Option V) → (K → Option V) → K → Type 0
Grows at low high old new q = IsKept old new q ⊎ IsAdded at low high old q
