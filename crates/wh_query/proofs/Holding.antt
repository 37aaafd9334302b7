-- Whether conditions hold, one after the other.
use Rattle.std.proofs.Common.{◌≡◌, ℕ, zero, suc, ◌+◌, ◌<◌, ◌≤◌, true, false, ◌&&◌, List, [], ◌∷◌, length, drop, get_or, Bor, refl, sym, ◌∙◌, ap, ap₂, arith}
use Rattle.std.proofs.lemmas.List.{drop_all, drop_more}
use Rattle.wh_query.specs.Asked.{ConditionAsked, accepts, holds_from, words_of}

-- a label is wanting
pub holds_none : (all cs : List ConditionAsked) (n : ℕ) (ls : List (Bor (List ℕ))) → n < length cs → length ls ≤ n → holds_from all (drop n cs) (words_of (drop n ls)) ≡ false
holds_none all [] n ls within wanting = absurd (omega arith)
holds_none all (c ∷ cs) zero [] within wanting = refl
holds_none all (c ∷ cs) zero (l ∷ ls) within wanting = absurd (omega arith)
holds_none all (c ∷ cs) (suc n) [] within wanting =
    ap (λ ks. holds_from all (drop n cs) (words_of ks)) (drop_all (suc n) [] (omega arith) ∙ sym (drop_all n [] (omega arith))) ∙ holds_none all cs n [] (omega arith) (omega arith)
holds_none all (c ∷ cs) (suc n) (l ∷ ls) within wanting = holds_none all cs n ls (omega arith) (omega arith)

-- the next one
pub holds_more : (all cs : List ConditionAsked) (n : ℕ) (ls : List (Bor (List ℕ))) (c : ConditionAsked) (l : Bor (List ℕ)) → n < length cs → n < length ls
    → holds_from all (drop n cs) (words_of (drop n ls)) ≡ (accepts all (get_or cs n c).column (get_or ls n l).now && holds_from all (drop (n + 1) cs) (words_of (drop (n + 1) ls)))
holds_more all cs n ls c l within there = ap₂ (λ xs ys. holds_from all xs (words_of ys)) (drop_more cs n c within) (drop_more ls n l there)

-- none is left
pub holds_all : (all cs : List ConditionAsked) (n : ℕ) (ls : List (List ℕ)) → length cs ≤ n → holds_from all (drop n cs) ls ≡ true
holds_all all cs n ls done = ap (λ xs. holds_from all xs ls) (drop_all n cs done)
