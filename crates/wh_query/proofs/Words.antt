-- A map by several texts: its changes and look-ups, seen by the bytes of its keys.
use Rattle.std.proofs.Common.{◌≡◌, ℕ, true, false, cond, List, [], ◌∷◌, Some, Bor, refl, ◌∙◌, ap}
use Rattle.std.specs.declared.vec.Vec.{Vec}
use Rattle.std.specs.Map.{lookup, set_value}
use Rattle.std.specs.Cmp.Lexicographic.{slice_cmp}
use Rattle.std.specs.Ordering.{match_ordering, is_eq, nat_cmp, ordering_then}
use Rattle.std.specs.declared.cmp.Ordering.{Ordering}
use Rattle.std.specs.BTreeMap.{is_at, insert_entry}
use Rattle.wh_report.specs.Summary.{by_bytes}
use Rattle.wh_report.proofs.MappedLines.{map-match}
use Rattle.wh_query.specs.Asked.{words_of}
use Rattle.wh_query.specs.Words.{by_texts, by_words}

-- borrowed texts, in the order of their bytes
abbrev pub word_cmp : Bor (List ℕ) → Bor (List ℕ) → Ordering
word_cmp a b = slice_cmp nat_cmp a.now b.now

abbrev pub words_cmp : {A : Type 0} → Vec (Bor (List ℕ)) A → Vec (Bor (List ℕ)) A → Ordering
words_cmp x y = slice_cmp word_cmp x.items y.items

pub by_words_of : (xs ys : List (Bor (List ℕ))) → slice_cmp word_cmp xs ys ≡ by_texts (words_of xs) (words_of ys)
by_words_of [] [] = refl
by_words_of [] (y ∷ ys) = refl
by_words_of (x ∷ xs) [] = refl
by_words_of (x ∷ xs) (y ∷ ys) = ap (ordering_then (by_bytes x.now y.now)) (by_words_of xs ys)

pub insert_by_words : {A X : Type 0} (es : List (Vec (Bor (List ℕ)) A × X)) (k : Vec (Bor (List ℕ)) A) (v : X) → by_words (insert_entry words_cmp es k v) ≡ insert_entry by_texts (by_words es) (words_of k.items) v
insert_by_words [] k v = refl
insert_by_words (e ∷ es) k v =
    let rest = insert_by_words es k v in
    map-match (λ (e : Vec (Bor (List ℕ)) _ × _). (words_of e.0.items, e.1)) (words_cmp k e.0) _ _ _
    ∙ ap (λ ys. match_ordering (words_cmp k e.0) ((words_of k.items, v) ∷ (words_of e.0.items, e.1) ∷ by_words es) ((words_of e.0.items, v) ∷ by_words es) ((words_of e.0.items, e.1) ∷ ys)) rest
    ∙ ap (λ o. match_ordering o ((words_of k.items, v) ∷ (words_of e.0.items, e.1) ∷ by_words es) ((words_of e.0.items, v) ∷ by_words es) ((words_of e.0.items, e.1) ∷ insert_entry by_texts (by_words es) (words_of k.items) v)) (by_words_of k.items e.0.items)

pub lookup_by_words : {A X : Type 0} (q : List (Bor (List ℕ))) (es : List (Vec (Bor (List ℕ)) A × X)) → lookup (is_at (λ (k : Vec (Bor (List ℕ)) A). slice_cmp word_cmp q k.items)) es ≡ lookup (is_at (by_texts (words_of q))) (by_words es)
lookup_by_words q [] = refl
lookup_by_words q (e ∷ es) =
    ap (λ o. cond (is_eq (slice_cmp word_cmp q e.0.items)) (Some e.1) o) (lookup_by_words q es)
    ∙ ap (λ o. cond (is_eq o) (Some e.1) (lookup (is_at (by_texts (words_of q))) (by_words es))) (by_words_of q e.0.items)

pub set_by_words : {A X : Type 0} (q : List (Bor (List ℕ))) (v : X) (es : List (Vec (Bor (List ℕ)) A × X)) → by_words (set_value (is_at (λ (k : Vec (Bor (List ℕ)) A). slice_cmp word_cmp q k.items)) es v) ≡ set_value (is_at (by_texts (words_of q))) (by_words es) v
set_by_words q v [] = refl
set_by_words q v (e ∷ es) =
    ap (λ o. by_words (cond (is_eq o) ((e.0, v) ∷ es) (e ∷ set_value (is_at (λ (k : Vec (Bor (List ℕ)) _). slice_cmp word_cmp q k.items)) es v))) (by_words_of q e.0.items)
    ∙ elim (is_eq (by_texts (words_of q) (words_of e.0.items))) as (λ b. by_words (cond b ((e.0, v) ∷ es) (e ∷ set_value (is_at (λ (k : Vec (Bor (List ℕ)) _). slice_cmp word_cmp q k.items)) es v)) ≡ cond b ((words_of e.0.items, v) ∷ by_words es) ((words_of e.0.items, e.1) ∷ set_value (is_at (by_texts (words_of q))) (by_words es) v)) [
      | true ↦ refl
      | false ↦ ap (λ ys. (words_of e.0.items, e.1) ∷ ys) (set_by_words q v es)
    ]
