-- What questions ask for.
use Rattle.std.specs.Prelude.{ℕ, List, [], Bool, ◌&&◌, slice_index_or}
use Rattle.std.specs.Ordering.{eq_by_cmp, nat_cmp}
use Rattle.std.specs.Cmp.Lexicographic.{slice_cmp}

-- both texts are the same
abbrev pub same_text : List ℕ → List ℕ → Bool
same_text = eq_by_cmp (slice_cmp nat_cmp)

-- the texts of six slots are the same
abbrev pub same_slots : List (List ℕ) → List (List ℕ) → Bool
same_slots v w =
    same_text (slice_index_or v 0 []) (slice_index_or w 0 []) && (same_text (slice_index_or v 1 []) (slice_index_or w 1 []) && (same_text (slice_index_or v 2 []) (slice_index_or w 2 [])
    && (same_text (slice_index_or v 3 []) (slice_index_or w 3 []) && (same_text (slice_index_or v 4 []) (slice_index_or w 4 []) && same_text (slice_index_or v 5 []) (slice_index_or w 5 [])))))
