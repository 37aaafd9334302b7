-- Several texts: their order, and a map by them, seen by the bytes of its keys.
use Rattle.std.specs.Prelude.{ℕ, List, map}
use Rattle.std.specs.Borrow.{Bor}
use Rattle.std.specs.Cmp.Lexicographic.{slice_cmp}
use Rattle.std.specs.declared.cmp.Ordering.{Ordering}
use Rattle.std.specs.declared.vec.Vec.{Vec}
use Rattle.wh_report.specs.Summary.{by_bytes}
use Rattle.wh_query.specs.Asked.{words_of}

-- some texts before others: one by one, each in order of its bytes
abbrev pub by_texts : List (List ℕ) → List (List ℕ) → Ordering
by_texts = slice_cmp by_bytes

abbrev pub by_words : {A X : Type 0} → List (Vec (Bor (List ℕ)) A × X) → List (List (List ℕ) × X)
by_words entries = map (λ e. (words_of e.0.items, e.1)) entries
