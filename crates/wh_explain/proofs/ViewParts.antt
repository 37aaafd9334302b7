-- Views that are put together part by part.
use Rattle.std.proofs.Common.{◌≡◌, ℕ, List, ◌∷◌, ◌++◌, append_assoc}
use Rattle.std.specs.Prelude.{flat_map}
use Rattle.std.proofs.lemmas.Grind.{flat_map-append}
use Rattle.wh_explain.specs.Views.{ViewColumn, column_text, columns_text, list_text}

pub three : (before a b c : List ℕ) → ((before ++ a) ++ b) ++ c ≡ before ++ (a ++ b ++ c)
three before a b c = simp append_assoc

-- a list of columns that come in four parts behind the first
pub in_parts : (before head source : List ℕ) (first : ViewColumn) (a b c d : List ViewColumn)
    → (((((before ++ head) ++ (column_text first ++ columns_text a)) ++ columns_text b) ++ columns_text c) ++ columns_text d) ++ source
    ≡ before ++ (head ++ list_text (first ∷ (a ++ b ++ c ++ d)) ++ source)
in_parts before head source first a b c d = simp (flat_map-append, append_assoc)
