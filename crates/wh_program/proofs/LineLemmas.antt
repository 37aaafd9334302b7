-- Texts that are put together part by part.
use Rattle.std.proofs.Common.{◌≡◌, ℕ, List, ◌++◌, append_assoc}

-- a receipt's ten parts and the end of its line, after what is there
pub receipt_parts : (before word s number t id u records v placeholders w end : List ℕ)
    → (((((((((before ++ word) ++ s) ++ number) ++ t) ++ id) ++ u) ++ records) ++ v) ++ placeholders) ++ (w ++ end)
    ≡ before ++ ((word ++ s ++ number ++ t ++ id ++ u ++ records ++ v ++ placeholders ++ w) ++ end)
receipt_parts before word s number t id u records v placeholders w end = simp append_assoc
