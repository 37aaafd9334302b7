use Rattle.std.proofs.Common.{◌≡◌, ◌++◌, drop, map}
use Rattle.std.specs.Prelude.{string_bytes}
use Rattle.wh_words.proofs.line.texts_of.Given as goal

-- the texts so far, before what is left, are the whole
abbrev pub invariant-loop-word : goal.invariant-loop-word
invariant-loop-word l = map string_bytes l.texts.items ++ map (λ w. w.items) (drop l.word-index l.word-items) ≡ map (λ w. w.items) l.word-items
