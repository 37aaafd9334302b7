use Rattle.std.proofs.Common.{◌≡◌, drop}
use Rattle.std.specs.Prelude.{fold}
use Rattle.wh_words.specs.Line.{after_byte, none_yet}
use Rattle.wh_words.proofs.line.split_of.Given as goal

-- what is read so far, before what is left, is the whole
abbrev pub invariant-loop-byte : goal.invariant-loop-byte
invariant-loop-byte l = fold after_byte l.split (drop l.byte-index l.text) ≡ fold after_byte none_yet l.text
