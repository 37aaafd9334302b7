use Rattle.std.proofs.Common.{◌≡◌, map, take}
use Rattle.wh_plan.specs.Reading.{given_text}
use Rattle.wh_plan.proofs.reading.given_texts.Given as goal

abbrev pub invariant-loop-text : goal.invariant-loop-text
invariant-loop-text l = l.given ≡ map given_text (take l.text-index l.texts)
