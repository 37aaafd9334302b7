use Rattle.std.proofs.Common.{inl, inr, refl}
use Rattle.std.proofs.lemmas.Bool.{cases_Bool}
use Rattle.std.proofs.lemmas.Str.{is_utf8-from_IsUtf8, IsUtf8-from_is_utf8}
use Rattle.std.specs.Str.{is_utf8}
use Rattle.wh_words.proofs.query_list.passed_line.Goals as goal

pub returns-in-Ok : goal.returns-in-Ok
returns-in-Ok c = rw (is_utf8-from_IsUtf8 c.args.line.now c.in-Ok.ensures.cases.1) refl

pub returns-in-Err : goal.returns-in-Err
returns-in-Err c = elim (cases_Bool (is_utf8 c.args.line.now)) [
  | inl text ↦ absurd (c.in-Err.ensures.cases.0 (IsUtf8-from_is_utf8 c.args.line.now text))
  | inr none ↦ rw none refl
]
