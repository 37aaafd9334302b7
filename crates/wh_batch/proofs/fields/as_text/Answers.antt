use Rattle.std.proofs.Common.{inl, inr, refl}
use Rattle.std.proofs.lemmas.Bool.{cases_Bool}
use Rattle.std.proofs.lemmas.Str.{is_utf8-from_IsUtf8, IsUtf8-from_is_utf8}
use Rattle.std.specs.Str.{is_utf8}
use Rattle.wh_batch.proofs.fields.as_text.Goals as goal

pub returns-in-Ok : goal.returns-in-Ok
returns-in-Ok c = let h = c.in-Ok.ensures.cases in rw (is_utf8-from_IsUtf8 c.args.field.now h.1, h.0) refl

pub returns-in-Err : goal.returns-in-Err
returns-in-Err c = let h = c.in-Err.ensures.cases in
    elim (cases_Bool (is_utf8 c.args.field.now)) [
      | inl text ↦ absurd (h.0 (IsUtf8-from_is_utf8 c.args.field.now text))
      | inr none ↦ rw none
    ]
