use Rattle.std.proofs.Common.{ℕ, List, ◌≡◌, ◌+◌, ◌-◌, ◌++◌, length, take, drop, subst, arith, sym}
use Rattle.std.proofs.Math.Seq.{take-add}
use Rattle.std.proofs.lemmas.List.{take_rest}
use Rattle.std.specs.Io.KnownBytes.{Appends}
use Rattle.std.proofs.KnownBytes.{Appends-trans}
use Rattle.wh_report.proofs.output.write_whole.Goals as goal

-- what was written, and then a beginning of the rest
one_more : (text : List ℕ) (written taken : ℕ)
    → take written text ++ take taken (take (length text - written) (drop written text)) ≡ take (written + taken) text
one_more text written taken = rw (take_rest text written) (sym (take-add written taken text))

pub writes-preserved : goal.writes-preserved
writes-preserved g c = record {
  in_range = omega (arith, c.in-Ok.ensures.bound);
  appended = subst (Appends _ _) (one_more c.args.text.now c.writes.written c.in-Ok.taken)
      (Appends-trans _ _ _ _ _ c.writes.invariant.appended c.in-Ok.ensures.bytes);
}
