use Rattle.std.proofs.Common.{◌∙◌, ◌+◌, ◌∷◌, drop, sym, ap}
use Rattle.std.proofs.lemmas.List.{at_drop_all, at_drop_more}
use Rattle.wh_history.specs.Accepted.{standing}
use Rattle.wh_admission.specs.Admission.{first_line_missing}
use Rattle.wh_admission.proofs.SameLines.{none_missing_first, this_missing_first}
use Rattle.wh_engine.proofs.admission.first_line_missing.Goals as goal
use Rattle.wh_sql.proofs.Sparing.{tables_again, then_spares}

pub returns-then-branch-clause-missing : goal.returns-then-branch-clause-missing
returns-then-branch-clause-missing g c clean limits commands t are rests same =
    let before = c.in_ok-is_line_missing.ensures.reads.spares.clean clean in
    let i = c.loop-place.place in
    let s = c.index-voids-place.result in
    let left = drop (i + 1) c.args.voids.now in
    let missing = sym (c.in_ok-is_line_missing.ensures.missing clean limits commands t are (tables_again c.loop-place.invariant.reads.spares before t rests tt) same) ∙ c.if-branch.true in
    sym (at_drop_more (first_line_missing (standing commands) (i + 1)) c.args.voids.now i s c.loop-place-test.true ∙ ap (λ q. first_line_missing (standing commands) (i + 1) (q ∷ left)) (sym c.index-voids-place.is) ∙ this_missing_first (standing commands) (i + 1) s left missing)
    ∙ c.loop-place.invariant.passed before limits commands t are rests same

pub loop-place-preserved : goal.loop-place-preserved
loop-place-preserved g c =
    let kept = c.loop-place.invariant in
    let read = c.in_ok-is_line_missing.ensures in
    let i = c.loop-place.place in
    let s = c.index-voids-place.result in
    let left = drop (i + 1) c.args.voids.now in
    record {
      reads = record {
        spares = then_spares kept.reads.spares tt read.reads.spares;
        sound = λ clean t rests. tt;
        named = λ clean stored rests. tt;
      };
      passed = λ clean limits commands t are rests same.
          let before = read.reads.spares.clean clean in
          let other = sym (read.missing clean limits commands t are (tables_again kept.reads.spares before t rests tt) same) ∙ c.if-branch.false in
          sym (at_drop_more (first_line_missing (standing commands) (i + 1)) c.args.voids.now i s c.loop-place-test.true ∙ ap (λ q. first_line_missing (standing commands) (i + 1) (q ∷ left)) (sym c.index-voids-place.is) ∙ none_missing_first (standing commands) (i + 1) s left other)
          ∙ kept.passed before limits commands t are rests same;
    }

pub returns-clause-missing : goal.returns-clause-missing
returns-clause-missing g c clean limits commands t are rests same =
    sym (at_drop_all (first_line_missing (standing commands) (c.loop-place.place + 1)) c.args.voids.now c.loop-place.place c.loop-place-test.false) ∙ c.loop-place.invariant.passed clean limits commands t are rests same
