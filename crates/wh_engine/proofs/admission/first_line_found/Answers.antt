use Rattle.std.proofs.Common.{◌∙◌, ◌+◌, ◌∷◌, drop, sym, ap}
use Rattle.std.proofs.lemmas.List.{at_drop_all, at_drop_more}
use Rattle.wh_history.specs.Accepted.{sold}
use Rattle.wh_admission.specs.Admission.{first_line_there}
use Rattle.wh_admission.proofs.SameLines.{none_first, this_first}
use Rattle.wh_engine.proofs.admission.first_line_found.Goals as goal
use Rattle.wh_sql.proofs.Sparing.{tables_again, then_spares}

pub returns-then-branch-clause-there : goal.returns-then-branch-clause-there
returns-then-branch-clause-there g c clean limits commands t are rests same accepted =
    let before = c.in_ok-is_line_there.ensures.reads.spares.clean clean in
    let i = c.loop-place.place in
    let s = c.index-sales-place.result in
    let left = drop (i + 1) c.args.sales.now in
    let there = sym (c.in_ok-is_line_there.ensures.there clean limits commands t are (tables_again c.loop-place.invariant.reads.spares before t rests tt) same accepted) ∙ c.if-branch.true in
    sym (at_drop_more (first_line_there (sold commands) (i + 1)) c.args.sales.now i s c.loop-place-test.true ∙ ap (λ q. first_line_there (sold commands) (i + 1) (q ∷ left)) (sym c.index-sales-place.is) ∙ this_first (sold commands) (i + 1) s left there)
    ∙ c.loop-place.invariant.passed before limits commands t are rests same accepted

pub loop-place-preserved : goal.loop-place-preserved
loop-place-preserved g c =
    let kept = c.loop-place.invariant in
    let read = c.in_ok-is_line_there.ensures in
    let i = c.loop-place.place in
    let s = c.index-sales-place.result in
    let left = drop (i + 1) c.args.sales.now in
    record {
      reads = record {
        spares = then_spares kept.reads.spares tt read.reads.spares;
        sound = λ clean t rests. tt;
        named = λ clean stored rests. tt;
      };
      passed = λ clean limits commands t are rests same accepted.
          let before = read.reads.spares.clean clean in
          let other = sym (read.there clean limits commands t are (tables_again kept.reads.spares before t rests tt) same accepted) ∙ c.if-branch.false in
          sym (at_drop_more (first_line_there (sold commands) (i + 1)) c.args.sales.now i s c.loop-place-test.true ∙ ap (λ q. first_line_there (sold commands) (i + 1) (q ∷ left)) (sym c.index-sales-place.is) ∙ none_first (sold commands) (i + 1) s left other)
          ∙ kept.passed before limits commands t are rests same accepted;
    }

pub returns-clause-there : goal.returns-clause-there
returns-clause-there g c clean limits commands t are rests same accepted =
    sym (at_drop_all (first_line_there (sold commands) (c.loop-place.place + 1)) c.args.sales.now c.loop-place.place c.loop-place-test.false) ∙ c.loop-place.invariant.passed clean limits commands t are rests same accepted
