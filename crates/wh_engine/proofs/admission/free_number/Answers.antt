use Rattle.std.proofs.Common.{◌≡◌, ◌∙◌, Bool, true, false, rules, None, sym, ap, arith}
use Rattle.std.specs.Prelude.{is_some}
use Rattle.wh_model.specs.Defined.{command_at}
use Rattle.wh_plan.proofs.FoundCommands.{command_past}
use Rattle.wh_engine.proofs.admission.free_number.Goals as goal
use Rattle.wh_sql.proofs.Sparing.{stored_again, tables_again}

pub numbers-preserved : goal.numbers-preserved
numbers-preserved g c =
    let kept = c.numbers.invariant in
    let read = c.in_ok-is_taken.ensures in
    record {
      reads = search rules;
      first = λ clean limits commands t are rests more.
          let before = read.reads.spares.clean clean in
          let at : c.numbers.number ≡ c.args.next = kept.first before limits commands t are rests more in
          let taken : is_some (command_at commands c.numbers.number) ≡ true = sym (read.taken clean limits commands t are (tables_again kept.reads.spares before t rests tt)) ∙ c.if-not-branch.false in
          let none : command_at commands c.numbers.number ≡ None = command_past commands c.numbers.number (omega (arith, at, more)) in
          let untaken : is_some (command_at commands c.numbers.number) ≡ false = ap is_some none in
          absurd (both (is_some (command_at commands c.numbers.number)) untaken taken);
    }
  where
    both : (b : Bool) → b ≡ false → b ≡ true → ⊥
    both false is other = absurd cc
    both true is other = absurd cc

pub returns-then-not-branch-clause-next : goal.returns-then-not-branch-clause-next
returns-then-not-branch-clause-next g c clean limits commands t are rests more = c.numbers.invariant.first (c.in_ok-is_taken.ensures.reads.spares.clean clean) limits commands t are rests more

pub returns-then-not-branch-clause-free : goal.returns-then-not-branch-clause-free
returns-then-not-branch-clause-free g c clean stored rests =
    let read = c.in_ok-is_taken.ensures in
    let before = read.reads.spares.clean clean in
    read.free clean stored (stored_again c.numbers.invariant.reads.spares before stored rests tt) c.if-not-branch.true
