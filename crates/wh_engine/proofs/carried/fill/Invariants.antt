use Rattle.std.proofs.Common.{◌-◌, ◌≤◌, ℕ, List, []}
use Rattle.std.specs.Prelude.{Ok}
use Rattle.wh_policy.specs.declared.attribute.Attribute.{Attribute}
use Rattle.wh_admission.specs.Admission.{AreAdmitted}
use Rattle.wh_plan.specs.Reads.{Finds}
use Rattle.wh_records.specs.Carried.{carried_between}
use Rattle.wh_records.specs.Filled.{IsFilled}
use Rattle.wh_sql.specs.Answers.{ReadsOnly, state_of}
use Rattle.wh_engine.specs.Carried.{IsSourceOf}
use Rattle.wh_engine.proofs.carried.fill.Given as goal

-- the part is filled from the members up to a durable key
abbrev pub invariant-loop-after : goal.invariant-loop-after
invariant-loop-after g l = record {
  reads : ReadsOnly {A = Unit {0}} (state_of g.S.Store l.fn.tables) (state_of g.S.Store l.tables) (Ok tt);
  upto : l.after ≤ l.last;
  filled : Finds (state_of g.S.Store l.fn.tables) (state_of g.S.Store l.tables) (λ limits commands. AreAdmitted limits commands → IsSourceOf commands l.source
      → (attributes : List Attribute) (place : ℕ) → IsFilled attributes place [] l.fn.filling → IsFilled attributes place (carried_between l.source.kind l.source.dim commands 0 l.after) l.filling);
}

abbrev pub decreases-loop-after : goal.decreases-loop-after
decreases-loop-after g l = l.last - l.after
