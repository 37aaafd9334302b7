use Rattle.std.proofs.Common.{◌≡◌, ◌++◌, drop}
use Rattle.std.specs.Prelude.{Ok}
use Rattle.wh_plan.specs.Profiles.{number_kept, learned}
use Rattle.wh_sql.specs.Answers.{ReadsOnly, state_of}
use Rattle.wh_plan.specs.Reads.{Tells}
use Rattle.wh_plan.proofs.profiles.looked_up.Given as goal

-- what is known so far, with what the table says of the combinations that are left, is what it says of all
abbrev pub invariant-loop-texts : goal.invariant-loop-texts
invariant-loop-texts g l = record {
  reads : ReadsOnly (state_of g.S.Store l.fn.tables) (state_of g.S.Store l.tables) (Ok l.known);
  known : Tells (state_of g.S.Store l.fn.tables) (state_of g.S.Store l.tables) (Ok l.known) (λ t known. known ++ learned (number_kept t.profile) (drop l.texts-index l.combinations) ≡ learned (number_kept t.profile) l.combinations);
}
