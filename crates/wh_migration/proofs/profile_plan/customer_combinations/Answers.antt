use Rattle.std.proofs.Common.{◌∙◌}
use Rattle.wh_migration.proofs.FoundCombinations.{combinations_found}
use Rattle.wh_migration.proofs.profile_plan.customer_combinations.Goals as goal

pub returns-clause-combinations : goal.returns-clause-combinations
returns-clause-combinations g c clean limits commands t are at full =
    let kinds = c.args.types.now in
    c.in_ok-combinations.ensures.stored clean t at ∙ combinations_found kinds limits commands t are full
