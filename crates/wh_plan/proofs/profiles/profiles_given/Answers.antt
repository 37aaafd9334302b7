use Rattle.std.proofs.Common.{◌≡◌, length, arith, ◌∙◌, ap, None, Some}
use Rattle.std.specs.Prelude.{vec_len}
use Rattle.wh_history.proofs.Basics.{some_is}
use Rattle.wh_rows.specs.declared.rows.ProfileRow.{ProfileRow}
use Rattle.wh_sql.proofs.Reading.{last_is}
use Rattle.wh_plan.proofs.FoundProfiles.{last_profile}
use Rattle.wh_plan.proofs.profiles.profiles_given.Goals as goal

pub returns-in-Some-clause-given : goal.returns-in-Some-clause-given
returns-in-Some-clause-given g c clean limits commands t are at few =
    let found = c.in_ok-found.found in
    let len : vec_len found ≡ length found.items = omega arith in
    let last = last_profile limits commands t are in
    let popped : Some c.in-Some.row ≡ Some last.0 = last_is (Some last.0) (Some c.in-Some.row) found.items c.pop.new.self.items (vec_len found) len (c.in_ok-found.ensures.rows clean t at ∙ last.1) c.in-Some.ensures.items c.in-Some.ensures.variant in
    let number = ap (λ (r : ProfileRow). r.number) (some_is _ _ popped) ∙ last.2 in
    let least = c.min.ensures in
    omega arith

pub returns-clause-given : goal.returns-clause-given
returns-clause-given g c clean limits commands t are at few =
    let found = c.in_ok-found.found in
    let len : vec_len found ≡ length found.items = omega arith in
    let last = last_profile limits commands t are in
    let popped : None ≡ Some last.0 = last_is (Some last.0) None found.items c.pop.new.self.items (vec_len found) len (c.in_ok-found.ensures.rows clean t at ∙ last.1) c.in-None.ensures.items c.in-None.ensures.variant in
    absurd cc
