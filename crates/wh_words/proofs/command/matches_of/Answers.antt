use Rattle.std.proofs.Common.{ap, subst, ◌≡◌, ◌∙◌, map}
use Rattle.std.proofs.lemmas.Result.{IfOk-weaker}
use Rattle.clap.specs.Words.{App, FailsBy, app_of, fault_of, is_simple, is_simple_and_free, subcommand_of}
use Rattle.wh_words.specs.CommandLine.{program_app}
use Rattle.wh_words.specs.Asked.{faults_in}
use Rattle.wh_words.proofs.Program.{simple_and_free}
use Rattle.wh_history.proofs.Basics.{both_true}
use Rattle.wh_words.proofs.command.matches_of.Goals as goal

pub returns-clause-ok : goal.returns-clause-ok
returns-clause-ok g c =
    let parse = c.try_get_matches_from in
    let program-is : app_of c.in_ok-program_app.field-0 ≡ program_app = c.in_ok-program_app.ensures in
    IfOk-weaker parse.result _ _ (λ matches h. (h (ap is_simple program-is ∙ (both_true (is_simple program_app) _ simple_and_free).0)).1 ∙ ap (λ (a : App). subcommand_of a (map g.S.AsStr.text c.args.words.now)) program-is) parse.ensures.matches

pub returns-clause-faults : goal.returns-clause-faults
unfolding faults_in
returns-clause-faults g c =
    let parse = c.try_get_matches_from in
    let program-is : app_of c.in_ok-program_app.field-0 ≡ program_app = c.in_ok-program_app.ensures in
    subst (λ a. FailsBy (fault_of a (map g.S.AsStr.text c.args.words.now)) parse.result) program-is (parse.ensures.kinds (ap is_simple_and_free program-is ∙ simple_and_free))
