use Rattle.std.proofs.Common.{◌∙◌, ap, map}
use Rattle.std.proofs.lemmas.Result.{IfOk-weaker}
use Rattle.clap.specs.Words.{App}
use Rattle.wh_words.specs.CommandLine.{app_with, program_app, with_commands}
use Rattle.wh_words.specs.Task.{every_command}
use Rattle.wh_words.proofs.app.program_app.Goals as goal

pub returns : goal.returns
unfolding program_app
returns c = IfOk-weaker c.with_commands.result _ _ (λ program is. is ∙ ap (λ (first : App). with_commands first (map app_with every_command)) c.in_ok-top.ensures.app) c.with_commands.ensures.app
