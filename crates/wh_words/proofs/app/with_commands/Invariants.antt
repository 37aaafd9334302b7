use Rattle.std.proofs.Common.{◌≡◌, false, map, drop}
use Rattle.clap.specs.Words.{app_of}
use Rattle.clap.specs.declared.builder.command.Command.TheViews.{out-Command}
use Rattle.wh_words.specs.CommandLine.{subcommand_app, with_commands}
use Rattle.wh_words.proofs.app.with_commands.Given as goal

abbrev pub invariant-loop-subcommand : goal.invariant-loop-subcommand
invariant-loop-subcommand l = record {
  made : with_commands (app_of l.program) (map subcommand_app (drop l.subcommand-index l.subcommands)) ≡ with_commands (app_of l.fn.program) (map subcommand_app l.subcommands);
  local : (out-Command l.program).has_globals ≡ false;
}
