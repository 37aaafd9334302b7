use Rattle.std.proofs.Common.{◌≡◌, false, map, drop}
use Rattle.clap.specs.Words.{app_of}
use Rattle.clap.specs.declared.builder.command.Command.TheViews.{out-Command}
use Rattle.wh_words.specs.CommandLine.{operands_app, with_operands}
use Rattle.wh_words.proofs.app.operands_app.Given as goal

abbrev pub invariant-loop-name : goal.invariant-loop-name
invariant-loop-name l = record {
  made : with_operands (app_of l.command) (map (λ o. o.0.now) (drop l.name-index l.subcommand.operands.now)) ≡ operands_app l.subcommand;
  local : (out-Command l.command).has_globals ≡ false;
}
