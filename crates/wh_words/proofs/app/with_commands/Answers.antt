use Rattle.std.proofs.Common.{◌≡◌, ℕ, List, ◌+◌, ◌<◌, length, get_or, map, drop, drop-cons, add-one, sym, ◌∙◌, refl, rules}
use Rattle.clap.specs.Words.{App, app_of, with_subcommand}
use Rattle.wh_words.specs.declared.app.Subcommand.{Subcommand}
use Rattle.wh_words.specs.CommandLine.{subcommand_app, with_commands}
use Rattle.wh_words.proofs.app.with_commands.Goals as goal

-- with the command of the i-th row, those of the rows after it are left
one_more : (rows : List Subcommand) (i : ℕ) (d : Subcommand) (app command new whole : App) → i < length rows
    → command ≡ subcommand_app (get_or rows i d) → new ≡ with_subcommand app command.top
    → with_commands app (map subcommand_app (drop i rows)) ≡ whole
    → with_commands new (map subcommand_app (drop (i + 1) rows)) ≡ whole
one_more rows i d app command new whole h command-is new-is was =
    let next : with_commands app (map subcommand_app (drop i rows))
    ≡ with_commands (with_subcommand app (subcommand_app (get_or rows i d)).top) (map subcommand_app (drop (i + 1) rows))
    = rw (add-one i, drop-cons rows i d h) refl in
    rw (new-is, command-is) (sym next ∙ was)

pub loop-subcommand-preserved : goal.loop-subcommand-preserved
loop-subcommand-preserved c =
    let at = c.loop-subcommand in
    let added = c.in_ok-program.ensures.shape c.in_ok-command.ensures.local in
    record {
      made = one_more _ _ _ (app_of at.program) (app_of c.in_ok-command.command) _ _ c.loop-subcommand-test.true c.in_ok-command.ensures.app added at.invariant.made;
      local = search rules;
    }
