use Rattle.std.proofs.Common.{◌∙◌, subst}
use Rattle.wh_report.specs.Output.{IsOutWhole, IsOutBefore}
use Rattle.wh_report.proofs.Outputs.{none_out}
use Rattle.wh_report.proofs.Parts.{gone, line_lost, told_memory}
use Rattle.wh_report.proofs.dumps.write_row.Goals as goal

pub returns-in-Ok-clause-out : goal.returns-in-Ok-clause-out
returns-in-Ok-clause-out g c lines gathered = gone _ _ _ lines _ c.go_out.result c.go_out.ensures.anew (subst (IsOutWhole c.go_out.result _ _) (c.in-Ok.ensures.added lines gathered).lines c.go_out.ensures.out)

pub returns-in-Ok-2-clause-out : goal.returns-in-Ok-2-clause-out
returns-in-Ok-2-clause-out g c lines gathered = (_, c.in-Ok-2.ensures.added lines gathered, none_out _ _)

pub returns-in-Err-clause-out : goal.returns-in-Err-clause-out
returns-in-Err-clause-out g c lines gathered = line_lost _ c.go_out_before.result _ _ lines _ (subst (IsOutBefore _ c.go_out_before.result _ _) (c.in-Err.ensures.kept ∙ gathered.lines) c.go_out_before.ensures)

pub returns-in-Err-clause-kinds : goal.returns-in-Err-clause-kinds
returns-in-Err-clause-kinds g c = told_memory c.go_out_before.result _ _ _ c.go_out_before.ensures
