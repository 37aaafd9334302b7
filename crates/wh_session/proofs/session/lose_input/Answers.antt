use Rattle.wh_program.specs.Answer.{status_code}
use Rattle.wh_session.proofs.OutputLemmas.{lost}
use Rattle.wh_session.proofs.session.lose_input.Goals as goal

pub returns-in-NoFile : goal.returns-in-NoFile
returns-in-NoFile g c = lost (g.W.Write.contents c.args.out.now) (g.W.Write.contents c.print_answer.new.out) (status_code c.print_answer.result) c.no_file.result c.no_file.ensures c.print_answer.ensures
