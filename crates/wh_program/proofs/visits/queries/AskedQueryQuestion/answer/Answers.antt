use Rattle.wh_words.specs.Task.{query_words}
use Rattle.wh_program.proofs.ListLemmas.{unfailed_query}
use Rattle.wh_program.proofs.visits.queries.AskedQueryQuestion.answer.Goals as goal

pub returns-clause-unfailed : goal.returns-clause-unfailed
returns-clause-unfailed g c = λ commands. unfailed_query (query_words c.args.self.now) commands
