use Rattle.wh_words.proofs.TableNames.{named_by_both}
use Rattle.wh_words.proofs.command.table_of_name.Goals as goal

pub returns : goal.returns
returns c = named_by_both c.args.name.now c.from_name.result c.from_name.ensures.found c.from_name.ensures.only
