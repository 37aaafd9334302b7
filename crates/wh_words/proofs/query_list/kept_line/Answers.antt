use Rattle.std.proofs.Common.{◌∙◌}
use Rattle.wh_words.proofs.QueryListLemmas.{no_command_says, passed_says, words_say_so}
use Rattle.wh_words.proofs.query_list.kept_line.Goals as goal

pub returns-in-Passed : goal.returns-in-Passed
returns-in-Passed c = c.passed_line.ensures ∙ passed_says c.args.line.now (rw c.in-Passed.is at c.in_ok-read_line.ensures)

pub returns-in-NoCommand : goal.returns-in-NoCommand
returns-in-NoCommand c = no_command_says c.args.line.now (rw c.in-NoCommand.is at c.in_ok-read_line.ensures)

pub returns-in_ok-whole_words-in-Words : goal.returns-in_ok-whole_words-in-Words
returns-in_ok-whole_words-in-Words c =
    words_say_so c.args.line.now c.in-Words.words c.in_ok-whole_words-in-Words.field-0 (rw c.in-Words.is at c.in_ok-read_line.ensures) c.in_ok-whole_words-in-Words.ensures
