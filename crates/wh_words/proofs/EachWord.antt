-- What is shown of each command, by computing with its row.
use Rattle.std.proofs.Common.{refl, codes, Option, Some, None}
use Rattle.std.specs.Prelude.{IfOk, ok_or, option_map}
use Rattle.wh_policy.specs.declared.attribute.Dim.{Dim}
use Rattle.wh_policy.specs.Words.{dim_of_word}
use Rattle.wh_words.specs.Given.{Given, optional_word, word_for}
use Rattle.wh_words.specs.Task.{Trial, every_command, trial_asked, trial_command, explain_command, records_command, query_command, init_command, load_command, migrate_command, upgrade_command, deliver_command, report_command, reports_command, queries_command, dump_command, views_command, status_command, session_command, plan_command, check_command}
use Rattle.wh_words.specs.WrongWord.{no_dimension_line}
use Rattle.wh_words.proofs.Program.{commands_on_literals}
use Rattle.wh_words.proofs.QueryCommand.{query_found, query_is_read}
use Rattle.wh_words.proofs.TrialCommand.{trial_found, trial_is_read}
use Rattle.wh_words.proofs.Words.{AllKnown, IsTrial, Known}

pub trial_about : (given : Given) → IfOk (trial_asked given) IsTrial
trial_about given = by (dim_of_word (word_for given (codes "DIMENSION")))
  where
    by : (o : Option Dim) → IfOk (ok_or (option_map (λ dim. Trial dim (word_for given (codes "CSV")) (optional_word given (codes "POLICY"))) o) (no_dimension_line (word_for given (codes "DIMENSION")))) IsTrial
    by None = tt
    by (Some dim) = (dim, word_for given (codes "CSV"), optional_word given (codes "POLICY"), refl)

pub trial_known : Known trial_command
unfolding commands_on_literals
trial_known = record { found = trial_found; behind = (refl, λ d. (refl, λ p. (refl, (λ x. refl), λ policy. trial_is_read d p policy))); about = trial_about }

explain_known : Known explain_command
unfolding commands_on_literals
explain_known = record { found = refl; behind = (refl, λ _. (refl, λ _. (refl, λ x. (refl, λ y. refl)))); about = λ file. refl }

records_known : Known records_command
unfolding commands_on_literals
records_known = record { found = refl; behind = (refl, λ _. (refl, λ _. (refl, λ x. (refl, λ y. refl)))); about = λ file. refl }

query_known : Known query_command
unfolding commands_on_literals
query_known = record { found = query_found; behind = (refl, λ f. (refl, λ d. (refl, λ t. (refl, query_is_read f d t)))); about = λ file. refl }

init_known : Known init_command
unfolding commands_on_literals
init_known = record { found = refl; behind = (refl, λ _. (refl, λ _. (refl, λ x. refl))); about = λ file. refl }

load_known : Known load_command
unfolding commands_on_literals
load_known = record { found = refl; behind = (refl, λ _. (refl, λ _. (refl, λ _. (refl, λ _. (refl, λ x. refl))))); about = λ file. refl }

migrate_known : Known migrate_command
unfolding commands_on_literals
migrate_known = record { found = refl; behind = (refl, λ _. (refl, λ _. (refl, λ _. (refl, λ x. refl)))); about = λ file. refl }

upgrade_known : Known upgrade_command
unfolding commands_on_literals
upgrade_known = record { found = refl; behind = (refl, λ _. (refl, λ _. (refl, λ x. refl))); about = λ file. refl }

deliver_known : Known deliver_command
unfolding commands_on_literals
deliver_known = record { found = refl; behind = (refl, λ _. (refl, λ _. (refl, λ x. refl))); about = λ file. refl }

report_known : Known report_command
unfolding commands_on_literals
report_known = record { found = refl; behind = (refl, λ _. (refl, λ _. (refl, λ _. (refl, λ _. (refl, λ _. (refl, λ x. refl)))))); about = λ file. refl }

reports_known : Known reports_command
unfolding commands_on_literals
reports_known = record { found = refl; behind = (refl, λ _. (refl, λ _. (refl, λ x. refl))); about = λ file. refl }

queries_known : Known queries_command
unfolding commands_on_literals
queries_known = record { found = refl; behind = (refl, λ _. (refl, λ _. (refl, λ x. refl))); about = λ file. refl }

dump_known : Known dump_command
unfolding commands_on_literals
dump_known = record { found = refl; behind = (refl, λ _. (refl, λ _. (refl, λ x. refl))); about = λ file. refl }

views_known : Known views_command
unfolding commands_on_literals
views_known = record { found = refl; behind = (refl, λ _. (refl, λ x. refl)); about = λ file. refl }

status_known : Known status_command
unfolding commands_on_literals
status_known = record { found = refl; behind = (refl, λ _. (refl, λ x. refl)); about = λ file. refl }

session_known : Known session_command
unfolding commands_on_literals
session_known = record { found = refl; behind = (refl, λ _. (refl, λ x. refl)); about = λ file. refl }

plan_known : Known plan_command
unfolding commands_on_literals
plan_known = record { found = refl; behind = (refl, λ _. (refl, λ _. (refl, λ _. (refl, λ _. (refl, λ x. refl))))); about = λ file. refl }

check_known : Known check_command
unfolding commands_on_literals
check_known = record { found = refl; behind = (refl, λ _. (refl, λ x. refl)); about = λ file. refl }

pub each_known : AllKnown every_command
each_known = (trial_known, (explain_known, (records_known, (query_known, (init_known, (load_known, (migrate_known, (upgrade_known, (deliver_known, (report_known, (reports_known, (queries_known, (dump_known, (views_known, (status_known, (session_known, (plan_known, (check_known, tt))))))))))))))))))
