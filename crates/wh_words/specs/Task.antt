-- What each command of the program is to do, and its row in the table of all.
use Rattle.std.specs.Prelude.{ℕ, Bool, List, [], ◌∷◌, Option, Some, None, option_map, Result, Ok, Err, ok_or, nat_le, length, codes, bytes_eq, find, if◌then◌else◌}
use Rattle.clap.specs.Words.{Text}
use Rattle.wh_day.specs.Reading.{◌>>=◌, unless_fault}
use Rattle.wh_policy.specs.declared.attribute.Dim.{Dim}
use Rattle.wh_policy.specs.Words.{dim_of_word}
use Rattle.wh_batch.specs.declared.kind.BatchKind.{BatchKind}
use Rattle.wh_batch.specs.declared.kind.CommandKind.{CommandKind}
use Rattle.wh_batch.specs.declared.mode.Mode.{Mode}
use Rattle.wh_batch.specs.BatchKind.{kind_of_word, command_kind_of_word}
use Rattle.wh_batch.specs.Mode.{mode_of_word}
use Rattle.wh_batch.specs.Numbers.{read_digits}
use Rattle.wh_batch.specs.QueryWords.{ColumnGiven, ConditionGiven, column_given, condition_given}
use Rattle.wh_rows.specs.declared.table.Table.{Table}
use Rattle.wh_rows.specs.Names.{table_of_name}
use Rattle.wh_words.specs.Given.{Given, has_flag, optional_text, optional_word, word_for, words_for}
use Rattle.wh_words.specs.WrongWord.{no_dimension_line, no_kind_line, no_command_kind_line, no_explained_kind_line, no_mode_line, no_number_line, no_column_line, no_condition_line, too_many_columns_line, too_many_conditions_line, no_table_line}
use Rattle.wh_words.specs.declared.command.AskedReport.{AskedReport}
use Rattle.wh_words.specs.declared.command.Task.{Task as TaskFound}
use Rattle.wh_words.specs.declared.command.Task.TheVariants as found
use Rattle.wh_words.specs.declared.command.Work.{Work as WorkFound}
use Rattle.wh_words.specs.declared.command.Work.TheVariants as doing
use Rattle.wh_words.specs.declared.query.AskedQuery.{AskedQuery}

-- the words of a report: the attribute, the mode, and the first and the last day, as they were given
pub record ReportWords : Type 0 where
  pub attribute : Text
  pub mode : Mode
  pub from : Text
  pub to : Text

-- the words of a query: its columns and conditions, the first and the last day, as they were given, and whether a table is wanted
pub record QueryWords : Type 0 where
  pub columns : List ColumnGiven
  pub conditions : List ConditionGiven
  pub from : Text
  pub to : Text
  pub as_table : Bool

-- what is to be done with the warehouse in a file
pub data Work : Type 0 where
  Explain : CommandKind → (path : Option Text) → Work
  ExplainInit : (policy : Option Text) → Work
  Records : Dim → (from : ℕ) → Work
  Query : QueryWords → Work
  Init : (policy : Text) → Work
  Load : BatchKind → (id path : Text) → Work
  Migrate : (id policy : Text) → Work
  Upgrade : (id : Text) → Work
  Deliver : (manifest : Text) → Work
  Report : ReportWords → Work
  Reports : (list : Text) → Work
  Queries : (list : Text) → Work
  Dump : Table → Work
  Views : Work
  Status : Work
  Session : Work
  Plan : CommandKind → (id path : Text) → Work
  Check : Work

-- a trial is about no warehouse
pub data Task : Type 0 where
  Trial : Dim → (path : Text) → (policy : Option Text) → Task
  Over : (file : Text) → Work → Task

abbrev pub warehouse_of : Task → Option Text
warehouse_of (Trial dim path policy) = None
warehouse_of (Over file work) = Some file

-- ---- as the code has it

abbrev pub report_words : AskedReport → ReportWords
report_words asked = record { attribute = asked.attribute.now; mode = asked.mode; from = asked.from.now; to = asked.to.now }

abbrev pub query_words : AskedQuery → QueryWords
query_words asked = record { columns = asked.columns.items; conditions = asked.conditions.items; from = asked.from.now; to = asked.to.now; as_table = asked.as_table }

abbrev pub work_in : WorkFound → Work
work_in (doing.Explain kind path) = Explain kind (optional_text path)
work_in (doing.ExplainInit policy) = ExplainInit (optional_text policy)
work_in (doing.Records dim from) = Records dim from
work_in (doing.Query asked) = Query (query_words asked)
work_in (doing.Init policy) = Init policy.now
work_in (doing.Load kind id path) = Load kind id.now path.now
work_in (doing.Migrate id policy) = Migrate id.now policy.now
work_in (doing.Upgrade id) = Upgrade id.now
work_in (doing.Deliver manifest) = Deliver manifest.now
work_in (doing.Report asked) = Report (report_words asked)
work_in (doing.Reports list) = Reports list.now
work_in (doing.Queries list) = Queries list.now
work_in (doing.Dump table) = Dump table
work_in doing.Views = Views
work_in doing.Status = Status
work_in doing.Session = Session
work_in (doing.Plan kind id path) = Plan kind id.now path.now
work_in doing.Check = Check

abbrev pub task_in : TaskFound → Task
task_in (found.Trial dim path policy) = Trial dim path.now (optional_text policy)
task_in (found.Over file w) = Over file.now (work_in w)

-- ---- the commands

-- what a command takes beside operands that it can't do without: nothing, an option for a policy, an operand that can be left out, or the columns, the conditions and the form of a query
pub data Beside : Type 0 where
  Nothing : Beside
  Policy : Beside
  Optional : (name : Text) → Beside
  Columns : Beside

-- what the words ask for, or the line that says which of them is none of those that are listed: for a task, or for what is to be done with the warehouse that FILE names
pub data Asks : Type 0 where
  Alone : (Given → Result Task Text) → Asks
  OfFile : (Given → Result Work Text) → Asks

pub record Command : Type 0 where
  pub name : Text
  pub operands : List Text
  pub beside : Beside
  pub asks : Asks

abbrev pub FILE : Text
FILE = codes "FILE"

abbrev pub asked : Asks → Given → Result Task Text
asked (Alone asks) given = asks given
asked (OfFile asks) given = asks given >>= λ work. Ok (Over (word_for given FILE) work)

abbrev pub asks_of : Command → Given → Result Task Text
asks_of c given = asked c.asks given

abbrev pub trial_asked : Given → Result Task Text
trial_asked given =
    ok_or (option_map (λ dim. Trial dim (word_for given (codes "CSV")) (optional_word given (codes "POLICY"))) (dim_of_word (word_for given (codes "DIMENSION")))) (no_dimension_line (word_for given (codes "DIMENSION")))

abbrev pub trial_command : Command
trial_command = record { name = codes "trial"; operands = codes "DIMENSION" ∷ codes "CSV" ∷ []; beside = Policy; asks = Alone trial_asked }

-- what the warehouse takes, or the policy that makes one
abbrev pub explain_asked : Given → Result Work Text
explain_asked given =
    if bytes_eq (word_for given (codes "KIND")) (codes "init") then Ok (ExplainInit (optional_word given (codes "INPUT")))
    else ok_or (option_map (λ kind. Explain kind (optional_word given (codes "INPUT"))) (command_kind_of_word (word_for given (codes "KIND")))) (no_explained_kind_line (word_for given (codes "KIND")))

abbrev pub explain_command : Command
explain_command = record { name = codes "explain"; operands = FILE ∷ codes "KIND" ∷ []; beside = Optional (codes "INPUT"); asks = OfFile explain_asked }

-- with the line about the word in its place
abbrev pub with_line : {A : Type 0} → (Text → Text) → Result A Text → Result A Text
with_line line (Ok given) = Ok given
with_line line (Err word) = Err (line word)

-- the number of the first record that is wanted, 0 where none is given; or the word that is no number
abbrev pub from_asked : Option Text → Result ℕ Text
from_asked None = Ok 0
from_asked (Some word) = ok_or (read_digits 9 word) word

abbrev pub records_asked : Given → Result Work Text
records_asked given = ok_or (dim_of_word (word_for given (codes "DIMENSION"))) (no_dimension_line (word_for given (codes "DIMENSION")))
    >>= λ dim. with_line no_number_line (from_asked (optional_word given (codes "FROM"))) >>= λ from. Ok (Records dim from)

abbrev pub records_command : Command
records_command = record { name = codes "records"; operands = FILE ∷ codes "DIMENSION" ∷ []; beside = Optional (codes "FROM"); asks = OfFile records_asked }

-- what each word says, or the first that says nothing
abbrev pub each_given : {G : Type 0} → (Text → Option G) → List Text → Result (List G) Text
each_given given [] = Ok []
each_given given (word ∷ words) = ok_or (given word) word >>= λ first. each_given given words >>= λ others. Ok (first ∷ others)

-- the query of columns
abbrev pub query_by : Given → List ColumnGiven → Result Work Text
query_by given columns = with_line no_condition_line (each_given condition_given (words_for given (codes "WHERE")))
    >>= λ conditions. Ok (Query (record { columns = columns; conditions = conditions; from = word_for given (codes "FROM"); to = word_for given (codes "TO"); as_table = has_flag given (codes "TABLE") }))

abbrev pub query_of : Given → Result Work Text
query_of given = with_line no_column_line (each_given column_given (words_for given (codes "BY"))) >>= query_by given

-- up to six columns and up to twelve conditions
abbrev pub query_asked : Given → Result Work Text
query_asked given =
    unless_fault (nat_le (length (words_for given (codes "BY"))) 6) too_many_columns_line (unless_fault (nat_le (length (words_for given (codes "WHERE"))) 12) too_many_conditions_line (query_of given))

abbrev pub query_command : Command
query_command = record { name = codes "query"; operands = FILE ∷ codes "FROM" ∷ codes "TO" ∷ []; beside = Columns; asks = OfFile query_asked }

abbrev pub init_command : Command
init_command = record { name = codes "init"; operands = FILE ∷ codes "POLICY" ∷ []; beside = Nothing; asks = OfFile (λ given. Ok (Init (word_for given (codes "POLICY")))) }

abbrev pub load_asked : Given → Result Work Text
load_asked given = ok_or (option_map (λ kind. Load kind (word_for given (codes "ID")) (word_for given (codes "CSV"))) (kind_of_word (word_for given (codes "KIND")))) (no_kind_line (word_for given (codes "KIND")))

abbrev pub load_command : Command
load_command = record { name = codes "load"; operands = FILE ∷ codes "KIND" ∷ codes "ID" ∷ codes "CSV" ∷ []; beside = Nothing; asks = OfFile load_asked }

abbrev pub migrate_command : Command
migrate_command = record { name = codes "migrate"; operands = FILE ∷ codes "ID" ∷ codes "POLICY" ∷ []; beside = Nothing; asks = OfFile (λ given. Ok (Migrate (word_for given (codes "ID")) (word_for given (codes "POLICY")))) }

abbrev pub upgrade_command : Command
upgrade_command = record { name = codes "upgrade"; operands = FILE ∷ codes "ID" ∷ []; beside = Nothing; asks = OfFile (λ given. Ok (Upgrade (word_for given (codes "ID")))) }

abbrev pub deliver_command : Command
deliver_command = record { name = codes "deliver"; operands = FILE ∷ codes "MANIFEST" ∷ []; beside = Nothing; asks = OfFile (λ given. Ok (Deliver (word_for given (codes "MANIFEST")))) }

abbrev pub report_asked : Given → Result Work Text
report_asked given =
    ok_or (option_map (λ m. Report (record { attribute = word_for given (codes "ATTRIBUTE"); mode = m; from = word_for given (codes "FROM"); to = word_for given (codes "TO") })) (mode_of_word (word_for given (codes "MODE"))))
    (no_mode_line (word_for given (codes "MODE")))

abbrev pub report_command : Command
report_command = record { name = codes "report"; operands = FILE ∷ codes "ATTRIBUTE" ∷ codes "MODE" ∷ codes "FROM" ∷ codes "TO" ∷ []; beside = Nothing; asks = OfFile report_asked }

abbrev pub reports_command : Command
reports_command = record { name = codes "reports"; operands = FILE ∷ codes "LIST" ∷ []; beside = Nothing; asks = OfFile (λ given. Ok (Reports (word_for given (codes "LIST")))) }

abbrev pub queries_command : Command
queries_command = record { name = codes "queries"; operands = FILE ∷ codes "LIST" ∷ []; beside = Nothing; asks = OfFile (λ given. Ok (Queries (word_for given (codes "LIST")))) }

abbrev pub dump_asked : Given → Result Work Text
dump_asked given = ok_or (option_map (λ table. Dump table) (table_of_name (word_for given (codes "TABLE")))) (no_table_line (word_for given (codes "TABLE")))

abbrev pub dump_command : Command
dump_command = record { name = codes "dump"; operands = FILE ∷ codes "TABLE" ∷ []; beside = Nothing; asks = OfFile dump_asked }

abbrev pub views_command : Command
views_command = record { name = codes "views"; operands = FILE ∷ []; beside = Nothing; asks = OfFile (λ given. Ok Views) }

abbrev pub status_command : Command
status_command = record { name = codes "status"; operands = FILE ∷ []; beside = Nothing; asks = OfFile (λ given. Ok Status) }

abbrev pub session_command : Command
session_command = record { name = codes "session"; operands = FILE ∷ []; beside = Nothing; asks = OfFile (λ given. Ok Session) }

abbrev pub plan_asked : Given → Result Work Text
plan_asked given =
    ok_or (option_map (λ kind. Plan kind (word_for given (codes "ID")) (word_for given (codes "INPUT"))) (command_kind_of_word (word_for given (codes "KIND")))) (no_command_kind_line (word_for given (codes "KIND")))

abbrev pub plan_command : Command
plan_command = record { name = codes "plan"; operands = FILE ∷ codes "KIND" ∷ codes "ID" ∷ codes "INPUT" ∷ []; beside = Nothing; asks = OfFile plan_asked }

abbrev pub check_command : Command
check_command = record { name = codes "check"; operands = FILE ∷ []; beside = Nothing; asks = OfFile (λ given. Ok Check) }

-- all commands, in the order of the program's table
abbrev pub every_command : List Command
every_command = trial_command ∷ explain_command ∷ records_command ∷ query_command ∷ init_command ∷ load_command ∷ migrate_command ∷ upgrade_command ∷ deliver_command ∷ report_command ∷ reports_command ∷ queries_command ∷ dump_command
    ∷ views_command ∷ status_command ∷ session_command ∷ plan_command ∷ check_command ∷ []

-- the command of a name
unfoldable pub command_of : Text → Option Command
command_of name = find (λ c. bytes_eq name c.name) every_command
