-- What a run of each command prints and leaves.
use Rattle.std.specs.Prelude.{◌≡◌, ◌≢◌, ⊤, ℕ, List, Option, Some, None, IfOk}
use Rattle.wh_batch.specs.declared.kind.CommandKind.TheVariants.{Batch, Migration}
use Rattle.wh_program.specs.Answer.{Printed, AnswersTrial, refused, session_line}
use Rattle.wh_program.specs.Check.{AnswersCheck}
use Rattle.wh_program.specs.Delivery.{AnswersDelivery, LacksManifest}
use Rattle.wh_program.specs.Explained.{AnswersExplanation, IsPolicyExplained, LacksInputAsked}
use Rattle.wh_program.specs.Inputs.{Files, Refusals, up_to, batch_limit, policy_limit, as_input}
use Rattle.wh_program.specs.Readings.{AnswersReport, AnswersQuery, AnswersRecords, AnswersDump}
use Rattle.wh_program.specs.ReportLists.{AnswersReports, LacksList}
use Rattle.wh_program.specs.QueryLists.{AnswersQueries, LacksQueries}
use Rattle.wh_program.specs.Standing.{DatabaseContent, IsOfCommands, Standing, Rests, LeavesIt}
use Rattle.wh_program.specs.Viewed.{AnswersViews}
use Rattle.wh_words.specs.Task.{Task, Trial, Over, Init, Load, Migrate, Upgrade, Deliver, Plan, Explain, ExplainInit, Records, Query, Report, Reports, Queries, Dump, Views, Check, Status, Session, warehouse_of}
use Rattle.wh_program.specs.Warehouse.{Shown, Makes, Sends, Plans, AnswersWith, AnswersUpgrade, AnswersStatus, IsJudgedFirst, PrintsShut, IsNoFileOr, LacksFile, LacksPolicy}

-- what a host stores under its names
abbrev pub Stores : Type 1
Stores = List ℕ → Standing → Type 0

-- what stood under any name but the file's, where there is one, stands there after
abbrev pub SparesOthers : (before after : Stores) → (file : Option (List ℕ)) → Type 0
SparesOthers before after None = (other : List ℕ) (standing : Standing) → before other standing → after other standing
SparesOthers before after (Some file) = (other : List ℕ) (standing : Standing) → other ≢ file → before other standing → after other standing

-- over what stands under a file: this is answered and printed
abbrev pub RunsOver : Stores → (file : List ℕ) → (DatabaseContent → Shown → Type 0) → (Shown → Type 0) → Type 0
RunsOver before file answers prints = (content : DatabaseContent) → before file (Rests content) → (shown : Shown) × answers content shown × prints shown

-- the same over what accepted commands left there
abbrev pub RunsOverCommands : Stores → (file : List ℕ) → (DatabaseContent → Shown → Type 0) → (Shown → Type 0) → Type 0
RunsOverCommands before file answers prints = (content : DatabaseContent) → IsOfCommands content → before file (Rests content) → (shown : Shown) × answers content shown × prints shown

-- what stands there is left, whatever it is
abbrev pub LeavesWhatStands : (before after : Stores) → (file : List ℕ) → Type 0
LeavesWhatStands before after file = (content : DatabaseContent) → before file (Rests content) → (standing : Standing) × LeavesIt content standing × after file standing

-- the same of an answer that is printed as it comes, by how much of it goes out
abbrev pub RunsAlong : Stores → (file : List ℕ) → (Option ℕ → DatabaseContent → Shown → Type 0) → (Option ℕ → Shown → Type 0) → Type 0
RunsAlong before file answers goes_out = (content : DatabaseContent) → before file (Rests content) → (cut : Option ℕ) × (shown : Shown) × answers cut content shown × goes_out cut shown

-- What is answered and printed, by the files that a host holds, each as far as it is read, by the names that it refuses, by what it stores before and after, by
-- whether it is the same as before, and by how much of an answer goes out.
abbrev pub Runs : Files → Refusals → (before after : Stores) → (same : Type 0) → (prints : Shown → Type 0) → (goes_out : Option ℕ → Shown → Type 0) → Task → Type 0
Runs holds refuses before after same prints goes_out (Trial dim path policy) = same × ((shown : Shown) × IfOk shown (AnswersTrial holds dim path policy) × prints shown)
Runs holds refuses before after same prints goes_out (Over file (Init policy)) =
    RunsOver before file (λ content shown. AnswersWith (up_to policy_limit holds) refuses (after file) Makes content file policy shown) prints
    × ((shown : Shown) × IsJudgedFirst (up_to policy_limit holds) same policy shown × prints shown)
Runs holds refuses before after same prints goes_out (Over file (Load kind id path)) = RunsOver before file (λ content shown. AnswersWith (up_to batch_limit holds) refuses (after file) (Sends (Batch kind) id) content file path shown) prints
Runs holds refuses before after same prints goes_out (Over file (Migrate id policy)) = RunsOver before file (λ content shown. AnswersWith (up_to policy_limit holds) refuses (after file) (Sends Migration id) content file policy shown) prints
Runs holds refuses before after same prints goes_out (Over file (Upgrade id)) = RunsOver before file (λ content shown. AnswersUpgrade refuses (after file) content file id shown) prints
Runs holds refuses before after same prints goes_out (Over file (Deliver manifest)) = RunsAlong before file (λ cut content shown. AnswersDelivery holds refuses (after file) cut content file manifest shown) goes_out
Runs holds refuses before after same prints goes_out (Over file (Plan kind id path)) = RunsOver before file (λ content shown. AnswersWith (as_input kind holds) refuses (after file) (Plans kind id) content file path shown) prints
Runs holds refuses before after same prints goes_out (Over file (Explain kind path)) = RunsOver before file (λ content shown. AnswersExplanation holds refuses (after file) content file kind path shown) prints
Runs holds refuses before after same prints goes_out (Over file (ExplainInit policy)) = same × ((shown : Shown) × IfOk shown (IsPolicyExplained holds policy) × prints shown)
Runs holds refuses before after same prints goes_out (Over file (Records dim from)) = RunsOver before file (λ content shown. AnswersRecords refuses (after file) content file dim from shown) prints
Runs holds refuses before after same prints goes_out (Over file (Query words)) = RunsOver before file (λ content shown. AnswersQuery refuses (after file) content file words shown) prints
Runs holds refuses before after same prints goes_out (Over file (Report words)) = RunsOver before file (λ content shown. AnswersReport refuses (after file) content file words shown) prints
Runs holds refuses before after same prints goes_out (Over file (Reports list)) = RunsOver before file (λ content shown. AnswersReports holds refuses (after file) content file list shown) prints
Runs holds refuses before after same prints goes_out (Over file (Queries list)) = RunsOver before file (λ content shown. AnswersQueries holds refuses (after file) content file list shown) prints
Runs holds refuses before after same prints goes_out (Over file (Dump table)) = RunsOverCommands before file (λ content shown. AnswersDump refuses (after file) content file table shown) prints × LeavesWhatStands before after file
Runs holds refuses before after same prints goes_out (Over file Views) = RunsOver before file (λ content shown. AnswersViews refuses (after file) content file shown) prints
Runs holds refuses before after same prints goes_out (Over file Check) = RunsOver before file (λ content shown. AnswersCheck refuses (after file) content file shown) prints
Runs holds refuses before after same prints goes_out (Over file Status) = RunsOver before file (λ content shown. AnswersStatus refuses (after file) content file shown) prints
Runs holds refuses before after same prints goes_out (Over file Session) = same × ((shown : Shown) × IfOk shown (λ a. a ≡ refused session_line) × prints shown)

-- what is answered to a command before its warehouse is opened
abbrev pub IsAnsweredBefore : Files → Task → Printed → Type 0
IsAnsweredBefore holds (Over file (Init policy)) a = LacksPolicy (up_to policy_limit holds) policy a
IsAnsweredBefore holds (Over file (Load kind id path)) a = LacksFile (as_input (Batch kind) holds) path a
IsAnsweredBefore holds (Over file (Migrate id policy)) a = LacksFile (as_input Migration holds) policy a
IsAnsweredBefore holds (Over file (Deliver manifest)) a = LacksManifest holds manifest a
IsAnsweredBefore holds (Over file (Plan kind id path)) a = LacksFile (as_input kind holds) path a
IsAnsweredBefore holds (Over file (Explain kind path)) a = LacksInputAsked holds kind path a
IsAnsweredBefore holds (Over file (ExplainInit policy)) a = IsPolicyExplained holds policy a
IsAnsweredBefore holds (Over file (Reports list)) a = LacksList holds list a
IsAnsweredBefore holds (Over file (Queries list)) a = LacksQueries holds list a
IsAnsweredBefore holds (Over file Session) a = a ≡ refused session_line
IsAnsweredBefore holds task a = ⊥

-- the name is one that the host can't open: then this holds
abbrev pub WhenShut : (shut : List ℕ → Type 0) → Option (List ℕ) → (List ℕ → Type 0) → Type 0
WhenShut shut None says = ⊤
WhenShut shut (Some file) says = shut file → says file

-- What is printed where the host can't open the warehouse's name: its line, or what is answered before; and nothing changed.
abbrev pub RunsShut : (shut : List ℕ → Type 0) → Files → (same : Type 0) → (prints : Shown → Type 0) → Task → Type 0
RunsShut shut holds same prints task = WhenShut shut (warehouse_of task) (λ file. PrintsShut same (IsNoFileOr file (IsAnsweredBefore holds task)) prints)
