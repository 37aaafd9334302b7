-- What reports and dumps answer, and what they leave of what stood.
use Rattle.std.proofs.Common.{◌≡◌, ◌∙◌, inl, inr, refl, sym, ap, subst, ℕ, List, [], ◌∷◌, ◌++◌, append_assoc, append-nil, Bool, true, false, Option, Some, None, Ok, Err}
use Rattle.std.specs.Prelude.{Result, IfOk, IsOk, not, nat_lt, ok_or}
use Rattle.std.specs.declared.alloc.AllocError.{AllocError}
use Rattle.std.specs.declared.alloc.Global.{Global}
use Rattle.std.specs.declared.vec.Vec.{Vec}
use Rattle.std.specs.Io.KnownBytes.{Appends}
use Rattle.std.specs.List.{concat}
use Rattle.std.proofs.KnownBytes.{Appends-nil}
use Rattle.std.proofs.lemmas.Result.{IfOk-weaker}
use Rattle.sqlite.specs.State.{State}
use Rattle.wh_day.specs.Day.{read_day}
use Rattle.wh_day.specs.Reading.{◌>>=◌, unless_fault}
use Rattle.wh_policy.specs.declared.policy.Policy.{Policy}
use Rattle.wh_history.specs.Accepted.{Accepted}
use Rattle.wh_history.specs.Tables.{Limits}
use Rattle.wh_rows.specs.AtRest.{IsAtRest}
use Rattle.wh_admission.specs.Admission.{current_policy, AreAdmitted}
use Rattle.wh_engine.specs.Answered as engine
use Rattle.wh_engine.specs.Answered.{IsReady}
use Rattle.wh_engine.specs.Scanned.{IsServing}
use Rattle.wh_engine.specs.declared.fault.Fault.{Fault}
use Rattle.wh_engine.specs.declared.fault.Fault.TheVariants as fault
use Rattle.wh_engine.specs.declared.session.Session.{Session}
use Rattle.wh_policy.specs.declared.attribute.Dim.{Dim}
use Rattle.wh_query.specs.Answered.{Answers}
use Rattle.wh_query.specs.Asked.{QueryAsked, in_form}
use Rattle.wh_records.specs.Parts.{IsPartAt}
use Rattle.wh_records.specs.declared.part.Part.{Part}
use Rattle.wh_rows.specs.declared.table.Table.{Table}
use Rattle.wh_store.specs.declared.fault.OpenFault.{OpenFault}
use Rattle.wh_store.specs.declared.fault.OpenFault.TheVariants as opening
use Rattle.wh_report.specs.Asked.{Asked}
use Rattle.wh_report.specs.Output.{AreOut, IsOutBut, IsOutInLines, IsOfDump, of_warehouse}
use Rattle.wh_report.specs.Reported.{Reports}
use Rattle.wh_report.specs.Request.{read_request, subject_reads, has_reading, no_reading}
use Rattle.wh_report.specs.Subject.{subject_in}
use Rattle.wh_batch.specs.declared.mode.Mode.{Mode}
use Rattle.wh_report.specs.declared.output.ReportFault.{ReportFault}
use Rattle.wh_report.specs.declared.output.ReportFault.TheVariants as report
use Rattle.wh_report.specs.declared.request.RequestFault.{RequestFault}
use Rattle.wh_report.specs.declared.request.RequestFault.TheVariants.{NoAttribute, BadRange}
use Rattle.wh_report.specs.declared.subject.Subject.{Subject}
use Rattle.wh_program.specs.Answer.{Printed, done, refused}
use Rattle.wh_program.specs.Reply.{fault_answer, records_answer, request_line, report_answer}
use Rattle.wh_program.specs.Readings.{LeavesRead, IsDumped, asked_under, asked_answer, queried_under, form_asked, queried_answer, query_answered, records_answered, IsAnsweredBy, answer_after, TellsLines, SaysStop, SaysWriteFailed}
use Rattle.wh_program.specs.ReportsRead.{IsReadFor}
use Rattle.wh_program.specs.Run.{Prints}
use Rattle.wh_program.specs.Standing.{DatabaseContent, Nothing, Holds, Keeps, Is, IsOfCommands, Standing, Rests, LeavesIt, IsAt, Stands}
use Rattle.wh_words.specs.Task.{QueryWords, ReportWords}
use Rattle.wh_program.specs.Warehouse.{Shown, printed, LeavesUnopened, LeavesUnread, Shows}
use Rattle.wh_program.proofs.RunLemmas.{prints-answer_after, prints-cut}
use Rattle.wh_program.proofs.WarehouseLemmas.{left as ended}

-- ---- what is left

-- what a call that reads through an engine leaves, as what stands
pub left : (limits : Limits) (commands : List Accepted) (read : Result (Unit {0}) Fault) (session : Session) (s : State) → IsServing limits commands read session s
    → (after : Standing) × LeavesRead limits commands read after × Stands after s
left limits commands read session s serving = ended IsOk commands commands limits read session s serving

-- a warehouse that is opened, and what is done then and printed
pub opened-printing : (does : Limits → List Accepted → Shown → Standing → Type 0) (prints : Shown → Type 0) (content : DatabaseContent) (first : Session) (s0 s1 s2 : State)
    → ((limits : Limits) (commands : List Accepted) → AreAdmitted limits commands → engine.Rests limits commands s0 → IsReady limits commands first s1)
    → ((limits : Limits) (commands : List Accepted) → IsReady limits commands first s1 → (after : Standing) × ((shown : Shown) × does limits commands shown after × prints shown) × Stands after s2)
    → (IsAtRest None s0 → ⊥)
    → ((what : DatabaseContent) → IsAt what s0 → IsAt what s1)
    → ((what : DatabaseContent) → IsAt what s1 → (after : Standing) × LeavesIt what after × Stands after s2)
    → ((limits : Limits) (commands : List Accepted) (shown : Shown) (after : Standing) → does limits commands shown after → LeavesIt (Holds limits commands) after)
    → IsAt content s0 → (after : Standing) × ((IsOfCommands content → (shown : Shown) × Shows does content shown after × prints shown) × LeavesIt content after) × Stands after s2
opened-printing does prints content first s0 s1 s2 opens works missing same looked leaves at = elim content as (λ what. IsAt what s0 → (after : Standing) × ((IsOfCommands what → (shown : Shown) × Shows does what shown after × prints shown) × LeavesIt what after) × Stands after s2) [
  | Nothing ↦ λ at. absurd (missing at)
  | Holds limits commands ↦ λ at.
      let worked = works limits commands (opens limits commands at.0 at.1) in
      (worked.0, ((λ _. (worked.1.0, inl worked.1.1, worked.1.2)), leaves limits commands worked.1.0 worked.0 worked.1.1), worked.2)
  | Keeps stored ↦ λ at. let it = looked (Keeps stored) (same (Keeps stored) at) in (it.0, ((λ none. absurd none), it.1), it.2)
  | Is db ↦ λ at. let it = looked (Is db) (same (Is db) at) in (it.0, ((λ none. absurd none), it.1), it.2)
] at

-- ---- what stands is left

read_left : (limits : Limits) (commands : List Accepted) (read : Result (Unit {0}) Fault) (after : Standing) → LeavesRead limits commands read after → LeavesIt (Holds limits commands) after
read_left limits commands (Ok read) after leaves = inl leaves.1
read_left limits commands (Err (fault.Refused why)) after leaves = inl leaves.1
read_left limits commands (Err fault.Memory) after leaves = inl leaves
read_left limits commands (Err (fault.Store cause)) after leaves = inr leaves
read_left limits commands (Err (fault.Damaged table)) after leaves = absurd leaves
read_left limits commands (Err fault.Reopen) after leaves = absurd leaves

pub dumped_left : (table : Table) (limits : Limits) (commands : List Accepted) (shown : Shown) (after : Standing) → IsDumped table limits commands shown after → LeavesIt (Holds limits commands) after
dumped_left table limits commands shown after is = read_left limits commands is.read after is.leaves

unopened_left : (limits : Limits) (commands : List Accepted) (why : OpenFault) (after : Standing) → LeavesUnopened limits commands why after → LeavesIt (Holds limits commands) after
unopened_left limits commands opening.NotAWarehouse after none = absurd none
unopened_left limits commands opening.OldFormat after none = absurd none
unopened_left limits commands opening.NewFormat after none = absurd none
unopened_left limits commands (opening.Damaged table) after none = absurd none
unopened_left limits commands opening.Memory after is = inl is
unopened_left limits commands (opening.Store cause) after is = inr is

unread_left : (content : DatabaseContent) (why : OpenFault) (after : Standing) → LeavesUnread content why after → LeavesIt content after
unread_left content opening.NotAWarehouse after is = inl is
unread_left content opening.OldFormat after is = inl is
unread_left content opening.NewFormat after is = inl is
unread_left content (opening.Damaged table) after is = inl is
unread_left content opening.Memory after is = inl is
unread_left content (opening.Store cause) after is = inr is

-- What only looks leaves what stands, where it leaves accepted commands.
module _ (does : Limits → List Accepted → Shown → Standing → Type 0) where
  pub shown_left : (content : DatabaseContent) (shown : Shown) (after : Standing) → ((limits : Limits) (commands : List Accepted) → does limits commands shown after → LeavesIt (Holds limits commands) after)
      → Shows does content shown after → LeavesIt content after
  shown_left Nothing shown after leaves shows = inl shows.0
  shown_left (Holds limits commands) shown after leaves (inl did) = leaves limits commands did
  shown_left (Holds limits commands) shown after leaves (inr not) = unopened_left limits commands not.why after not.leaves
  shown_left (Keeps stored) shown after leaves (inl did) = did.1
  shown_left (Keeps stored) shown after leaves (inr not) = unread_left (Keeps stored) not.why after not.leaves
  shown_left (Is db) shown after leaves (inl did) = did
  shown_left (Is db) shown after leaves (inr not) = unread_left (Is db) not.why after not.leaves

-- ---- what is asked

range_asked : (holds : Bool) (made request : Asked) → unless_fault holds BadRange (Ok made) ≡ Ok request → request ≡ made
range_asked true made request is = cc
range_asked false made request is = absurd (cc)

days_asked : (words : List ℕ) (mode : Mode) (from to : Option ℕ) (request : Asked)
    → (ok_or from BadRange >>= λ first. ok_or to BadRange >>= λ last. unless_fault (not (nat_lt last first)) BadRange (Ok (record { words = words; mode = mode; from = first; to = last }))) ≡ Ok request
    → (request.words ≡ words) × (request.mode ≡ mode)
days_asked words mode None to request is = absurd (cc)
days_asked words mode (Some first) None request is = absurd (cc)
days_asked words mode (Some first) (Some last) request is =
    let made = range_asked (not (nat_lt last first)) (record { words = words; mode = mode; from = first; to = last }) request is in
    (ap (λ (r : Asked). r.words) made, ap (λ (r : Asked). r.mode) made)

-- where something was given, the test before it held
past_test : (holds : Bool) (why : RequestFault) (read : Result Asked RequestFault) (request : Asked) → unless_fault holds why read ≡ Ok request → (holds ≡ true) × (read ≡ Ok request)
past_test true why read request is = (refl, is)
past_test false why read request is = absurd (cc)

subject_asked : (found : Option Subject) (mode : Mode) (read : Subject → Result Asked RequestFault) (request : Asked)
    → (ok_or found NoAttribute >>= λ subject. unless_fault (subject_reads mode (Some subject)) (no_reading subject mode) (read subject)) ≡ Ok request
    → (subject_reads mode found ≡ true) × ((subject : Subject) × (read subject ≡ Ok request))
subject_asked None mode read request is = absurd (cc)
subject_asked (Some subject) mode read request is = let past = past_test (subject_reads mode (Some subject)) (no_reading subject mode) (read subject) request is in (past.0, (subject, past.1))

-- a request that is given has a reading
pub given-reads : (policy : Policy) (words : List ℕ) (mode : Mode) (from to : List ℕ) (request : Asked) → read_request policy words mode from to ≡ Ok request → has_reading policy request ≡ true
unfolding read_request
given-reads policy words mode from to request is =
    let found = subject_asked (subject_in policy words) mode (λ subject. ok_or (read_day from) BadRange >>= λ first. ok_or (read_day to) BadRange >>= λ last.
    unless_fault (not (nat_lt last first)) BadRange (Ok (record { words = words; mode = mode; from = first; to = last }))) request is in
    let same = days_asked words mode (read_day from) (read_day to) request found.1.1 in
    rw (same.0, same.1) found.0

-- ---- report

module _ (words : ReportWords) (limits : Limits) (commands : List Accepted) (shown : Shown) (session : Session) (s : State) where
  -- the warehouse was read for the words of a report
  abbrev IsAsked : Type 0
  IsAsked = IsReadFor (asked_answer commands (asked_under (current_policy commands) words)) shown limits commands session s

  -- it was worked out
  pub reported : (request : Asked) (worked : Result (Vec ℕ Global) ReportFault) → asked_under (current_policy commands) words ≡ Ok request → Reports commands request worked
      → IfOk shown (λ a. a ≡ report_answer worked) → IsServing limits commands (of_warehouse worked) session s → IsAsked
  reported request (Ok text) is reports tells serving = record { read = Ok tt; serves = serving; tells = IfOk-weaker shown _ _ (λ a e. e ∙ ap done reports ∙ sym (ap (asked_answer commands) is)) tells }
  reported request (Err report.Write) is none tells serving = absurd none
  reported request (Err (report.Warehouse why)) is wanting tells serving = record { read = Err why; serves = serving; tells = tells }
  reported request (Err (report.Unwritten why)) is none tells serving = absurd none
  reported request (Err (report.Inconsistent table)) is none tells serving = absurd none

  -- or it can't be asked for
  pub not_asked : (why : RequestFault) → asked_under (current_policy commands) words ≡ Err why → IfOk shown (λ a. a ≡ refused (request_line why)) → IsReady limits commands session s → IsAsked
  not_asked why is tells ready = record { read = Ok tt; serves = (refl, ready); tells = IfOk-weaker shown _ _ (λ a e. e ∙ sym (ap (asked_answer commands) is)) tells }

-- what stands once the warehouse was read for an answer
pub answer_stands : (answer : List Accepted → Printed) (limits : Limits) (commands : List Accepted) (shown : Shown) (session : Session) (s : State) → IsReadFor (answer commands) shown limits commands session s
    → (after : Standing) × IsAnsweredBy answer limits commands shown after × Stands after s
answer_stands answer limits commands shown session s asks = let l = left limits commands asks.read session s asks.serves in (l.0, record { read = asks.read; leaves = l.1; tells = asks.tells }, l.2)

-- ---- query

module _ (words : QueryWords) (limits : Limits) (commands : List Accepted) (shown : Shown) (session : Session) (s : State) where
  abbrev IsQueried : Type 0
  IsQueried = IsReadFor (query_answered words commands) shown limits commands session s

  -- it was worked out
  pub queried : (q : QueryAsked) (worked : Result (Vec ℕ Global) ReportFault) → queried_under (current_policy commands) words ≡ Ok q → Answers commands (in_form (form_asked words.as_table) q) worked
      → IfOk shown (λ a. a ≡ report_answer worked) → IsServing limits commands (of_warehouse worked) session s → IsQueried
  queried q (Ok text) is answers tells serving = record { read = Ok tt; serves = serving; tells = IfOk-weaker shown _ _ (λ a e. e ∙ ap done answers ∙ sym (ap (queried_answer commands (form_asked words.as_table)) is)) tells }
  queried q (Err report.Write) is none tells serving = absurd none
  queried q (Err (report.Warehouse why)) is wanting tells serving = record { read = Err why; serves = serving; tells = tells }
  queried q (Err (report.Unwritten why)) is none tells serving = absurd none
  queried q (Err (report.Inconsistent table)) is none tells serving = absurd none

  -- or it can't be asked for
  pub no_query : (why : RequestFault) → queried_under (current_policy commands) words ≡ Err why → IfOk shown (λ a. a ≡ refused (request_line why)) → IsReady limits commands session s → IsQueried
  no_query why is tells ready = record { read = Ok tt; serves = (refl, ready); tells = IfOk-weaker shown _ _ (λ a e. e ∙ sym (ap (queried_answer commands (form_asked words.as_table)) is)) tells }

-- ---- records

-- the batch was made, or it wasn't
pub carried_read : (dim : Dim) (from : ℕ) (limits : Limits) (commands : List Accepted) (shown : Shown) (session : Session) (s : State) (found : Result Part Fault) → IfOk found (IsPartAt (current_policy commands) commands dim from)
    → IfOk shown (λ a. a ≡ records_answer found) → IsServing limits commands found session s → IsReadFor (records_answered dim from commands) shown limits commands session s
carried_read dim from limits commands shown session s (Ok part) is tells serving = record { read = Ok tt; serves = serving; tells = IfOk-weaker shown _ _ (λ a e. e ∙ ap done is.text) tells }
carried_read dim from limits commands shown session s (Err why) is tells serving = record { read = Err why; serves = serving; tells = tells }

-- no memory for what is asked
pub not_read : (answer : Printed) (e : AllocError) (limits : Limits) (commands : List Accepted) (session : Session) (s : State) → IsReady limits commands session s → IsReadFor answer (Err e) limits commands session s
not_read answer e limits commands session s ready = record { read = Ok tt; serves = (refl, ready); tells = tt }

-- ---- dump

-- the first lines went out, and then the fault was said
lines-out : (lines out : List (List ℕ)) (why : Fault) (old mid new : Option (List ℕ)) (code : ℕ) → AreOut out lines old mid → SaysStop (report.Warehouse why) mid new code
    → (shown : Shown) × TellsLines lines (Err why) shown × Prints old new code (printed shown)
lines-out lines out why old mid new code are (line, tells, prints) = (
  Ok (answer_after (concat out) (printed line)),
  record { out = out; left = are.left; whole = are.whole; line = line; tells = tells; shown_is = refl },
  prints-answer_after old mid new code (concat out) (printed line) are.went prints,
)

-- the writer failed within lines that were to go out before the line of a fault
cut-before : (lines : List (List ℕ)) (why : Fault) (old mid new : Option (List ℕ)) (code byte : ℕ) (rest : List ℕ) → IsOutBut (byte ∷ rest) old mid (concat lines) → SaysWriteFailed mid new code
    → (shown : Shown) × TellsLines lines (Err why) shown × Prints old new code (printed shown)
cut-before lines why old mid new code byte rest but says =
    let line = fault_answer why in (
      Ok (answer_after (concat lines) line),
      record { out = lines; left = []; whole = sym (append-nil lines); line = Ok line; tells = refl; shown_is = refl },
      prints-cut old mid new code (answer_after (concat lines) line) but.part byte (rest ++ line.text) (ap (λ (t : List ℕ). t ++ line.text) but.whole ∙ append_assoc but.part (byte ∷ rest) line.text) but.went says,
    )

-- what is answered where a dump was stopped, by what went out of it and what was said after that
pub stopped-dump : (lines : List (List ℕ)) (why : ReportFault) (old mid new : Option (List ℕ)) (code : ℕ) → IsOfDump why → IsOutInLines (Err why) old mid lines → SaysStop why mid new code
    → (shown : Shown) × TellsLines lines (of_warehouse {A = Unit {0}} (Err why)) shown × Prints old new code (printed shown)
stopped-dump lines report.Write old mid new code of (byte, rest, but) says = (Ok (done (concat lines)), refl, prints-cut old mid new code (done (concat lines)) but.part byte rest but.whole but.went says)
stopped-dump lines (report.Unwritten why) old mid new code of (byte, rest, but) says = cut-before lines why old mid new code byte rest but says
stopped-dump lines (report.Warehouse fault.Memory) old mid new code of (out, are) says = lines-out lines out fault.Memory old mid new code are says
stopped-dump lines (report.Warehouse fault.Reopen) old mid new code of same says =
    lines-out lines [] fault.Reopen old mid new code (record { left = lines; whole = refl; went = subst (λ m. Appends old m []) (sym same) (Appends-nil old) }) says
stopped-dump lines (report.Warehouse (fault.Refused why)) old mid new code of (first, more, are) says = lines-out lines (first ∷ more) (fault.Refused why) old mid new code are says
stopped-dump lines (report.Warehouse (fault.Damaged table)) old mid new code of (first, more, are) says = lines-out lines (first ∷ more) (fault.Damaged table) old mid new code are says
stopped-dump lines (report.Warehouse (fault.Store cause)) old mid new code of (first, more, are) says = lines-out lines (first ∷ more) (fault.Store cause) old mid new code are says
stopped-dump lines (report.Inconsistent table) old mid new code none out says = absurd none
