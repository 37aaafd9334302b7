-- The answers to the questions of a list, one after the other.
use Rattle.std.proofs.Common.{◌≡◌, ◌≢◌, ◌∙◌, inl, inr, refl, sym, ap, ap₂, subst, arith, true≢false, Bool, true, false, ℕ, ◌+◌, ◌<◌, ◌≤◌, List, [], ◌∷◌, ◌++◌, length, take, map, get_or, Option, Some, None, Ok, Err}
use Rattle.std.specs.Prelude.{◌==◌, Result, IfOk}
use Rattle.std.proofs.lemmas.Bool.{eqb-true}
use Rattle.std.proofs.lemmas.List.{length-map, map_push, take-map, take_all, take_more}
use Rattle.sqlite.specs.State.{State}
use Rattle.wh_batch.specs.declared.report_list.ListedReport.{ListedReport}
use Rattle.wh_history.specs.Accepted.{Accepted}
use Rattle.wh_history.specs.Tables.{Limits}
use Rattle.wh_admission.specs.Admission.{current_policy}
use Rattle.wh_engine.specs.Answered.{IsReady}
use Rattle.wh_engine.specs.Scanned.{IsServing}
use Rattle.wh_engine.specs.declared.fault.Fault.{Fault}
use Rattle.wh_engine.specs.declared.fault.Fault.TheVariants as fault
use Rattle.wh_engine.specs.declared.session.Session.{Session}
use Rattle.wh_query.specs.Asked.{QueryAsked}
use Rattle.wh_query.specs.declared.form.Form.{Form}
use Rattle.wh_report.specs.Asked.{Asked}
use Rattle.wh_batch.specs.Mode.{mode_of_word}
use Rattle.wh_batch.specs.declared.mode.Mode.{Mode}
use Rattle.wh_report.specs.declared.request.RequestFault.{RequestFault}
use Rattle.wh_program.specs.Answer.{Printed}
use Rattle.wh_program.specs.Lists.{Questions, answers_to, whole_answer, IsListed}
use Rattle.wh_program.specs.Readings.{asked_answer, asked_under, form_asked, query_answered, queried_answer, queried_under, read_answer}
use Rattle.wh_program.specs.ReportLists.{answer_in, listed_answer}
use Rattle.wh_program.specs.ReportsRead.{IsReadFor, AreReadFor}
use Rattle.wh_program.specs.Standing.{Standing, Stands}
use Rattle.wh_program.specs.Warehouse.{Shown}
use Rattle.wh_words.specs.Task.{QueryWords}
use Rattle.wh_program.proofs.ReadingLemmas.{left}

-- ---- no question over accepted commands fails

unfailed_report : (commands : List Accepted) (found : Result Asked RequestFault) → (asked_answer commands found).status ≢ 3
unfailed_report commands (Ok request) = λ e. absurd (omega (arith, e))
unfailed_report commands (Err why) = λ e. absurd (omega (arith, e))

unfailed_in : (commands : List Accepted) (listed : ListedReport) (mode : Option Mode) → (answer_in listed mode commands).status ≢ 3
unfailed_in commands listed None = λ e. absurd (omega (arith, e))
unfailed_in commands listed (Some mode) = unfailed_report commands _

pub unfailed_listed : (listed : ListedReport) (commands : List Accepted) → (listed_answer listed commands).status ≢ 3
unfailed_listed listed commands = unfailed_in commands listed (mode_of_word listed.mode)

unfailed_found : (commands : List Accepted) (form : Form) (found : Result QueryAsked RequestFault) → (queried_answer commands form found).status ≢ 3
unfailed_found commands form (Ok query) = λ e. absurd (omega (arith, e))
unfailed_found commands form (Err why) = λ e. absurd (omega (arith, e))

pub unfailed_query : (words : QueryWords) (commands : List Accepted) → (query_answered words commands).status ≢ 3
unfailed_query words commands = unfailed_found commands (form_asked words.as_table) (queried_under (current_policy commands) words)

-- whether an answer has failed
abbrev failed_as : Printed → Bool
failed_as answer = answer.status == 3

module _ {Q : Type 0} (answered : Q → List Accepted → Printed) (limits : Limits) (commands : List Accepted) (session : Session) (s : State) where
  -- ---- one answer

  -- one that hasn't failed is that of the question, and the engine is ready for the next
  went_on : (answer a : Printed) (read : Result (Unit {0}) Fault) → IsServing limits commands read session s → a ≡ read_answer read answer → failed_as a ≡ false → (a ≡ answer) × IsReady limits commands session s
  went_on answer a (Ok read) serves is on = (is, serves.1)
  went_on answer a (Err (fault.Refused why)) serves is on = absurd (true≢false (sym serves.0))
  went_on answer a (Err (fault.Damaged table)) serves is on = absurd serves
  went_on answer a (Err fault.Memory) serves is on = absurd (true≢false (sym (ap failed_as is) ∙ on))
  went_on answer a (Err (fault.Store cause)) serves is on = absurd (true≢false (sym (ap failed_as is) ∙ on))
  went_on answer a (Err fault.Reopen) serves is on = absurd serves

  -- what the questions are answered
  abbrev all_answers : List Q → List Printed
  all_answers listed = map (λ question. answered question commands) listed

  answers-map : (listed : List Q) → answers_to commands (map answered listed) ≡ all_answers listed
  answers-map [] = refl
  answers-map (question ∷ listed) = ap (λ (others : List Printed). answered question commands ∷ others) (answers-map listed)

  -- the question at a place has this answer
  abbrev IsAnswerAt : List Q → ℕ → Q → Printed → Type 0
  IsAnswerAt listed i d a = IsReadFor (answered (get_or listed i d) commands) (Ok a) limits commands session s

  -- ---- the answers so far

  -- those to these questions, and the engine is ready for the next
  abbrev pub AreSoFar : List Q → List Printed → Type 0
  AreSoFar listed answers = (answers ≡ all_answers listed) × IsReady limits commands session s

  -- one more
  pub one_more : (listed : List Q) (answers : List Printed) (i : ℕ) (d : Q) (a : Printed) → i < length listed → answers ≡ all_answers (take i listed)
      → IsAnswerAt listed i d a → failed_as a ≡ false → AreSoFar (take (i + 1) listed) (answers ++ a ∷ [])
  one_more listed answers i d a within so reads on =
      let q = get_or listed i d in
      let went = went_on (answered q commands) a reads.read reads.serves reads.tells on in
      (ap₂ (λ (xs : List Printed) (x : Printed). xs ++ x ∷ []) so went.0 ∙ sym (map_push (λ question. answered question commands) (take i listed) q) ∙ sym (ap all_answers (take_more listed i d within)), went.1)

  -- ---- the end

  within_map : (listed : List Q) (i : ℕ) → i < length listed → i < length (map answered listed)
  within_map listed i within = omega (arith, length-map listed answered, within)

  -- the first so many answers
  first_answers : (listed : List Q) (i : ℕ) → all_answers (take i listed) ≡ answers_to commands (take i (map answered listed))
  first_answers listed i = sym (answers-map (take i listed)) ∙ ap (answers_to commands) (sym (take-map answered i listed))

  -- all are answered
  pub all_answered : (listed : List Q) (answers : List Printed) (i : ℕ) → length listed ≤ i → AreSoFar (take i listed) answers → AreReadFor (map answered listed) (λ all. answers ≡ all) limits commands session s
  all_answered listed answers i past so =
      record { read = Ok tt; answered = i; within = tt; serves = (refl, so.1); tells = so.0 ∙ ap all_answers (take_all i listed past) ∙ sym (answers-map listed) }

  -- one has failed: a fault stopped it
  stopped_by : (listed : List Q) (answers : List Printed) (i : ℕ) (answer a : Printed) (read : Result (Unit {0}) Fault) → answer.status ≢ 3 → i < length listed → answers ≡ all_answers (take i listed)
      → IsServing limits commands read session s → a ≡ read_answer read answer → failed_as a ≡ true → AreReadFor (map answered listed) (λ all. answers ++ a ∷ [] ≡ all) limits commands session s
  stopped_by listed answers i answer a (Ok read) unfailed within so serves is failed = absurd (unfailed (eqb-true answer.status 3 (ap failed_as (sym is) ∙ failed)))
  stopped_by listed answers i answer a (Err why) unfailed within so serves is failed =
      record { read = Err why; answered = i; within = within_map listed i within; serves = serves; tells = ap₂ (λ (xs : List Printed) (x : Printed). xs ++ x ∷ []) (so ∙ first_answers listed i) is }

  pub stopped : (listed : List Q) (answers : List Printed) (i : ℕ) (d : Q) (a : Printed) → (answered (get_or listed i d) commands).status ≢ 3 → i < length listed → answers ≡ all_answers (take i listed)
      → IsAnswerAt listed i d a → failed_as a ≡ true → AreReadFor (map answered listed) (λ all. answers ++ a ∷ [] ≡ all) limits commands session s
  stopped listed answers i d a unfailed within so reads failed = stopped_by listed answers i (answered (get_or listed i d) commands) a reads.read unfailed within so reads.serves reads.tells failed

  -- memory ran out for an answer, or for their list
  untold_by : (listed : List Q) (Tells : List Printed → Type 0) (i : ℕ) (read : Result (Unit {0}) Fault) → ((answers : List Printed) → Tells answers) → i < length listed → IsServing limits commands read session s
      → AreReadFor (map answered listed) Tells limits commands session s
  untold_by listed Tells i (Ok read) any within serves = record { read = Ok read; answered = i; within = tt; serves = serves; tells = any _ }
  untold_by listed Tells i (Err why) any within serves = record { read = Err why; answered = i; within = within_map listed i within; serves = serves; tells = any _ }

  pub untold : (listed : List Q) (Tells : List Printed → Type 0) (i : ℕ) (answer : Printed) (shown : Shown) → ((answers : List Printed) → Tells answers) → i < length listed
      → IsReadFor answer shown limits commands session s → AreReadFor (map answered listed) Tells limits commands session s
  untold listed Tells i answer shown any within reads = untold_by listed Tells i reads.read any within reads.serves

-- what stands then, where just the answers are told
pub list_stands : (limits : Limits) (commands : List Accepted) (session : Session) (s : State) (questions : Questions) (shown : Shown) (Tells : List Printed → Type 0) → AreReadFor questions Tells limits commands session s
    → ((answers : List Printed) → Tells answers → IfOk shown (λ a. a ≡ whole_answer answers)) → (after : Standing) × IsListed questions limits commands shown after × Stands after s
list_stands limits commands session s questions shown Tells reads whole =
    let l = left limits commands reads.read session s reads.serves in
    (l.0, record { read = reads.read; answered = reads.answered; within = reads.within; leaves = l.1; tells = whole _ reads.tells }, l.2)

-- ---- the questions of a list that was read

-- each of the queries is asked by its words
pub map_words : {X Y Z : Type 0} (f : Y → Z) (g : X → Y) (xs : List X) → map (λ x. f (g x)) xs ≡ map f (map g xs)
map_words f g [] = refl
map_words f g (x ∷ xs) = ap (λ (others : List _). f (g x) ∷ others) (map_words f g xs)
