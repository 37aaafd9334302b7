-- A session keeps to its file.
use Rattle.std.proofs.Common.{◌≡◌, ◌∙◌, ◌⊎◌, inl, inr, refl, sym, subst, ℕ, true, List, [], ◌∷◌, Option, Some, None, Err}
use Rattle.std.specs.Prelude.{All, IsUtf8}
use Rattle.wh_program.specs.Inputs.{Files, Refusals}
use Rattle.wh_program.specs.Run.{GoesOut, Prints}
use Rattle.wh_program.specs.Tasks.{IsAnsweredBefore, Runs, RunsShut, SparesOthers, Stores, WhenShut}
use Rattle.wh_program.specs.Warehouse.{IsNoFileOr, PrintsShut, Shown, printed}
use Rattle.wh_words.specs.CommandLine.{is_operand}
use Rattle.wh_words.specs.Asked.{asked_by}
use Rattle.wh_words.specs.Task.{Task, warehouse_of}
use Rattle.wh_words.specs.Line.{Meaning, Passed, NoCommand, Words, meaning_of}
use Rattle.wh_session.specs.Line.{with_file}
use Rattle.wh_session.specs.Session.{AllGo, Fails, Goes, IsAnswered, KeepsTo, LosesInput, RunsWords, Session}
use Rattle.wh_words.proofs.Words.{IsTrial}
use Rattle.wh_session.proofs.LineFiles.{line_keeps}

-- a trial leaves the host
trial_same : (holds : Files) (refuses : Refusals) (before after : Stores) (same : Type 0) (prints : Shown → Type 0) (goes_out : Option ℕ → Shown → Type 0) (task : Task)
    → IsTrial task → Runs holds refuses before after same prints goes_out task → same
trial_same holds refuses before after same prints goes_out task (dim, path, policy, is) runs = (subst (Runs holds refuses before after same prints goes_out) is runs).0

module _ {H : Type 0} (holds : H → Files) (refuses : H → Refusals) (stores : H → Stores) (shut : H → List ℕ → Type 0) (file : List ℕ) where
  pub keeps_same : (before after : H) → after ≡ before → KeepsTo stores shut file before after
  keeps_same before after same = record { others = λ other standing apart stood. subst (λ (h : H). stores h other standing) (sym same) stood; closed = λ is. same }

  pub keeps_on : (before mid after : H) → KeepsTo stores shut file before mid → KeepsTo stores shut file mid after → KeepsTo stores shut file before after
  keeps_on before mid after first later = record {
    others = λ other standing apart stood. later.others other standing apart (first.others other standing apart stood);
    closed = λ is. let same = first.closed is in later.closed (subst (λ (h : H). shut h file) (sym same) is) ∙ same;
  }

  module _ (before after : H) (old new : Option (List ℕ)) (code : ℕ) where
    -- where the host can't open the file, a command about it is answered so, and changes nothing
    closed_at : (task : Task) → warehouse_of task ≡ Some file → RunsShut (shut before) (holds before) (after ≡ before) (λ shown. Prints old new code (printed shown)) task → shut before file
        → PrintsShut (after ≡ before) (IsNoFileOr file (IsAnsweredBefore (holds before) task)) (λ shown. Prints old new code (printed shown))
    closed_at task is closed =
        subst (λ (name : Option (List ℕ)). WhenShut (shut before) name (λ f. PrintsShut (after ≡ before) (IsNoFileOr f (IsAnsweredBefore (holds before) task)) (λ shown. Prints old new code (printed shown)))) is closed

    task_keeps : (words : List (List ℕ)) (task : Task) → (warehouse_of task ≡ Some file) ⊎ IsTrial task → asked_by words ≡ Some task → RunsWords holds refuses stores shut words before after old new code
        → KeepsTo stores shut file before after
    task_keeps words task (inl is) asked runs = record {
      others = subst (SparesOthers (stores before) (stores after)) is (runs.others task asked);
      closed = λ closed. (closed_at task is (runs.closed task asked) closed).0;
    }
    task_keeps words task (inr trial) asked runs =
        keeps_same before after (trial_same (holds before) (refuses before) (stores before) (stores after) (after ≡ before) (λ shown. Prints old new code (printed shown)) (λ cut shown. GoesOut cut old new code (printed shown)) task trial (runs.reads task asked).0)

    words_keep : (words : List (List ℕ)) → ((task : Task) → asked_by words ≡ Some task → (warehouse_of task ≡ Some file) ⊎ IsTrial task) → RunsWords holds refuses stores shut words before after old new code
        → KeepsTo stores shut file before after
    words_keep words about runs = by (asked_by words) refl
      where
        by : (asked : Option Task) → asked_by words ≡ asked → KeepsTo stores shut file before after
        by None none = keeps_same before after (runs.declines none).0
        by (Some task) asked = task_keeps words task (about task asked) asked runs

    -- where the host can't open the file, the answer to a line is this
    pub shut_answered : (words : List (List ℕ)) (task : Task) → shut before file → All IsUtf8 words → asked_by (with_file file words) ≡ Some task → warehouse_of task ≡ Some file
        → IsAnswered holds refuses stores shut file (Words words) before after old new code
        → PrintsShut (after ≡ before) (IsNoFileOr file (IsAnsweredBefore (holds before) task)) (λ shown. Prints old new code (printed shown))
    shut_answered words task is texts asked about (inl (inl runs)) = closed_at task about (runs.closed task asked) is
    shut_answered words task is texts asked about (inl (inr (none, printed))) = absurd (none texts)
    shut_answered words task is texts asked about (inr (same, memory)) = (same, (Err (record {}), tt, memory))

    module _ (plain : is_operand file ≡ true) where
      pub runs_keep : (words : List (List ℕ)) → RunsWords holds refuses stores shut (with_file file words) before after old new code → KeepsTo stores shut file before after
      runs_keep words runs = words_keep (with_file file words) (line_keeps file plain words) runs

      answer_keeps : (meaning : Meaning) → IsAnswered holds refuses stores shut file meaning before after old new code → KeepsTo stores shut file before after
      answer_keeps meaning (inr (same, printed)) = keeps_same before after same
      answer_keeps Passed (inl is) = absurd is
      answer_keeps NoCommand (inl (same, printed)) = keeps_same before after same
      answer_keeps (Words words) (inl (inl runs)) = runs_keep words runs
      answer_keeps (Words words) (inl (inr (none, (same, printed)))) = keeps_same before after same

  module _ (plain : is_operand file ≡ true) where
    goes_keeps : (meaning : Meaning) (before after : H) (old new : Option (List ℕ)) (code : ℕ) → Goes holds refuses stores shut file meaning before after old new code → KeepsTo stores shut file before after
    goes_keeps meaning before after old new code (inl passed) = keeps_same before after passed.1
    goes_keeps meaning before after old new code (inr went) = answer_keeps before after old went.0 code plain meaning went.1

    all_keep : (lines : List (List ℕ)) (before after : H) (old new : Option (List ℕ)) (code : ℕ) → AllGo holds refuses stores shut file lines before after old new code → KeepsTo stores shut file before after
    all_keep [] before after old new code went = keeps_same before after went.0
    all_keep (l ∷ lines) before after old new code went =
        keeps_on before went.0 after (goes_keeps (meaning_of l) before went.0 old went.1 went.2 went.4) (all_keep lines went.0 after went.1 new went.3 went.5)

    lost_keeps : (before after : H) (old new : Option (List ℕ)) → LosesInput holds refuses stores shut before after old new → KeepsTo stores shut file before after
    lost_keeps before after old new (inl shown) = keeps_same before after shown.0
    lost_keeps before after old new (inr shown) = keeps_same before after shown.0

    fails_keep : (lines : List (List ℕ)) (before after : H) (old new : Option (List ℕ)) → Fails holds refuses stores shut file lines before after old new → KeepsTo stores shut file before after
    fails_keep [] before after old new lost = lost_keeps before after old new lost
    fails_keep (l ∷ lines) before after old new (inl lost) = lost_keeps before after old new lost
    fails_keep (l ∷ lines) before after old new (inr stops) = answer_keeps before after old stops.0 stops.1 plain (meaning_of l) stops.2

    pub session_keeps : (lines : List (List ℕ)) (before after : H) (old new : Option (List ℕ)) (code : ℕ) → Session holds refuses stores shut file lines before after old new code → KeepsTo stores shut file before after
    session_keeps lines before after old new code (inl went) = all_keep lines before after old new code went
    session_keeps lines before after old new code (inr cut) = keeps_on before cut.mid after (all_keep cut.first before cut.mid old cut.out cut.status cut.went) (fails_keep cut.left cut.mid after cut.out new cut.fails)
