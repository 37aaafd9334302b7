-- What clap makes of any words.
use Rattle.std.proofs.Common.{◌≡◌, ◌≢◌, inl, inr, sym, subst, ℕ, List, [], ◌∷◌, Option, Some, Ok, Err, true≢false}
use Rattle.std.specs.Prelude.{Result, IfOk, IsErr}
use Rattle.clap.specs.Words.{HasKind, IsAmong, Kinds, kind_of, subcommand_of}
use Rattle.clap.specs.declared.error.Error.{Error}
use Rattle.clap.specs.declared.error.kind.ErrorKind.{ErrorKind}
use Rattle.clap.specs.declared.error.kind.ErrorKind.TheVariants.{DisplayHelp, DisplayVersion, OutOfMemory}
use Rattle.wh_words.specs.Asked.{asked_by, asked_of, faults_in, no_line, when_none, MayAskForHelp, MayBeWrong}
use Rattle.wh_words.specs.CommandLine.{program_app}
use Rattle.wh_words.specs.Request.{asked_in, IsDeclined, IsReadAs}
use Rattle.wh_words.specs.Task.{Task}
use Rattle.wh_words.specs.declared.command.Request.{Request}
use Rattle.wh_words.specs.declared.command.Request.TheVariants as request

-- where nothing is wrong with the words, memory ran out
pub no_memory : (faults : Kinds) (e : Error) → faults ≡ [] → HasKind faults e → kind_of e ≡ OutOfMemory
no_memory faults e none (inl memory) = memory
no_memory faults e none (inr among) = absurd (subst (IsAmong (kind_of e)) none among)

-- ---- help, the version, or a mistake

pub help_among : (faults : Kinds) (e : Error) → kind_of e ≡ DisplayHelp → HasKind faults e → MayAskForHelp faults
help_among faults e is (inl memory) = absurd (cc (is, memory))
help_among faults e is (inr among) = inl (subst (λ k. IsAmong k faults) is among)

pub version_among : (faults : Kinds) (e : Error) → kind_of e ≡ DisplayVersion → HasKind faults e → MayAskForHelp faults
version_among faults e is (inl memory) = absurd (cc (is, memory))
version_among faults e is (inr among) = inr (subst (λ k. IsAmong k faults) is among)

-- an error of another kind isn't among this one alone
alone : (k wanted : ErrorKind) → k ≢ wanted → IsAmong k (wanted ∷ []) → ⊥
alone k wanted other (inl is) = other is
alone k wanted other (inr none) = none

pub mistake_among : (faults : Kinds) (e : Error) → kind_of e ≢ OutOfMemory → kind_of e ≢ DisplayHelp → kind_of e ≢ DisplayVersion → HasKind faults e → MayBeWrong faults
mistake_among faults e had no_help no_version (inl memory) = absurd (had memory)
mistake_among faults e had no_help no_version (inr among) = (
  (λ is. alone (kind_of e) DisplayHelp no_help (subst (IsAmong (kind_of e)) is among)),
  (λ is. alone (kind_of e) DisplayVersion no_version (subst (IsAmong (kind_of e)) is among)),
)

-- ---- a command

-- a request with a line that says what is wrong is no task, and no help
read_as : (found : Result Task (List ℕ)) (r : Request) → asked_in r ≡ Some found → IsReadAs (no_line found) [] r
read_as (Ok task) r is = is
read_as (Err line) (request.Task t) is = absurd (cc is)
read_as (Err line) (request.Help text) is = absurd (cc is)
read_as (Err line) (request.Usage text) is = ((λ e. absurd (cc e)), (λ e. absurd (cc e)))

-- where clap takes the words
pub read_found : (words : List (List ℕ)) (found : Result Task (List ℕ)) (r : Request) → faults_in words ≡ [] → asked_of (subcommand_of program_app words) ≡ found → asked_in r ≡ Some found
    → IsReadAs (asked_by words) (faults_in words) r
unfolding asked_by
read_found words found r none met asks =
    let same : asked_by words ≡ no_line found = λ i. when_none (none i) (no_line (met i)) in
    subst (λ faults. IsReadAs (asked_by words) faults r) (sym none) (subst (λ task. IsReadAs task [] r) (sym same) (read_as found r asks))

-- ---- none

declined_by : {E : Type 0} (faults : Kinds) (found : Option Task) (e : Error) (r : Result Request E) → HasKind faults e → (kind_of e ≡ OutOfMemory → IsErr r) → IfOk r (IsDeclined faults)
    → IfOk r (IsReadAs (when_none faults found) faults)
declined_by [] found e (Ok r) (inl memory) fails is = absurd (true≢false (sym (fails memory)))
declined_by [] found e (Ok r) (inr none) fails is = absurd none
declined_by [] found e (Err x) kind fails is = tt
declined_by (k ∷ ks) found e r kind fails is = is

-- where clap finds a fault
pub read_declined : {E : Type 0} (words : List (List ℕ)) (e : Error) (r : Result Request E) → HasKind (faults_in words) e → (kind_of e ≡ OutOfMemory → IsErr r) → IfOk r (IsDeclined (faults_in words))
    → IfOk r (IsReadAs (asked_by words) (faults_in words))
unfolding asked_by
read_declined words e r kind fails is = declined_by (faults_in words) (no_line (asked_of (subcommand_of program_app words))) e r kind fails is
