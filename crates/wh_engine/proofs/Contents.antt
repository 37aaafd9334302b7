-- What is read of a command, and why it isn't.
use Rattle.std.proofs.Common.{◌≡◌, ℕ, suc, ◌++◌, ◌∷◌, [], List, length, Bool, true, false, cond, None, Result, Ok, Err, refl, sym, ap, ◌∙◌, subst}
use Rattle.std.specs.Prelude.{unwrap_or, IsErr, IsErrAnd}
use Rattle.std.proofs.lemmas.Result.{err_from_is_err_and}
use Rattle.sqlite_trees.specs.declared.store.Store.{Ghosts}
use Rattle.wh_day.specs.Reading.{◌>>=◌, Fails}
use Rattle.wh_day.specs.declared.error.ParseError.{ParseError}
use Rattle.wh_day.specs.declared.error.ParseError.TheVariants as unread
use Rattle.wh_policy.specs.Names.{fits}
use Rattle.wh_policy.specs.Policy.{read_policy}
use Rattle.wh_policy.specs.declared.fault.PolicyFault.{PolicyFault}
use Rattle.wh_policy.specs.declared.format.Format.{Format}
use Rattle.wh_policy.specs.declared.policy.Policy.{Policy}
use Rattle.wh_batch.specs.Layouts.{dimension_records, sale_records, void_records}
use Rattle.wh_batch.specs.declared.fault.BatchFault.{BatchFault}
use Rattle.wh_batch.specs.declared.kind.BatchKind.TheVariants.{Dimension, Sales, Voids}
use Rattle.wh_batch.specs.declared.kind.CommandKind.{CommandKind}
use Rattle.wh_batch.specs.declared.kind.CommandKind.TheVariants.{Batch, Migration, Upgrade}
use Rattle.wh_batch.proofs.GoodLemmas.{bind_ok}
use Rattle.wh_history.specs.Accepted.{Accepted, Content, Governs, Describes, Sells, Upgrades, Withdraws, governed, placeholders_by}
use Rattle.wh_sql.specs.declared.at_rest.Tables.{Tables}
use Rattle.wh_plan.specs.Edits.{AreEdits, Edits}
use Rattle.wh_plan.proofs.SaleBatches.SalePremises.{members_counted}
use Rattle.wh_admission.specs.Admission.{accepted_as, content_of, judged_policy, judged_records, judged_sales, judged_voids, of_batch, of_file, policy_brought}
use Rattle.wh_admission.specs.declared.command.Command.{Command}
use Rattle.wh_admission.specs.declared.command.Refusal.{Refusal}
use Rattle.wh_admission.specs.declared.command.Refusal.TheVariants as refusals
use Rattle.wh_admission.specs.declared.command.Refusal.TheVariants.{NameTaken, Unfit}
use Rattle.wh_admission.proofs.Migrated.{IsTaken, policy_taken}
use Rattle.wh_engine.specs.Decided.{placeholders_in}
use Rattle.wh_engine.specs.Faults.{Judges, NamesTaken, of_content}
use Rattle.wh_engine.specs.Scanned.{Reads}
use Rattle.wh_engine.specs.declared.fault.Fault.{Fault}
use Rattle.wh_engine.specs.declared.fault.Fault.TheVariants as faults
use Rattle.wh_engine.proofs.Decisions.{judged_err}
use Rattle.wh_sql.proofs.Sparing.{spares_itself}

-- ---- what it brings

-- the policy of a migration, and else the one in force stays
pub brought : (kind : CommandKind) (format : Format) (policy : Policy) (bytes : List ℕ) (content : Content) → content_of kind format policy bytes ≡ Ok content → policy_brought kind policy bytes ≡ Ok (unwrap_or (governed None content) policy)
brought (Batch (Dimension dim)) format policy bytes content told =
    let (records, given, last) = bind_ok (judged_records dim policy bytes) (λ records. Ok (Describes dim records)) content told in
    let e : Describes dim records ≡ content = cc in
    rw (← e) refl
brought (Batch Sales) format policy bytes content told =
    let (sales, given, last) = bind_ok (judged_sales format policy bytes) (λ sales. Ok (Sells sales)) content told in
    let e : Sells sales ≡ content = cc in
    rw (← e) refl
brought (Batch Voids) format policy bytes content told =
    let (lines, given, last) = bind_ok (judged_voids format bytes) (λ lines. Ok (Withdraws lines)) content told in
    let e : Withdraws lines ≡ content = cc in
    rw (← e) refl
brought Migration format policy bytes content told =
    let (newer, given, last) = bind_ok (judged_policy policy bytes) (λ newer. Ok (Governs newer)) content told in
    let e : Governs newer ≡ content = cc in
    rw (← e) given
brought Upgrade format policy bytes content told =
    let e : Upgrades ≡ content = cc in
    rw (← e) refl

-- the bytes of a migration write the policy, and it fits
pub governs_taken : (kind : CommandKind) (format : Format) (policy : Policy) (bytes : List ℕ) (newer : Policy) → content_of kind format policy bytes ≡ Ok (Governs newer) → IsTaken policy bytes newer
governs_taken (Batch (Dimension dim)) format policy bytes newer told = absurd (let (records, given, last) = bind_ok (judged_records dim policy bytes) (λ records. Ok (Describes dim records)) (Governs newer) told in cc)
governs_taken (Batch Sales) format policy bytes newer told = absurd (let (sales, given, last) = bind_ok (judged_sales format policy bytes) (λ sales. Ok (Sells sales)) (Governs newer) told in cc)
governs_taken (Batch Voids) format policy bytes newer told = absurd (let (lines, given, last) = bind_ok (judged_voids format bytes) (λ lines. Ok (Withdraws lines)) (Governs newer) told in cc)
governs_taken Migration format policy bytes newer told =
    let (other, given, last) = bind_ok (judged_policy policy bytes) (λ newer. Ok (Governs newer)) (Governs newer) told in
    let e : other ≡ newer = cc in
    policy_taken policy bytes newer (given ∙ ap Ok e)
governs_taken Upgrade format policy bytes newer told = absurd cc

-- an upgrade says nothing else
pub says_upgrades : (kind : CommandKind) (format : Format) (policy : Policy) (bytes : List ℕ) (content : Content) → kind ≡ Upgrade → content_of kind format policy bytes ≡ Ok content → content ≡ Upgrades
says_upgrades (Batch batch) format policy bytes content is told = absurd cc
says_upgrades Migration format policy bytes content is told = absurd cc
says_upgrades Upgrade format policy bytes content is told = cc

-- as many placeholder rows as its edits have
pub placeholders_told : (commands : List Accepted) (c : Command) (content : Content) (edits : Edits) → AreEdits commands (commands ++ accepted_as c content ∷ []) edits
    → placeholders_by (commands ++ accepted_as c content ∷ []) (suc (length commands)) content ≡ placeholders_in content edits
placeholders_told commands c (Governs policy) edits are = refl
placeholders_told commands c (Describes dim records) edits are = refl
placeholders_told commands c (Sells sales) edits are = sym (members_counted commands (accepted_as c (Sells sales)) sales edits refl are)
placeholders_told commands c Upgrades edits are = refl
placeholders_told commands c (Withdraws lines) edits are = refl

-- ---- why it isn't read

-- no batch and no policy tells a name as taken
batch_tells : {A : Type 0} (read : Result A BatchFault) (content : A → Content) → (of_batch read >>= λ x. Ok (content x)) ≡ Err NameTaken → ⊥
batch_tells (Ok x) content is = absurd cc
batch_tells (Err fault) content is = absurd cc

policy_tells : (older : Policy) (read : Result Policy PolicyFault) → ((of_file read >>= λ newer. cond (fits older newer) (Ok newer) (Err Unfit)) >>= λ newer. Ok (Governs newer)) ≡ Err NameTaken → ⊥
policy_tells older (Err fault) is = absurd cc
policy_tells older (Ok newer) is = by_fit (fits older newer) is
  where
    by_fit : (fit : Bool) → ◌≡◌ {A = Result Content Refusal} (cond {A = Result Policy Refusal} fit (Ok newer) (Err Unfit) >>= λ newer. Ok (Governs newer)) (Err NameTaken) → ⊥
    by_fit true is = absurd cc
    by_fit false is = absurd cc

never_taken : (kind : CommandKind) (format : Format) (policy : Policy) (bytes : List ℕ) → content_of kind format policy bytes ≡ Err NameTaken → ⊥
never_taken (Batch (Dimension dim)) format policy bytes is = batch_tells (dimension_records dim policy bytes) (Describes dim) is
never_taken (Batch Sales) format policy bytes is = batch_tells (sale_records policy format bytes) Sells is
never_taken (Batch Voids) format policy bytes is = batch_tells (void_records format bytes) Withdraws is
never_taken Migration format policy bytes is = policy_tells policy (read_policy bytes) is
never_taken Upgrade format policy bytes is = absurd cc

names_taken : (taken : Bool) (why : Refusal) → (why ≡ NameTaken → ⊥) → NamesTaken taken (faults.Refused why)
names_taken taken refusals.BadId never = tt
names_taken taken refusals.Reused never = tt
names_taken taken (refusals.Batch fault) never = tt
names_taken taken (refusals.Policy fault) never = tt
names_taken taken Unfit never = tt
names_taken taken refusals.Upgraded never = tt
names_taken taken NameTaken never = absurd (never refl)
names_taken taken (refusals.LineThere number) never = tt
names_taken taken (refusals.NoLine number) never = tt
names_taken taken (refusals.Full limit) never = tt

module _ {S A : Type 0} (g : Ghosts S) (tables : Tables S) (kind : CommandKind) (format : Format) (policy : Policy) (bytes : List ℕ) where
  fails : (why : ParseError Refusal) → Fails why (content_of kind format policy bytes) → Reads {A = A} g tables tables (Err (of_content why))
  fails unread.Memory is = record { spares = spares_itself; blames = λ clean stored rests. tt; work = tt; taken = tt }
  fails (unread.Fault why) is = record {
    spares = spares_itself;
    blames = λ clean stored rests. tt;
    work = tt;
    taken = names_taken _ why (λ taken. never_taken kind format policy bytes (is ∙ ap Err taken));
  }

  -- nothing was asked of the tables
  pub unread_reads : (why : ParseError Refusal) (result : Result A Fault) → Fails why (content_of kind format policy bytes) → IsErr result × IsErrAnd result (λ fault. fault ≡ of_content why) → Reads g tables tables result
  unread_reads why result is came =
      let p = err_from_is_err_and result came.1 in
      rw (p.1, p.2) (fails why is)

-- it is refused as what hangs on it
refused_judged : {X Y W : Type 0} (fits : X → W → Type 0) (why : ParseError Refusal) (read : Result Y Refusal) (answered : Result W Refusal) → Fails why read → ((refusal : Refusal) → read ≡ Err refusal → answered ≡ Err refusal) → Judges fits (Err (of_content why)) answered
refused_judged fits unread.Memory read answered is so = tt
refused_judged fits (unread.Fault why) read answered is so = so why is

pub unread_refused : {X Y W : Type 0} (fits : X → W → Type 0) (why : ParseError Refusal) (result : Result X Fault) (read : Result Y Refusal) (answered : Result W Refusal) → Fails why read → IsErr result × IsErrAnd result (λ fault. fault ≡ of_content why)
    → ((refusal : Refusal) → read ≡ Err refusal → answered ≡ Err refusal) → Judges fits result answered
unread_refused fits why result read answered is came so =
    let p = err_from_is_err_and result came.1 in
    rw (p.1, p.2) (refused_judged fits why read answered is so)

-- a fault that was judged is passed on
pub fault_judged : {X : Type 0} {Y Z : Type 0} (had : X → Y → Type 0) (fits : Z → Y → Type 0) (fault : Fault) (result : Result Z Fault) (answered : Result Y Refusal) → IsErr result × IsErrAnd result (λ f. f ≡ fault) → Judges had (Err fault) answered → Judges fits result answered
fault_judged {X} {Y} {Z} had fits fault result answered came judged =
    let p = err_from_is_err_and result came.1 in
    rw (p.1, p.2) (judged_err had fits fault answered answered judged (λ why is. is))
