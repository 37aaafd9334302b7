-- Lines that send the commands of a delivery.
use Rattle.std.proofs.Common.{◌≡◌, ◌<◌, ◌∙◌, ◌⊎◌, inl, inr, refl, sym, ap, subst, arith, ℕ, true, List, [], ◌∷◌, ◌++◌, codes, Option, Some, None, Ok, Err}
use Rattle.std.specs.Prelude.{Result, IfOk, ok_or, option_map}
use Rattle.std.specs.Io.KnownBytes.{Appends}
use Rattle.std.proofs.KnownBytes.{Appends-nil, Appends-trans}
use Rattle.wh_history.specs.Accepted.{Accepted}
use Rattle.wh_history.specs.Tables.{Limits}
use Rattle.wh_rows.proofs.ColumnLemmas.{both}
use Rattle.wh_admission.specs.Admission.{answer, after_answer, accepted_after}
use Rattle.wh_admission.specs.declared.command.Command.{Command}
use Rattle.wh_admission.specs.declared.command.Refusal.{Refusal}
use Rattle.wh_admission.specs.declared.command.Reply.{Reply}
use Rattle.wh_admission.specs.declared.command.Reply.TheVariants.{Accepted as Accepts, Already}
use Rattle.wh_batch.specs.BatchKind.{kind_of_word, kind_word}
use Rattle.wh_batch.specs.declared.kind.BatchKind.{BatchKind}
use Rattle.wh_batch.specs.declared.kind.BatchKind.TheVariants.{Dimension, Sales, Voids}
use Rattle.wh_batch.specs.declared.kind.CommandKind.{CommandKind}
use Rattle.wh_batch.specs.declared.kind.CommandKind.TheVariants.{Batch, Migration, Upgrade}
use Rattle.wh_batch.specs.declared.manifest.ManifestEntry.{ManifestEntry}
use Rattle.wh_policy.specs.declared.attribute.Dim.TheVariants.{Product, Store, Customer}
use Rattle.wh_engine.specs.declared.fault.Fault.{Fault}
use Rattle.wh_engine.specs.declared.fault.Fault.TheVariants as fault
use Rattle.wh_store.specs.declared.fault.OpenFault.{OpenFault}
use Rattle.wh_store.specs.declared.fault.OpenFault.TheVariants as opening
use Rattle.wh_day.specs.Reading.{◌>>=◌}
use Rattle.wh_words.specs.CommandLine.{CommandLine, Bare, is_operand}
use Rattle.wh_words.specs.Asked.{asked_by, no_line}
use Rattle.wh_words.specs.Task.{Task, command_of}
use Rattle.wh_words.specs.Task as task
use Rattle.wh_words.specs.WrongWord.{no_kind_line}
use Rattle.wh_words.proofs.PlainWords.{read}
use Rattle.wh_program.specs.Answer.{Printed, failed, memory_line, no_file_line, wrong_words}
use Rattle.wh_program.specs.Delivery.{LeavesDelivered}
use Rattle.wh_program.specs.Inputs.{Files, Refusals, as_input}
use Rattle.wh_program.specs.Reply.{opening_answer, sent_answer}
use Rattle.wh_program.specs.Run.{Prints, PrintsWhole}
use Rattle.wh_program.specs.Standing.{Holds, Standing, Rests}
use Rattle.wh_program.specs.Tasks.{Stores}
use Rattle.wh_program.specs.Warehouse.{AnswersUpgrade, AnswersWith, IsCommandOf, IsRefused, LeavesReplied, Sends, SendsTo, Shown, printed}
use Rattle.wh_words.specs.Line.{Meaning, Words, meaning_of}
use Rattle.wh_session.specs.Line.{with_file}
use Rattle.wh_session.specs.Laws.{AllSend}
use Rattle.wh_session.specs.Sending.{AreSending, IsSending, sending_words, sent_text, sent_texts}
use Rattle.wh_session.specs.Session.{AllGo, Goes, IsAnswered, RunsWords, no_command_text, status_line}
use Rattle.wh_session.proofs.OutputLemmas.{fails_so}

-- ---- the words

kind_known : (kind : BatchKind) → kind_of_word (kind_word kind) ≡ Some kind
kind_known (Dimension Product) = refl
kind_known (Dimension Store) = refl
kind_known (Dimension Customer) = refl
kind_known Sales = refl
kind_known Voids = refl

kind_plain : (kind : BatchKind) → is_operand (kind_word kind) ≡ true
kind_plain (Dimension Product) = refl
kind_plain (Dimension Store) = refl
kind_plain (Dimension Customer) = refl
kind_plain Sales = refl
kind_plain Voids = refl

abbrev sending_task : (file : List ℕ) → CommandKind → (id path : List ℕ) → Task
sending_task file (Batch kind) id path = task.Over file (task.Load kind id path)
sending_task file Migration id path = task.Over file (task.Migrate id path)
sending_task file Upgrade id path = task.Over file (task.Upgrade id)

abbrev sent_line : (name : List ℕ) → (operands : List (List ℕ)) → CommandLine
sent_line name operands = record { name = name; operands = operands; extra = Bare }

-- they are read so
sending_asks : (file : List ℕ) (kind : CommandKind) (id path : List ℕ) → is_operand file ≡ true → is_operand id ≡ true → is_operand path ≡ true
    → asked_by (with_file file (sending_words kind id path)) ≡ Some (sending_task file kind id path)
unfolding command_of
sending_asks file (Batch kind) id path f i p =
    read (codes "load" ∷ file ∷ kind_word kind ∷ id ∷ path ∷ []) (sent_line (codes "load") (file ∷ kind_word kind ∷ id ∷ path ∷ []))
    (record { words_are = refl; operands = both (both f (both (kind_plain kind) (both i (both p refl)))) refl })
    ∙ ap (λ (k : Option BatchKind). no_line (ok_or (option_map (λ (found : BatchKind). task.Load found id path) k) (no_kind_line (kind_word kind)) >>= λ work. Ok (task.Over file work))) (kind_known kind)
sending_asks file Migration id path f i p = read (codes "migrate" ∷ file ∷ id ∷ path ∷ []) (sent_line (codes "migrate") (file ∷ id ∷ path ∷ [])) (record { words_are = refl; operands = both (both f (both i (both p refl))) refl })
sending_asks file Upgrade id path f i p = read (codes "upgrade" ∷ file ∷ id ∷ []) (sent_line (codes "upgrade") (file ∷ id ∷ [])) (record { words_are = refl; operands = both (both f (both i refl)) refl })

-- ---- the answer

-- a failure has its status, whole or not
failed_status : (old new : Option (List ℕ)) (code : ℕ) (a : Printed) → a.status ≡ 3 → Prints old new code a → code ≡ 3
failed_status old new code a is (inl whole) = whole.status ∙ is
failed_status old new code a is (inr (kept, cut)) = cut.status

unopened_status : (why : OpenFault) → (opening_answer why).status ≡ 3
unopened_status opening.NotAWarehouse = refl
unopened_status opening.OldFormat = refl
unopened_status opening.NewFormat = refl
unopened_status (opening.Damaged table) = refl
unopened_status opening.Memory = refl
unopened_status (opening.Store cause) = refl

-- an answer whose status is always that of a failure
shown_failed : (old new : Option (List ℕ)) (code : ℕ) (shown : Shown) (Tells : Printed → Type 0) → ((a : Printed) → Tells a → a.status ≡ 3) → IfOk shown Tells → Prints old new code (printed shown) → code ≡ 3
shown_failed old new code (Ok a) Tells so tells prints = failed_status old new code a (so a tells) prints
shown_failed old new code (Err e) Tells so tells prints = failed_status old new code _ refl prints

lacks_status : (path file : List ℕ) (Absent Refused : Type 0) (a : Printed) → (Absent × (a ≡ failed (no_file_line path))) ⊎ (Refused × (a ≡ failed (no_file_line file))) → a.status ≡ 3
lacks_status path file Absent Refused a (inl (absent, is)) = ap (λ (b : Printed). b.status) is
lacks_status path file Absent Refused a (inr (refused, is)) = ap (λ (b : Printed). b.status) is

-- what an answer that is no failure says, and what stands then
abbrev IsSent : Limits → List Accepted → Command → Standing → (old new : Option (List ℕ)) → ℕ → Type 0
IsSent limits commands c after old new code =
    (after ≡ Rests (Holds limits (accepted_after limits commands c))) × ((line : List ℕ) × Appends old new line × (line ++ status_line code ≡ sent_text c (answer limits commands c)))

module _ (limits : Limits) (commands : List Accepted) (c : Command) (after : Standing) (old new : Option (List ℕ)) (code : ℕ) (well : code < 3) where
  no_failure : code ≡ 3 → ⊥
  no_failure is = omega (arith, is, well)

  reply_whole : (reply : Result Reply Fault) → LeavesReplied limits commands c reply after → PrintsWhole old new code (sent_answer c.id reply) → IsSent limits commands c after old new code
  reply_whole (Ok (Accepts receipt)) leaves whole =
      (leaves.1, ((sent_answer c.id (Ok (Accepts receipt))).text, whole.text, ap (λ (n : ℕ). (sent_answer c.id (Ok (Accepts receipt))).text ++ status_line n) whole.status ∙ ap (sent_text c) (sym leaves.0)))
  reply_whole (Ok (Already receipt)) leaves whole =
      (leaves.1, ((sent_answer c.id (Ok (Already receipt))).text, whole.text, ap (λ (n : ℕ). (sent_answer c.id (Ok (Already receipt))).text ++ status_line n) whole.status ∙ ap (sent_text c) (sym leaves.0)))
  reply_whole (Err (fault.Refused why)) leaves whole = (
    leaves.1 ∙ ap (λ (list : List Accepted). Rests (Holds limits list)) (sym (ap (after_answer commands c) leaves.0)),
    ((sent_answer c.id (Err (fault.Refused why))).text, whole.text, ap (λ (n : ℕ). (sent_answer c.id (Err (fault.Refused why))).text ++ status_line n) whole.status ∙ ap (sent_text c) (sym leaves.0)),
  )
  reply_whole (Err (fault.Damaged table)) leaves whole = absurd (no_failure whole.status)
  reply_whole (Err fault.Memory) leaves whole = absurd (no_failure whole.status)
  reply_whole (Err (fault.Store cause)) leaves whole = absurd (no_failure whole.status)
  reply_whole (Err fault.Reopen) leaves whole = absurd (no_failure whole.status)

  reply_sent : (reply : Result Reply Fault) → LeavesReplied limits commands c reply after → Prints old new code (sent_answer c.id reply) → IsSent limits commands c after old new code
  reply_sent reply leaves (inl whole) = reply_whole reply leaves whole
  reply_sent reply leaves (inr (kept, cut)) = absurd (no_failure cut.status)

  -- over an opened warehouse it is a reply, and no other answer is one
  opened_sent : (shown : Shown) → SendsTo c (Holds limits commands) shown after → Prints old new code (printed shown) → IsSent limits commands c after old new code
  opened_sent shown (inl r) prints = reply_sent r.reply r.leaves (subst (Prints old new code) r.tells prints)
  opened_sent shown (inr u) prints = absurd (no_failure (shown_failed old new code shown (λ a. a ≡ opening_answer u.why) (λ a is. ap (λ (b : Printed). b.status) is ∙ unopened_status u.why) u.tells prints))

-- ---- a line

module _ {H : Type 0} (holds : H → Files) (refuses : H → Refusals) (stores : H → Stores) (shut : H → List ℕ → Type 0) (file : List ℕ) (plain : is_operand file ≡ true) where
  -- the command of an entry was sent, and that stands now
  record IsOneSent (e : ManifestEntry) (limits : Limits) (commands : List Accepted) (before after : H) (old new : Option (List ℕ)) (code : ℕ) : Type 0 where
    c : Command
    of_entry : IsCommandOf (holds before) e.kind e.id e.path (Some c)
    stands : stores after file (Rests (Holds limits (accepted_after limits commands c)))
    line : List ℕ
    went : Appends old new line
    text : line ++ status_line code ≡ sent_text c (answer limits commands c)

  module _ (before after : H) (old new : Option (List ℕ)) (code : ℕ) (limits : Limits) (commands : List Accepted) (well : code < 3) where
    one_sent : (e : ManifestEntry) (c : Command) (standing : Standing) → IsCommandOf (holds before) e.kind e.id e.path (Some c) → stores after file standing → IsSent limits commands c standing old new code → IsOneSent e limits commands before after old new code
    one_sent e c standing of_entry stands (is, (line, went, text)) = record { c = c; of_entry = of_entry; stands = subst (stores after file) is stands; line = line; went = went; text = text }

    not_there : (shown : Shown) (missing : Printed → Type 0) → ((a : Printed) → missing a → a.status ≡ 3) → IfOk shown missing → Prints old new code (printed shown) → ⊥
    not_there shown missing so tells prints = no_failure limits commands (record { id = []; kind = Upgrade; bytes = [] }) (Rests (Holds limits commands)) old new code well (shown_failed old new code shown missing so tells prints)

    with_input : (id path : List ℕ) (kind : CommandKind) (shown : Shown) → AnswersWith (as_input kind (holds before)) (refuses before) (stores after file) (Sends kind id) (Holds limits commands) file path shown
        → Prints old new code (printed shown) → IsOneSent (record { kind = kind; id = id; path = path }) limits commands before after old new code
    with_input id path kind shown (inl tried) prints =
        let c : Command = record { id = id; kind = kind; bytes = tried.bytes } in
        one_sent (record { kind = kind; id = id; path = path }) c tried.tried.after (tried.bytes, tried.held, refl) tried.tried.then_stands
        (opened_sent limits commands c tried.tried.after old new code well shown tried.tried.did prints)
    with_input id path kind shown (inr not) prints =
        absurd (not_there shown (λ a. (as_input kind (holds before) path None × (a ≡ failed (no_file_line path))) ⊎ IsRefused (refuses before) file a) (λ a missing. lacks_status path file (as_input kind (holds before) path None) (refuses before file) a missing) not.tells prints)

    without_input : (id path : List ℕ) (shown : Shown) → AnswersUpgrade (refuses before) (stores after file) (Holds limits commands) file id shown → Prints old new code (printed shown)
        → IsOneSent (record { kind = Upgrade; id = id; path = path }) limits commands before after old new code
    without_input id path shown (inl tried) prints =
        let c : Command = record { id = id; kind = Upgrade; bytes = [] } in
        one_sent (record { kind = Upgrade; id = id; path = path }) c tried.after ([], refl, refl) tried.then_stands (opened_sent limits commands c tried.after old new code well shown tried.did prints)
    without_input id path shown (inr not) prints =
        absurd (not_there shown (IsRefused (refuses before) file) (λ a refused. ap (λ (b : Printed). b.status) refused.1) not.tells prints)

    run_sent : (kind : CommandKind) (id path : List ℕ) → is_operand id ≡ true → is_operand path ≡ true → stores before file (Rests (Holds limits commands))
        → RunsWords holds refuses stores shut (with_file file (sending_words kind id path)) before after old new code → IsOneSent (record { kind = kind; id = id; path = path }) limits commands before after old new code
    run_sent (Batch kind) id path i p stood runs =
        let ran = (runs.reads (task.Over file (task.Load kind id path)) (sending_asks file (Batch kind) id path plain i p)).0 (Holds limits commands) stood in
        with_input id path (Batch kind) ran.0 ran.1 ran.2
    run_sent Migration id path i p stood runs =
        let ran = (runs.reads (task.Over file (task.Migrate id path)) (sending_asks file Migration id path plain i p)).0 (Holds limits commands) stood in
        with_input id path Migration ran.0 ran.1 ran.2
    run_sent Upgrade id path i p stood runs =
        let ran = (runs.reads (task.Over file (task.Upgrade id)) (sending_asks file Upgrade id path plain i p)).0 (Holds limits commands) stood in
        without_input id path ran.0 ran.1 ran.2

    answered_sent : (e : ManifestEntry) → is_operand e.id ≡ true → is_operand e.path ≡ true → stores before file (Rests (Holds limits commands))
        → IsAnswered holds refuses stores shut file (Words (sending_words e.kind e.id e.path)) before after old new code → IsOneSent e limits commands before after old new code
    answered_sent e i p stood (inl (inl runs)) = run_sent e.kind e.id e.path i p stood runs
    answered_sent e i p stood (inl (inr (none, (same, wrong)))) = absurd (wrong_status wrong)
      where
        wrong_status : Prints old new code (wrong_words no_command_text) → ⊥
        wrong_status (inl whole) = let is = whole.status in omega (arith, is, well)
        wrong_status (inr (kept, cut)) = let is = cut.status in omega (arith, is, well)
    answered_sent e i p stood (inr (same, memory)) = let is = fails_so old new code memory_line memory in absurd (omega (arith, is, well))

  -- a line that sends an entry has its answer, and the line of its status
  record IsLineSent (e : ManifestEntry) (limits : Limits) (commands : List Accepted) (before after : H) (old new : Option (List ℕ)) : Type 0 where
    c : Command
    of_entry : IsCommandOf (holds before) e.kind e.id e.path (Some c)
    stands : stores after file (Rests (Holds limits (accepted_after limits commands c)))
    went : Appends old new (sent_text c (answer limits commands c))

  line_sent : (l : List ℕ) (e : ManifestEntry) → IsSending l e → (before after : H) (old new : Option (List ℕ)) (code : ℕ) (limits : Limits) (commands : List Accepted) → code < 3 → stores before file (Rests (Holds limits commands))
      → Goes holds refuses stores shut file (meaning_of l) before after old new code → IsLineSent e limits commands before after old new
  line_sent l e sends before after old new code limits commands well stood (inl passed) = absurd (let is = sym sends.says ∙ passed.0 in cc)
  line_sent l e sends before after old new code limits commands well stood (inr (mid, answered, status)) =
      let one = answered_sent before after old mid code limits commands well e sends.id_plain sends.path_plain stood
      (subst (λ (m : Meaning). IsAnswered holds refuses stores shut file m before after old mid code) sends.says answered) in
      record { c = one.c; of_entry = one.of_entry; stands = one.stands; went = subst (Appends old new) one.text (Appends-trans old mid new one.line (status_line code) one.went status) }

  -- all of them
  pub sends_all : (lines : List (List ℕ)) (entries : List ManifestEntry) → AreSending lines entries → (before after : H) (old new : Option (List ℕ)) (code : ℕ) (limits : Limits) (commands : List Accepted)
      → stores before file (Rests (Holds limits commands)) → AllGo holds refuses stores shut file lines before after old new code → code < 3
      → (sent : List Command) × (answers : List (Result Reply Refusal)) × (standing : Standing) × AllSend holds refuses stores shut file lines entries sent before old × LeavesDelivered limits commands sent answers None standing
      × stores after file standing × Appends old new (sent_texts sent answers)
  sends_all [] [] sending before after old new code limits commands stood went well = (
    [],
    [],
    Rests (Holds limits commands),
    tt,
    (refl, refl),
    subst (λ (h : H). stores h file (Rests (Holds limits commands))) (sym went.0) stood,
    subst (λ (o : Option (List ℕ)). Appends old o []) (sym went.1) (Appends-nil old),
  )
  sends_all [] (e ∷ entries) sending before after old new code limits commands stood went well = absurd sending
  sends_all (l ∷ lines) [] sending before after old new code limits commands stood went well = absurd sending
  sends_all (l ∷ lines) (e ∷ entries) (sends, others) before after old new code limits commands stood (mid, out, status, rest, goes, later, code_is) well =
      let first_well : status < 3 = omega (arith, code_is, well) in
      let rest_well : rest < 3 = omega (arith, code_is, well) in
      let one = line_sent l e sends before mid old out status limits commands first_well stood goes in
      let more = sends_all lines entries others mid after out new rest limits (accepted_after limits commands one.c) one.stands later rest_well in
      let left = more.4 in (
        one.c ∷ more.0,
        answer limits commands one.c ∷ more.1,
        more.2,
        (one.of_entry, (mid, out, status, goes, more.3)),
        (ap (λ (answers : List (Result Reply Refusal)). answer limits commands one.c ∷ answers) left.0, left.1),
        more.5,
        Appends-trans old out new (sent_text one.c (answer limits commands one.c)) (sent_texts more.0 more.1) one.went more.6,
      )
