-- What the words over a warehouse leave of what stood.
use Rattle.std.proofs.Common.{◌≡◌, ◌⊎◌, ◌||◌, Bool, inl, inr, refl, sym, subst, ap, ◌∙◌, ℕ, List, [], ◌∷◌, Some, None, Ok, Err, true, false}
use Rattle.std.specs.Prelude.{Result, map, IfOk, IfErr, IsOk, OnOk, OnErr}
use Rattle.std.specs.List.{list_any}
use Rattle.std.proofs.lemmas.Result.{IfOk-weaker}
use Rattle.std.specs.declared.alloc.AllocError.{AllocError}
use Rattle.sqlite.specs.Change.{is_used}
use Rattle.sqlite.specs.Effect.{Database}
use Rattle.sqlite.specs.State.{State, HasCleanDisk}
use Rattle.wh_policy.specs.Policy.{read_policy}
use Rattle.wh_policy.specs.declared.fault.PolicyFault.{PolicyFault}
use Rattle.wh_policy.specs.declared.policy.Policy.{Policy}
use Rattle.wh_history.specs.Accepted.{Accepted}
use Rattle.wh_history.specs.Tables.{Limits}
use Rattle.wh_rows.specs.AtRest.{IsAtRest}
use Rattle.wh_rows.specs.Limits.{greatest_limits}
use Rattle.wh_rows.specs.Schema.{no_schema, warehouse, schema_in}
use Rattle.wh_sql.specs.Present.{has_tables, is_any_taken, is_second_taken}
use Rattle.wh_sql.proofs.Worked.{taken_in_a_warehouse, taken_in_none, second_taken}
use Rattle.wh_plan.specs.Edits.{Edits}
use Rattle.wh_model.specs.Sound.{init_of}
use Rattle.wh_admission.specs.Admission.{answer, accepted_after, AreAdmitted}
use Rattle.wh_engine.specs.Answered as engine
use Rattle.wh_engine.specs.Faults.{BlamesDamage}
use Rattle.wh_engine.specs.Answered.{IsReady, IsLeft, IsAgain, IsAnswered, KeepsNothing, IsPlanOf, IsForetold as EngineForetold, IsCounted as EngineCounted, counts_of}
use Rattle.wh_engine.specs.Outcome.{Left, At, Between, Outcome}
use Rattle.wh_engine.specs.Opened.{SessionIs, IsUnopened as UnopenedBy, IsNotOpened, IsNotMade, NothingIsWritten, LeavesMade}
use Rattle.wh_admission.specs.declared.command.Command.{Command}
use Rattle.wh_admission.specs.declared.command.Refusal.{Refusal}
use Rattle.wh_admission.specs.declared.command.Reply.{Reply}
use Rattle.wh_admission.specs.declared.command.Reply.TheVariants as replies
use Rattle.wh_engine.specs.declared.counts.Counts.{Counts}
use Rattle.wh_engine.specs.declared.fault.Fault.{Fault}
use Rattle.wh_engine.specs.declared.fault.Fault.TheVariants as fault
use Rattle.wh_engine.specs.declared.opening.InitFault.{InitFault}
use Rattle.wh_engine.specs.declared.opening.InitFault.TheVariants as making
use Rattle.wh_rows.specs.Raw.{Stored, RestsOn, LeavesStored}
use Rattle.wh_store.specs.Opening.{SparesStore}
use Rattle.wh_policy.specs.declared.format.Format.{Format}
use Rattle.wh_policy.specs.declared.format.Format.TheVariants.{One, Two}
use Rattle.wh_store.specs.declared.fault.OpenFault.{OpenFault}
use Rattle.wh_store.specs.declared.fault.OpenFault.TheVariants as opening
use Rattle.wh_engine.specs.Previewed.{IsPreviewOf, IsPreviewed}
use Rattle.wh_engine.specs.declared.preview.Preview.{Preview}
use Rattle.wh_engine.specs.declared.session.Session.{Session}
use Rattle.wh_batch.specs.declared.kind.CommandKind.{CommandKind}
use Rattle.wh_program.specs.Answer.{Printed, done, refused, failed, no_file_line, policy_line}
use Rattle.wh_program.specs.Explained.{Begins, IsDescribed, IsExplained, first_of_kind, preview_answer}
use Rattle.wh_program.specs.Inputs.{Files, Refusals}
use Rattle.wh_program.specs.Reply.{sent_answer, plan_answer, opening_answer, status_answer, making_answer, made_line}
use Rattle.wh_program.specs.Standing.{DatabaseContent, Nothing, Holds, Keeps, Is, Standing, Unknown, Rests, LeftAt, LeavesEither, left_standing, IsAt, Stands}
use Rattle.wh_program.specs.Warehouse.{Shown, printed, Opens, IsUnread, IsUnreadFile, IsReplied, IsRepliedOver, LeavesRefused, IsTrueOf, RepliesOver, IsForetold, IsCounted, Makes, AnswersWith, AnswersShut, PrintsShut, IsNoFile, IsNoFileOr, IsTried, IsNotConnected}
use Rattle.wh_program.specs.declared.host.HostError.{HostError}
use Rattle.wh_program.specs.declared.host.HostError.TheVariants.{NoFile}

-- where no object is, the ten tables are not all there
pub none_there : has_tables no_schema ≡ false
unfolding has_tables
none_there = refl

second_true : (a b : Bool) → b ≡ true → (a || b) ≡ true
second_true true b h = refl
second_true false b h = h

-- in a warehouse of either format names of its tables are taken
taken_in : (format : Format) → is_any_taken (schema_in format) ≡ true
unfolding is_any_taken
taken_in One = taken_in_a_warehouse
taken_in Two = second_true (list_any (is_used (schema_in Two)) (map (λ t. t.name) warehouse.tables)) (is_second_taken (schema_in Two)) (second_taken Two)

-- ---- rows that anybody wrote

-- what is left of them where no warehouse was opened
pub unread : (stored : Stored) (shown : Shown) (why : OpenFault) (s : State) → IfOk shown (λ a. a ≡ opening_answer why) → UnopenedBy stored why × LeavesStored stored s × (SparesStore why → RestsOn stored s)
    → (after : Standing) × IsUnread stored shown after × Stands after s
unread stored shown opening.NotAWarehouse s tells bad = (Rests (Keeps stored), record { why = opening.NotAWarehouse; unopened = bad.0; leaves = refl; tells = tells }, bad.2 tt)
unread stored shown opening.OldFormat s tells bad = (Rests (Keeps stored), record { why = opening.OldFormat; unopened = bad.0; leaves = refl; tells = tells }, bad.2 tt)
unread stored shown opening.NewFormat s tells bad = (Rests (Keeps stored), record { why = opening.NewFormat; unopened = bad.0; leaves = refl; tells = tells }, bad.2 tt)
unread stored shown (opening.Damaged table) s tells bad = (Rests (Keeps stored), record { why = opening.Damaged table; unopened = bad.0; leaves = refl; tells = tells }, bad.2 tt)
unread stored shown opening.Memory s tells bad = (Rests (Keeps stored), record { why = opening.Memory; unopened = bad.0; leaves = refl; tells = tells }, bad.2 tt)
unread stored shown (opening.Store cause) s tells bad =
    (LeftAt (Keeps stored) (Keeps stored), record { why = opening.Store cause; unopened = bad.0; leaves = refl; tells = tells }, record { each = λ trees may. inl (bad.1.each trees may) })

-- and of any database
pub unread_file : (content : DatabaseContent) (shown : Shown) (why : OpenFault) (s : State) → IfOk shown (λ a. a ≡ opening_answer why) → LeavesEither content content s × (SparesStore why → IsAt content s)
    → (after : Standing) × IsUnreadFile content shown after × Stands after s
unread_file content shown opening.NotAWarehouse s tells left = (Rests content, record { why = opening.NotAWarehouse; leaves = refl; tells = tells }, left.1 tt)
unread_file content shown opening.OldFormat s tells left = (Rests content, record { why = opening.OldFormat; leaves = refl; tells = tells }, left.1 tt)
unread_file content shown opening.NewFormat s tells left = (Rests content, record { why = opening.NewFormat; leaves = refl; tells = tells }, left.1 tt)
unread_file content shown (opening.Damaged table) s tells left = (Rests content, record { why = opening.Damaged table; leaves = refl; tells = tells }, left.1 tt)
unread_file content shown opening.Memory s tells left = (Rests content, record { why = opening.Memory; leaves = refl; tells = tells }, left.1 tt)
unread_file content shown (opening.Store cause) s tells left = (LeftAt content content, record { why = opening.Store cause; leaves = refl; tells = tells }, left.0)

-- ---- a warehouse that is opened

module _ (does : Limits → List Accepted → Shown → Standing → Type 0) (over : DatabaseContent → Shown → Standing → Type 0) (content : DatabaseContent) (shown : Shown) where
  -- and what is done then
  pub opened : (first : Session) (s0 s1 s2 : State)
      → ((limits : Limits) (commands : List Accepted) → AreAdmitted limits commands → engine.Rests limits commands s0 → IsReady limits commands first s1)
      → ((limits : Limits) (commands : List Accepted) → IsReady limits commands first s1 → (after : Standing) × does limits commands shown after × Stands after s2)
      → (IsAtRest None s0 → ⊥)
      → ((stored : Stored) → RestsOn stored s0 → SessionIs stored first × RestsOn stored s1)
      → ((what : DatabaseContent) → IsAt what s0 → IsAt what s1)
      → ((what : DatabaseContent) → IsAt what s1 → (after : Standing) × over what shown after × Stands after s2)
      → IsAt content s0 → (after : Standing) × Opens does over content shown after × Stands after s2
  opened first s0 s1 s2 opens works missing found same works_over at = elim content as (λ what. IsAt what s0 → (after : Standing) × Opens does over what shown after × Stands after s2) [
    | Nothing ↦ λ at. absurd (missing at)
    | Holds limits commands ↦ λ at. let worked = works limits commands (opens limits commands at.0 at.1) in (worked.0, inl worked.1, worked.2)
    | Keeps stored ↦ λ at.
        let here = found stored at in
        let worked = works_over (Keeps stored) here.1 in
        (worked.0, inl (record { session = first; says = here.0 }, worked.1), worked.2)
    | Is db ↦ λ at. let worked = works_over (Is db) (same (Is db) at) in (worked.0, inl worked.1, worked.2)
  ] at

  not_opened : (limits : Limits) (commands : List Accepted) (why : OpenFault) (s : State) → IfOk shown (λ a. a ≡ opening_answer why) → AreAdmitted limits commands → IsNotOpened limits commands why s
      → (after : Standing) × Opens does over (Holds limits commands) shown after × Stands after s
  not_opened limits commands opening.NotAWarehouse s tells accepted none = absurd none
  not_opened limits commands opening.OldFormat s tells accepted none = absurd none
  not_opened limits commands opening.NewFormat s tells accepted none = absurd none
  not_opened limits commands (opening.Damaged table) s tells accepted none = absurd none
  not_opened limits commands opening.Memory s tells accepted rests =
      (Rests (Holds limits commands), inr (record { why = opening.Memory; leaves = refl; tells = tells }), (accepted, rests))
  not_opened limits commands (opening.Store cause) s tells accepted left =
      (LeftAt (Holds limits commands) (Holds limits commands), inr (record { why = opening.Store cause; leaves = refl; tells = tells }), record { each = left.each })

  -- or one that was not
  pub unopened : (why : OpenFault) (s0 s1 : State)
      → ((limits : Limits) (commands : List Accepted) → AreAdmitted limits commands → engine.Rests limits commands s0 → IsNotOpened limits commands why s1)
      → (IsAtRest None s0 → (why ≡ opening.NotAWarehouse) × IsAt Nothing s1)
      → ((stored : Stored) → RestsOn stored s0 → UnopenedBy stored why × LeavesStored stored s1 × (SparesStore why → RestsOn stored s1))
      → ((what : DatabaseContent) → IsAt what s0 → LeavesEither what what s1 × (SparesStore why → IsAt what s1))
      → IfOk shown (λ a. a ≡ opening_answer why)
      → IsAt content s0 → (after : Standing) × Opens does over content shown after × Stands after s1
  unopened why s0 s1 refused missing bad same tells at = elim content as (λ what. IsAt what s0 → (after : Standing) × Opens does over what shown after × Stands after s1) [
    | Nothing ↦ λ at. let m = missing at in (Rests Nothing, (refl, subst (λ w. IfOk shown (λ a. a ≡ opening_answer w)) m.0 tells), m.1)
    | Holds limits commands ↦ λ at. not_opened limits commands why s1 tells at.0 (refused limits commands at.0 at.1)
    | Keeps stored ↦ λ at. let left = unread stored shown why s1 tells (bad stored at) in (left.0, inr left.1, left.2)
    | Is db ↦ λ at. let left = unread_file (Is db) shown why s1 tells (same (Is db) at) in (left.0, inr left.1, left.2)
  ] at

-- ---- how a call of the engine ended

stands_left : (limits : Limits) (left : Left) (session : Session) (s : State) → IsLeft limits session s left → Stands (left_standing limits left) s
stands_left limits (At commands) session s ready = (ready.admitted, ready.rests)
stands_left limits (Between before after) session s stopped = record { each = stopped.left.each }

-- what it left of the engine is what stands then
pub left : {A : Type 0} (is_due : Result A Refusal → Type 0) (before after : List Accepted) (limits : Limits) (result : Result A Fault) (session : Session) (s : State) → Outcome is_due before after result (IsLeft limits session s)
    → (standing : Standing) × Outcome is_due before after result (λ where_to. standing ≡ left_standing limits where_to) × Stands standing s
left is_due before after limits (Ok shown) session s ended = (left_standing limits (At after), (ended.0, refl), stands_left limits (At after) session s ended.1)
left is_due before after limits (Err (fault.Refused why)) session s ended = (left_standing limits (At before), (ended.0, refl), stands_left limits (At before) session s ended.1)
left is_due before after limits (Err fault.Memory) session s ended = (left_standing limits (At before), refl, stands_left limits (At before) session s ended)
left is_due before after limits (Err (fault.Store cause)) session s ended = (left_standing limits (Between before after), refl, stands_left limits (Between before after) session s ended)
left is_due before after limits (Err (fault.Damaged table)) session s none = absurd none
left is_due before after limits (Err fault.Reopen) session s none = absurd none

-- a command that the engine replied to, where there is room to print the reply
pub replied : (room : Type 0) (c : Command) (limits : Limits) (commands : List Accepted) (shown : Shown) (reply : Result Reply Fault) (session : Session) (s : State)
    → (room → printed shown ≡ sent_answer c.id reply) → IsAnswered limits commands c reply session s
    → (after : Standing) × (room → IsReplied c limits commands shown after) × Stands after s
replied room c limits commands shown reply session s tells is =
    let l = left (λ shown. answer limits commands c ≡ shown) commands (accepted_after limits commands c) limits reply session s is in
    (l.0, λ has. record { reply = reply; leaves = l.1; tells = tells has }, l.2)

-- over what anybody wrote: it stands as it was where nothing was kept
refused_over : (content : DatabaseContent) (reply : Result Reply Fault) (s : State) → (KeepsNothing reply → IsAt content s) → (after : Standing) × LeavesRefused content reply after × Stands after s
refused_over content (Ok (replies.Accepted receipt)) s same = (Unknown, refl, tt)
refused_over content (Ok (replies.Already receipt)) s same = (Rests content, refl, same tt)
refused_over content (Err (fault.Refused why)) s same = (Rests content, refl, same tt)
refused_over content (Err (fault.Damaged table)) s same = (Rests content, refl, same tt)
refused_over content (Err fault.Memory) s same = (Rests content, refl, same tt)
refused_over content (Err (fault.Store cause)) s same = (Unknown, refl, tt)
refused_over content (Err fault.Reopen) s same = (Rests content, refl, same tt)

-- and what is told of its rows is so
true_of : (content : DatabaseContent) (c : Command) (reply : Result Reply Fault) (s : State) → IsAt content s → ((stored : Stored) → RestsOn stored s → BlamesDamage stored reply × IsAgain stored c reply) → IsTrueOf content c reply
true_of Nothing c reply s at says = tt
true_of (Holds limits commands) c reply s at says = tt
true_of (Keeps stored) c reply s at says = says stored at
true_of (Is db) c reply s at says = tt

pub replies_over : (old new : State) (c : Command) (reply : Result Reply Fault) → (HasCleanDisk new → (content : DatabaseContent) → IsAt content old → KeepsNothing reply → IsAt content new)
    → (HasCleanDisk new → (stored : Stored) → RestsOn stored old → BlamesDamage stored reply × IsAgain stored c reply) → RepliesOver old new c reply
replies_over old new c reply same says = λ clean content at. (same clean content at, true_of content c reply old at (says clean))

pub replied_over : (room : Type 0) (c : Command) (content : DatabaseContent) (shown : Shown) (reply : Result Reply Fault) (old new : State)
    → (room → printed shown ≡ sent_answer c.id reply) → IsAt content old → (KeepsNothing reply → IsAt content new) → ((stored : Stored) → RestsOn stored old → BlamesDamage stored reply × IsAgain stored c reply)
    → (after : Standing) × (room → IsRepliedOver c content shown after) × Stands after new
replied_over room c content shown reply old new tells at same says =
    let l = refused_over content reply new same in
    (l.0, λ has. record { reply = reply; leaves = l.1; is_true = true_of content c reply old at says; tells = tells has }, l.2)

-- a plan
pub foretold : (c : Command) (limits : Limits) (commands : List Accepted) (shown : Shown) (edits : Result Edits Fault) (session : Session) (s : State)
    → IfOk shown (λ a. a ≡ plan_answer edits) → EngineForetold limits commands c edits session s
    → (after : Standing) × IsForetold c limits commands shown after × Stands after s
foretold c limits commands shown edits session s tells is =
    let l = left (IsPlanOf limits commands c) commands commands limits edits session s is in
    (l.0, record { edits = edits; leaves = l.1; tells = tells }, l.2)

-- a preview
pub explained : (kind : CommandKind) (bytes : List ℕ) (limits : Limits) (commands : List Accepted) (shown : Shown) (preview : Result Preview Fault) (session : Session) (s : State)
    → IfOk shown (Begins (preview_answer preview)) → IsPreviewed limits commands kind bytes preview session s
    → (after : Standing) × IsExplained kind bytes limits commands shown after × Stands after s
explained kind bytes limits commands shown preview session s tells is =
    let l = left (IsPreviewOf limits commands kind bytes) commands commands limits preview session s is in
    (l.0, record { preview = preview; leaves = l.1; tells = tells }, l.2)

-- what a kind takes, by the policy in force and the format
pub described : (kind : CommandKind) (limits : Limits) (commands : List Accepted) (shown : Shown) (session : Session) (s : State)
    → IfOk shown (Begins (done (first_of_kind kind session.policy session.format))) → IsReady limits commands session s
    → (after : Standing) × IsDescribed kind limits commands shown after × Stands after s
described kind limits commands shown session s tells ready = (
  Rests (Holds limits commands),
  record { same = refl; tells = subst (λ (x : Session). IfOk shown (Begins (done (first_of_kind kind x.policy x.format)))) ready.session_is tells },
  (ready.admitted, ready.rests),
)

-- a count
pub counted : (limits : Limits) (commands : List Accepted) (shown : Shown) (counts : Result Counts Fault) (session : Session) (s : State)
    → IfOk shown (λ a. a ≡ status_answer counts) → EngineCounted limits commands counts session s
    → (after : Standing) × IsCounted limits commands shown after × Stands after s
counted limits commands shown counts session s tells is =
    let l = left (λ shown. shown ≡ Ok (counts_of commands)) commands commands limits counts session s is in
    (l.0, record { counts = counts; leaves = l.1; tells = tells }, l.2)

-- ---- init

pub made_ok : (content : DatabaseContent) (bytes : List ℕ) (shown : Shown) (policy : Policy) (limits : Limits) (session : Session) (s0 s1 : State)
    → limits ≡ greatest_limits → read_policy bytes ≡ Ok policy → (IsAtRest None s0 → IsReady limits (init_of policy bytes ∷ []) session s1) → is_any_taken s0.now.schema ≡ false
    → shown ≡ Ok (done made_line) → IsAt content s0 → (after : Standing) × Makes bytes content shown after × Stands after s1
made_ok Nothing bytes shown policy limits session s0 s1 most reads makes free tells at =
    let ready = subst (λ l. IsReady l (init_of policy bytes ∷ []) session s1) most (makes at) in
    (Rests (Holds greatest_limits (init_of policy bytes ∷ [])), inl (record { policy = policy; reads = reads; then_is = refl; tells = tells }), (ready.admitted, ready.rests))
made_ok (Keeps stored) bytes shown policy limits session s0 s1 most reads makes free tells at =
    let taken : is_any_taken s0.now.schema ≡ true = ap is_any_taken at.now.schema ∙ taken_in stored.format in
    absurd (cc (free, taken))
made_ok (Holds l cs) bytes shown policy limits session s0 s1 most reads makes free tells at =
    let taken : is_any_taken s0.now.schema ≡ true = ap is_any_taken at.1.rests.now.schema ∙ taken_in at.1.tables.format in
    absurd (cc (free, taken))
made_ok (Is db) bytes shown policy limits session s0 s1 most reads makes free tells at = (Unknown, inl (sym (ap (λ (d : Database). is_any_taken d.schema) at.now) ∙ free, refl), tt)

unmade_store : (bytes : List ℕ) (shown : Shown) (why : InitFault) (s1 : State) (read : Result Policy PolicyFault) → read_policy bytes ≡ read → IsOk read
    → ((policy : Policy) (after : Standing) → read_policy bytes ≡ Ok policy → after ≡ LeftAt Nothing (Holds greatest_limits (init_of policy bytes ∷ [])) → Makes bytes Nothing shown after)
    → LeavesMade greatest_limits bytes s1 → (after : Standing) × Makes bytes Nothing shown after × Stands after s1
unmade_store bytes shown why s1 (Ok policy) e ok says left = (
  LeftAt Nothing (Holds greatest_limits (init_of policy bytes ∷ [])),
  says policy _ e refl,
  record {
    each = λ trees may. elim (left.each trees may) [
      | inl x ↦ inl x
      | inr x ↦ (let same : x.0 ≡ policy = cc (x.1, e) in inr (subst (λ q. engine.AreTreesOf greatest_limits (init_of q bytes ∷ []) trees) same x.2))
    ];
  },
)
unmade_store bytes shown why s1 (Err fault) e ok says left = absurd (cc ok)

unmade_nothing : (bytes : List ℕ) (shown : Shown) (why : InitFault) (s1 : State)
    → IsNotMade bytes false why → (NothingIsWritten why → IsAtRest None s1) → LeavesMade greatest_limits bytes s1
    → printed shown ≡ making_answer why → (after : Standing) × Makes bytes Nothing shown after × Stands after s1
unmade_nothing bytes shown (making.Policy fault) s1 refused same left tells = (Rests Nothing, inr (record { why = making.Policy fault; leaves = (refused, refl); tells = tells }), same tt)
unmade_nothing bytes shown making.NotEmpty s1 refused same left tells = absurd (cc refused.1)
unmade_nothing bytes shown making.Memory s1 refused same left tells = (Rests Nothing, inr (record { why = making.Memory; leaves = (tt, refl); tells = tells }), same tt)
unmade_nothing bytes shown (making.Store cause) s1 refused same left tells =
    unmade_store bytes shown (making.Store cause) s1 (read_policy bytes) refl refused (λ policy after e is. inr (record { why = making.Store cause; leaves = (policy, e, is); tells = tells })) left

unmade_in : (db : Database) (bytes : List ℕ) (shown : Shown) (why : InitFault) (s0 s1 : State)
    → IsNotMade bytes (is_any_taken s0.now.schema) why → (is_any_taken s0.now.schema ≡ true → (c : DatabaseContent) → IsAt c s0 → IsAt c s1)
    → printed shown ≡ making_answer why → IsAt (Is db) s0 → (taken : Bool) → is_any_taken s0.now.schema ≡ taken → (after : Standing) × Makes bytes (Is db) shown after × Stands after s1
unmade_in db bytes shown why s0 s1 refused kept tells at true is =
    (Rests (Is db), inr (record { why = why; refused = subst (λ b. IsNotMade bytes b why) is refused; same = refl; tells = tells }), kept is (Is db) at)
unmade_in db bytes shown why s0 s1 refused kept tells at false is = (Unknown, inl (sym (ap (λ (d : Database). is_any_taken d.schema) at.now) ∙ is, refl), tt)

pub unmade : (content : DatabaseContent) (bytes : List ℕ) (shown : Shown) (why : InitFault) (limits : Limits) (s0 s1 : State)
    → limits ≡ greatest_limits → IsNotMade bytes (is_any_taken s0.now.schema) why → (NothingIsWritten why → IsAtRest None s0 → IsAtRest None s1) → (IsAtRest None s0 → LeavesMade limits bytes s1)
    → (is_any_taken s0.now.schema ≡ true → (c : DatabaseContent) → IsAt c s0 → IsAt c s1)
    → printed shown ≡ making_answer why → IsAt content s0 → (after : Standing) × Makes bytes content shown after × Stands after s1
unmade Nothing bytes shown why limits s0 s1 most refused same left kept tells at =
    let free : is_any_taken s0.now.schema ≡ false = ap is_any_taken at.now.schema ∙ taken_in_none in
    unmade_nothing bytes shown why s1 (subst (λ taken. IsNotMade bytes taken why) free refused) (λ w. same w at) (subst (λ l. LeavesMade l bytes s1) most (left at)) tells
unmade (Holds l cs) bytes shown why limits s0 s1 most refused same left kept tells at =
    let taken : is_any_taken s0.now.schema ≡ true = ap is_any_taken at.1.rests.now.schema ∙ taken_in at.1.tables.format in
    (Rests (Holds l cs), record { why = why; refused = subst (λ b. IsNotMade bytes b why) taken refused; same = refl; tells = tells }, kept taken (Holds l cs) at)
unmade (Keeps stored) bytes shown why limits s0 s1 most refused same left kept tells at =
    let taken : is_any_taken s0.now.schema ≡ true = ap is_any_taken at.now.schema ∙ taken_in stored.format in
    (Rests (Keeps stored), record { why = why; refused = subst (λ b. IsNotMade bytes b why) taken refused; same = refl; tells = tells }, kept taken (Keeps stored) at)
unmade (Is db) bytes shown why limits s0 s1 most refused same left kept tells at = unmade_in db bytes shown why s0 s1 refused kept tells at (is_any_taken s0.now.schema) refl

-- no memory for the line
pub not_begun : (content : DatabaseContent) (bytes : List ℕ) (e : AllocError) (s : State) → IsAt content s → (after : Standing) × Makes bytes content (Err e) after × Stands after s
not_begun Nothing bytes e s at = (Rests Nothing, inr (record { why = making.Memory; leaves = (tt, refl); tells = refl }), at)
not_begun (Keeps stored) bytes e s at = (Rests (Keeps stored), record { why = making.Memory; refused = tt; same = refl; tells = refl }, at)
not_begun (Is db) bytes e s at = (Rests (Is db), inr (record { why = making.Memory; refused = tt; same = refl; tells = refl }), at)
not_begun (Holds l cs) bytes e s at = (Rests (Holds l cs), record { why = making.Memory; refused = tt; same = refl; tells = refl }, at)

-- ---- a visit

module _ (refuses : Refusals) (stands : Standing → Type 0) (content : DatabaseContent) (file : List ℕ) (visit : Result Shown HostError) (shown : Shown)
    (same : OnErr visit (stands (Rests content))) (why : IfErr visit (λ e. e ≡ NoFile → refuses file)) (is : IfOk visit (λ output. shown ≡ output))
    (other : IfErr visit (λ e. IfOk shown (λ a. (e ≡ NoFile) × (a ≡ failed (no_file_line file))))) where
  pub answered_alone : (does : Shown → Standing → Type 0) → IfOk visit (λ output. (after : Standing) × does output after × stands after) → IsTried stands does shown ⊎ IsNotConnected refuses stands content file shown
  answered_alone does did = elim visit as
      (λ v. IfOk v (λ output. (after : Standing) × does output after × stands after) → OnErr v (stands (Rests content)) → IfErr v (λ e. e ≡ NoFile → refuses file)
      → IfOk v (λ output. shown ≡ output) → IfErr v (λ e. IfOk shown (λ a. (e ≡ NoFile) × (a ≡ failed (no_file_line file))))
      → IsTried stands does shown ⊎ IsNotConnected refuses stands content file shown) [
        | Ok output ↦ λ did same why is other. inl (record { after = did.0; then_stands = did.2; did = subst (λ t. does t did.0) (sym is) did.1 })
        | Err e ↦ λ did same why is other. inr (record { same = same; tells = IfOk-weaker shown _ _ (λ a says. (why says.0, says.1)) other })
      ] did same why is other

-- what is answered where the host can't open the name
pub shut_answered : (visit : Result Shown HostError) (file : List ℕ) (shown : Shown) → OnOk visit ⊥ → IfErr visit (λ e. IfOk shown (λ a. (e ≡ NoFile) × (a ≡ failed (no_file_line file)))) → IfOk shown (λ a. a ≡ failed (no_file_line file))
shut_answered (Ok output) file shown none says = absurd none
shut_answered (Err e) file shown none says = IfOk-weaker shown _ _ (λ a is. is.1) says

module _ (same : Type 0) (file : List ℕ) (before : Printed → Type 0) (shown : Shown) where
  pub shut_or : AnswersShut same (IsNoFile file) shown → AnswersShut same (IsNoFileOr file before) shown
  shut_or is = (is.0, IfOk-weaker shown _ _ (λ a closed. inl closed) is.1)

  -- what is answered before that is tried
  pub answered_before : same → IfOk shown before → AnswersShut same (IsNoFileOr file before) shown
  answered_before is tells = (is, IfOk-weaker shown _ _ (λ a so. inr so) tells)

module _ (file : List ℕ) (first second : Printed → Type 0) (so : (a : Printed) → first a → second a) where
  either_way : (a : Printed) → IsNoFileOr file first a → IsNoFileOr file second a
  either_way a (inl closed) = inl closed
  either_way a (inr is) = inr (so a is)

  -- the same, said of more
  pub shut_before : (same : Type 0) (prints : Shown → Type 0) → PrintsShut same (IsNoFileOr file first) prints → PrintsShut same (IsNoFileOr file second) prints
  shut_before same prints is = (is.0, (is.1.0, IfOk-weaker is.1.0 (IsNoFileOr file first) (IsNoFileOr file second) either_way is.1.1, is.1.2))

pub prints_shut_or : (same : Type 0) (file : List ℕ) (before : Printed → Type 0) (prints : Shown → Type 0) → PrintsShut same (IsNoFile file) prints → PrintsShut same (IsNoFileOr file before) prints
prints_shut_or same file before prints is = (is.0, (is.1.0, IfOk-weaker is.1.0 (IsNoFile file) (IsNoFileOr file before) (λ a closed. inl closed) is.1.1, is.1.2))

-- ---- with the bytes of an input

-- under a bad policy nothing is done
pub nothing_made : (content : DatabaseContent) (bytes : List ℕ) (fault : PolicyFault) (a : Printed) → read_policy bytes ≡ Err fault → a ≡ refused (policy_line fault) → Makes bytes content (Ok a) (Rests content)
nothing_made Nothing bytes fault a bad tells = inr (record { why = making.Policy fault; leaves = (bad, refl); tells = tells })
nothing_made (Holds limits commands) bytes fault a bad tells = record { why = making.Policy fault; refused = bad; same = refl; tells = tells }
nothing_made (Is db) bytes fault a bad tells = inr (record { why = making.Policy fault; refused = bad; same = refl; tells = tells })
nothing_made (Keeps stored) bytes fault a bad tells = record { why = making.Policy fault; refused = bad; same = refl; tells = tells }

module _ (holds : Files) (refuses : Refusals) (stands : Standing → Type 0) (content : DatabaseContent) (file path bytes : List ℕ) (held : holds path (Some bytes)) where
  pub bad_answered : (fault : PolicyFault) (shown : Shown) → read_policy bytes ≡ Err fault → stands (Rests content) → IfOk shown (λ a. a ≡ refused (policy_line fault))
      → AnswersWith holds refuses stands Makes content file path shown
  bad_answered fault (Ok a) bad same tells =
      inl (record { bytes = bytes; held = held; tried = record { after = Rests content; then_stands = same; did = nothing_made content bytes fault a bad tells } })
  bad_answered fault (Err e) bad same tells = inr (record { same = same; tells = tt })

  -- what was worked, or not connected, with the bytes of an input
  pub answered_with : (does : List ℕ → DatabaseContent → Shown → Standing → Type 0) (shown : Shown) → IsTried stands (does bytes content) shown ⊎ IsNotConnected refuses stands content file shown
      → AnswersWith holds refuses stands does content file path shown
  answered_with does shown (inl tried) = inl (record { bytes = bytes; held = held; tried = tried })
  answered_with does shown (inr not) = inr (record { same = not.same; tells = IfOk-weaker shown _ _ (λ a says. inr says) not.tells })

-- what a failed visit leaves
pub same_left : {T E : Type 0} (visit : Result T E) (before after : List ℕ → Standing → Type 0) (name : List ℕ) (standing : Standing)
    → OnErr visit ((any : List ℕ) (s : Standing) → before any s → after any s) → before name standing → OnErr visit (after name standing)
same_left (Ok output) before after name standing kept stood = tt
same_left (Err e) before after name standing kept stood = kept name standing stood
