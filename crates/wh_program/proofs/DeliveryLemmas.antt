-- What a delivery prints, answers and leaves.
use Rattle.std.proofs.Common.{◌≡◌, ◌≢◌, inl, inr, refl, sym, subst, ap, ap₂, ◌∙◌, arith, ℕ, suc, ◌+◌, ◌<◌, ◌≤◌, le_trans, Bool, true, List, [], ◌∷◌, ◌++◌, length, take, drop, get_or, append_assoc, append-nil, Option, Some, None, Ok, Err}
use Rattle.std.specs.Prelude.{◌⊎◌, Result, IfOk, if◌then◌else◌, is_err, map}
use Rattle.std.specs.Io.KnownBytes.{Appends}
use Rattle.std.specs.List.{AllByRecursion, list_any}
use Rattle.std.proofs.KnownBytes.{Appends-nil, Appends-trans}
use Rattle.std.proofs.Math.Nat.{le-max_left, le-max_right}
use Rattle.std.proofs.Math.Seq.{take-append-add, take-append_seam}
use Rattle.std.proofs.lemmas.List.{drop_more, drop_all, length-append, take-append-drop, take_more}
use Rattle.sqlite.specs.State.{State, HasCleanDisk}
use Rattle.std.specs.declared.alloc.AllocError.{AllocError}
use Rattle.wh_batch.specs.declared.manifest.BadManifest.{BadManifest}
use Rattle.wh_batch.specs.declared.manifest.ManifestEntry.{ManifestEntry}
use Rattle.wh_history.specs.Accepted.{Accepted}
use Rattle.wh_history.specs.Tables.{Limits}
use Rattle.wh_admission.specs.Admission.{answer as answer_to, accepted_after, accepted_after_all}
use Rattle.wh_admission.specs.declared.command.Command.{Command}
use Rattle.wh_admission.specs.declared.command.Refusal.{Refusal}
use Rattle.wh_admission.specs.declared.command.Reply.{Reply}
use Rattle.wh_admission.specs.declared.command.Reply.TheVariants.{Accepted as Accepts, Already}
use Rattle.wh_engine.specs.Answered.{IsReady, IsAnswered, KeepsNothing}
use Rattle.wh_engine.specs.Delivered.{IsDelivered as EngineDelivered, answers_to, answer_or_stop}
use Rattle.wh_engine.specs.declared.fault.Fault.{Fault}
use Rattle.wh_engine.specs.declared.fault.Fault.TheVariants as fault
use Rattle.wh_engine.specs.declared.session.Session.{Session}
use Rattle.wh_engine.proofs.Delivering.{answers_join, deliveries_join, goes_on, stopped_at}
use Rattle.wh_program.specs.Answer.{refused, status_code}
use Rattle.wh_program.specs.Delivery.{answered_line, answered_lines, stop_line, delivery_status, delivery_answer, due_lines, IsDelivered, Delivers, Replied, replied_lines, KeepNothing, AreTrueOf, IsDeliveredOver, AreCommandsOf, IsFirstMissing, AnswersRead, manifest_line}
use Rattle.wh_program.specs.Inputs.{Files, Refusals, as_input}
use Rattle.wh_program.specs.Readings.{answer_after}
use Rattle.wh_program.specs.Reply.{sent_answer}
use Rattle.wh_program.specs.Room.{longest_answer, longest_reply}
use Rattle.wh_program.specs.Run.{GoesOut, IsCutOff, Prints, PrintsWhole}
use Rattle.wh_program.specs.Standing.{DatabaseContent, Holds, Standing, Unknown, Rests, LeftAt, IsAt, Stands}
use Rattle.wh_program.specs.Warehouse.{Shown, printed, IsCommandOf, IsTrueOf, RepliesOver}
use Rattle.wh_program.specs.declared.lines.answer.Status.{Status as Ending}
use Rattle.wh_program.specs.declared.lines.answer.Status.TheVariants as ending
use Rattle.wh_program.proofs.RunLemmas.{cut-answer_after}
use Rattle.wh_program.proofs.WarehouseLemmas.{left}

-- ---- the next command

-- those before it, it, and those behind
pub parted_at : (sent : List Command) (i : ℕ) (c : Command) → i < length sent → c ≡ get_or sent i c → sent ≡ take i sent ++ c ∷ drop (i + 1) sent
parted_at sent i c within at =
    sym (take-append-drop i sent) ∙ ap (λ (behind : List Command). take i sent ++ behind) (drop_more sent i c within ∙ ap (λ (x : Command). x ∷ drop (i + 1) sent) (sym at))

-- those up to it
pub up_to_it : (sent : List Command) (i : ℕ) (c : Command) → i < length sent → c ≡ get_or sent i c → take i sent ++ c ∷ [] ≡ take (i + 1) sent
up_to_it sent i c within at = sym (take_more sent i c within ∙ ap (λ (x : Command). take i sent ++ x ∷ []) (sym at))

-- ---- room

-- the line of the reply to a command fits into the room for that of any of those around it
pub fits_longest : (before : List Command) (c : Command) (behind : List Command) → longest_answer c.id ≤ longest_reply (before ++ c ∷ behind)
fits_longest [] c behind = le-max_left (longest_answer c.id) (longest_reply behind)
fits_longest (d ∷ before) c behind = le_trans (fits_longest before c behind) (le-max_right (longest_answer d.id) (longest_reply (before ++ c ∷ behind)))

-- ---- the text

no_answers : (left : List Command) → answered_lines left [] ≡ []
no_answers [] = refl
no_answers (c ∷ left) = refl

-- commands that aren't answered have no line
lines_among : (before : List Command) (answers : List (Result Reply Refusal)) (behind : List Command) → length answers ≡ length before → answered_lines (before ++ behind) answers ≡ answered_lines before answers
lines_among [] [] behind same = no_answers behind
lines_among [] (a ∷ answers) behind same = absurd (omega (arith, same))
lines_among (c ∷ before) [] behind same = refl
lines_among (c ∷ before) (a ∷ answers) behind same = ap (λ (t : List ℕ). answered_line c.id a ++ t) (lines_among before answers behind (omega (arith, same)))

-- one more answer has its line behind the others
lines_next : (before : List Command) (answers : List (Result Reply Refusal)) (c : Command) (a : Result Reply Refusal) → length answers ≡ length before
    → answered_lines (before ++ c ∷ []) (answers ++ a ∷ []) ≡ answered_lines before answers ++ answered_line c.id a
lines_next [] [] c a same = append-nil (answered_line c.id a)
lines_next [] (b ∷ answers) c a same = absurd (omega (arith, same))
lines_next (d ∷ before) [] c a same = absurd (omega (arith, same))
lines_next (d ∷ before) (b ∷ answers) c a same =
    ap (λ (t : List ℕ). answered_line d.id b ++ t) (lines_next before answers c a (omega (arith, same))) ∙ sym (append_assoc (answered_line d.id b) (answered_lines before answers) (answered_line c.id a))

-- ---- the status

-- how a delivery ends at an answer
abbrev ending_of : Result Reply Refusal → Ending
ending_of (Ok reply) = ending.Done
ending_of (Err why) = ending.Refused

any_still : (answers : List (Result Reply Refusal)) (reply : Reply) → list_any is_err (answers ++ Ok reply ∷ []) ≡ list_any is_err answers
any_still [] reply = refl
any_still (Ok first ∷ answers) reply = any_still answers reply
any_still (Err why ∷ answers) reply = refl

any_now : (answers : List (Result Reply Refusal)) (why : Refusal) → list_any is_err (answers ++ Err why ∷ []) ≡ true
any_now [] why = refl
any_now (Ok reply ∷ answers) why = any_now answers why
any_now (Err first ∷ answers) why = refl

abbrev ending_where : Bool → Ending
ending_where refused = if refused then ending.Refused else ending.Done

-- a reply that isn't cut off and doesn't end a delivery is an answer, whose line went out
shown_answer : (id : List ℕ) (shown : Ending) (reply : Result Reply Fault) (old new : Option (List ℕ)) → shown ≢ ending.Failed → Prints old new (status_code shown) (sent_answer id reply)
    → (a : Result Reply Refusal) × (answer_or_stop reply ≡ Ok a) × Appends old new (answered_line id a) × (shown ≡ ending_of a)
shown_answer id ending.Failed reply old new goes prints = absurd (goes refl)
shown_answer id ending.Done reply old new goes (inr (kept, cut)) = let at = cut.status in absurd (omega (arith, at))
shown_answer id ending.Done (Ok (Accepts receipt)) old new goes (inl whole) = (Ok (Accepts receipt), refl, whole.text, refl)
shown_answer id ending.Done (Ok (Already receipt)) old new goes (inl whole) = (Ok (Already receipt), refl, whole.text, refl)
shown_answer id ending.Done (Err (fault.Refused why)) old new goes (inl whole) = let at = whole.status in absurd (omega (arith, at))
shown_answer id ending.Done (Err (fault.Damaged table)) old new goes (inl whole) = let at = whole.status in absurd (omega (arith, at))
shown_answer id ending.Done (Err fault.Memory) old new goes (inl whole) = let at = whole.status in absurd (omega (arith, at))
shown_answer id ending.Done (Err (fault.Store cause)) old new goes (inl whole) = let at = whole.status in absurd (omega (arith, at))
shown_answer id ending.Done (Err fault.Reopen) old new goes (inl whole) = let at = whole.status in absurd (omega (arith, at))
shown_answer id ending.Refused reply old new goes (inr (kept, cut)) = let at = cut.status in absurd (omega (arith, at))
shown_answer id ending.Refused (Ok (Accepts receipt)) old new goes (inl whole) = let at = whole.status in absurd (omega (arith, at))
shown_answer id ending.Refused (Ok (Already receipt)) old new goes (inl whole) = let at = whole.status in absurd (omega (arith, at))
shown_answer id ending.Refused (Err (fault.Refused why)) old new goes (inl whole) = (Err why, refl, whole.text, refl)
shown_answer id ending.Refused (Err (fault.Damaged table)) old new goes (inl whole) = let at = whole.status in absurd (omega (arith, at))
shown_answer id ending.Refused (Err fault.Memory) old new goes (inl whole) = let at = whole.status in absurd (omega (arith, at))
shown_answer id ending.Refused (Err (fault.Store cause)) old new goes (inl whole) = let at = whole.status in absurd (omega (arith, at))
shown_answer id ending.Refused (Err fault.Reopen) old new goes (inl whole) = let at = whole.status in absurd (omega (arith, at))

line_of_answer : (id : List ℕ) (reply : Result Reply Fault) (a : Result Reply Refusal) → answer_or_stop reply ≡ Ok a → (sent_answer id reply).text ≡ answered_line id a
line_of_answer id (Ok (Accepts receipt)) a is = let same : Ok (Accepts receipt) ≡ a = cc is in ap (answered_line id) same
line_of_answer id (Ok (Already receipt)) a is = let same : Ok (Already receipt) ≡ a = cc is in ap (answered_line id) same
line_of_answer id (Err (fault.Refused why)) a is = let same : Err why ≡ a = cc is in ap (answered_line id) same
line_of_answer id (Err (fault.Damaged table)) a is = absurd (cc is)
line_of_answer id (Err fault.Memory) a is = absurd (cc is)
line_of_answer id (Err (fault.Store cause)) a is = absurd (cc is)
line_of_answer id (Err fault.Reopen) a is = absurd (cc is)

-- a reply with the status of a failure stops a delivery
failed_stop : (id : List ℕ) (reply : Result Reply Fault) → 3 ≡ (sent_answer id reply).status → (why : Fault) × (answer_or_stop reply ≡ Err why) × ((sent_answer id reply).text ≡ stop_line (Some why))
failed_stop id (Ok (Accepts receipt)) is = absurd (omega (arith, is))
failed_stop id (Ok (Already receipt)) is = absurd (omega (arith, is))
failed_stop id (Err (fault.Refused why)) is = absurd (omega (arith, is))
failed_stop id (Err (fault.Damaged table)) is = (fault.Damaged table, refl, refl)
failed_stop id (Err fault.Memory) is = (fault.Memory, refl, refl)
failed_stop id (Err (fault.Store cause)) is = (fault.Store cause, refl, refl)
failed_stop id (Err fault.Reopen) is = (fault.Reopen, refl, refl)

-- ---- what is left

-- what the engine's answers say of the store, as what stands
delivered : (sent : List Command) (limits : Limits) (commands : List Accepted) (shown : Shown) (answers : List (Result Reply Refusal)) (stop : Option Fault) (session : Session) (s : State)
    → printed shown ≡ delivery_answer sent answers stop → EngineDelivered limits commands sent answers stop session s
    → (after : Standing) × IsDelivered sent limits commands shown after × Stands after s
delivered sent limits commands shown answers None session s tells (are, ready) =
    (Rests (Holds limits (accepted_after_all limits commands sent)), record { answers = answers; stop = None; leaves = (are, refl); tells = tells }, (ready.admitted, ready.rests))
delivered sent limits commands shown answers (Some (fault.Refused why)) session s tells none = absurd none
delivered sent limits commands shown answers (Some (fault.Damaged table)) session s tells none = absurd none
delivered sent limits commands shown answers (Some fault.Memory) session s tells (are, few, ready) =
    (Rests (Holds limits (accepted_after_all limits commands (take (length answers) sent))), record { answers = answers; stop = Some fault.Memory; leaves = (are, few, refl); tells = tells }, (ready.admitted, ready.rests))
delivered sent limits commands shown answers (Some (fault.Store cause)) session s tells (are, few, stopped) = (
  LeftAt (Holds limits (accepted_after_all limits commands (take (length answers) sent))) (Holds limits (accepted_after_all limits commands (take (suc (length answers)) sent))),
  record { answers = answers; stop = Some (fault.Store cause); leaves = (are, few, refl); tells = tells },
  record { each = stopped.left.each },
)
delivered sent limits commands shown answers (Some fault.Reopen) session s tells none = absurd none

-- ---- commands that are sent one after the other

-- what is said of a delivery whose engine is ready for commands in the first session, over the first state
abbrev pub WhenReadyIn : Session → State → State → (Limits → List Accepted → Type 0) → Type 0
WhenReadyIn first s0 s fact = HasCleanDisk s → (limits : Limits) (commands : List Accepted) → IsReady limits commands first s0 → fact limits commands

-- ---- over what anybody wrote

all_before : {X : Type 0} (P : X → Type 0) (xs : List X) (x : X) → AllByRecursion P (xs ++ x ∷ []) → AllByRecursion P xs × P x
all_before P [] x all = (tt, all.0)
all_before P (y ∷ xs) x all = let r = all_before P xs x all.1 in ((all.0, r.0), r.1)

all_next : {X : Type 0} (P : X → Type 0) (xs : List X) (x : X) → AllByRecursion P xs → P x → AllByRecursion P (xs ++ x ∷ [])
all_next P [] x all is = (is, tt)
all_next P (y ∷ xs) x all is = (all.0, all_next P xs x all.1 is)

commands_next : (replied : Replied) (c : Command) (reply : Result Reply Fault)
    → map (λ (p : Command × Result Reply Fault). p.0) (replied ++ (c, reply) ∷ []) ≡ map (λ (p : Command × Result Reply Fault). p.0) replied ++ c ∷ []
commands_next [] c reply = refl
commands_next (p ∷ replied) c reply = ap (λ (cs : List Command). p.0 ∷ cs) (commands_next replied c reply)

replies_next : (replied : Replied) (c : Command) (reply : Result Reply Fault) → replied_lines (replied ++ (c, reply) ∷ []) ≡ replied_lines replied ++ (sent_answer c.id reply).text
replies_next [] c reply = append-nil (sent_answer c.id reply).text
replies_next (p ∷ replied) c reply =
    ap (λ (t : List ℕ). (sent_answer p.0.id p.1).text ++ t) (replies_next replied c reply) ∙ sym (append_assoc (sent_answer p.0.id p.1).text (replied_lines replied) (sent_answer c.id reply).text)

kept_or_not : (reply : Result Reply Fault) → KeepsNothing reply ⊎ (KeepsNothing reply → ⊥)
kept_or_not (Ok (Accepts receipt)) = inr (λ none. none)
kept_or_not (Ok (Already receipt)) = inl tt
kept_or_not (Err (fault.Refused why)) = inl tt
kept_or_not (Err (fault.Damaged table)) = inl tt
kept_or_not (Err fault.Memory) = inl tt
kept_or_not (Err (fault.Store cause)) = inr (λ none. none)
kept_or_not (Err fault.Reopen) = inl tt

all_kept_or_not : (replied : Replied) → KeepNothing replied ⊎ (KeepNothing replied → ⊥)
all_kept_or_not [] = inl tt
all_kept_or_not (p ∷ replied) = elim (kept_or_not p.1) [
  | inr never ↦ inr (λ all. never all.0)
  | inl is ↦ elim (all_kept_or_not replied) [ inl all ↦ inl (is, all) | inr never ↦ inr (λ all. never all.1) ]
]

-- what stood stands where nothing was kept, and each reply is true of it
abbrev AreOver : Replied → State → State → Type 0
AreOver replied s0 s = HasCleanDisk s → (content : DatabaseContent) → IsAt content s0 → KeepNothing replied → IsAt content s × AreTrueOf content replied

over_next : (replied : Replied) (c : Command) (reply : Result Reply Fault) (s0 s1 s2 : State) → (HasCleanDisk s2 → HasCleanDisk s1) → AreOver replied s0 s1 → RepliesOver s1 s2 c reply → AreOver (replied ++ (c, reply) ∷ []) s0 s2
over_next replied c reply s0 s1 s2 was before next = λ clean content at all.
    let kept = all_before (λ (p : Command × Result Reply Fault). KeepsNothing p.1) replied (c, reply) all in
    let here = before (was clean) content at kept.0 in
    let one = next clean content here.0 in
    (one.0 kept.1, all_next (λ (p : Command × Result Reply Fault). IsTrueOf content p.0 p.1) replied (c, reply) here.1 one.1)

-- so it is of a delivery
abbrev pub IsOver : List Command → Shown → State → State → Type 0
IsOver sent shown s0 s = HasCleanDisk s → (content : DatabaseContent) → IsAt content s0 → (after : Standing) × IsDeliveredOver sent content shown after × Stands after s

delivered_over : (sent behind : List Command) (replied : Replied) (shown : Shown) (s0 s : State) → sent ≡ map (λ (p : Command × Result Reply Fault). p.0) replied ++ behind → (printed shown).text ≡ replied_lines replied
    → AreOver replied s0 s → IsOver sent shown s0 s
delivered_over sent behind replied shown s0 s first tells over = λ clean content at. elim (all_kept_or_not replied) [
  | inl all ↦ (let so = over clean content at all in (Rests content, record { replied = replied; behind = behind; first = first; tells = tells; leaves = λ none. (refl, so.1) }, so.0))
  | inr never ↦ (Unknown, record { replied = replied; behind = behind; first = first; tells = tells; leaves = λ all. absurd (never all) }, tt)
]

-- The lines of the answers to these commands went out, and the answers are those that are due.
pub record AreSent (sent : List Command) (first last : Session) (s0 s : State) (old new : Option (List ℕ)) (status : Ending) : Type 0 where
  pub answers : List (Result Reply Refusal)
  pub many : length answers ≡ length sent
  pub went : Appends old new (answered_lines sent answers)
  pub ends : status ≡ delivery_status answers None
  pub clean : HasCleanDisk s → HasCleanDisk s0
  pub replied : Replied
  pub of : map (λ (p : Command × Result Reply Fault). p.0) replied ≡ sent
  pub lines : replied_lines replied ≡ answered_lines sent answers
  pub over : AreOver replied s0 s
  pub due : WhenReadyIn first s0 s (λ limits commands. (answers ≡ answers_to limits commands sent) × IsReady limits (accepted_after_all limits commands sent) last s)

-- a delivery went out, whole or in part
abbrev pub IsOut : List Command → Session → State → State → Option (List ℕ) → Option (List ℕ) → ℕ → Type 0
IsOut sent first s0 s old new code =
    (cut : Option ℕ) × (shown : Shown) × GoesOut cut old new code (printed shown) × WhenReadyIn first s0 s (λ limits commands. (after : Standing) × Delivers cut sent limits commands shown after × Stands after s) × IsOver sent shown s0 s

pub none_sent : (first : Session) (s : State) (out : Option (List ℕ)) → AreSent [] first first s s out out ending.Done
none_sent first s out = record {
  answers = [];
  many = refl;
  went = Appends-nil out;
  ends = refl;
  clean = λ clean. clean;
  replied = [];
  of = refl;
  lines = refl;
  over = λ clean content at all. (at, tt);
  due = λ clean limits commands ready. (refl, ready);
}

-- where all are sent
pub all_out : (sent : List Command) (first last : Session) (s0 s : State) (old new : Option (List ℕ)) (status : Ending) → AreSent sent first last s0 s old new status → IsOut sent first s0 s old new (status_code status)
all_out sent first last s0 s old new status are = (
  None,
  Ok (delivery_answer sent are.answers None),
  record { status = ap status_code are.ends; text = subst (Appends old new) (sym (append-nil (answered_lines sent are.answers))) are.went },
  (λ clean limits commands ready. delivered sent limits commands (Ok (delivery_answer sent are.answers None)) are.answers None last s refl (are.due clean limits commands ready)),
  delivered_over sent [] are.replied (Ok (delivery_answer sent are.answers None)) s0 s (sym are.of ∙ sym (append-nil (map (λ (p : Command × Result Reply Fault). p.0) are.replied))) (append-nil (answered_lines sent are.answers) ∙ sym are.lines) are.over,
)

module _ (before : List Command) (c : Command) (first at last : Session) (s0 s1 s2 : State) (old mid new : Option (List ℕ)) (status shown : Ending) (reply : Result Reply Fault)
    (are : AreSent before first at s0 s1 old mid status) (prints : Prints mid new (status_code shown) (sent_answer c.id reply)) (clean : HasCleanDisk s2 → HasCleanDisk s1)
    (answered : WhenReadyIn at s1 s2 (λ limits commands. IsAnswered limits commands c reply last s2)) (one : RepliesOver s1 s2 c reply) where
  -- what was replied up to it
  abbrev replied : Replied
  replied = are.replied ++ (c, reply) ∷ []

  over : AreOver replied s0 s2
  over = over_next are.replied c reply s0 s1 s2 clean are.over one

  of_those : map (λ (p : Command × Result Reply Fault). p.0) replied ≡ before ++ c ∷ []
  of_those = commands_next are.replied c reply ∙ ap (λ (cs : List Command). cs ++ c ∷ []) are.of

  their_lines : replied_lines replied ≡ answered_lines before are.answers ++ (sent_answer c.id reply).text
  their_lines = replies_next are.replied c reply ∙ ap (λ (t : List ℕ). t ++ (sent_answer c.id reply).text) are.lines

  -- one more
  next_sent : (next : Ending) (a : Result Reply Refusal) → answer_or_stop reply ≡ Ok a → Appends mid new (answered_line c.id a) → next ≡ delivery_status (are.answers ++ a ∷ []) None
      → AreSent (before ++ c ∷ []) first last s0 s2 old new next
  next_sent next a is line ends = record {
    answers = are.answers ++ a ∷ [];
    many = length-append are.answers (a ∷ []) ∙ ap (λ n. n + 1) are.many ∙ sym (length-append before (c ∷ []));
    went = subst (Appends old new) (sym (lines_next before are.answers c a are.many)) (Appends-trans old mid new (answered_lines before are.answers) (answered_line c.id a) are.went line);
    ends = ends;
    clean = λ after. are.clean (clean after);
    replied = replied;
    of = of_those;
    lines = their_lines ∙ ap (λ (t : List ℕ). answered_lines before are.answers ++ t) (line_of_answer c.id reply a is) ∙ sym (lines_next before are.answers c a are.many);
    over = over;
    due = λ after limits commands ready.
        let was = are.due (clean after) limits commands ready in
        let list = accepted_after_all limits commands before in
        let on = goes_on limits list c reply a last s2 (answered after limits list was.1) is in (
          ap₂ (λ xs x. xs ++ x ∷ []) was.0 on.0 ∙ sym (answers_join limits commands before (c ∷ [])),
          subst (λ list. IsReady limits list last s2) (sym (deliveries_join limits commands before (c ∷ []))) on.1,
        );
  }

  pub next_done : shown ≡ ending.Done → AreSent (before ++ c ∷ []) first last s0 s2 old new status
  next_done done =
      let a = shown_answer c.id shown reply mid new (λ failed. cc) prints in
      elim a.0 as (λ x. answer_or_stop reply ≡ Ok x → Appends mid new (answered_line c.id x) → shown ≡ ending_of x → AreSent (before ++ c ∷ []) first last s0 s2 old new status) [
        | Ok r ↦ λ is line e. next_sent status (Ok r) is line (are.ends ∙ ap ending_where (sym (any_still are.answers r)))
        | Err why ↦ λ is line e. absurd cc
      ] a.1 a.2 a.3

  pub next_refused : shown ≡ ending.Refused → AreSent (before ++ c ∷ []) first last s0 s2 old new ending.Refused
  next_refused refused =
      let a = shown_answer c.id shown reply mid new (λ failed. cc) prints in
      elim a.0 as (λ x. answer_or_stop reply ≡ Ok x → Appends mid new (answered_line c.id x) → shown ≡ ending_of x → AreSent (before ++ c ∷ []) first last s0 s2 old new ending.Refused) [
        | Ok r ↦ λ is line e. absurd cc
        | Err why ↦ λ is line e. next_sent ending.Refused (Err why) is line (ap ending_where (sym (any_now are.answers why)))
      ] a.1 a.2 a.3

  module _ (behind : List Command) where
    abbrev sent : List Command
    sent = before ++ c ∷ behind

    parts : sent ≡ map (λ (p : Command × Result Reply Fault). p.0) replied ++ behind
    parts = sym (append_assoc before (c ∷ []) behind) ∙ ap (λ (cs : List Command). cs ++ behind) (sym of_those)

    -- the line of what stopped them is the last
    stop_out : status_code shown ≡ 3 → PrintsWhole mid new (status_code shown) (sent_answer c.id reply) → IsOut sent first s0 s2 old new (status_code shown)
    stop_out failed whole =
        let stop = failed_stop c.id reply (sym failed ∙ whole.status) in
        let answers = are.answers in
        let here : take (length answers) sent ≡ before = ap (λ n. take n sent) are.many ∙ take-append_seam before (c ∷ behind) in
        let one : suc (length answers) ≡ length before + 1 = let many = are.many in omega (arith, many) in
        let next : take (suc (length answers)) sent ≡ before ++ c ∷ [] = ap (λ n. take n sent) one ∙ take-append-add before (c ∷ behind) 1 in
        let fewer : length answers < length sent = let many = are.many in let all = length-append before (c ∷ behind) in omega (arith, many, all) in
        let answer = delivery_answer sent answers (Some stop.0) in
        let lines = ap₂ (λ (a b : List ℕ). a ++ b) (sym (lines_among before answers (c ∷ behind) are.many)) stop.2 in (
          None,
          Ok answer,
          record { status = failed; text = subst (Appends old new) lines (Appends-trans old mid new (answered_lines before answers) (sent_answer c.id reply).text are.went whole.text) },
          (λ after limits commands ready.
              let was = are.due (clean after) limits commands ready in
              let list = accepted_after_all limits commands before in
              delivered sent limits commands (Ok answer) answers (Some stop.0) last s2 refl
              (stopped_at limits commands sent c answers reply stop.0 last s2 (was.0 ∙ ap (answers_to limits commands) (sym here)) fewer (next ∙ ap (λ xs. xs ++ c ∷ []) (sym here))
              (subst (λ xs. IsAnswered limits (accepted_after_all limits commands xs) c reply last s2) (sym here) (answered after limits list was.1)) stop.1)),
          delivered_over sent behind replied (Ok answer) s0 s2 parts (sym lines ∙ sym their_lines) over,
        )

    -- the line of the reply was cut off
    cut_out : (kept : ℕ) → IsCutOff kept mid new (status_code shown) (sent_answer c.id reply) → IsOut sent first s0 s2 old new (status_code shown)
    cut_out kept cut =
        let lines = answered_lines before are.answers in
        let answer = answer_after lines (sent_answer c.id reply) in (
          Some (length lines + kept),
          Ok answer,
          cut-answer_after old mid new (status_code shown) kept lines (sent_answer c.id reply) are.went cut,
          (λ after limits commands ready.
              let was = are.due (clean after) limits commands ready in
              let list = accepted_after_all limits commands before in
              let ended = left (λ shown. answer_to limits list c ≡ shown) list (accepted_after limits list c) limits reply last s2 (answered after limits list was.1) in
              let due : lines ≡ due_lines limits commands before = ap (answered_lines before) was.0 in (
                ended.0,
                record {
                  before = before;
                  c = c;
                  behind = behind;
                  parts = refl;
                  reply = reply;
                  leaves = ended.1;
                  whole = let count = ap length due in omega (arith, count);
                  tells = ap (λ (front : List ℕ). Ok (answer_after front (sent_answer c.id reply))) due;
                },
                ended.2,
              )),
          delivered_over sent behind replied (Ok answer) s0 s2 parts (sym their_lines) over,
        )

    -- the delivery ended at it
    pub ended_out : shown ≡ ending.Failed → IsOut sent first s0 s2 old new (status_code shown)
    ended_out failed = elim prints [ inl whole ↦ stop_out (ap status_code failed) whole | inr cut ↦ cut_out cut.0 cut.1 ]

-- ---- the manifest

-- it is a bad one
pub bad_listed : (holds : Files) (refuses : Refusals) (stands : Standing → Type 0) (cut : Option ℕ) (content : DatabaseContent) (file : List ℕ) (read : Result (List ManifestEntry) BadManifest) (bad : BadManifest) (shown : Shown)
    → read ≡ Err bad → stands (Rests content) → IfOk shown (λ a. a ≡ refused (manifest_line bad)) → AnswersRead holds refuses stands cut content file read shown
bad_listed holds refuses stands cut content file (Ok entries) bad shown is same tells = absurd (cc)
bad_listed holds refuses stands cut content file (Err why) bad shown is same tells =
    let e : why ≡ bad = cc in
    record { same = same; tells = subst (λ (b : BadManifest). IfOk shown (λ a. a ≡ refused (manifest_line b))) (sym e) tells }

-- memory ran out before anything was sent
pub not_listed : (holds : Files) (refuses : Refusals) (stands : Standing → Type 0) (cut : Option ℕ) (content : DatabaseContent) (file : List ℕ) (read : Result (List ManifestEntry) BadManifest) (e : AllocError)
    → stands (Rests content) → AnswersRead holds refuses stands cut content file read (Err e)
not_listed holds refuses stands cut content file (Ok entries) e same = inr (record { same = same; tells = tt })
not_listed holds refuses stands cut content file (Err bad) e same = record { same = same; tells = tt }

-- ---- the inputs

-- the commands so far, before those of the entries that are left, are all; and what is missing first among those left is so among all
pub record IsSoFar (holds : Files) (entries : List ManifestEntry) (sent : List Command) (left : List ManifestEntry) : Type 0 where
  pub all : (more : List Command) → AreCommandsOf holds left more → AreCommandsOf holds entries (sent ++ more)
  pub missing : (path : List ℕ) → IsFirstMissing holds left path → IsFirstMissing holds entries path

module _ (holds : Files) (entries : List ManifestEntry) where
  pub so_far-none : IsSoFar holds entries [] entries
  so_far-none = record { all = λ more are. are; missing = λ path is. is }

  -- one more command
  pub so_far-next : (sent : List Command) (i : ℕ) (e : ManifestEntry) (c : Command) → i < length entries → e ≡ get_or entries i e → IsCommandOf holds e.kind e.id e.path (Some c)
      → IsSoFar holds entries sent (drop i entries) → IsSoFar holds entries (sent ++ c ∷ []) (drop (i + 1) entries)
  so_far-next sent i e c within at is so =
      let here = drop_more entries i e within ∙ ap (λ (x : ManifestEntry). x ∷ drop (i + 1) entries) (sym at) in
      let first = rw here at so in
      record {
        all = λ more are. rw append_assoc (first.all (c ∷ more) (is, are));
        missing = λ path later. first.missing path (inr (is.0, is.1, later));
      }

  -- the file of the next isn't there
  pub so_far-missing : (sent : List Command) (i : ℕ) (e : ManifestEntry) → i < length entries → e ≡ get_or entries i e → as_input e.kind holds e.path None → IsSoFar holds entries sent (drop i entries) → IsFirstMissing holds entries e.path
  so_far-missing sent i e within at none so =
      let here = drop_more entries i e within ∙ ap (λ (x : ManifestEntry). x ∷ drop (i + 1) entries) (sym at) in
      (rw here at so).missing e.path (inl (none, refl))

  -- none is left
  pub so_far-all : (sent : List Command) (i : ℕ) → length entries ≤ i → IsSoFar holds entries sent (drop i entries) → AreCommandsOf holds entries sent
  so_far-all sent i past so = subst (λ s. AreCommandsOf holds entries s) (append-nil sent) ((rw (drop_all i entries past) at so).all [] tt)
