-- A warehouse that is sent the commands of the rows accepts those that come next, with the receipts that the rows say, and no other.
use Rattle.std.proofs.Common.{◌≡◌, ◌≢◌, ℕ, suc, ◌==◌, nat_eq, Bool, true, false, ◌&&◌, List, [], ◌∷◌, ◌++◌, length, Some, None, Result, Ok, Err, refl, sym, ap, subst, ◌∙◌, arith}
use Rattle.std.specs.Prelude.{find, bytes_eq, codes}
use Rattle.std.proofs.lemmas.Bool.{and_parts}
use Rattle.std.proofs.lemmas.Slice.Eq.{bytes_eq-Decides}
use Rattle.wh_policy.specs.Policy.{read_policy}
use Rattle.wh_policy.specs.declared.policy.Policy.{Policy}
use Rattle.wh_policy.specs.declared.fault.PolicyFault.{PolicyFault}
use Rattle.wh_batch.specs.BatchKind.{command_kind_word, command_kind_of_word}
use Rattle.wh_batch.specs.declared.kind.CommandKind.{CommandKind}
use Rattle.wh_history.specs.Accepted.{Accepted, Content, format_of}
use Rattle.wh_history.specs.Tables.{Limits}
use Rattle.wh_history.proofs.Basics.{some_is}
use Rattle.wh_model.specs.Defined.{command_at}
use Rattle.wh_model.specs.Sound.{init_of}
use Rattle.wh_rows.specs.Types.{is_key}
use Rattle.wh_rows.specs.declared.rows.CommandRow.{CommandRow}
use Rattle.wh_admission.specs.Admission.{current_policy, kept_bytes, content_of, number_for, accepted_as, receipt_of, when_read, answer, with_content, after_answer, accepted_after, AreAdmitted}
use Rattle.wh_admission.specs.Steps.{ComesAfter, IsNextRow}
use Rattle.wh_admission.specs.declared.command.Command.{Command}
use Rattle.wh_admission.specs.declared.command.Receipt.{Receipt}
use Rattle.wh_admission.specs.declared.command.Reply.{Reply}
use Rattle.wh_admission.specs.declared.command.Reply.TheVariants.{Accepted as Accepts, Already}
use Rattle.wh_admission.specs.declared.command.Refusal.{Refusal}
use Rattle.wh_admission.proofs.CommandRows.{row_of, row_is, word_is}
use Rattle.wh_admission.proofs.AdmittedSteps.{stepped, parted, admitted_with}
use Rattle.wh_admission.proofs.CheckedTables.{kind_again}
use Rattle.wh_admission.proofs.KeptBytes.{kept_again, kept_says}
use Rattle.wh_admission.proofs.Repeats.{new_id}
use Rattle.wh_admission.proofs.StaysAccepted.{was_numbered, had_number, receipt_is}
use Rattle.wh_checking.specs.Replica.{is_making_row, IsFollowed}

eq_is : (m n : ℕ) → nat_eq m n ≡ true → m ≡ n
eq_is m n h = grind (arith, h)

eq_itself : (n : ℕ) → nat_eq n n ≡ true
eq_itself n = grind arith

-- ---- the row of the last command

-- a command with its receipt, as a row
abbrev row_by : Accepted → Receipt → CommandRow
row_by a receipt = record { number = receipt.number; id = a.id; kind = a.kind; bytes = a.bytes; records = receipt.records; placeholders = receipt.placeholders }

abbrev last_receipt : List Accepted → Accepted → Receipt
last_receipt commands a = receipt_of (commands ++ a ∷ []) (suc (length commands)) a.content

row_here : (commands : List Accepted) (a : Accepted) → command_at (commands ++ a ∷ []) (suc (length commands)) ≡ Some (row_by a (last_receipt commands a))
unfolding row_of
row_here commands a = row_is commands a []

-- the commands after it say nothing of it
row_told : (commands : List Accepted) (a : Accepted) (more : List Accepted) (row : CommandRow) → command_at (commands ++ a ∷ more) (suc (length commands)) ≡ Some row → row ≡ row_by a (last_receipt commands a)
row_told commands a more row is = some_is row (row_by a (last_receipt commands a)) (sym is ∙ row_is commands a more ∙ sym (row_is commands a []) ∙ row_here commands a)

-- ---- a row as a command

abbrev pub sent : CommandRow → CommandKind → Command
sent row kind = record { id = row.id; kind = kind; bytes = row.bytes }

abbrev pub receipt_in : CommandRow → Receipt
receipt_in row = record { number = row.number; records = row.records; placeholders = row.placeholders }

-- a command that is accepted, with its receipt
module _ (limits : Limits) (commands : List Accepted) (row : CommandRow) (kind : CommandKind) (word : row.kind ≡ command_kind_word kind) (kept : kept_bytes kind row.bytes ≡ row.bytes) (Holds : List Accepted → Type 0) (admitted : AreAdmitted limits commands) where
  abbrev c : Command
  c = sent row kind

  by_content : (read : Result Content Refusal) → content_of kind (format_of commands) (current_policy commands) row.bytes ≡ read → is_key 40 row.id ≡ true → find (λ (a : Accepted). bytes_eq a.id row.id) commands ≡ None
      → when_read limits commands c read ≡ Ok (Accepts (receipt_in row)) → Holds (with_content commands c read) → IsFollowed limits commands row Holds true
  by_content (Err why) told good new h holds = absurd (never h)
    where
      never : ◌≡◌ {A = Result Reply Refusal} (Err why) (Ok (Accepts (receipt_in row))) → ⊥
      never h = cc
  by_content (Ok content) told good new h holds =
      let a = accepted_as c content in
      let numbered = was_numbered limits commands c content (receipt_in row) (number_for limits commands content) h in
      let next = (had_number limits commands content numbered.0 numbered.1).1 in
      let comes : ComesAfter limits commands a = record {
        kind = kind;
        kind_is = refl;
        good = good;
        new = new;
        read = kept_says kind (format_of commands) (current_policy commands) row.bytes ∙ told;
        kept = kept_again kind row.bytes;
        numbered = numbered.1 ∙ ap Ok next;
      } in
      let own : last_receipt commands a ≡ receipt_in row = receipt_is limits commands c content (receipt_in row) h in
      let back = sym word in (
        a,
        record {
          admitted = admitted_with limits commands a admitted comes;
          row_is = row_here commands a ∙ ap (λ r. Some (row_by a r)) own ∙ (λ i. Some (record { number = row.number; id = row.id; kind = back i; bytes = kept i; records = row.records; placeholders = row.placeholders }));
        },
        holds,
      )

  accepted_row : answer limits commands c ≡ Ok (Accepts (receipt_in row)) → Holds (accepted_after limits commands c) → IsFollowed limits commands row Holds true
  accepted_row said holds =
      let new = new_id limits commands c (is_key 40 row.id) (find (λ (a : Accepted). bytes_eq a.id row.id) commands) (receipt_in row) refl refl said in
      let read : when_read limits commands c (content_of kind (format_of commands) (current_policy commands) row.bytes) ≡ Ok (Accepts (receipt_in row)) = rw (new.0, new.1) at said in
      by_content (content_of kind (format_of commands) (current_policy commands) row.bytes) refl new.0 new.1 read (subst (λ a. Holds (after_answer commands c a)) said holds)

-- ---- the command that comes next

record IsNextCommand (limits : Limits) (commands : List Accepted) (row : CommandRow) : Type 0 where
  kind : CommandKind
  kind_is : command_kind_of_word row.kind ≡ Some kind
  kept : kept_bytes kind row.bytes ≡ row.bytes
  answered : answer limits commands (sent row kind) ≡ Ok (Accepts (receipt_in row))

next_answered : (limits : Limits) (commands : List Accepted) (a : Accepted) (comes : ComesAfter limits commands a) → answer limits commands (record { id = a.id; kind = comes.kind; bytes = a.bytes }) ≡ Ok (Accepts (last_receipt commands a))
next_answered limits commands a comes =
    let back = sym comes.kind_is in
    rw (comes.good, comes.new, comes.read, comes.numbered)
    (ap (λ (b : Accepted). Ok (Accepts (receipt_of (commands ++ b ∷ []) (suc (length commands)) a.content))) (λ i. record { id = a.id; kind = back i; bytes = comes.kept i; content = a.content }))

next_command : (limits : Limits) (commands : List Accepted) (a : Accepted) (more : List Accepted) (row : CommandRow) → AreAdmitted limits commands → AreAdmitted limits (commands ++ a ∷ more) → command_at (commands ++ a ∷ more) (suc (length commands)) ≡ Some row → IsNextCommand limits commands row
next_command limits [] a more row begun admitted is = absurd (none (stepped limits [] begun).begins)
  where
    none : {x : Accepted} {xs : List Accepted} → [] ≡ x ∷ xs → ⊥
    none h = cc
next_command limits (b ∷ commands) a more row begun admitted is =
    let comes = (parted limits b commands (a ∷ more) admitted).come.0 in
    subst (IsNextCommand limits (b ∷ commands)) (sym (row_told (b ∷ commands) a more row is))
    (record { kind = comes.kind; kind_is = ap command_kind_of_word comes.kind_is ∙ kind_again comes.kind; kept = comes.kept; answered = next_answered limits (b ∷ commands) a comes })

-- ---- what is told of a row

-- the receipt says what the row says
abbrev pub says_row : Receipt → CommandRow → Bool
says_row receipt row = (receipt.number == row.number) && (receipt.records == row.records) && (receipt.placeholders == row.placeholders)

says_is : (receipt : Receipt) (row : CommandRow) → says_row receipt row ≡ true → receipt ≡ receipt_in row
says_is receipt row h =
    let two = and_parts ((receipt.number == row.number) && (receipt.records == row.records)) (receipt.placeholders == row.placeholders) h in
    let one = and_parts (receipt.number == row.number) (receipt.records == row.records) two.0 in
    let number = eq_is receipt.number row.number one.0 in
    let records = eq_is receipt.records row.records one.1 in
    let placeholders = eq_is receipt.placeholders row.placeholders two.1 in
    λ i. record { number = number i; records = records i; placeholders = placeholders i }

says_itself : (row : CommandRow) → says_row (receipt_in row) row ≡ true
says_itself row = let number = eq_itself row.number in let records = eq_itself row.records in let placeholders = eq_itself row.placeholders in λ i. (number i && records i) && placeholders i

module _ (limits : Limits) (commands : List Accepted) (row : CommandRow) (Holds : List Accepted → Type 0) (begun : AreAdmitted limits commands) where
  same_kind : (k l : CommandKind) → command_kind_of_word row.kind ≡ Some k → command_kind_of_word row.kind ≡ Some l → k ≡ l
  same_kind k l one other = some_is k l (sym one ∙ other)

  -- the word is that of no kind
  pub no_kind : command_kind_of_word row.kind ≡ None → IsFollowed limits commands row Holds false
  no_kind none a more admitted is =
      let next = next_command limits commands a more row begun admitted is in
      absurd (never next.kind (sym none ∙ next.kind_is))
    where
      never : (k : CommandKind) → None ≡ Some k → ⊥
      never k h = cc

  module _ (kind : CommandKind) (told : command_kind_of_word row.kind ≡ Some kind) where
    said_so : (a : Accepted) (more : List Accepted) → AreAdmitted limits (commands ++ a ∷ more) → command_at (commands ++ a ∷ more) (suc (length commands)) ≡ Some row → answer limits commands (sent row kind) ≡ Ok (Accepts (receipt_in row))
    said_so a more admitted is =
        let next = next_command limits commands a more row begun admitted is in
        subst (λ k. answer limits commands (sent row k) ≡ Ok (Accepts (receipt_in row))) (same_kind next.kind kind next.kind_is told) next.answered

    -- it has bytes that aren't kept
    pub other_bytes : kept_bytes kind row.bytes ≢ row.bytes → IsFollowed limits commands row Holds false
    other_bytes other a more admitted is =
        let next = next_command limits commands a more row begun admitted is in
        other (subst (λ k. kept_bytes k row.bytes ≡ row.bytes) (same_kind next.kind kind next.kind_is told) next.kept)

    -- it is accepted: its receipt is that of the row or isn't
    pub is_accepted : kept_bytes kind row.bytes ≡ row.bytes → (receipt : Receipt) (taken : Bool) → answer limits commands (sent row kind) ≡ Ok (Accepts receipt) → taken ≡ says_row receipt row → Holds (accepted_after limits commands (sent row kind)) → IsFollowed limits commands row Holds taken
    is_accepted kept receipt true said is holds =
        accepted_row limits commands row kind (word_is row.kind kind told) kept Holds begun (said ∙ ap (λ r. Ok (Accepts r)) (says_is receipt row (sym is))) holds
    is_accepted kept receipt false said is holds = λ a more admitted own.
        let same = receipts receipt (receipt_in row) (sym said ∙ said_so a more admitted own) in
        let never : true ≡ false = sym (says_itself row) ∙ ap (λ r. says_row r row) (sym same) ∙ sym is in
        absurd (cc)
      where
        receipts : (r s : Receipt) → ◌≡◌ {A = Result Reply Refusal} (Ok (Accepts r)) (Ok (Accepts s)) → r ≡ s
        receipts r s h = cc

    -- it came before
    pub is_again : (receipt : Receipt) → answer limits commands (sent row kind) ≡ Ok (Already receipt) → IsFollowed limits commands row Holds false
    is_again receipt said a more admitted own = absurd (never (receipt_in row) (sym said ∙ said_so a more admitted own))
      where
        never : (r : Receipt) → ◌≡◌ {A = Result Reply Refusal} (Ok (Already receipt)) (Ok (Accepts r)) → ⊥
        never r h = cc

    -- it is refused
    pub is_refused : (why : Refusal) → answer limits commands (sent row kind) ≡ Err why → IsFollowed limits commands row Holds false
    is_refused why said a more admitted own = absurd (never (receipt_in row) (sym said ∙ said_so a more admitted own))
      where
        never : (r : Receipt) → ◌≡◌ {A = Result Reply Refusal} (Err why) (Ok (Accepts r)) → ⊥
        never r h = cc

-- ---- the making

record IsInit (row : CommandRow) : Type 0 where
  id : row.id ≡ codes "init"
  kind : row.kind ≡ codes "init"
  number : row.number ≡ 1
  records : row.records ≡ 0
  placeholders : row.placeholders ≡ 0

init_is : (row : CommandRow) → is_making_row row ≡ true → IsInit row
init_is row h =
    let four = and_parts (bytes_eq row.id (codes "init") && bytes_eq row.kind (codes "init") && (row.number == 1) && (row.records == 0)) (row.placeholders == 0) h in
    let three = and_parts (bytes_eq row.id (codes "init") && bytes_eq row.kind (codes "init") && (row.number == 1)) (row.records == 0) four.0 in
    let two = and_parts (bytes_eq row.id (codes "init") && bytes_eq row.kind (codes "init")) (row.number == 1) three.0 in
    let one = and_parts (bytes_eq row.id (codes "init")) (bytes_eq row.kind (codes "init")) two.0 in
    record {
      id = (bytes_eq-Decides row.id (codes "init")).0 one.0;
      kind = (bytes_eq-Decides row.kind (codes "init")).0 one.1;
      number = eq_is row.number 1 two.1;
      records = eq_is row.records 0 three.1;
      placeholders = eq_is row.placeholders 0 four.1;
    }

making_row : Policy → List ℕ → CommandRow
making_row policy bytes = record { number = 1; id = codes "init"; kind = codes "init"; bytes = bytes; records = 0; placeholders = 0 }

pub made_next : (limits : Limits) (row : CommandRow) (policy : Policy) → is_making_row row ≡ true → AreAdmitted limits (init_of policy row.bytes ∷ []) → IsNextRow limits [] row (init_of policy row.bytes)
made_next limits row policy is admitted =
    let it = init_is row is in
    let number = sym it.number in
    let id = sym it.id in
    let kind = sym it.kind in
    let records = sym it.records in
    let placeholders = sym it.placeholders in
    record { admitted = admitted; row_is = λ i. Some (record { number = number i; id = id i; kind = kind i; bytes = row.bytes; records = records i; placeholders = placeholders i }) }

-- the first row of an admitted list
record IsFirstRow (row : CommandRow) : Type 0 where
  is_making : is_making_row row ≡ true
  policy : Policy
  written : read_policy row.bytes ≡ Ok policy

first_row : (limits : Limits) (a : Accepted) (more : List Accepted) (row : CommandRow) → AreAdmitted limits (a ∷ more) → command_at (a ∷ more) 1 ≡ Some row → IsFirstRow row
unfolding making_row
first_row limits a more row admitted is =
    let steps = stepped limits (a ∷ more) admitted in
    let making = init_of steps.policy steps.bytes in
    let first : a ≡ making = heads a making more steps.later steps.begins in
    let own : row ≡ making_row steps.policy steps.bytes = some_is row (making_row steps.policy steps.bytes) (sym is ∙ ap (λ (b : Accepted). command_at (b ∷ more) 1) first) in
    subst IsFirstRow (sym own) (record { is_making = refl; policy = steps.policy; written = steps.written })
  where
    heads : (x y : Accepted) (xs ys : List Accepted) → x ∷ xs ≡ y ∷ ys → x ≡ y
    heads x y xs ys same = cc

pub no_making : (limits : Limits) (row : CommandRow) → is_making_row row ≡ false → (a : Accepted) (more : List Accepted) → AreAdmitted limits (a ∷ more) → command_at (a ∷ more) 1 ≢ Some row
no_making limits row isnt a more admitted is =
    let never : true ≡ false = sym (first_row limits a more row admitted is).is_making ∙ isnt in
    absurd (cc)

pub no_policy : (limits : Limits) (row : CommandRow) (fault : PolicyFault) → read_policy row.bytes ≡ Err fault → (a : Accepted) (more : List Accepted) → AreAdmitted limits (a ∷ more) → command_at (a ∷ more) 1 ≢ Some row
no_policy limits row fault isnt a more admitted is =
    let first = first_row limits a more row admitted is in
    absurd (never first.policy (sym isnt ∙ first.written))
  where
    never : (p : Policy) → ◌≡◌ {A = Result Policy PolicyFault} (Err fault) (Ok p) → ⊥
    never p h = cc

-- what holds of the list with the command may be said in other words
pub followed_more : (limits : Limits) (commands : List Accepted) (row : CommandRow) (Holds Others : List Accepted → Type 0) → ((list : List Accepted) → Holds list → Others list) → (taken : Bool) → IsFollowed limits commands row Holds taken → IsFollowed limits commands row Others taken
followed_more limits commands row Holds Others to false it = it
followed_more limits commands row Holds Others to true it = (it.0, it.1, to (commands ++ it.0 ∷ []) it.2)
