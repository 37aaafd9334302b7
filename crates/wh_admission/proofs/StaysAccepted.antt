-- An accepted command leaves the list of commands one that can have been accepted.
use Rattle.std.proofs.Common.{◌≡◌, ℕ, suc, ◌+◌, ◌*◌, ◌≤◌, ◌<◌, Bool, true, false, not, cond, leb, ltb, ◌||◌, ◌&&◌, ◌==◌, List, [], ◌∷◌, ◌++◌, length, map, Option, Some, None, Result, Ok, Err, refl, sym, ap, subst, ◌∙◌, arith, append-nil}
use Rattle.std.specs.Prelude.{find, bytes_eq, IsSome, unwrap_or, option_map}
use Rattle.std.specs.List.{AllByRecursion, IsDistinct, list_any}
use Rattle.std.proofs.lemmas.Bool.{leb-false, ltb-false, and_parts, eqb-true}
use Rattle.std.proofs.lemmas.List.Folds.{list_any-append}
use Rattle.std.proofs.lemmas.Slice.Eq.{bytes_eq-Decides}
use Rattle.wh_history.proofs.Basics.{or_true, or_none, first_or}
use Rattle.std.proofs.lemmas.Grind.{flat_map-append}
use Rattle.std.proofs.lemmas.List.{length-append, length-map, map-append}
use Rattle.wh_policy.specs.Policy.{policy_attributes, policy_types}
use Rattle.wh_policy.specs.declared.attribute.Attribute.{Attribute}
use Rattle.wh_policy.specs.declared.attribute.Dim.{Dim}
use Rattle.wh_policy.specs.declared.attribute.Dim.TheVariants.{Product, Store, Customer}
use Rattle.wh_policy.specs.declared.policy.Policy.{Policy}
use Rattle.wh_policy.specs.declared.record.DimensionRecord.{DimensionRecord}
use Rattle.wh_policy.specs.declared.record.SaleRecord.{SaleRecord}
use Rattle.wh_policy.specs.declared.record.VoidRecord.{VoidRecord}
use Rattle.wh_batch.specs.Layouts.{dimension_records, sale_records, void_records}
use Rattle.wh_batch.specs.declared.fault.BatchFault.{BatchFault}
use Rattle.wh_batch.specs.declared.kind.BatchKind.TheVariants.{Dimension, Sales, Voids}
use Rattle.wh_policy.specs.declared.format.Format.{Format}
use Rattle.wh_policy.specs.declared.format.Format.TheVariants.{One}
use Rattle.wh_batch.proofs.GoodLemmas.{bind_ok, cond_ok}
use Rattle.wh_history.specs.Accepted.{Accepted, Content, Governs, Describes, Sells, Upgrades, Withdraws, policy_after, described, described_by, sold, sold_by, withdrawn, withdrawn_by, withdraws_line, standing_but, standing, same_dim, format_of}
use Rattle.wh_history.specs.Tables.{Limits}
use Rattle.wh_history.proofs.Joins.{all_append}
use Rattle.wh_history.proofs.Untouched.{described-last}
use Rattle.wh_rows.specs.Questions.{gives_policy}
use Rattle.wh_rows.specs.Types.{is_key, is_kind}
use Rattle.wh_batch.specs.BatchKind.{command_kind_word}
use Rattle.wh_admission.specs.Admission.{kept_bytes, upgrades_again, of_batch, judged_records, judged_sales, judged_voids, judged_policy, content_of, current_policy, accepted_as, receipt_of, changes_in, first_number, first_line_there, first_line_missing, number_past_lines, number_past_voids, number_for, answer_with, when_read, answer, with_content, after_answer, accepted_after, AcceptedListsStaySound}
use Rattle.wh_model.proofs.Formatted.{format_before}
use Rattle.wh_model.specs.Sound.{IsGoodRecord, IsGoodSale, same_line, same_void, is_sold_line, changes_kept, GivesPolicy, IsAccepted}
use Rattle.wh_admission.specs.declared.command.Command.{Command}
use Rattle.wh_batch.specs.declared.kind.CommandKind.{CommandKind}
use Rattle.wh_batch.specs.declared.kind.CommandKind.TheVariants.{Batch, Migration, Upgrade}
use Rattle.wh_admission.specs.declared.command.Receipt.{Receipt}
use Rattle.wh_admission.specs.declared.command.Reply.{Reply}
use Rattle.wh_admission.specs.declared.command.Reply.TheVariants.{Accepted as Accepts, Already}
use Rattle.wh_admission.specs.declared.command.Refusal.{Refusal}
use Rattle.wh_admission.specs.declared.command.Refusal.TheVariants.{Upgraded, NoLine, Full}
use Rattle.wh_admission.specs.declared.command.Limit.TheVariants.{Commands, Changes, Facts}
use Rattle.wh_admission.proofs.Migrated.{HasSix, policy_taken, policy_with, still_governed, still_six}
use Rattle.wh_admission.proofs.Repeats.{new_id}
use Rattle.wh_admission.proofs.GoodRecords.{good_records, few_records}
use Rattle.wh_admission.proofs.GoodSales.{good_sales, none_discounted, few_sales, sales_once}
use Rattle.wh_admission.proofs.GoodVoids.{voids_once, none_voided}
use Rattle.wh_history.proofs.Standing.{withdrawn-last}
use Rattle.wh_model.proofs.SameLines.{line_turned}

-- ---- ids

distinct_last : {X : Type 0} (same : X → X → Bool) (xs : List X) (x : X) → AllByRecursion (λ y. same y x ≡ false) xs → IsDistinct same xs → IsDistinct same (xs ++ x ∷ [])
unfolding IsDistinct
distinct_last same [] x new once = (tt, tt)
distinct_last same (y ∷ ys) x new once = (all_append (λ z. same y z ≡ false) ys (x ∷ []) once.0 (new.0, tt), distinct_last same ys x new.1 once.1)

none_first : (b : Bool) (a : Accepted) (o : Option Accepted) → first_or b a o ≡ None → (b ≡ false) × (o ≡ None)
none_first true a o h = absurd cc
none_first false a o h = (refl, h)

-- an id that isn't found is none of those there
unknown : (id : List ℕ) (commands : List Accepted) → find (λ (a : Accepted). bytes_eq a.id id) commands ≡ None → AllByRecursion (λ other. bytes_eq other id ≡ false) (map (λ (a : Accepted). a.id) commands)
unknown id [] h = tt
unknown id (a ∷ commands) h =
    let (other, none) = none_first (bytes_eq a.id id) a (find (λ (b : Accepted). bytes_eq b.id id) commands) h in
    (other, unknown id commands none)

-- ---- the lines of sales

-- what is turned twice is as it was
pub turned_twice : (b : Bool) → not (not b) ≡ b
turned_twice true = refl
turned_twice false = refl

-- no sale before has the line of one of these
abbrev pub AreNew : List SaleRecord → List SaleRecord → Type 0
AreNew before sales = AllByRecursion (λ s. list_any (λ t. same_line t s) before ≡ false) sales

first_apart : (t : SaleRecord) (before sales : List SaleRecord) → AreNew (t ∷ before) sales → AllByRecursion (λ s. same_line t s ≡ false) sales
first_apart t before [] new = tt
first_apart t before (s ∷ sales) new = ((or_none (same_line t s) (list_any (λ q. same_line q s) before) new.0).0, first_apart t before sales new.1)

later_apart : (t : SaleRecord) (before sales : List SaleRecord) → AreNew (t ∷ before) sales → AreNew before sales
later_apart t before [] new = tt
later_apart t before (s ∷ sales) new = ((or_none (same_line t s) (list_any (λ q. same_line q s) before) new.0).1, later_apart t before sales new.1)

lines_joined : (before sales : List SaleRecord) → IsDistinct same_line before → IsDistinct same_line sales → AreNew before sales → IsDistinct same_line (before ++ sales)
unfolding IsDistinct
lines_joined [] sales once more new = more
lines_joined (t ∷ before) sales once more new = (all_append (λ s. same_line t s ≡ false) before sales once.0 (first_apart t before sales new), lines_joined before sales once.1 more (later_apart t before sales new))

-- where there is no first that passes, none does
pub none_first_passes : {X : Type 0} (test : X → Bool) (number : ℕ) (xs : List X) → first_number test number xs ≡ None → AllByRecursion (λ x. test x ≡ false) xs
none_first_passes test number [] none = tt
none_first_passes test number (x ∷ xs) none =
    elim (test x) as (λ b. (test x ≡ b) → cond b (Some number) (first_number test (suc number) xs) ≡ None → AllByRecursion (λ x. test x ≡ false) (x ∷ xs)) [
      | true ↦ λ is h. absurd cc
      | false ↦ λ is h. (is, none_first_passes test (suc number) xs h)
    ] refl none

-- where no line is there, each is new
pub all_new : (before : List SaleRecord) (number : ℕ) (sales : List SaleRecord) → first_line_there before number sales ≡ None → AreNew before sales
all_new before = none_first_passes (λ s. list_any (λ t. same_line t s) before)

-- ---- the lines of voids

-- each has a sale that stands
abbrev pub AreStanding : List SaleRecord → List VoidRecord → Type 0
AreStanding stand voids = AllByRecursion (λ v. is_sold_line stand v ≡ true) voids

pub all_stand_there : (stand : List SaleRecord) (voids : List VoidRecord) → AllByRecursion (λ v. not (is_sold_line stand v) ≡ false) voids → AreStanding stand voids
all_stand_there stand [] all = tt
all_stand_there stand (v ∷ voids) all = (sym (turned_twice (is_sold_line stand v)) ∙ ap not all.0, all_stand_there stand voids all.1)

-- what stands was sold, and is in no void
stood : (voids : List VoidRecord) (sales : List SaleRecord) (v : VoidRecord) → is_sold_line (standing_but voids sales) v ≡ true → (is_sold_line sales v ≡ true) × (withdraws_line v.ticket v.line voids ≡ false)
stood voids [] v h = absurd cc
stood voids (s ∷ sales) v h =
    elim (withdraws_line s.ticket s.line voids) as (λ b. (withdraws_line s.ticket s.line voids ≡ b) → is_sold_line (cond (not b) (s ∷ standing_but voids sales) (standing_but voids sales)) v ≡ true
    → ((bytes_eq s.ticket v.ticket && (s.line == v.line)) || is_sold_line sales v ≡ true) × (withdraws_line v.ticket v.line voids ≡ false)) [
      | true ↦ λ _ later. let rest = stood voids sales v later in (rw rest.0 (or_true (bytes_eq s.ticket v.ticket && (s.line == v.line))), rest.1)
      | false ↦ λ kept some. elim (bytes_eq s.ticket v.ticket && (s.line == v.line)) as (λ b. ((bytes_eq s.ticket v.ticket && (s.line == v.line)) ≡ b) → (b || is_sold_line (standing_but voids sales) v) ≡ true → ((b || is_sold_line sales v) ≡ true) × (withdraws_line v.ticket v.line voids ≡ false)) [
        | true ↦ λ here _.
            let (texts, numbers) = and_parts (bytes_eq s.ticket v.ticket) (s.line == v.line) here in
            (refl, sym (ap (λ t. withdraws_line t s.line voids) ((bytes_eq-Decides s.ticket v.ticket).0 texts) ∙ ap (λ n. withdraws_line v.ticket n voids) (eqb-true s.line v.line numbers)) ∙ kept)
        | false ↦ λ _ later. stood voids sales v later
      ] refl some
    ] refl h

more_sold : (sales more : List SaleRecord) (voids : List VoidRecord) → AllByRecursion (λ v. is_sold_line sales v ≡ true) voids → AllByRecursion (λ v. is_sold_line (sales ++ more) v ≡ true) voids
more_sold sales more [] all = tt
more_sold sales more (v ∷ voids) all = (list_any-append (λ s. bytes_eq s.ticket v.ticket && (s.line == v.line)) sales more ∙ ap (λ b. b || is_sold_line more v) all.0, more_sold sales more voids all.1)

all_stood : (before : List VoidRecord) (sales : List SaleRecord) (voids : List VoidRecord) → AreStanding (standing_but before sales) voids → AllByRecursion (λ v. is_sold_line sales v ≡ true) voids
all_stood before sales [] all = tt
all_stood before sales (v ∷ voids) all = ((stood before sales v all.0).0, all_stood before sales voids all.1)

-- a void of a line that was not withdrawn is apart from those before
first_void_apart : (v : VoidRecord) (before voids : List VoidRecord) → AllByRecursion (λ w. withdraws_line w.ticket w.line (v ∷ before) ≡ false) voids → AllByRecursion (λ w. same_void v w ≡ false) voids
first_void_apart v before [] all = tt
first_void_apart v before (w ∷ voids) all = (line_turned w.ticket v.ticket w.line v.line ∙ (or_none (bytes_eq v.ticket w.ticket && (v.line == w.line)) (withdraws_line w.ticket w.line before) all.0).0, first_void_apart v before voids all.1)

later_voids_apart : (v : VoidRecord) (before voids : List VoidRecord) → AllByRecursion (λ w. withdraws_line w.ticket w.line (v ∷ before) ≡ false) voids → AllByRecursion (λ w. withdraws_line w.ticket w.line before ≡ false) voids
later_voids_apart v before [] all = tt
later_voids_apart v before (w ∷ voids) all = ((or_none (bytes_eq v.ticket w.ticket && (v.line == w.line)) (withdraws_line w.ticket w.line before) all.0).1, later_voids_apart v before voids all.1)

voids_joined : (before voids : List VoidRecord) → IsDistinct same_void before → IsDistinct same_void voids → AllByRecursion (λ w. withdraws_line w.ticket w.line before ≡ false) voids → IsDistinct same_void (before ++ voids)
unfolding IsDistinct
voids_joined [] voids once more new = more
voids_joined (v ∷ before) voids once more new = (all_append (λ w. same_void v w ≡ false) before voids once.0 (first_void_apart v before voids new), voids_joined before voids once.1 more (later_voids_apart v before voids new))

none_before : (before : List VoidRecord) (sales : List SaleRecord) (voids : List VoidRecord) → AreStanding (standing_but before sales) voids → AllByRecursion (λ w. withdraws_line w.ticket w.line before ≡ false) voids
none_before before sales [] all = tt
none_before before sales (v ∷ voids) all = ((stood before sales v all.0).1, none_before before sales voids all.1)

-- ---- one command more

-- a content that a command can hold in a format: few good records, or few good sales of which no two have one line, and in the first format none a discount; or voids of which no two have one line, none in the first format
pub record IsGoodContent (format : Format) (content : Content) : Type 0 where
  pub few : changes_in content ≤ 5000
  pub few_sales : length (sold_by content) ≤ 5000
  pub records : (dim : Dim) → AllByRecursion IsGoodRecord (described_by dim content)
  pub sales : AllByRecursion IsGoodSale (sold_by content)
  pub lines : IsDistinct same_line (sold_by content)
  pub undiscounted : format ≡ One → AllByRecursion (λ s. s.discount ≡ 0) (sold_by content)
  pub voids_once : IsDistinct same_void (withdrawn_by content)
  pub unwithdrawn : format ≡ One → withdrawn_by content ≡ []

all_if : (P : DimensionRecord → Type 0) (b : Bool) (records : List DimensionRecord) → AllByRecursion P records → AllByRecursion P (cond b records [])
all_if P true records all = all
all_if P false records all = tt

-- the dimensions' records together
counted : (content : Content) → length (described_by Product content) + length (described_by Store content) + length (described_by Customer content) ≡ changes_in content
counted (Governs policy) = omega arith
counted (Describes Product records) = omega arith
counted (Describes Store records) = omega arith
counted (Describes Customer records) = omega arith
counted (Sells sales) = omega arith
counted Upgrades = omega arith
counted (Withdraws lines) = omega arith

module _ (limits : Limits) (commands : List Accepted) (c : Accepted) (accepted : IsAccepted limits commands) (good : IsGoodContent (format_of commands) c.content) (gives : GivesPolicy c.kind c.bytes c.content) where
  abbrev after : List Accepted
  after = commands ++ c ∷ []

  longer : (other : Dim) → length (described other after) ≡ length (described other commands) + length (described_by other c.content)
  longer other = ap length (described-last other commands c) ∙ length-append (described other commands) (described_by other c.content)

  pub changes_more : changes_kept after ≡ changes_kept commands + changes_in c.content
  changes_more =
      let products = longer Product in
      let stores = longer Store in
      let customers = longer Customer in
      let all = counted c.content in
      omega arith

  sold_more : sold after ≡ sold commands ++ sold_by c.content
  sold_more = flat_map-append (λ (d : Accepted). sold_by d.content) commands (c ∷ []) ∙ ap (λ ss. sold commands ++ ss) (append-nil (sold_by c.content))

  pub command_added : is_key 40 c.id ≡ true → is_kind c.kind ≡ true → find (λ (a : Accepted). bytes_eq a.id c.id) commands ≡ None
      → length commands < limits.commands → changes_kept commands + changes_in c.content ≤ limits.changes → length (sold commands) + length (sold_by c.content) ≤ limits.facts → AreNew (sold commands) (sold_by c.content) → AreStanding (standing commands) (withdrawn_by c.content) → IsAccepted limits after
  command_added id kind new room changes facts lines stand =
      let longer_by_one = length-append commands (c ∷ []) in
      let few_before = accepted.few_a_batch in
      let few_sold = accepted.few_sales_a_batch in
      let few = good.few in
      let few_sales = good.few_sales in
      let more = changes_more in
      let sales = ap length sold_more ∙ length-append (sold commands) (sold_by c.content) in
      let few_after : changes_kept after ≤ length after * 5000 = omega arith in
      let few_sales_after : length (sold after) ≤ length after * 5000 = omega arith in
      record {
        limited = accepted.limited;
        commands_within = omega arith;
        changes_within = rw changes_more changes;
        facts_within = omega arith;
        few_a_batch = few_after;
        few_sales_a_batch = few_sales_after;
        begun = record {
          policy = accepted.begun.policy;
          bytes = accepted.begun.bytes;
          rest = accepted.begun.rest ++ c ∷ [];
          making = ap (λ cs. cs ++ c ∷ []) accepted.begun.making;
          written = accepted.begun.written;
        };
        policies = all_append (λ a. GivesPolicy a.kind a.bytes a.content) commands (c ∷ []) accepted.policies (gives, tt);
        governed = subst IsSome (sym (policy_with None commands c)) (still_governed (policy_after None commands) c.content accepted.governed);
        six = λ other. subst (HasSix other) (sym (policy_with None commands c)) (still_six other (policy_after None commands) c.kind c.bytes c.content gives (accepted.six other));
        ids = all_append (λ a. is_key 40 a.id ≡ true) commands (c ∷ []) accepted.ids (id, tt);
        kinds = all_append (λ a. is_kind a.kind ≡ true) commands (c ∷ []) accepted.kinds (kind, tt);
        distinct = rw (map-append (λ (a : Accepted). a.id) commands (c ∷ [])) (distinct_last bytes_eq (map (λ (a : Accepted). a.id) commands) c.id (unknown c.id commands new) accepted.distinct);
        records = λ other. rw (described-last other commands c) (all_append IsGoodRecord (described other commands) (described_by other c.content) (accepted.records other) (good.records other));
        sales = rw sold_more (all_append IsGoodSale (sold commands) (sold_by c.content) accepted.sales good.sales);
        lines = rw sold_more (lines_joined (sold commands) (sold_by c.content) accepted.lines good.lines lines);
        undiscounted = λ first.
            let before = format_before commands c first in
            rw sold_more (all_append (λ (s : SaleRecord). s.discount ≡ 0) (sold commands) (sold_by c.content) (accepted.undiscounted before) (good.undiscounted before));
        withdrawn_sold =
            let all_sold = all_append (λ v. is_sold_line (sold commands) v ≡ true) (withdrawn commands) (withdrawn_by c.content) accepted.withdrawn_sold (all_stood (withdrawn commands) (sold commands) (withdrawn_by c.content) stand) in
            rw (withdrawn-last commands c, sold_more) (more_sold (sold commands) (sold_by c.content) (withdrawn commands ++ withdrawn_by c.content) all_sold);
        withdrawn_once = rw (withdrawn-last commands c) (voids_joined (withdrawn commands) (withdrawn_by c.content) accepted.withdrawn_once good.voids_once (none_before (withdrawn commands) (sold commands) (withdrawn_by c.content) stand));
        unwithdrawn = λ first.
            let before = format_before commands c first in
            withdrawn-last commands c ∙ ap (λ vs. vs ++ withdrawn_by c.content) (accepted.unwithdrawn before) ∙ good.unwithdrawn before;
      }

-- ---- the answer's cases

-- up to six attributes of the policy in force
in_force_six : (dim : Dim) (o : Option Policy) (other : Policy) → IsSome o → length (unwrap_or (option_map (λ policy. policy_types policy dim) o) []) ≤ 6 → length (policy_attributes (unwrap_or o other) dim) ≤ 6
in_force_six dim None other some six = absurd cc
in_force_six dim (Some policy) other some six = omega (arith, length-map (policy_attributes policy dim) (λ (a : Attribute). a.kind))

kind_known : (kind : CommandKind) → is_kind (command_kind_word kind) ≡ true
kind_known (Batch (Dimension Product)) = refl
kind_known (Batch (Dimension Store)) = refl
kind_known (Batch (Dimension Customer)) = refl
kind_known (Batch Sales) = refl
kind_known (Batch Voids) = refl
kind_known Migration = refl
kind_known Upgrade = refl

-- there was room for what was accepted, each line that it withdraws stood, and none that it sells was there
pub record HasRoom (limits : Limits) (commands : List Accepted) (content : Content) : Type 0 where
  pub commands_left : length commands < limits.commands
  pub changes_left : changes_kept commands + changes_in content ≤ limits.changes
  pub facts_left : length (sold commands) + length (sold_by content) ≤ limits.facts
  pub lines_stand : first_line_missing (standing commands) 1 (withdrawn_by content) ≡ None
  pub lines_new : first_line_there (sold commands) 1 (sold_by content) ≡ None

module _ (limits : Limits) (commands : List Accepted) (content : Content) (next : ℕ) where
  room_after_lines : length commands < limits.commands → first_line_missing (standing commands) 1 (withdrawn_by content) ≡ None → (o : Option ℕ) → first_line_there (sold commands) 1 (sold_by content) ≡ o → number_past_lines limits commands content o ≡ Ok next → HasRoom limits commands content × (next ≡ suc (length commands))
  room_after_lines left stand (Some number) is h = absurd cc
  room_after_lines left stand None is h =
      let (few, rest) = cond_ok (ltb limits.changes (changes_kept commands + changes_in content)) (Full Changes) _ next h in
      let (fewer, last) = cond_ok (ltb limits.facts (length (sold commands) + length (sold_by content))) (Full Facts) _ next rest in
      (record { commands_left = left; changes_left = ltb-false _ _ few; facts_left = ltb-false _ _ fewer; lines_stand = stand; lines_new = is }, cc)

  room_after_voids : length commands < limits.commands → (o : Option ℕ) → first_line_missing (standing commands) 1 (withdrawn_by content) ≡ o → number_past_voids limits commands content o ≡ Ok next → HasRoom limits commands content × (next ≡ suc (length commands))
  room_after_voids left (Some number) is h = absurd cc
  room_after_voids left None is h = room_after_lines left is (first_line_there (sold commands) 1 (sold_by content)) refl h

  -- where there is a number, there was room, and the number is the next
  pub had_number : number_for limits commands content ≡ Ok next → HasRoom limits commands content × (next ≡ suc (length commands))
  had_number h =
      let (few, rest) = cond_ok (leb limits.commands (length commands)) (Full Commands) _ next h in
      let (once, last) = cond_ok (upgrades_again commands content) Upgraded _ next rest in
      room_after_voids (leb-false _ _ few) (first_line_missing (standing commands) 1 (withdrawn_by content)) refl last

module _ (limits : Limits) (commands : List Accepted) (c : Command) (content : Content) (receipt : Receipt) where
  pub was_numbered : (o : Result ℕ Refusal) → answer_with commands c content o ≡ Ok (Accepts receipt) → (next : ℕ) × (o ≡ Ok next) × (receipt_of (commands ++ accepted_as c content ∷ []) next content ≡ receipt)
  was_numbered (Ok next) h = (next, refl, cc)
  was_numbered (Err why) h = absurd cc

  pub had_room : when_read limits commands c (Ok content) ≡ Ok (Accepts receipt) → HasRoom limits commands content
  had_room h = let told = was_numbered (number_for limits commands content) h in (had_number limits commands content told.0 told.1).0

  -- the receipt of what was accepted
  pub receipt_is : when_read limits commands c (Ok content) ≡ Ok (Accepts receipt) → receipt_of (commands ++ accepted_as c content ∷ []) (suc (length commands)) content ≡ receipt
  receipt_is h =
      let told = was_numbered (number_for limits commands content) h in
      ap (λ n. receipt_of (commands ++ accepted_as c content ∷ []) n content) (sym (had_number limits commands content told.0 told.1).1) ∙ told.2

batch_ok : {A : Type 0} (o : Result A BatchFault) (x : A) → of_batch o ≡ Ok x → o ≡ Ok x
batch_ok (Ok y) x h = let e : y ≡ x = cc in ap Ok e
batch_ok (Err fault) x h = absurd cc

no_policy : (dim : Dim) → gives_policy (command_kind_word (Batch (Dimension dim))) ≡ false
no_policy Product = refl
no_policy Store = refl
no_policy Customer = refl

-- what was read of a command is good, and gives a policy as its word says
pub record IsWell (format : Format) (word bytes : List ℕ) (content : Content) : Type 0 where
  pub good : IsGoodContent format content
  pub gives : GivesPolicy word bytes content

well : (kind : CommandKind) (format : Format) (policy : Policy) (bytes : List ℕ) (content : Content) → ((dim : Dim) → length (policy_attributes policy dim) ≤ 6) → content_of kind format policy bytes ≡ Ok content
    → IsWell format (command_kind_word kind) (kept_bytes kind bytes) content
unfolding IsDistinct
well (Batch (Dimension dim)) format policy bytes content six told =
    let (records, given, last) = bind_ok (judged_records dim policy bytes) (λ records. Ok (Describes dim records)) content told in
    let read = batch_ok (dimension_records dim policy bytes) records given in
    let e : Describes dim records ≡ content = cc in
    let good = good_records dim policy bytes records (six dim) read in
    rw (← e) (record {
      good = record {
        few = few_records dim policy bytes records read;
        few_sales = omega arith;
        records = λ other. all_if IsGoodRecord (same_dim other dim) records good;
        sales = tt;
        lines = tt;
        undiscounted = λ _. tt;
        voids_once = tt;
        unwithdrawn = λ _. refl;
      };
      gives = no_policy dim;
    })
well (Batch Sales) format policy bytes content six told =
    let (sales, given, last) = bind_ok (judged_sales format policy bytes) (λ sales. Ok (Sells sales)) content told in
    let read = batch_ok (sale_records policy format bytes) sales given in
    let e : Sells sales ≡ content = cc in
    rw (← e) (record {
      good = record {
        few = omega arith;
        few_sales = few_sales policy format bytes sales read;
        records = λ other. tt;
        sales = good_sales policy format bytes sales read;
        lines = sales_once policy format bytes sales read;
        undiscounted = λ first. none_discounted policy bytes sales (subst (λ f. sale_records policy f bytes ≡ Ok sales) first read);
        voids_once = tt;
        unwithdrawn = λ _. refl;
      };
      gives = refl;
    })
well (Batch Voids) format policy bytes content six told =
    let (voids, given, last) = bind_ok (judged_voids format bytes) (λ voids. Ok (Withdraws voids)) content told in
    let read = batch_ok (void_records format bytes) voids given in
    let e : Withdraws voids ≡ content = cc in
    rw (← e) (record {
      good = record {
        few = omega arith;
        few_sales = omega arith;
        records = λ other. tt;
        sales = tt;
        lines = tt;
        undiscounted = λ _. tt;
        voids_once = voids_once format bytes voids read;
        unwithdrawn = λ first. none_voided bytes voids (subst (λ f. void_records f bytes ≡ Ok voids) first read);
      };
      gives = refl;
    })
well Migration format policy bytes content six told =
    let (newer, read, last) = bind_ok (judged_policy policy bytes) (λ newer. Ok (Governs newer)) content told in
    let e : Governs newer ≡ content = cc in
    let taken = policy_taken policy bytes newer read in
    rw (← e) (record {
      good = record { few = omega arith; few_sales = omega arith; records = λ other. tt; sales = tt; lines = tt; undiscounted = λ _. tt; voids_once = tt; unwithdrawn = λ _. refl };
      gives = (refl, taken.written);
    })
well Upgrade format policy bytes content six told =
    let e : Upgrades ≡ content = cc in
    rw (← e) (record { good = record { few = omega arith; few_sales = omega arith; records = λ other. tt; sales = tt; lines = tt; undiscounted = λ _. tt; voids_once = tt; unwithdrawn = λ _. refl }; gives = refl })

module _ (limits : Limits) (commands : List Accepted) (c : Command) (accepted : IsAccepted limits commands) where
  pub content_well : (content : Content) → content_of c.kind (format_of commands) (current_policy commands) c.bytes ≡ Ok content → IsWell (format_of commands) (command_kind_word c.kind) (kept_bytes c.kind c.bytes) content
  content_well content told = well c.kind (format_of commands) (current_policy commands) c.bytes content (λ dim. in_force_six dim (policy_after None commands) _ accepted.governed (accepted.six dim)) told

  by_content : (read : Result Content Refusal) (receipt : Receipt) → content_of c.kind (format_of commands) (current_policy commands) c.bytes ≡ read → is_key 40 c.id ≡ true → find (λ (a : Accepted). bytes_eq a.id c.id) commands ≡ None
      → when_read limits commands c read ≡ Ok (Accepts receipt) → IsAccepted limits (with_content commands c read)
  by_content (Err why) receipt told good new h = accepted
  by_content (Ok content) receipt told good new h =
      let room = had_room limits commands c content receipt h in
      let read = content_well content told in
      command_added limits commands (accepted_as c content) accepted read.good read.gives good (kind_known c.kind) new room.commands_left room.changes_left room.facts_left (all_new (sold commands) 1 (sold_by content) room.lines_new) (all_stand_there (standing commands) (withdrawn_by content) (none_first_passes (λ v. not (is_sold_line (standing commands) v)) 1 (withdrawn_by content) room.lines_stand))

  by_answer : (a : Result Reply Refusal) → answer limits commands c ≡ a → IsAccepted limits (after_answer commands c a)
  by_answer (Ok (Already receipt)) said = accepted
  by_answer (Err why) said = accepted
  by_answer (Ok (Accepts receipt)) said =
      let new = new_id limits commands c (is_key 40 c.id) (find (λ (a : Accepted). bytes_eq a.id c.id) commands) receipt refl refl said in
      let read : when_read limits commands c (content_of c.kind (format_of commands) (current_policy commands) c.bytes) ≡ Ok (Accepts receipt) = rw (new.0, new.1) at said in
      by_content (content_of c.kind (format_of commands) (current_policy commands) c.bytes) receipt refl new.0 new.1 read

  pub stays_accepted : IsAccepted limits (accepted_after limits commands c)
  stays_accepted = by_answer (answer limits commands c) refl

pub accepted_lists_stay_sound : AcceptedListsStaySound
accepted_lists_stay_sound = stays_accepted
