-- The calendar has the day of each sale that was admitted: a batch of sales is read within the years of the policy in force, and no later policy loses a year.
use Rattle.std.proofs.Common.{◌≡◌, ℕ, ◌&&◌, Bool, true, false, cond, List, [], ◌∷◌, ◌++◌, Option, Some, None, Result, Ok, Err, refl, sym, ◌∙◌, ap, subst, arith, nat_le, append_assoc}
use Rattle.std.specs.Prelude.{unwrap_or, IsSome}
use Rattle.std.specs.Option.{option_and_then}
use Rattle.std.specs.List.{AllByRecursion, list_all}
use Rattle.std.proofs.lemmas.Bool.Decides.{nat_tests}
use Rattle.std.proofs.lemmas.List.{append-nil}
use Rattle.wh_day.specs.Reading.{◌>>=◌}
use Rattle.wh_day.specs.Day.{is_day, year_of}
use Rattle.wh_day.specs.Calendar.{date_row}
use Rattle.wh_policy.specs.Names.{are_kept, fits}
use Rattle.wh_policy.specs.Policy.{read_policy, trial_policy}
use Rattle.wh_policy.specs.Years.{is_within}
use Rattle.wh_policy.specs.declared.attribute.Dim.{Dim}
use Rattle.wh_policy.specs.declared.fault.PolicyFault.{PolicyFault}
use Rattle.wh_policy.specs.declared.policy.Policy.{Policy}
use Rattle.wh_policy.specs.declared.policy.Years.{Years}
use Rattle.wh_policy.specs.declared.record.DimensionRecord.{DimensionRecord}
use Rattle.wh_policy.specs.declared.record.SaleRecord.{SaleRecord}
use Rattle.wh_policy.specs.declared.record.VoidRecord.{VoidRecord}
use Rattle.wh_batch.specs.Layouts.{sales_layout, sale_records}
use Rattle.wh_batch.specs.declared.fault.BatchFault.{BatchFault}
use Rattle.wh_policy.specs.declared.format.Format.{Format}
use Rattle.wh_batch.specs.declared.kind.BatchKind.TheVariants.{Dimension, Sales, Voids}
use Rattle.wh_batch.proofs.GoodLemmas.{reads_batches}
use Rattle.wh_history.specs.Accepted.{Accepted, Content, Governs, Describes, Sells, Upgrades, Withdraws, format_of, governed, policy_after, sold, sold_by}
use Rattle.wh_history.specs.Tables.{Limits}
use Rattle.wh_history.proofs.Joins.{all_append, all_weaker}
use Rattle.wh_history.proofs.Basics.{both_true}
use Rattle.wh_model.specs.Defined.{calendar_at, day_at}
use Rattle.wh_model.specs.Sound.{init_of}
use Rattle.wh_model.specs.Sound.{IsGoodSale}
use Rattle.wh_admission.specs.Admission.{current_policy, of_batch, of_file, judged_records, judged_voids, content_of, accepted_as, answer, with_content, after_answer, accepted_after, accepted_after_all}
use Rattle.wh_admission.specs.declared.command.Command.{Command}
use Rattle.wh_batch.specs.declared.kind.CommandKind.{CommandKind}
use Rattle.wh_batch.specs.declared.kind.CommandKind.TheVariants.{Batch, Migration, Upgrade}
use Rattle.wh_admission.specs.declared.command.Reply.{Reply}
use Rattle.wh_admission.specs.declared.command.Reply.TheVariants.{Accepted as Accepts, Already}
use Rattle.wh_admission.specs.declared.command.Refusal.{Refusal}
use Rattle.wh_admission.specs.declared.command.Refusal.TheVariants.{Unfit}
use Rattle.wh_admission.proofs.Admitted.{admitted_sound}
use Rattle.wh_admission.proofs.Migrated.{policy_with}
use Rattle.wh_report.specs.Laws.{AdmittedSalesAreDated}

-- the sales lie in these years
abbrev AreWithin : Years → List SaleRecord → Type 0
AreWithin years sales = AllByRecursion (λ s. is_within years s.day ≡ true) sales

-- those that were accepted lie in the years of the policy in force
abbrev IsWithinAll : List Accepted → Type 0
IsWithinAll commands = AreWithin (current_policy commands).years (sold commands)

-- ---- one command more

sold_behind : (commands : List Accepted) (c : Accepted) → sold (commands ++ c ∷ []) ≡ sold commands ++ sold_by c.content
sold_behind [] c = append-nil (sold_by c.content)
sold_behind (d ∷ commands) c = ap (λ sales. sold_by d.content ++ sales) (sold_behind commands c) ∙ sym (append_assoc (sold_by d.content) (sold commands) (sold_by c.content))

ok_is : {A F : Type 0} (x y : A) → ◌≡◌ {A = Result A F} (Ok x) (Ok y) → x ≡ y
ok_is x y e = cc

-- no year is lost
widened : (older newer : Years) (day : ℕ) → nat_le newer.first older.first ≡ true → nat_le older.last newer.last ≡ true → is_within older day ≡ true → is_within newer day ≡ true
widened older newer day first last within = grind (arith, nat_tests)

kept : (older newer : Policy) (sales : List SaleRecord) → fits older newer ≡ true → AreWithin older.years sales → AreWithin newer.years sales
kept older newer sales fit all =
    let names : Bool = are_kept older.product newer.product && are_kept older.store newer.store && are_kept older.customer newer.customer in
    let last = both_true (names && nat_le newer.years.first older.years.first) (nat_le older.years.last newer.years.last) fit in
    let first = both_true names (nat_le newer.years.first older.years.first) last.0 in
    all_weaker (λ s. is_within older.years s.day ≡ true) (λ s. is_within newer.years s.day ≡ true) (λ s within. widened older.years newer.years s.day first.1 last.1 within) sales all

each_passes : (years : Years) (sales : List SaleRecord) → list_all (λ s. is_within years s.day) sales ≡ true → AreWithin years sales
each_passes years [] all = tt
each_passes years (s ∷ sales) all = let parts = both_true _ _ all in (parts.0, each_passes years sales parts.1)

read_within : (policy : Policy) (format : Format) (bytes : List ℕ) (sales : List SaleRecord) → sale_records policy format bytes ≡ Ok sales → AreWithin policy.years sales
unfolding sale_records
read_within policy format bytes sales read = each_passes policy.years sales (((reads_batches (sales_layout format policy.years) bytes sales).0 read).within)

module _ (commands : List Accepted) (c : Command) (within : IsWithinAll commands) where
  abbrev with_it : Content → List Accepted
  with_it content = commands ++ accepted_as c content ∷ []

  -- under the same policy
  same_policy : (content : Content) → governed (policy_after None commands) content ≡ policy_after None commands → AreWithin (current_policy commands).years (sold_by content) → IsWithinAll (with_it content)
  same_policy content same new =
      let force : current_policy (with_it content) ≡ current_policy commands = ap (λ (o : Option Policy). unwrap_or o trial_policy) (policy_with None commands (accepted_as c content) ∙ same) in
      subst (λ (p : Policy). AreWithin p.years (sold (with_it content))) (sym force)
      (subst (AreWithin (current_policy commands).years) (sym (sold_behind commands (accepted_as c content))) (all_append (λ s. is_within (current_policy commands).years s.day ≡ true) (sold commands) (sold_by content) within new))

  -- under a policy that fits it
  newer_policy : (newer : Policy) → fits (current_policy commands) newer ≡ true → IsWithinAll (with_it (Governs newer))
  newer_policy newer fit =
      let force : current_policy (with_it (Governs newer)) ≡ newer = ap (λ (o : Option Policy). unwrap_or o trial_policy) (policy_with None commands (accepted_as c (Governs newer))) in
      subst (λ (p : Policy). AreWithin p.years (sold (with_it (Governs newer)))) (sym force)
      (subst (AreWithin newer.years) (sym (sold_behind commands (accepted_as c (Governs newer)) ∙ append-nil (sold commands))) (kept (current_policy commands) newer (sold commands) fit within))

  of_sales : (r : Result (List SaleRecord) BatchFault) (content : Content) → sale_records (current_policy commands) (format_of commands) c.bytes ≡ r → (of_batch r >>= λ sales. Ok (Sells sales)) ≡ Ok content → IsWithinAll (with_it content)
  of_sales (Ok sales) content is e = subst (λ x. IsWithinAll (with_it x)) (ok_is _ _ e) (same_policy (Sells sales) refl (read_within (current_policy commands) (format_of commands) c.bytes sales is))
  of_sales (Err fault) content is e = absurd cc

  of_voids : (r : Result (List VoidRecord) Refusal) (content : Content) → (r >>= λ voids. Ok (Withdraws voids)) ≡ Ok content → IsWithinAll (with_it content)
  of_voids (Ok voids) content e = subst (λ x. IsWithinAll (with_it x)) (ok_is _ _ e) (same_policy (Withdraws voids) refl tt)
  of_voids (Err why) content e = absurd cc

  of_records : (dim : Dim) (r : Result (List DimensionRecord) Refusal) (content : Content) → (r >>= λ records. Ok (Describes dim records)) ≡ Ok content → IsWithinAll (with_it content)
  of_records dim (Ok records) content e = subst (λ x. IsWithinAll (with_it x)) (ok_is _ _ e) (same_policy (Describes dim records) refl tt)
  of_records dim (Err why) content e = absurd cc

  of_policy : (r : Result Policy PolicyFault) (content : Content) → ((of_file r >>= λ newer. cond (fits (current_policy commands) newer) (Ok newer) (Err Unfit)) >>= λ newer. Ok (Governs newer)) ≡ Ok content → IsWithinAll (with_it content)
  of_policy (Ok newer) content e =
      elim (fits (current_policy commands) newer) as (λ b. (fits (current_policy commands) newer ≡ b) → ((cond b (Ok newer) (Err Unfit)) >>= λ newer. Ok (Governs newer)) ≡ Ok content → IsWithinAll (with_it content)) [
        | true ↦ λ fit told. subst (λ x. IsWithinAll (with_it x)) (ok_is _ _ told) (newer_policy newer fit)
        | false ↦ λ fit told. absurd cc
      ] refl e
  of_policy (Err fault) content e = absurd cc

  of_kind : (kind : CommandKind) (content : Content) → content_of kind (format_of commands) (current_policy commands) c.bytes ≡ Ok content → IsWithinAll (with_it content)
  of_kind (Batch (Dimension dim)) content e = of_records dim (judged_records dim (current_policy commands) c.bytes) content e
  of_kind (Batch Sales) content e = of_sales (sale_records (current_policy commands) (format_of commands) c.bytes) content refl e
  of_kind (Batch Voids) content e = of_voids (judged_voids (format_of commands) c.bytes) content e
  of_kind Migration content e = of_policy (read_policy c.bytes) content e
  of_kind Upgrade content e = subst (λ x. IsWithinAll (with_it x)) (ok_is _ _ e) (same_policy Upgrades refl tt)

  by_content : (r : Result Content Refusal) → content_of c.kind (format_of commands) (current_policy commands) c.bytes ≡ r → IsWithinAll (with_content commands c r)
  by_content (Ok content) is = of_kind c.kind content is
  by_content (Err why) is = within

  by_answer : (r : Result Reply Refusal) → IsWithinAll (after_answer commands c r)
  by_answer (Ok (Accepts receipt)) = by_content (content_of c.kind (format_of commands) (current_policy commands) c.bytes) refl
  by_answer (Ok (Already receipt)) = within
  by_answer (Err why) = within

-- ---- all commands

within_after_all : (limits : Limits) (commands : List Accepted) (sent : List Command) → IsWithinAll commands → IsWithinAll (accepted_after_all limits commands sent)
within_after_all limits commands [] within = within
within_after_all limits commands (c ∷ sent) within = within_after_all limits (accepted_after limits commands c) sent (by_answer commands c within (answer limits commands c))

dated : (commands : List Accepted) (o : Option Policy) (day : ℕ) → policy_after None commands ≡ o → IsSome o → is_day day ≡ true → is_within (unwrap_or o trial_policy).years day ≡ true → IsSome (calendar_at commands day)
dated commands None day is some day_is within = absurd cc
dated commands (Some policy) day is some day_is within =
    let parts = both_true (nat_le policy.years.first (year_of day)) (nat_le (year_of day) policy.years.last) within in
    let row : day_at policy day ≡ Some (date_row policy.holidays day) = rw (day_is, parts.0, parts.1) refl in
    subst IsSome (sym (ap (option_and_then (λ (p : Policy). day_at p day)) is ∙ row)) refl

all_dated : (commands : List Accepted) → IsSome (policy_after None commands) → (sales : List SaleRecord) → AllByRecursion IsGoodSale sales → AreWithin (current_policy commands).years sales → AllByRecursion (λ s. IsSome (calendar_at commands s.day)) sales
all_dated commands some [] good within = tt
all_dated commands some (s ∷ sales) good within = (dated commands (policy_after None commands) s.day refl some good.0.day within.0, all_dated commands some sales good.1 within.1)

pub admitted_sales_are_dated : AdmittedSalesAreDated
admitted_sales_are_dated limits commands it =
    let ok = admitted_sound limits commands it in
    let within : IsWithinAll commands = subst IsWithinAll (sym it.admitted) (within_after_all limits (init_of it.policy it.bytes ∷ []) it.sent tt) in
    all_dated commands ok.governed (sold commands) ok.sales within
