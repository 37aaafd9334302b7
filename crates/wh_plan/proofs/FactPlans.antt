-- Exact edits of facts.
use Rattle.std.proofs.Common.{◌≡◌, inl, inr, Bool, true, false, cond, List, [], ◌∷◌, map, Option, Some, None, refl, sym, ◌∙◌, ap, subst}
use Rattle.std.specs.Prelude.{◌≢◌, find, option_map}
use Rattle.std.specs.Cmp.{Equal-is}
use Rattle.std.specs.FinMap.{FinMap, get, get-insert}
use Rattle.std.specs.List.{AllByRecursion}
use Rattle.std.specs.List.Sorted.{IsPermutation, IsSorted}
use Rattle.std.specs.Option.{option_or}
use Rattle.std.specs.Ordering.{eq_by_cmp}
use Rattle.wh_policy.specs.Formats.{same_format}
use Rattle.wh_policy.specs.declared.format.Format.{Format}
use Rattle.wh_history.specs.Accepted.{Accepted, format_of}
use Rattle.wh_history.specs.declared.facts.Fact.{Fact}
use Rattle.wh_history.proofs.Basics.{find_passes, some_is}
use Rattle.wh_rows.proofs.Orders.{line_cmp_total, line_cmp-IsAntisymmetric}
use Rattle.wh_rows.specs.Meaning.{moved_at}
use Rattle.wh_rows.specs.Rekey.{with_keys}
use Rattle.wh_rows.specs.Rows as row
use Rattle.wh_rows.specs.declared.key.LineKey.{LineKey}
use Rattle.wh_rows.specs.Steps.{after_all}
use Rattle.wh_model.specs.Defined.{fact_at, fact_in}
use Rattle.wh_plan.specs.BatchRows.{AreFacts, AreRekeyed, has_line}
use Rattle.wh_plan.specs.Edits.{IsFactPlan, ChangesFact, NeedsFact, edited_line, with_fact_edit}
use Rattle.wh_plan.specs.FactEdits.{by_line, edits_in, put_of, remove_of, rekey_of}
use Rattle.wh_plan.specs.declared.edits.FactEdit.{FactEdit}
use Rattle.wh_plan.specs.declared.edits.FactEdit.TheVariants.{Row, Rekey}
use Rattle.wh_plan.proofs.Exact as exact
use Rattle.wh_plan.proofs.GrownFacts.{line_is}
use Rattle.wh_plan.proofs.Lines.{edits_ascend, edit_of_line}
use Rattle.wh_plan.proofs.Plans as plans
use Rattle.wh_model.proofs.GrownKeys.{found_is}

-- ---- a fact that stays needs no edit

pub none_needed : (line : LineKey) (old new : Option Fact) → new ≡ old → NeedsFact line old new None
none_needed line None None is = refl
none_needed line None (Some new) is = absurd cc
none_needed line (Some old) None is = absurd cc
none_needed line (Some old) (Some new) is = inl (sym (some_is new old is), refl)

-- no edit leads to the same facts
pub no_facts : (facts : LineKey → Option Fact) → IsFactPlan facts facts []
no_facts facts = record { ordered = tt; exact = λ line. none_needed line (facts line) (facts line) refl }

-- of the facts of a format: in its table these edits are exact, and in the other one none are needed
pub plan_in_table : (before after : List Accepted) (table format : Format) (es : List FactEdit) → format ≡ format_of before → format_of after ≡ format_of before
    → IsFactPlan (fact_at before) (fact_at after) es → IsFactPlan (fact_in table before) (fact_in table after) (edits_in table format es)
plan_in_table before after table format es same stays plan =
    let kept : Bool → (LineKey → Option Fact) → LineKey → Option Fact = λ b facts line. cond b (facts line) None in
    subst (λ (f : Format). IsFactPlan (fact_in table before) (kept (same_format table f) (fact_at after)) (edits_in table format es)) (sym stays)
    (subst (λ (f : Format). IsFactPlan (fact_in table before) (kept (same_format table (format_of before)) (fact_at after)) (edits_in table f es)) (sym same)
    (elim (same_format table (format_of before)) as (λ b. IsFactPlan (kept b (fact_at before)) (kept b (fact_at after)) (cond b es [])) [ true ↦ plan | false ↦ no_facts (λ _. None) ]))

module _ (edit : Fact → FactEdit) (own : (f : Fact) → edited_line (edit f) ≡ row.fact.key f) (before after : LineKey → Option Fact) where
  abbrev Needed : Fact → Type 0
  Needed f = NeedsFact (row.fact.key f) (before (row.fact.key f)) (Some f) (Some (edit f))

  pub plan_sorted : (facts fs : List Fact) → AreFacts before after facts → IsPermutation facts fs → IsSorted by_line fs → AllByRecursion Needed facts → IsFactPlan before after (map edit fs)
  plan_sorted facts fs are moved sorted each = record {
    ordered = edits_ascend row.fact.key edited_line edit own facts fs are.once moved sorted;
    exact = λ line. rw (edit_of_line row.fact.key edited_line edit own facts fs are.once moved line) (elim (find (has_line line) facts) as (λ o. (find (has_line line) facts ≡ o) → NeedsFact line (before line) (after line) (option_map edit o)) [
      | None ↦ λ none. none_needed line (before line) (after line) (sym (are.lead line) ∙ ap (λ o. option_or o (before line)) none)
      | Some f ↦ λ some.
          let here : row.fact.key f ≡ line = line_is line f (find_passes (has_line line) f facts some) in
          let stands : after line ≡ Some f = sym (are.lead line) ∙ ap (λ o. option_or o (before line)) some in
          rw stands (subst (λ k. NeedsFact k (before k) (Some f) (Some (edit f))) here (found_is Needed (has_line line) facts f each some))
    ] refl);
  }

-- ---- new facts, and facts with other keys

puts_needed : (before : LineKey → Option Fact) (fs : List Fact) → AllByRecursion (λ f. before (row.fact.key f) ≡ None) fs → AllByRecursion (λ f. NeedsFact (row.fact.key f) (before (row.fact.key f)) (Some f) (Some (put_of f))) fs
puts_needed before [] none = tt
puts_needed before (f ∷ fs) none = (rw none.0 refl, puts_needed before fs none.1)

pub puts_plan : (before after : LineKey → Option Fact) (facts fs : List Fact) → AreFacts before after facts → AllByRecursion (λ f. before (row.fact.key f) ≡ None) facts → IsPermutation facts fs → IsSorted by_line fs → IsFactPlan before after (map put_of fs)
puts_plan before after facts fs are none moved sorted = plan_sorted put_of (λ f. refl) before after facts fs are moved sorted (puts_needed before facts none)

rekeys_needed : (before : LineKey → Option Fact) (fs : List Fact) → AreRekeyed before fs → AllByRecursion (λ f. before (row.fact.key f) ≢ Some f) fs → AllByRecursion (λ f. NeedsFact (row.fact.key f) (before (row.fact.key f)) (Some f) (Some (rekey_of f))) fs
rekeys_needed before [] stood other = tt
rekeys_needed before (f ∷ fs) stood other =
    let old = stood.0.0 in
    let stands : before (row.fact.key f) ≡ Some old = stood.0.1 in
    let differs : old ≢ f = λ same. other.0 (stands ∙ ap Some same) in
    (rw stands (inr (inl (differs, sym stood.0.2, refl))), rekeys_needed before fs stood.1 other.1)

pub rekeys_plan : (before after : LineKey → Option Fact) (facts fs : List Fact) → AreFacts before after facts → AreRekeyed before facts → IsPermutation facts fs → IsSorted by_line fs → IsFactPlan before after (map rekey_of fs)
rekeys_plan before after facts fs are stood moved sorted = plan_sorted rekey_of (λ f. refl) before after facts fs are moved sorted (rekeys_needed before facts stood are.needed)

-- ---- facts that are taken out

pub removes_plan : (kept : LineKey → Option Fact) (facts fs : List Fact) → AreFacts (λ _. None) kept facts → IsPermutation facts fs → IsSorted by_line fs → IsFactPlan kept (λ _. None) (map remove_of fs)
removes_plan kept facts fs are moved sorted = record {
  ordered = edits_ascend row.fact.key edited_line remove_of (λ f. refl) facts fs are.once moved sorted;
  exact = λ line.
      rw (edit_of_line row.fact.key edited_line remove_of (λ f. refl) facts fs are.once moved line) (elim (find (has_line line) facts) as (λ o. (find (has_line line) facts ≡ o) → option_or o None ≡ kept line → NeedsFact line (kept line) None (option_map remove_of o)) [
        | None ↦ λ none at. rw (← at) refl
        | Some f ↦ λ some at. let here : row.fact.key f ≡ line = line_is line f (find_passes (has_line line) f facts some) in rw (← at, here) refl
      ] refl (are.lead line));
}

none_stood : (fs : List Fact) → AllByRecursion (λ f. ◌≡◌ {A = Option Fact} None None) fs
none_stood [] = tt
none_stood (f ∷ fs) = (refl, none_stood fs)

pub carried_plan : (kept : LineKey → Option Fact) (facts fs : List Fact) → AreFacts (λ _. None) kept facts → IsPermutation facts fs → IsSorted by_line fs → IsFactPlan (λ _. None) kept (map put_of fs)
carried_plan kept facts fs are moved sorted = puts_plan (λ _. None) kept facts fs are (none_stood facts) moved sorted

-- ---- what they lead to

abbrev Facts : Type 0
Facts = FinMap row.fact.order Fact

abbrev made : FactEdit → Option Fact → Option Fact
made (Row edit) old = plans.made row.fact line_cmp_total edit old
made (Rekey line keys) None = None
made (Rekey line keys) (Some old) = Some (record old { keys = keys })

elsewhere : (m : Facts) (e : FactEdit) (line : LineKey) → eq_by_cmp row.fact.order (edited_line e) line ≡ false → get (with_fact_edit e m) line ≡ get m line
elsewhere m (Row edit) line other = plans.elsewhere row.fact line_cmp_total m edit line other
elsewhere m (Rekey own keys) line other =
    elim (get m own) as (λ o. get (moved_at m own (with_keys (own, keys)) o) line ≡ get m line) [
      | None ↦ refl
      | Some f ↦ get-insert line_cmp_total m own (with_keys (own, keys) f) line ∙ ap (λ b. cond b (Some (with_keys (own, keys) f)) (get m line)) (plans.turned row.fact line_cmp_total own line false other)
    ]

there : (m : Facts) (e : FactEdit) (line : LineKey) → eq_by_cmp row.fact.order (edited_line e) line ≡ true → get (with_fact_edit e m) line ≡ made e (get m line)
there m (Row edit) line is = plans.there row.fact line_cmp_total m edit line is
there m (Rekey own keys) line is =
    let here : own ≡ line = line_cmp-IsAntisymmetric own line ((Equal-is (row.line_cmp own line)).0 is) in
    ap (λ o. get (moved_at m own (with_keys (own, keys)) o) line) (ap (get m) here)
    ∙ elim (get m line) as (λ o. (get m line ≡ o) → get (moved_at m own (with_keys (own, keys)) o) line ≡ made (Rekey own keys) o) [
      | None ↦ λ none. none
      | Some f ↦ λ _. get-insert line_cmp_total m own (with_keys (own, keys) f) line ∙ ap (λ b. cond b (Some (with_keys (own, keys) f)) (get m line)) (plans.turned row.fact line_cmp_total own line true is)
    ] refl

abbrev applied : Option FactEdit → Option Fact → Option Fact
applied None old = old
applied (Some e) old = made e old

needed : (line : LineKey) (before after : Option Fact) (e : Option FactEdit) → NeedsFact line before after e → applied e before ≡ after
needed line None None e is = rw is refl
needed line (Some old) None e is = rw is refl
needed line None (Some new) e is = rw is refl
needed line (Some old) (Some new) e is = elim is [
  | inl same ↦ rw (same.1, same.0) refl
  | inr other ↦ elim other [
    | inl keys ↦ rw keys.2 (ap Some keys.1)
    | inr put ↦ rw put.1 refl
  ]
]

pub facts_lead : (before after : LineKey → Option Fact) (es : List FactEdit) (m : Facts) (line : LineKey) → IsFactPlan before after es → get m line ≡ before line → get (after_all with_fact_edit es m) line ≡ after line
facts_lead before after es m line plan has = exact.exact_leads row.fact.order line_cmp_total edited_line (λ t k. get t k) with_fact_edit made elsewhere there NeedsFact needed before after es m line plan has

-- ---- there is one

one_change : (line : LineKey) (old new : Fact) (d e : Option FactEdit) → ChangesFact line old new d → ChangesFact line old new e → d ≡ e
one_change line old new d e (inl kept) (inl stays) = kept.1 ∙ sym stays.1
one_change line old new d e (inl kept) (inr (inl keys)) = absurd (keys.0 kept.0)
one_change line old new d e (inl kept) (inr (inr put)) = absurd (put.0 (ap (λ (f : Fact). record old { keys = f.keys }) (sym kept.0) ∙ kept.0))
one_change line old new d e (inr (inl keys)) (inl stays) = absurd (keys.0 stays.0)
one_change line old new d e (inr (inl keys)) (inr (inl same)) = keys.2 ∙ sym same.2
one_change line old new d e (inr (inl keys)) (inr (inr put)) = absurd (put.0 keys.1)
one_change line old new d e (inr (inr put)) (inl stays) = absurd (put.0 (ap (λ (f : Fact). record old { keys = f.keys }) (sym stays.0) ∙ stays.0))
one_change line old new d e (inr (inr put)) (inr (inl keys)) = absurd (put.0 keys.1)
one_change line old new d e (inr (inr put)) (inr (inr same)) = put.1 ∙ sym same.1

one_need : (line : LineKey) (before after : Option Fact) (d e : Option FactEdit) → NeedsFact line before after d → NeedsFact line before after e → d ≡ e
one_need line None None d e is so = is ∙ sym so
one_need line (Some old) None d e is so = is ∙ sym so
one_need line None (Some new) d e is so = is ∙ sym so
one_need line (Some old) (Some new) d e is so = one_change line old new d e is so

pub one_fact_plan : (before after : LineKey → Option Fact) (es fs : List FactEdit) → IsFactPlan before after es → IsFactPlan before after fs → es ≡ fs
one_fact_plan before after es fs plan other =
    exact.one_list row.fact.order line_cmp_total edited_line es fs plan.ordered other.ordered (λ line. one_need line (before line) (after line) _ _ (plan.exact line) (other.exact line))
