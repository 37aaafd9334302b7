-- The edits of an upgrade.
use Rattle.std.proofs.Common.{◌≡◌, inr, suc, true, false, cond, List, [], ◌∷◌, ◌++◌, length, Option, Some, None, refl, sym, ap, subst, ◌∙◌, pos, ℕ}
use Rattle.std.specs.Prelude.{◌≢◌, find, filter, option_to_list, codes, bytes_eq}
use Rattle.std.specs.Cmp.{eq_by_cmp_equiv, Equal-is}
use Rattle.std.specs.FinMap.{values}
use Rattle.std.specs.List.{AllByRecursion}
use Rattle.std.specs.Ordering.{eq_by_cmp}
use Rattle.std.proofs.lemmas.Cmp.{nat_cmp_total}
use Rattle.std.proofs.lemmas.Slice.Eq.{bytes_eq-Decides}
use Rattle.wh_policy.proofs.Options.{option_or-none}
use Rattle.wh_policy.specs.Formats.{same_format}
use Rattle.wh_policy.specs.declared.attribute.Dim.{Dim}
use Rattle.wh_policy.specs.declared.attribute.Dim.TheVariants.{Product, Store, Customer}
use Rattle.wh_policy.specs.declared.format.Format.TheVariants.{One, Two}
use Rattle.wh_history.specs.Accepted.{Accepted, Upgrades, format_of}
use Rattle.wh_history.specs.Laws.{governs}
use Rattle.wh_history.specs.Plan.{Needs, IsRowPlan}
use Rattle.wh_history.specs.Tables.{Limits, dimension_row}
use Rattle.wh_history.specs.declared.facts.Fact.{Fact}
use Rattle.wh_history.specs.declared.plan.Edit.TheVariants.{Put}
use Rattle.wh_rows.proofs.Orders.{member_cmp_total, change_cmp_total, line_cmp_total}
use Rattle.wh_rows.proofs.Places as places
use Rattle.wh_rows.specs.Facts.{facts_in}
use Rattle.wh_rows.specs.Rows as row
use Rattle.wh_rows.specs.Tables.{Tables}
use Rattle.wh_rows.specs.declared.key.LineKey.{LineKey}
use Rattle.wh_rows.specs.declared.rows.CommandRow.{CommandRow}
use Rattle.wh_rows.specs.declared.rows.MetaRow.{MetaRow}
use Rattle.wh_model.specs.Defined.{meta_at, command_at, member_at, change_at, profile_at, calendar_at, fact_at, fact_in, void_at, AreOf}
use Rattle.wh_model.proofs.Formatted.{in_its_table, in_no_other}
use Rattle.wh_model.proofs.QuietLists.{IsQuiet}
use Rattle.wh_model.proofs.QuietRows.{dimension_same, member_same, change_same, profile_same, calendar_same}
use Rattle.wh_model.proofs.UpgradedRows.{quiet, no_policy, upgraded, fact_same, void_same}
use Rattle.wh_plan.specs.BatchRows.{AreFacts, has_line}
use Rattle.wh_plan.specs.Edits.{AreEdits, IsTablePlan, IsFactPlan, rows_of_dimension}
use Rattle.wh_plan.specs.declared.edits.FactEdit.{FactEdit}
use Rattle.wh_plan.proofs.GrownFacts.{own_line}
use Rattle.wh_plan.proofs.MovedFacts.{facts_of_line}
use Rattle.wh_plan.proofs.MovedLists.{find_by_filter, distinct_by_filter}
use Rattle.wh_plan.proofs.OwnRow.{own_row_plan}
use Rattle.wh_plan.proofs.Plans.{empty_plan}

-- the row of meta that says the second format
abbrev pub second_row : MetaRow
second_row = record { name = codes "format"; value = pos 2 }

-- a plan between the same facts
same_facts : (before after old new : LineKey → Option Fact) (edits : List FactEdit) → ((line : LineKey) → before line ≡ old line) → ((line : LineKey) → after line ≡ new line) → IsFactPlan before after edits → IsFactPlan old new edits
same_facts before after old new edits old_is new_is plan = record { ordered = plan.ordered; exact = λ line. rw (sym (old_is line), sym (new_is line)) (plan.exact line) }

-- ---- meta

one_is_not_two : ◌≡◌ {A = MetaRow} (record { name = codes "format"; value = pos 1 }) second_row → ⊥
one_is_not_two same = let value = ap (λ (r : MetaRow). r.value) same in cc

-- any other name has the same number
other_name : (limits : Limits) (name : List ℕ) → bytes_eq name (codes "format") ≡ false → meta_at Two limits name ≡ meta_at One limits name
other_name limits name other = rw other refl

meta_plan : (limits : Limits) → IsTablePlan row.meta (meta_at One limits) (meta_at Two limits) (Put second_row ∷ [])
meta_plan limits = record {
  ordered = tt;
  exact = λ name.
      elim (eq_by_cmp row.meta.order (codes "format") name) as (λ b. (eq_by_cmp row.meta.order (codes "format") name ≡ b) → Needs name (meta_at One limits name) (meta_at Two limits name) (cond b (Some (Put second_row)) None)) [
        | true ↦ λ tied.
            let here : codes "format" ≡ name = places.meta.same (codes "format") name ((Equal-is (row.meta.order (codes "format") name)).0 tied) in
            subst (λ n. Needs n (meta_at One limits n) (meta_at Two limits n) (Some (Put second_row))) here (inr (one_is_not_two, refl))
        | false ↦ λ apart. stays name (apart_name name apart)
      ] refl;
}
  where
    stays : (name : List ℕ) → bytes_eq name (codes "format") ≡ false → Needs name (meta_at One limits name) (meta_at Two limits name) None
    stays name other = subst (λ o. Needs name (meta_at One limits name) o None) (sym (other_name limits name other)) ((empty_plan row.meta places.meta.total (meta_at One limits) (meta_at One limits) (λ _. refl)).exact name)

    apart_name : (name : List ℕ) → eq_by_cmp row.meta.order (codes "format") name ≡ false → bytes_eq name (codes "format") ≡ false
    apart_name name apart = elim (bytes_eq name (codes "format")) as (λ b. (bytes_eq name (codes "format") ≡ b) → b ≡ false) [
      | false ↦ λ _. refl
      | true ↦ λ same.
          let is : name ≡ codes "format" = (bytes_eq-Decides name (codes "format")).0 same in
          let tied : eq_by_cmp row.meta.order (codes "format") name ≡ true = ap (eq_by_cmp row.meta.order (codes "format")) is ∙ (eq_by_cmp_equiv places.meta.total).refl (codes "format") in
          absurd cc
    ] refl

module _ (limits : Limits) (commands : List Accepted) (c : Accepted) (t : Tables) (is : c.content ≡ Upgrades) (first : format_of commands ≡ One) (are : AreOf limits commands t) where
  abbrev after : List Accepted
  after = commands ++ c ∷ []

  -- ---- the facts that are carried

  of_line : (line : LineKey) → filter (has_line line) (values t.fact) ≡ option_to_list (fact_at commands line)
  of_line line = subst (λ f. filter (has_line line) (values (facts_in f t)) ≡ option_to_list (fact_at commands line)) (are.format ∙ first) (facts_of_line limits commands t are line)

  all_new : (facts : List Fact) → AllByRecursion (λ f. ◌≢◌ {A = Option Fact} None (Some f)) facts
  all_new [] = tt
  all_new (f ∷ facts) = (λ same. cc, all_new facts)

  pub carried : AreFacts (λ _. None) (fact_at commands) (values t.fact)
  carried = record {
    lead = λ line. option_or-none (find (has_line line) (values t.fact)) ∙ find_by_filter (has_line line) (values t.fact) (fact_at commands line) (of_line line);
    needed = all_new (values t.fact);
    once = distinct_by_filter (λ f. has_line (row.fact.key f)) own_line (values t.fact) (λ f. (fact_at commands (row.fact.key f), of_line (row.fact.key f)));
  }

  -- ---- all tables

  still : IsQuiet c.content
  still = quiet commands c is

  unruled : governs c.content ≡ false
  unruled = no_policy commands c is

  pub upgrade_plan : (own : CommandRow) (one two : List FactEdit) → command_at (commands ++ c ∷ []) (suc (length commands)) ≡ Some own
      → IsFactPlan (fact_at commands) (λ _. None) one → IsFactPlan (λ _. None) (fact_at commands) two
      → AreEdits commands (commands ++ c ∷ []) (record { upgrades = true; meta = Put second_row ∷ []; commands = Put own ∷ []; members = []; changes = []; products = []; stores = []; customers = []; profiles = []; calendar = []; facts = one; facts2 = two; voids = [] })
  upgrade_plan own one two stands removed put = record {
    upgrades = (first, second);
    meta = λ of. subst (λ f. IsTablePlan row.meta (meta_at (format_of commands) of) (meta_at f of) (Put second_row ∷ [])) (sym second) (subst (λ f. IsTablePlan row.meta (meta_at f of) (meta_at Two of) (Put second_row ∷ [])) (sym first) (meta_plan of));
    commands = own_row_plan commands c own stands;
    members = empty_plan row.member member_cmp_total (member_at commands) (member_at after) (member_same commands c still unruled);
    changes = empty_plan row.change change_cmp_total (change_at commands) (change_at after) (change_same commands c still unruled);
    rows = each_dimension;
    profiles = empty_plan row.profile nat_cmp_total (profile_at commands) (profile_at after) (profile_same commands c still unruled);
    calendar = empty_plan row.calendar nat_cmp_total (calendar_at commands) (calendar_at after) (calendar_same commands c still unruled);
    facts = same_facts (fact_at commands) (λ _. None) (fact_in One commands) (fact_in One after) one
        (λ line. sym (in_its_table One commands (sym first) line)) (λ line. sym (in_no_other One after (ap (same_format One) second) line)) removed;
    facts2 = same_facts (λ _. None) (fact_at commands) (fact_in Two commands) (fact_in Two after) two
        (λ line. sym (in_no_other Two commands (ap (same_format Two) first) line)) (λ line. sym (in_its_table Two after (sym second) line ∙ fact_same commands c is line)) put;
    voids = empty_plan row.void line_cmp_total (void_at commands) (void_at after) (void_same commands c is);
  }
    where
      second : format_of after ≡ Two
      second = upgraded commands c is

      each_dimension : (dim : Dim) → IsRowPlan (dimension_row commands dim) (dimension_row after dim) (rows_of_dimension dim (record { upgrades = true; meta = Put second_row ∷ []; commands = Put own ∷ []; members = []; changes = []; products = []; stores = []; customers = []; profiles = []; calendar = []; facts = one; facts2 = two; voids = [] }))
      each_dimension Product = empty_plan row.product nat_cmp_total (dimension_row commands Product) (dimension_row after Product) (dimension_same commands c still unruled Product)
      each_dimension Store = empty_plan row.product nat_cmp_total (dimension_row commands Store) (dimension_row after Store) (dimension_same commands c still unruled Store)
      each_dimension Customer = empty_plan row.product nat_cmp_total (dimension_row commands Customer) (dimension_row after Customer) (dimension_same commands c still unruled Customer)
