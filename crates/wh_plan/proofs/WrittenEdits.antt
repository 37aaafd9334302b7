-- What exact edits lead to.
use Rattle.std.proofs.Common.{◌≡◌, Bool, true, false, cond, List, refl, sym, ap, ◌∙◌}
use Rattle.std.specs.FinMap.{FinMap, empty, get, get-empty}
use Rattle.std.specs.Cmp.Lexicographic.{nat_list_cmp_total}
use Rattle.std.proofs.lemmas.Cmp.{nat_cmp_total}
use Rattle.wh_policy.specs.declared.attribute.Dim.{Dim}
use Rattle.wh_policy.specs.declared.attribute.Dim.TheVariants.{Product, Store, Customer}
use Rattle.wh_policy.specs.declared.format.Format.{Format}
use Rattle.wh_policy.specs.declared.format.Format.TheVariants.{One, Two}
use Rattle.wh_policy.specs.Formats.{same_format}
use Rattle.wh_history.specs.Accepted.{Accepted, format_of}
use Rattle.wh_history.specs.Plan.{IsRowPlan}
use Rattle.wh_history.specs.Tables.{Limits, dimension_row}
use Rattle.wh_history.specs.declared.facts.Fact.{Fact}
use Rattle.wh_rows.proofs.Orders.{member_cmp_total, change_cmp_total, line_cmp_total}
use Rattle.wh_rows.specs.Rows as row
use Rattle.wh_rows.specs.Steps.{after_all}
use Rattle.wh_rows.specs.declared.key.LineKey.{LineKey}
use Rattle.wh_model.specs.Defined.{meta_at, command_at, member_at, change_at, profile_at, calendar_at, fact_in, void_at}
use Rattle.wh_model.proofs.Formatted.{in_no_other}
use Rattle.wh_plan.specs.Edits.{no_edits, rows_of_dimension, with_fact_edit, IsFactPlan, UpgradesTo}
use Rattle.wh_plan.specs.declared.edits.FactEdit.{FactEdit}
use Rattle.wh_plan.specs.Laws.{EditsAreWritten, ExactEditsAreOne, NoEditsStay}
use Rattle.wh_plan.proofs.FactPlans.{facts_lead, no_facts, one_fact_plan}
use Rattle.wh_plan.proofs.Plans.{plan_leads, empty_plan, one_plan}

-- ---- the format

format_made : (upgrades : Bool) (before after format : Format) → UpgradesTo upgrades before after → format ≡ before → cond upgrades Two format ≡ after
format_made true before after format made has = sym made.1
format_made false before after format stays has = has ∙ sym stays

no_upgrade : (before after : Format) → UpgradesTo true before after → UpgradesTo false before after → One ≡ Two
no_upgrade before after made stays = sym made.0 ∙ sym stays ∙ made.1

-- whether they upgrade is by the formats
one_upgrade : (a b : Bool) (before after : Format) → UpgradesTo a before after → UpgradesTo b before after → a ≡ b
one_upgrade true true before after first second = refl
one_upgrade true false before after first second = let same = no_upgrade before after first second in absurd cc
one_upgrade false true before after first second = let same = no_upgrade before after second first in absurd cc
one_upgrade false false before after first second = refl

-- ---- the facts of the first format

-- an upgrade leaves none, and none is due then
first_facts_lead : (upgrades : Bool) (before after : List Accepted) (es : List FactEdit) (m : FinMap row.fact.order Fact) (line : LineKey) → UpgradesTo upgrades (format_of before) (format_of after)
    → IsFactPlan (fact_in One before) (fact_in One after) es → get m line ≡ fact_in One before line → get (cond upgrades empty (after_all with_fact_edit es m)) line ≡ fact_in One after line
first_facts_lead true before after es m line made plan has = get-empty row.fact.order line ∙ sym (in_no_other One after (ap (same_format One) made.1) line)
first_facts_lead false before after es m line stays plan has = facts_lead (fact_in One before) (fact_in One after) es m line plan has

-- ---- all tables

pub edits_are_written : EditsAreWritten
edits_are_written limits before after t edits of are = record {
  format = format_made edits.upgrades (format_of before) (format_of after) t.format are.upgrades of.format;
  meta = λ name. plan_leads row.meta nat_list_cmp_total (meta_at (format_of before) limits) (meta_at (format_of after) limits) edits.meta t.meta name (are.meta limits) (of.meta name);
  command = λ number. plan_leads row.command nat_cmp_total (command_at before) (command_at after) edits.commands t.command number are.commands (of.command number);
  member = λ key. plan_leads row.member member_cmp_total (member_at before) (member_at after) edits.members t.member key are.members (of.member key);
  change = λ key. plan_leads row.change change_cmp_total (change_at before) (change_at after) edits.changes t.change key are.changes (of.change key);
  product = λ key. plan_leads row.product nat_cmp_total (dimension_row before Product) (dimension_row after Product) edits.products t.product key (are.rows Product) (of.product key);
  store = λ key. plan_leads row.store nat_cmp_total (dimension_row before Store) (dimension_row after Store) edits.stores t.store key (are.rows Store) (of.store key);
  customer = λ key. plan_leads row.customer nat_cmp_total (dimension_row before Customer) (dimension_row after Customer) edits.customers t.customer key (are.rows Customer) (of.customer key);
  profile = λ number. plan_leads row.profile nat_cmp_total (profile_at before) (profile_at after) edits.profiles t.profile number are.profiles (of.profile number);
  calendar = λ day. plan_leads row.calendar nat_cmp_total (calendar_at before) (calendar_at after) edits.calendar t.calendar day are.calendar (of.calendar day);
  fact = λ line. first_facts_lead edits.upgrades before after edits.facts t.fact line are.upgrades are.facts (of.fact line);
  fact2 = λ line. facts_lead (fact_in Two before) (fact_in Two after) edits.facts2 t.fact2 line are.facts2 (of.fact2 line);
  void = λ line. plan_leads row.void line_cmp_total (void_at before) (void_at after) edits.voids t.void line are.voids (of.void line);
}

pub no_edits_stay : NoEditsStay
no_edits_stay commands = record {
  upgrades = refl;
  meta = λ limits. empty_plan row.meta nat_list_cmp_total (meta_at (format_of commands) limits) (meta_at (format_of commands) limits) (λ _. refl);
  commands = empty_plan row.command nat_cmp_total (command_at commands) (command_at commands) (λ _. refl);
  members = empty_plan row.member member_cmp_total (member_at commands) (member_at commands) (λ _. refl);
  changes = empty_plan row.change change_cmp_total (change_at commands) (change_at commands) (λ _. refl);
  rows = none;
  profiles = empty_plan row.profile nat_cmp_total (profile_at commands) (profile_at commands) (λ _. refl);
  calendar = empty_plan row.calendar nat_cmp_total (calendar_at commands) (calendar_at commands) (λ _. refl);
  facts = no_facts (fact_in One commands);
  facts2 = no_facts (fact_in Two commands);
  voids = empty_plan row.void line_cmp_total (void_at commands) (void_at commands) (λ _. refl);
}
  where
    none : (dim : Dim) → IsRowPlan (dimension_row commands dim) (dimension_row commands dim) (rows_of_dimension dim no_edits)
    none Product = empty_plan row.product nat_cmp_total (dimension_row commands Product) (dimension_row commands Product) (λ _. refl)
    none Store = empty_plan row.product nat_cmp_total (dimension_row commands Store) (dimension_row commands Store) (λ _. refl)
    none Customer = empty_plan row.product nat_cmp_total (dimension_row commands Customer) (dimension_row commands Customer) (λ _. refl)

pub exact_edits_are_one : ExactEditsAreOne
exact_edits_are_one before after a b first second =
    let limits : Limits = record { commands = 0; changes = 0; facts = 0 } in
    let upgrades = one_upgrade a.upgrades b.upgrades (format_of before) (format_of after) first.upgrades second.upgrades in
    let meta = one_plan row.meta nat_list_cmp_total (meta_at (format_of before) limits) (meta_at (format_of after) limits) a.meta b.meta (first.meta limits) (second.meta limits) in
    let commands = one_plan row.command nat_cmp_total (command_at before) (command_at after) a.commands b.commands first.commands second.commands in
    let members = one_plan row.member member_cmp_total (member_at before) (member_at after) a.members b.members first.members second.members in
    let changes = one_plan row.change change_cmp_total (change_at before) (change_at after) a.changes b.changes first.changes second.changes in
    let products = one_plan row.product nat_cmp_total (dimension_row before Product) (dimension_row after Product) a.products b.products (first.rows Product) (second.rows Product) in
    let stores = one_plan row.product nat_cmp_total (dimension_row before Store) (dimension_row after Store) a.stores b.stores (first.rows Store) (second.rows Store) in
    let customers = one_plan row.product nat_cmp_total (dimension_row before Customer) (dimension_row after Customer) a.customers b.customers (first.rows Customer) (second.rows Customer) in
    let profiles = one_plan row.profile nat_cmp_total (profile_at before) (profile_at after) a.profiles b.profiles first.profiles second.profiles in
    let calendar = one_plan row.calendar nat_cmp_total (calendar_at before) (calendar_at after) a.calendar b.calendar first.calendar second.calendar in
    let facts = one_fact_plan (fact_in One before) (fact_in One after) a.facts b.facts first.facts second.facts in
    let facts2 = one_fact_plan (fact_in Two before) (fact_in Two after) a.facts2 b.facts2 first.facts2 second.facts2 in
    let voids = one_plan row.void line_cmp_total (void_at before) (void_at after) a.voids b.voids first.voids second.voids in
    λ i. record { upgrades = upgrades i; meta = meta i; commands = commands i; members = members i; changes = changes i; products = products i; stores = stores i; customers = customers i; profiles = profiles i; calendar = calendar i; facts = facts i; facts2 = facts2 i; voids = voids i }
