-- The edits of a command may be written.
use Rattle.std.proofs.Common.{◌==◌, ◌≡◌, inl, inr, ℕ, suc, ◌≤◌, true, false, cond, List, [], ◌∷◌, ◌++◌, length, Option, Some, None, refl, sym, ap, subst, ◌∙◌, arith, length-append}
use Rattle.std.specs.Prelude.{bytes_eq, codes, pos, take, option_map}
use Rattle.std.specs.Cmp.Lexicographic.{nat_list_cmp_total}
use Rattle.std.specs.List.{AllByRecursion}
use Rattle.std.specs.Option.{option_and_then}
use Rattle.std.specs.Str.{is_utf8, chars}
use lib.Utf8.{encode}
use Rattle.std.proofs.lemmas.Slice.Eq.{bytes_eq-Decides}
use Rattle.wh_policy.specs.declared.attribute.Dim.{Dim}
use Rattle.wh_policy.specs.declared.attribute.Dim.TheVariants.{Product, Store, Customer}
use Rattle.wh_policy.specs.Formats.{format_number, same_format}
use Rattle.wh_policy.specs.declared.format.Format.{Format}
use Rattle.wh_policy.specs.declared.format.Format.TheVariants.{One, Two}
use Rattle.wh_policy.specs.declared.record.DimensionRecord.{DimensionRecord}
use Rattle.wh_policy.specs.declared.record.SaleRecord.{SaleRecord}
use Rattle.wh_policy.specs.declared.record.VoidRecord.{VoidRecord}
use Rattle.wh_history.specs.Accepted.{Accepted, Content, Governs, Describes, Sells, Upgrades, Withdraws, format_of, described, described_by, sold, withdrawn, withdrawn_by, members_after, records_by, placeholders_by}
use Rattle.wh_history.specs.Tables.{Limits, meta_value, change_row, change_row_in, dimension_row}
use Rattle.wh_history.specs.Tables as history
use Rattle.wh_history.specs.declared.facts.Fact.{Fact}
use Rattle.wh_history.specs.declared.plan.Edit.TheVariants.{Put, Remove}
use Rattle.wh_history.specs.declared.rows.DimRow.{DimRow}
use Rattle.wh_history.proofs.Basics.{both_true, some_is}
use Rattle.wh_history.proofs.Batches.{same_dimension}
use Rattle.wh_history.proofs.Standing.{withdrawn-last}
use Rattle.wh_history.proofs.Untouched.{described-last}
use Rattle.wh_history.proofs.Lists.{all_apart}
use Rattle.wh_rows.specs.declared.rows.MetaRow.{MetaRow}
use Rattle.wh_rows.specs.declared.rows.CommandRow.{CommandRow}
use Rattle.wh_rows.specs.declared.rows.ChangeRow.{ChangeRow}
use Rattle.wh_rows.specs.Types.{is_number, is_measure, is_discount, is_key, is_kind}
use Rattle.wh_rows.proofs.Orders.{member_cmp_total, change_cmp_total, line_cmp_total}
use Rattle.std.proofs.lemmas.Cmp.{nat_cmp_total}
use Rattle.wh_rows.specs.Rekey.{are_keys}
use Rattle.wh_rows.specs.declared.key.LineKey.{LineKey}
use Rattle.wh_rows.specs.Facts.{fact_layout}
use Rattle.wh_rows.specs.Rows.{is_command, is_change, is_dimension, has_good_columns}
use Rattle.wh_rows.specs.Rows as row
use Rattle.wh_rows.specs.Tables.{Tables}
use Rattle.wh_model.specs.Defined.{meta_at, command_at, member_at, change_at, profile_at, calendar_at, fact_at, fact_in, void_at, AreOf}
use Rattle.wh_plan.specs.Laws.{CommandsMayBeWritten}
use Rattle.wh_plan.specs.Edits.{Edits, AreEdits, NeedsFact, rows_of_dimension, edited_line}
use Rattle.wh_model.specs.Sound.{IsGoodRecord, IsAccepted}
use Rattle.wh_sql.specs.Edits.{IsValid, Puts}
use Rattle.wh_plan.specs.Writable.{MayBeWritten, IsValidFactEdit}
use Rattle.wh_plan.specs.declared.edits.FactEdit.{FactEdit}
use Rattle.wh_plan.specs.declared.edits.FactEdit.TheVariants.{Row, Rekey}
use Rattle.wh_plan.proofs.Exact.{exact_all}
use Rattle.wh_plan.proofs.Plans.{plan_puts}
use Rattle.wh_model.proofs.CountedSales.{standing_counted}
use Rattle.wh_model.proofs.GrownCommands.{command_grows}
use Rattle.wh_model.proofs.GrownKeys.{at_last, all_at}
use Rattle.wh_model.proofs.GrownChanges.{new_row, changes_grow}
use Rattle.wh_model.proofs.GrownChanges as change
use Rattle.wh_model.proofs.SmallNumbers.{is_small, commands_few, described_few, members_few, sold_few}
use Rattle.wh_model.proofs.ValidTables.{made_of, dimension_valid, member_valid, change_made, profile_valid}
use Rattle.wh_model.proofs.ValidCalendar.{calendar_valid}
use Rattle.wh_model.proofs.ValidFacts.{fact_valid}
use Rattle.wh_model.proofs.ValidVoids.{void_valid}
use Rattle.wh_plan.proofs.SaleBatches.Selling.{sold_more}

take_all : {X : Type 0} (xs : List X) → take (length xs) xs ≡ xs
take_all [] = refl
take_all (x ∷ xs) = ap (λ ys. x ∷ ys) (take_all xs)

-- ---- meta

-- a text that is one of these names
one_name : (name known : List ℕ) (value : ℕ) (others : Option ℕ) → is_utf8 known ≡ true → ((n : ℕ) → others ≡ Some n → is_utf8 name ≡ true) → (n : ℕ) → cond (bytes_eq name known) (Some value) others ≡ Some n → is_utf8 name ≡ true
one_name name known value others text later n found =
    elim (bytes_eq name known) as (λ b. (bytes_eq name known ≡ b) → cond b (Some value) others ≡ Some n → is_utf8 name ≡ true) [
      | true ↦ λ same _. ap is_utf8 ((bytes_eq-Decides name known).0 same) ∙ text
      | false ↦ λ _ rest. later n rest
    ] refl found

name_valid : (format : Format) (limits : Limits) (name : List ℕ) (n : ℕ) → meta_value format limits name ≡ Some n → is_utf8 name ≡ true
unfolding is_utf8 chars encode
name_valid format limits name =
    one_name name (codes "changes_max") limits.changes _ refl
    (one_name name (codes "commands_max") limits.commands _ refl
    (one_name name (codes "facts_max") limits.facts _ refl
    (one_name name (codes "format") (format_number format) None refl (λ n none. absurd cc))))

meta_valid : (format : Format) (limits : Limits) (v : MetaRow) → meta_at format limits v.name ≡ Some v → is_utf8 v.name ≡ true
meta_valid format limits v is =
    let made = made_of (λ (n : ℕ). record { name = v.name; value = pos n }) (meta_value format limits v.name) v is in
    name_valid format limits v.name made.0 made.1

-- ---- the facts of a format

same_is : (a b : Format) → same_format a b ≡ true → a ≡ b
same_is One One h = refl
same_is One Two h = absurd cc
same_is Two One h = absurd cc
same_is Two Two h = refl

-- where the columns of a fact are good, so are its keys
good_keys : (f : Fact) → has_good_columns f ≡ true → are_keys f.keys ≡ true
good_keys f good =
    let cost = both_true _ (is_measure 999999999 f.cost) good in
    let amount = both_true _ (is_measure 999999999 f.amount) cost.0 in
    let quantity = both_true _ (is_measure 9999 f.quantity) amount.0 in
    let profile = both_true _ (is_number f.keys.profile) quantity.0 in
    let of_customer = both_true _ (is_number f.customer_durable) profile.0 in
    let of_product = both_true _ (is_number f.product_durable) of_customer.0 in
    let of_store = both_true _ (is_number f.store_durable) of_product.0 in
    let customer = both_true _ (is_number f.keys.customer_key) of_store.0 in
    let product = both_true _ (is_number f.keys.product_key) customer.0 in
    let store = both_true _ (is_number f.keys.store_key) product.0 in
    rw (store.1, product.1, customer.1, profile.1) refl

-- the keys of a fact that can be stored can be
are_keys_of : (format : Format) (f : Fact) → (fact_layout format).is_valid f ≡ true → are_keys f.keys ≡ true
are_keys_of One f valid = good_keys f (both_true (has_good_columns f) (f.discount == 0) valid).0
are_keys_of Two f valid = good_keys f (both_true (has_good_columns f) (is_discount f.discount) valid).0

valid_parts : (r : CommandRow) → is_number r.number ≡ true → is_key 40 r.id ≡ true → is_kind r.kind ≡ true → is_number r.records ≡ true → is_number r.placeholders ≡ true → is_command r ≡ true
valid_parts r number id kind records placeholders = rw (number, id, kind, records, placeholders) refl

module _ (limits : Limits) (commands : List Accepted) (c : Accepted) (t : Tables) (edits : Edits)
    (ok : IsAccepted limits (commands ++ c ∷ [])) (of : AreOf limits commands t) (are : AreEdits commands (commands ++ c ∷ []) edits) where
  abbrev after : List Accepted
  after = commands ++ c ∷ []

  -- ---- its records

  module _ (dim : Dim) (records : List DimensionRecord) (is : c.content ≡ Describes dim records) where
    in_batch : described dim after ≡ described dim commands ++ records
    in_batch = described-last dim commands c ∙ ap (λ rs. described dim commands ++ rs) (ap (described_by dim) is ∙ same_dimension dim records)

    good_records : AllByRecursion IsGoodRecord records
    good_records = (all_apart IsGoodRecord (described dim commands) records (subst (AllByRecursion IsGoodRecord) in_batch (ok.records dim))).1

    few_records : length records ≤ 1000000
    few_records =
        let all = described_few limits after ok dim in
        let both = ap length in_batch ∙ length-append (described dim commands) records in
        omega arith

  few_sales : (sales : List SaleRecord) → c.content ≡ Sells sales → length sales ≤ 1000000
  few_sales sales is =
      let all = sold_few limits after ok in
      let both = ap length (sold_more commands c sales is) ∙ length-append (sold commands) sales in
      omega arith

  few_voids : (lines : List VoidRecord) → c.content ≡ Withdraws lines → length lines ≤ 1000000
  few_voids lines is =
      let all = sold_few limits after ok in
      let counted = standing_counted limits after ok in
      let both = ap (λ (vs : List VoidRecord). length vs) (withdrawn-last commands c ∙ ap (λ content. withdrawn commands ++ withdrawn_by content) is) ∙ length-append (withdrawn commands) lines in
      omega arith

  -- ---- the command

  few_by : (content : Content) → c.content ≡ content → records_by content ≤ 1000000
  few_by (Governs policy) is = omega arith
  few_by (Describes dim records) is = few_records dim records is
  few_by (Sells sales) is = few_sales sales is
  few_by Upgrades is = omega arith
  few_by (Withdraws lines) is = few_voids lines is

  few_placeholders : (content : Content) → placeholders_by after (length after) content ≤ 9999999
  few_placeholders (Governs policy) = omega arith
  few_placeholders (Describes dim records) = omega arith
  few_placeholders Upgrades = omega arith
  few_placeholders (Withdraws lines) = omega arith
  few_placeholders (Sells sales) =
      let whole : members_after (take (length after) after) ≡ members_after after = ap members_after (take_all after) in
      let products = members_few limits after ok Product in
      let stores = members_few limits after ok Store in
      let customers = members_few limits after ok Customer in
      omega arith

  made_command : CommandRow
  made_command = record { number = length after; id = c.id; kind = c.kind; bytes = c.bytes; records = records_by c.content; placeholders = placeholders_by after (length after) c.content }

  own_command : command_at after (length after) ≡ Some made_command
  unfolding made_command
  own_command =
      ap (λ o. option_map (λ (r : history.CommandRow). record { number = length after; id = r.id; kind = r.kind; bytes = r.bytes; records = r.records; placeholders = r.placeholders })
      (option_map (λ (d : Accepted). record { id = d.id; kind = d.kind; bytes = d.bytes; records = records_by d.content; placeholders = placeholders_by after (length after) d.content }) o)) (at_last commands c)

  valid_command : is_command made_command ≡ true
  unfolding made_command
  valid_command =
      let most = commands_few limits after ok in
      let few = few_by c.content refl in
      let new = few_placeholders c.content in
      let number = is_small (length after) (omega arith) in
      let id : is_key 40 c.id ≡ true = all_at (λ (d : Accepted). is_key 40 d.id ≡ true) (length after) after c ok.ids (at_last commands c) in
      let kind : is_kind c.kind ≡ true = all_at (λ (d : Accepted). is_kind d.kind ≡ true) (length after) after c ok.kinds (at_last commands c) in
      let own = is_small (records_by c.content) (omega arith) in
      let placeholders = is_small (placeholders_by after (length after) c.content) (omega arith) in
      valid_parts made_command number id kind own placeholders

  -- a row of command that is put is the command's own
  valid_put : (row : CommandRow) → (command_at commands row.number ≡ Some row → ⊥) → command_at after row.number ≡ Some row → is_command row ≡ true
  valid_put row new is = elim (command_grows commands c row.number) [
    | inl kept ↦ absurd (new (sym kept.same ∙ is))
    | inr added ↦
        let above = added.above in
        let within = added.within in
        let number : row.number ≡ length after = let longer : length after ≡ suc (length commands) = length-append commands (c ∷ []) ∙ omega arith in added.is ∙ omega arith in
        subst (λ (w : CommandRow). is_command w ≡ true) (some_is made_command row (sym own_command ∙ ap (command_at after) (sym number) ∙ is)) valid_command
  ]

  -- ---- the changes

  no_change : (n : ℕ) (v : ChangeRow) → change_row_in after n c.content ≡ None → change_at after (change.key_of commands c n) ≡ Some v → is_change v ≡ true
  no_change n v none here =
      let no_row : change_row after (length after) n ≡ None = ap (option_and_then (λ (d : Accepted). change_row_in after n d.content)) (at_last commands c) ∙ none in
      let made = made_of (λ (w : history.ChangeRow). record { command = length after; place = n; dim = w.dim; durable = w.durable; day = w.day; anchor = w.anchor; values = w.texts }) (change_row after (length after) n) v here in
      let there : None ≡ Some made.0 = sym no_row ∙ made.1 in
      absurd cc

  valid_change : (content : Content) → c.content ≡ content → (n : ℕ) (v : ChangeRow) → change_at after (change.key_of commands c n) ≡ Some v → is_change v ≡ true
  valid_change (Governs policy) is n v here = no_change n v (ap (change_row_in after n) is) here
  valid_change (Describes dim records) is n v here =
      let made = made_of (λ (w : history.ChangeRow). record { command = length after; place = n; dim = w.dim; durable = w.durable; day = w.day; anchor = w.anchor; values = w.texts }) (change_row after (length after) n) v here in
      ap is_change made.2 ∙ change_made limits after ok dim records (good_records dim records is) (few_records dim records is) (length after) n made.0 (omega arith) (sym (new_row commands c dim records is n) ∙ made.1)
  valid_change (Sells sales) is n v here = no_change n v (ap (change_row_in after n) is) here
  valid_change Upgrades is n v here = no_change n v (ap (change_row_in after n) is) here
  valid_change (Withdraws lines) is n v here = no_change n v (ap (change_row_in after n) is) here

  valid_change_put : (v : ChangeRow) → (change_at commands (row.change.key v) ≡ Some v → ⊥) → change_at after (row.change.key v) ≡ Some v → is_change v ≡ true
  valid_change_put v new is = elim (changes_grow commands c c.content refl (row.change.key v)) [
    | inl kept ↦ absurd (new (sym kept.same ∙ is))
    | inr added ↦ valid_change c.content refl added.number v (ap (change_at after) (sym added.is) ∙ is)
  ]

  -- ---- the facts

  valid_fact_edit : (format : Format) (e : FactEdit) → NeedsFact (edited_line e) (fact_in format commands (edited_line e)) (fact_in format after (edited_line e)) (Some e) → IsValidFactEdit format e
  valid_fact_edit format e needs = by_rows e (fact_in format commands (edited_line e)) (fact_in format after (edited_line e)) refl needs
    where
      valid : (line : LineKey) (new : Fact) → fact_in format after line ≡ Some new → (fact_layout format).is_valid new ≡ true
      valid line new is =
          elim (same_format format (format_of after)) as (λ b. (same_format format (format_of after) ≡ b) → cond b (fact_at after line) None ≡ Some new → (fact_layout format).is_valid new ≡ true) [
            | true ↦ λ same there. subst (λ (f : Format). (fact_layout f).is_valid new ≡ true) (sym (same_is format (format_of after) same)) (fact_valid limits after ok line new there)
            | false ↦ λ _ none. absurd cc
          ] refl is

      keys : (line : LineKey) (new : Fact) → fact_in format after line ≡ Some new → are_keys new.keys ≡ true
      keys line new is = are_keys_of format new (valid line new is)

      by_rows : (e : FactEdit) (old new : Option Fact) → fact_in format after (edited_line e) ≡ new → NeedsFact (edited_line e) old new (Some e) → IsValidFactEdit format e
      by_rows (Row (Put f)) None None at is = absurd cc
      by_rows (Row (Put f)) (Some old) None at is = absurd cc
      by_rows (Row (Put f)) None (Some new) at is = let same : new ≡ f = cc in subst (λ g. (fact_layout format).is_valid g ≡ true) same (valid (row.fact.key f) new at)
      by_rows (Row (Put f)) (Some old) (Some new) at is = elim is [
        | inl kept ↦ let none = kept.1 in absurd cc
        | inr other ↦ elim other [
          | inl moved ↦ let rekeyed = moved.2 in absurd cc
          | inr put ↦ let here = put.1 in let same : new ≡ f = cc in subst (λ g. (fact_layout format).is_valid g ≡ true) same (valid (row.fact.key f) new at)
        ]
      ]
      by_rows (Row (Remove line)) old new at is = tt
      by_rows (Rekey line given) None None at is = absurd cc
      by_rows (Rekey line given) (Some old) None at is = absurd cc
      by_rows (Rekey line given) None (Some new) at is = absurd cc
      by_rows (Rekey line given) (Some old) (Some new) at is = elim is [
        | inl kept ↦ let none = kept.1 in absurd cc
        | inr other ↦ elim other [
          | inl moved ↦ let rekeyed = moved.2 in let same : new.keys ≡ given = cc in subst (λ ks. are_keys ks ≡ true) same (keys line new at)
          | inr put ↦ let here = put.1 in absurd cc
        ]
      ]

  -- ---- the tables

  valid_rows : (other : Dim) → AllByRecursion (Puts (λ (r : DimRow). is_dimension other r ≡ true)) (rows_of_dimension other edits)
  valid_rows other = plan_puts row.product nat_cmp_total (λ (r : DimRow). is_dimension other r ≡ true) (dimension_row commands other) (dimension_row after other) (rows_of_dimension other edits) (are.rows other) (λ r _ is. dimension_valid limits after ok other r.surrogate r is)

  pub may_be_written : MayBeWritten edits
  may_be_written = record {
    commands = record {
      meta = plan_puts row.meta nat_list_cmp_total (IsValid row.meta) (meta_at (format_of commands) limits) (meta_at (format_of after) limits) edits.meta (are.meta limits) (λ r _ is. meta_valid (format_of after) limits r is);
      commands = plan_puts row.command nat_cmp_total (IsValid row.command) (command_at commands) (command_at after) edits.commands are.commands valid_put;
      members = plan_puts row.member member_cmp_total (IsValid row.member) (member_at commands) (member_at after) edits.members are.members (λ r _ is. member_valid limits after ok (row.member.key r) r is);
      changes = plan_puts row.change change_cmp_total (IsValid row.change) (change_at commands) (change_at after) edits.changes are.changes valid_change_put;
    };
    dimensions = record { products = valid_rows Product; stores = valid_rows Store; customers = valid_rows Customer };
    facts = record {
      profiles = plan_puts row.profile nat_cmp_total (IsValid row.profile) (profile_at commands) (profile_at after) edits.profiles are.profiles (λ r _ is. profile_valid limits after ok r.number r is);
      calendar = plan_puts row.calendar nat_cmp_total (IsValid row.calendar) (calendar_at commands) (calendar_at after) edits.calendar are.calendar (λ r _ is. calendar_valid limits after ok r.date_key r is);
      facts = exact_all row.fact.order line_cmp_total edited_line NeedsFact (IsValidFactEdit One) (fact_in One commands) (fact_in One after) edits.facts are.facts (valid_fact_edit One);
      facts2 = exact_all row.fact.order line_cmp_total edited_line NeedsFact (IsValidFactEdit Two) (fact_in Two commands) (fact_in Two after) edits.facts2 are.facts2 (valid_fact_edit Two);
      voids = plan_puts row.void line_cmp_total (IsValid row.void) (void_at commands) (void_at after) edits.voids are.voids (λ v _ is. void_valid limits after ok (row.void.key v) v is);
    };
  }

pub a_command_may_be_written : CommandsMayBeWritten
a_command_may_be_written limits commands c t edits ok of are = may_be_written limits commands c t edits ok of are
