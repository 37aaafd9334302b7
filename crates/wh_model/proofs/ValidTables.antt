-- The rows that accepted commands define are valid.
use Rattle.std.proofs.Common.{◌≡◌, ℕ, zero, suc, ◌≤◌, ◌==◌, true, false, cond, List, [], ◌∷◌, length, map, Option, Some, None, refl, sym, ap, subst, ◌∙◌, arith}
use Rattle.std.specs.Prelude.{option_map, option_to_list, flat_map, find, bytes_eq}
use Rattle.std.specs.Option.{option_and_then}
use Rattle.std.specs.List.{AllByRecursion}
use Rattle.wh_day.specs.Value.{no_card_text, unknown_text}
use Rattle.wh_policy.specs.Types.{rule, is_profile}
use Rattle.wh_policy.specs.declared.attribute.Dim.{Dim}
use Rattle.wh_policy.specs.declared.attribute.Dim.TheVariants.{Product, Store, Customer}
use Rattle.wh_policy.specs.declared.attribute.AttributeType.{AttributeType}
use Rattle.wh_policy.specs.declared.type_rule.MainColumn.{MainColumn}
use Rattle.wh_policy.specs.declared.type_rule.MainColumn.TheVariants as main
use Rattle.wh_policy.specs.declared.type_rule.SecondColumn.{SecondColumn}
use Rattle.wh_policy.specs.declared.type_rule.SecondColumn.TheVariants as second
use Rattle.wh_policy.specs.declared.record.DimensionRecord.{DimensionRecord}
use Rattle.wh_policy.specs.declared.record.SaleRecord.{SaleRecord}
use Rattle.wh_history.specs.Keys.{at_place, place}
use Rattle.wh_history.specs.Slots.{slot, picked, picks, six, are_same}
use Rattle.wh_history.specs.Accepted.{Accepted, Anchor, same_anchor, opening_of, day_of, anchors_of_record, anchors_of_sale, member_of_sale, anchors_by, described_by, sold_by, described, sold, mentions, anchors, members, types_in, durable_key, surrogate_key, member_of, profiles_of}
use Rattle.wh_history.specs.Tables.{Limits, numbered_row, dimension_row, member_rows, no_card_row, no_card_in_main, no_card_main, no_card_in_second, no_card_second, change_row_of, change_row_in}
use Rattle.wh_history.specs.Tables as history
use Rattle.wh_history.specs.declared.rows.DimRow.{DimRow}
use Rattle.wh_history.proofs.Basics.{some_is}
use Rattle.wh_history.proofs.Joins.{all_append}
use Rattle.wh_history.proofs.Members.{place_within}
use Rattle.wh_history.proofs.Owners.{all_distinct}
use Rattle.wh_history.proofs.Lists.{all_apart}
use Rattle.wh_rows.specs.declared.rows.MemberRow.{MemberRow}
use Rattle.wh_rows.specs.declared.rows.ProfileRow.{ProfileRow}
use Rattle.wh_rows.specs.declared.key.MemberKey.{MemberKey}
use Rattle.wh_rows.specs.Types.{is_number, is_key, are_slots}
use Rattle.wh_rows.specs.Rows.{is_command, is_member, is_change, is_natural, is_dimension}
use Rattle.wh_rows.specs.Rows as row
use Rattle.wh_model.specs.Defined.{member_at, profile_at}
use Rattle.wh_model.specs.Sound.{IsGoodRecord, IsGoodSale, IsAccepted}
use Rattle.wh_model.proofs.GrownKeys.{all_at}
use Rattle.wh_model.proofs.SmallNumbers.{is_small, at_within, commands_few, anchors_few, members_few, profiles_few}
use Rattle.wh_model.proofs.ValidSlots.{IsSlot, no_text, unknown_slot, no_card_slot, slot_in, columns_slots, columns_length, six_slots, six_columns, all_mapped}
use Rattle.wh_model.proofs.ValidRows.{IsGoodMember, slots_of_values, good_changes, shown_small, valid_row, valid_found, first_is_day, last_is_day}

-- what is made of what is there
pub made_of : {X Y : Type 0} (f : X → Y) (o : Option X) (y : Y) → option_map f o ≡ Some y → (x : X) × (o ≡ Some x) × (y ≡ f x)
made_of f None y is = absurd (cc)
made_of f (Some x) y is = (x, refl, sym (some_is (f x) y is))

pub then_of : {X Y : Type 0} (f : X → Option Y) (o : Option X) (y : Y) → option_and_then f o ≡ Some y → (x : X) × (o ≡ Some x) × (f x ≡ Some y)
then_of f None y is = absurd (cc)
then_of f (Some x) y is = (x, refl, is)

-- ---- each anchor is that of a well formed key

abbrev IsNamed : Anchor → Type 0
IsNamed a = is_key 32 a.natural ≡ true

named_records : (rs : List DimensionRecord) → AllByRecursion IsGoodRecord rs → AllByRecursion IsNamed (flat_map anchors_of_record rs)
named_records [] all = tt
named_records (r ∷ rs) all = (all.0.natural, (all.0.natural, named_records rs all.1))

named_option : (o : Option (List ℕ)) → ((natural : List ℕ) → o ≡ Some natural → is_key 32 natural ≡ true) → AllByRecursion IsNamed (map opening_of (option_to_list o))
named_option None each = tt
named_option (Some natural) each = (each natural refl, tt)

named_sales : (dim : Dim) (sales : List SaleRecord) → AllByRecursion IsGoodSale sales → AllByRecursion IsNamed (flat_map (anchors_of_sale dim) sales)
named_sales dim [] all = tt
named_sales dim (s ∷ sales) all = all_append IsNamed (anchors_of_sale dim s) (flat_map (anchors_of_sale dim) sales) (named_option (member_of_sale dim s) (all.0.members dim)) (named_sales dim sales all.1)

named_mentions : (dim : Dim) (commands : List Accepted) → AllByRecursion IsGoodRecord (described dim commands) → AllByRecursion IsGoodSale (sold commands) → AllByRecursion IsNamed (mentions dim commands)
named_mentions dim [] good gone = tt
named_mentions dim (c ∷ commands) good gone =
    let records = all_apart IsGoodRecord (described_by dim c.content) (described dim commands) good in
    let sales = all_apart IsGoodSale (sold_by c.content) (sold commands) gone in
    all_append IsNamed (anchors_by dim c.content) (mentions dim commands)
    (all_append IsNamed (flat_map anchors_of_record (described_by dim c.content)) (flat_map (anchors_of_sale dim) (sold_by c.content)) (named_records (described_by dim c.content) records.0) (named_sales dim (sold_by c.content) sales.0))
    (named_mentions dim commands records.1 sales.1)

-- ---- the row of sales without a card, and the profiles

no_in_main : (column : MainColumn) → IsSlot (no_card_in_main column)
no_in_main main.Original = no_card_slot
no_in_main main.FirstDay = no_card_slot
no_in_main main.Latest = no_card_slot
no_in_main main.Nothing = no_text

no_main : (place : ℕ) (kind : AttributeType) → IsSlot (no_card_main place kind)
no_main place kind = no_in_main (rule kind).main

no_in_second : (column : SecondColumn) → IsSlot (no_card_in_second column)
no_in_second second.Nothing = no_text
no_in_second second.Prior = no_card_slot
no_in_second second.Latest = no_card_slot

no_second : (place : ℕ) (kind : AttributeType) → IsSlot (no_card_second place kind)
no_second place kind = no_in_second (rule kind).second

no_card_natural : is_natural Customer 0 no_card_text ≡ true
unfolding no_card_text
no_card_natural = refl

no_card_valid : (kinds : List AttributeType) → length kinds ≤ 6 → is_dimension Customer (no_card_row kinds) ≡ true
no_card_valid kinds few =
    valid_row Customer (no_card_row kinds) (is_small 0 (omega arith)) (is_small 0 (omega arith)) no_card_natural first_is_day last_is_day (six_columns no_card_main kinds few no_main) (six_columns no_card_second kinds few no_second) (is_small 0 (omega arith))

told_slot : (text : List ℕ) → IsSlot text → (place : ℕ) (kind : AttributeType) → IsSlot (cond (is_profile kind) text [])
told_slot text is place kind = elim (is_profile kind) as (λ b. IsSlot (cond b text [])) [ true ↦ is | false ↦ no_text ]

-- a combination that six columns can hold
record IsGoodCombination (texts : List (List ℕ)) : Type 0 where
  pub few : length texts ≤ 6
  pub slots : AllByRecursion IsSlot texts

picked_slot : (values : List (List ℕ)) → AllByRecursion IsSlot values → (place : ℕ) (kind : AttributeType) → IsSlot (picked is_profile values place kind)
picked_slot values all place kind = elim (is_profile kind) as (λ b. IsSlot (cond b (slot values place) [])) [ true ↦ slot_in values place all | false ↦ no_text ]

good_picks : (kinds : List AttributeType) → length kinds ≤ 6 → (r : DimensionRecord) → IsGoodRecord r → IsGoodCombination (picks is_profile kinds r.values)
good_picks kinds few r good = record {
  few = let same = columns_length (picked is_profile r.values) 0 kinds in omega arith;
  slots = columns_slots (picked is_profile r.values) (picked_slot r.values (slots_of_values r.values good.values)) 0 kinds;
}

module _ (limits : Limits) (commands : List Accepted) (ok : IsAccepted limits commands) where
  named_anchor : (dim : Dim) (key : ℕ) (a : Anchor) → at_place key (anchors dim commands) ≡ Some a → is_key 32 a.natural ≡ true
  named_anchor dim key a is =
      all_at IsNamed key (anchors dim commands) a (all_distinct IsNamed same_anchor (mentions dim commands) (named_mentions dim commands (ok.records dim) ok.sales)) is

  named_member : (dim : Dim) (durable : ℕ) (natural : List ℕ) → at_place durable (members dim commands) ≡ Some natural → is_key 32 natural ≡ true
  named_member dim durable natural is =
      let P = λ (text : List ℕ). is_key 32 text ≡ true in
      let names = map (λ (a : Anchor). a.natural) (mentions dim commands) in
      let all : AllByRecursion P names = all_mapped IsNamed P (λ (a : Anchor). a.natural) (λ a named. named) (mentions dim commands) (named_mentions dim commands (ok.records dim) ok.sales) in
      all_at P durable (members dim commands) natural (all_distinct P bytes_eq names all) is

  -- numbers of anchors and members
  pub anchor_number : (dim : Dim) (key : ℕ) → key ≤ length (anchors dim commands) → is_number key ≡ true
  anchor_number dim key within = let few = anchors_few limits commands ok dim in is_small key (omega arith)

  member_number : (dim : Dim) (key : ℕ) → key ≤ length (members dim commands) → is_number key ≡ true
  member_number dim key within = let few = members_few limits commands ok dim in is_small key (omega arith)

  surrogate_number : (dim : Dim) (a : Anchor) → is_number (surrogate_key dim commands a) ≡ true
  surrogate_number dim a = anchor_number dim (surrogate_key dim commands a) (place_within same_anchor a (anchors dim commands))

  pub durable_number : (dim : Dim) (natural : List ℕ) → is_number (durable_key dim commands natural) ≡ true
  durable_number dim natural = member_number dim (durable_key dim commands natural) (place_within bytes_eq natural (members dim commands))

  -- ---- product, store and customer

  good_member : (dim : Dim) (natural : List ℕ) → is_key 32 natural ≡ true → IsGoodMember dim (types_in dim commands) (profiles_of commands) (member_of dim commands natural)
  good_member dim natural named = record {
    few = ok.six dim;
    changes = good_changes dim commands (ok.records dim) natural;
    durable = durable_number dim natural;
    natural = named;
    shown =
        let shown = shown_small (types_in dim commands) (profiles_of commands) (member_of dim commands natural) in
        let few = profiles_few limits commands ok in
        is_small _ (omega arith);
  }

  numbered_valid : (dim : Dim) (key : ℕ) (r : DimRow) → numbered_row commands dim key ≡ Some r → is_dimension dim r ≡ true
  numbered_valid dim key r is =
      let there = then_of (λ (a : Anchor). find (λ (q : DimRow). q.surrogate == key) (member_rows commands dim a.natural)) (at_place key (anchors dim commands)) r is in
      let a : Anchor = there.0 in
      let small = anchor_number dim key (at_within key (anchors dim commands) a there.1) in
      valid_found dim (types_in dim commands) (profiles_of commands) (member_of dim commands a.natural) (good_member dim a.natural (named_anchor dim key a there.1)) key r small there.2

  pub dimension_valid : (dim : Dim) (key : ℕ) (r : DimRow) → dimension_row commands dim key ≡ Some r → is_dimension dim r ≡ true
  dimension_valid Product key r is = numbered_valid Product key r is
  dimension_valid Store key r is = numbered_valid Store key r is
  dimension_valid Customer zero r is = subst (λ (q : DimRow). is_dimension Customer q ≡ true) (some_is _ r is) (no_card_valid (types_in Customer commands) (ok.six Customer))
  dimension_valid Customer (suc n) r is = numbered_valid Customer (suc n) r is

  -- ---- member

  pub member_valid : (key : MemberKey) (v : MemberRow) → member_at commands key ≡ Some v → is_member v ≡ true
  member_valid key v is =
      let outer = made_of (λ (m : history.MemberRow). record { dim = key.dim; durable = key.durable; natural = m.natural; opening = m.opening }) (history.member_row commands key.dim key.durable) v is in
      let inner = made_of (λ (natural : List ℕ). record { natural = natural; opening = surrogate_key key.dim commands (opening_of natural) }) (at_place key.durable (members key.dim commands)) outer.0 outer.1 in
      let m : history.MemberRow = outer.0 in
      let natural : List ℕ = inner.0 in
      let durable = member_number key.dim key.durable (at_within key.durable (members key.dim commands) natural inner.1) in
      let name : is_key 32 m.natural ≡ true = ap (λ (q : history.MemberRow). is_key 32 q.natural) inner.2 ∙ named_member key.dim key.durable natural inner.1 in
      let opening : is_number m.opening ≡ true = ap (λ (q : history.MemberRow). is_number q.opening) inner.2 ∙ surrogate_number key.dim (opening_of natural) in
      ap is_member outer.2 ∙ rw (durable, name, opening) refl

  -- ---- change

  pub change_made : (dim : Dim) (rs : List DimensionRecord) → AllByRecursion IsGoodRecord rs → length rs ≤ 1000000 → (command n : ℕ) (w : history.ChangeRow) → command ≤ length commands → option_map (change_row_of commands dim) (at_place n rs) ≡ Some w
      → is_change (record { command = command; place = n; dim = w.dim; durable = w.durable; day = w.day; anchor = w.anchor; values = w.texts }) ≡ true
  change_made dim rs good few command n w within is =
      let made = made_of (change_row_of commands dim) (at_place n rs) w is in
      let r : DimensionRecord = made.0 in
      let record_good = all_at IsGoodRecord n rs r good made.1 in
      let most = commands_few limits commands ok in
      let at = at_within n rs r made.1 in
      let own = is_small command (omega arith) in
      let number = is_small n (omega arith) in
      let durable = durable_number dim r.natural in
      let day = record_good.day in
      let anchor = surrogate_number dim (day_of r.natural r.day) in
      let slots = six_slots r.values record_good.few (slots_of_values r.values record_good.values) in
      ap (λ (q : history.ChangeRow). is_change (record { command = command; place = n; dim = q.dim; durable = q.durable; day = q.day; anchor = q.anchor; values = q.texts })) made.2
      ∙ rw (own, number, durable, day, anchor, slots) refl

  -- ---- profile

  good_combinations : AllByRecursion IsGoodCombination (profiles_of commands)
  good_combinations =
      let kinds = types_in Customer commands in
      let pick = λ (r : DimensionRecord). picks is_profile kinds r.values in
      all_distinct IsGoodCombination are_same (map pick (described Customer commands))
      (all_mapped IsGoodRecord IsGoodCombination pick (good_picks kinds (ok.six Customer)) (described Customer commands) (ok.records Customer))

  profile_slots : (n : ℕ) (texts : List (List ℕ)) → history.profile_row commands n ≡ Some texts → (n ≤ suc (length (profiles_of commands))) × (are_slots texts ≡ true)
  profile_slots zero texts is = (
    omega arith,
    subst (λ (q : List (List ℕ)). are_slots q ≡ true) (some_is _ texts is) (six_columns (λ _ kind. cond (is_profile kind) no_card_text []) (types_in Customer commands) (ok.six Customer) (told_slot no_card_text no_card_slot)),
  )
  profile_slots (suc zero) texts is = (
    omega arith,
    subst (λ (q : List (List ℕ)). are_slots q ≡ true) (some_is _ texts is) (six_columns (λ _ kind. cond (is_profile kind) unknown_text []) (types_in Customer commands) (ok.six Customer) (told_slot unknown_text unknown_slot)),
  )
  profile_slots (suc (suc n)) texts is =
      let made = made_of six (at_place (suc n) (profiles_of commands)) texts is in
      let good = all_at IsGoodCombination (suc n) (profiles_of commands) made.0 good_combinations made.1 in
      let within = at_within (suc n) (profiles_of commands) made.0 made.1 in
      (omega arith, ap are_slots made.2 ∙ six_slots made.0 good.few good.slots)

  pub profile_valid : (n : ℕ) (v : ProfileRow) → profile_at commands n ≡ Some v → row.is_profile v ≡ true
  profile_valid n v is =
      let made = made_of (λ (values : List (List ℕ)). record { number = n; values = values }) (history.profile_row commands n) v is in
      let shown = profile_slots n made.0 made.1 in
      let few = profiles_few limits commands ok in
      let small = is_small n (omega (arith, shown.0)) in
      let slots = shown.1 in
      ap row.is_profile made.2 ∙ rw (small, slots) refl
