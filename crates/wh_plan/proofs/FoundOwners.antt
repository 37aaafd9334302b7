-- Each key of a dimension's table is of one member.
use Rattle.std.proofs.Common.{◌≡◌, ℕ, zero, suc, ◌<◌, ◌==◌, Bool, true, false, ◌||◌, ◌&&◌, List, [], ◌∷◌, ◌++◌, map, Option, Some, None, Result, IfOk, refl, sym, ◌∙◌, ap, arith}
use Rattle.std.specs.Prelude.{bytes_eq, flat_map, option_to_list}
use Rattle.std.specs.Option.{option_and_then}
use Rattle.std.specs.List.{list_any}
use Rattle.std.proofs.lemmas.Bool.{eqb-true, eq-eqb, ne_eqb}
use Rattle.std.proofs.lemmas.Result.{IfOk-weaker}
use Rattle.std.proofs.lemmas.List.Folds.{list_any-append}
use Rattle.std.proofs.lemmas.Slice.Eq.{bytes_eq-Decides}
use Rattle.wh_day.specs.Day.{first_day}
use Rattle.wh_policy.specs.declared.attribute.Dim.{Dim}
use Rattle.wh_policy.specs.declared.attribute.Dim.TheVariants.{Product, Store, Customer}
use Rattle.wh_policy.specs.declared.record.DimensionRecord.{DimensionRecord}
use Rattle.wh_policy.specs.declared.record.SaleRecord.{SaleRecord}
use Rattle.wh_history.specs.Keys.{at_place, place}
use Rattle.wh_history.specs.Dated.{dated}
use Rattle.wh_history.specs.Rows.{starts, start_key}
use Rattle.wh_history.specs.Profiles.{profile_now}
use Rattle.wh_history.specs.Plan.{row_of}
use Rattle.wh_history.specs.Laws.{RecordsHaveDays, IsMember}
use Rattle.wh_history.specs.Accepted.{Accepted, Content, Anchor, same_anchor, opening_of, described, described_by, sold_by, anchors_of_record, anchors_of_sale, anchors_by, member_of_sale, mentions, anchors, members, durable_key, surrogate_key, changes_of, member_of, types_in, profiles_of}
use Rattle.wh_history.specs.Tables.{member_rows, numbered_row, dimension_row}
use Rattle.wh_history.specs.declared.rows.DimRow.{DimRow}
use Rattle.wh_history.proofs.Basics.{find_passes, or_true}
use Rattle.wh_history.proofs.Spans.{InOrder-dated}
use Rattle.wh_history.proofs.Places.{at_place-place, anchors_decide, one_place}
use Rattle.wh_history.proofs.Joins.{found_span, key_of_start, start_anchor}
use Rattle.wh_history.proofs.Effective.{days_in}
use Rattle.wh_history.proofs.Members.{row_of_member_now}
use Rattle.wh_history.proofs.Once.{among_distinct}
use Rattle.wh_history.proofs.Lasts.{not_among}
use Rattle.wh_history.proofs.Owners.{owners_given}
use Rattle.wh_plan.specs.Reading.{rows_with}
use Rattle.wh_plan.proofs.FoundRows.{owned, row_with}
use Rattle.wh_model.proofs.GrownKeys.{all_at}

-- ---- a member that is mentioned is mentioned by its opening

module _ (natural : List ℕ) where
  abbrev named : List Anchor → Bool
  named as' = list_any (λ a. bytes_eq a.natural natural) as'

  abbrev opened : List Anchor → Bool
  opened as' = list_any (λ a. same_anchor a (opening_of natural)) as'

  opened_append : (xs ys : List Anchor) → (named xs ≡ true → opened xs ≡ true) → (named ys ≡ true → opened ys ≡ true) → named (xs ++ ys) ≡ true → opened (xs ++ ys) ≡ true
  opened_append xs ys first second h =
      list_any-append (λ a. same_anchor a (opening_of natural)) xs ys
      ∙ elim (named xs) as (λ b. named xs ≡ b → (b || named ys) ≡ true → (opened xs || opened ys) ≡ true) [
        | true ↦ λ e _. rw (first e) refl
        | false ↦ λ _ later. rw (second later) (or_true (opened xs))
      ] refl (sym (list_any-append (λ a. bytes_eq a.natural natural) xs ys) ∙ h)

  opened_record : (r : DimensionRecord) → named (anchors_of_record r) ≡ true → opened (anchors_of_record r) ≡ true
  opened_record r h = elim (bytes_eq r.natural natural) as (λ b. (b || (b || false)) ≡ true → ((b && true) || ((b && false) || false)) ≡ true) [ true ↦ λ _. refl | false ↦ λ none. none ] h

  opened_records : (rs : List DimensionRecord) → named (flat_map anchors_of_record rs) ≡ true → opened (flat_map anchors_of_record rs) ≡ true
  opened_records [] h = h
  opened_records (r ∷ rs) h = opened_append (anchors_of_record r) (flat_map anchors_of_record rs) (opened_record r) (opened_records rs) h

  opened_one : (o : Option (List ℕ)) → named (map opening_of (option_to_list o)) ≡ true → opened (map opening_of (option_to_list o)) ≡ true
  opened_one None h = h
  opened_one (Some n) h = elim (bytes_eq n natural) as (λ b. (b || false) ≡ true → ((b && true) || false) ≡ true) [ true ↦ λ _. refl | false ↦ λ none. none ] h

  opened_sales : (dim : Dim) (sales : List SaleRecord) → named (flat_map (anchors_of_sale dim) sales) ≡ true → opened (flat_map (anchors_of_sale dim) sales) ≡ true
  opened_sales dim [] h = h
  opened_sales dim (s ∷ sales) h = opened_append (anchors_of_sale dim s) (flat_map (anchors_of_sale dim) sales) (opened_one (member_of_sale dim s)) (opened_sales dim sales) h

  opened_by : (dim : Dim) (content : Content) → named (anchors_by dim content) ≡ true → opened (anchors_by dim content) ≡ true
  opened_by dim content h = opened_append (flat_map anchors_of_record (described_by dim content)) (flat_map (anchors_of_sale dim) (sold_by content)) (opened_records (described_by dim content)) (opened_sales dim (sold_by content)) h

  opened_in : (dim : Dim) (commands : List Accepted) → named (mentions dim commands) ≡ true → opened (mentions dim commands) ≡ true
  opened_in dim [] h = h
  opened_in dim (c ∷ cs) h = opened_append (anchors_by dim c.content) (mentions dim cs) (opened_by dim c.content) (opened_in dim cs) h

any_named : (natural : List ℕ) (as' : List Anchor) → list_any (λ n. bytes_eq n natural) (map (λ (a : Anchor). a.natural) as') ≡ named natural as'
any_named natural [] = refl
any_named natural (a ∷ as') = ap (λ b. bytes_eq a.natural natural || b) (any_named natural as')

-- whether commands mention a member
pub is_mentioned : (dim : Dim) (commands : List Accepted) (natural : List ℕ) → list_any (λ n. bytes_eq n natural) (members dim commands) ≡ list_any (λ a. bytes_eq a.natural natural) (mentions dim commands)
is_mentioned dim commands natural = among_distinct bytes_eq bytes_eq-Decides natural (map (λ (a : Anchor). a.natural) (mentions dim commands)) ∙ any_named natural (mentions dim commands)

among_placed : (natural : List ℕ) (ms : List (List ℕ)) → 0 < place bytes_eq natural ms → list_any (λ n. bytes_eq n natural) ms ≡ true
among_placed natural ms given =
    elim (list_any (λ n. bytes_eq n natural) ms) as (λ b. list_any (λ n. bytes_eq n natural) ms ≡ b → b ≡ true) [
      | true ↦ λ _. refl
      | false ↦ λ e. let none : place bytes_eq natural ms ≡ 0 = not_among bytes_eq bytes_eq-Decides natural ms e in absurd (omega arith)
    ] refl

-- a member that has a durable key is mentioned
pub mentioned_is : (dim : Dim) (commands : List Accepted) (natural : List ℕ) → 0 < durable_key dim commands natural → IsMember dim commands natural
mentioned_is dim commands natural given = opened_in natural dim commands (sym (is_mentioned dim commands natural) ∙ among_placed natural (members dim commands) given)

-- ---- a row's member

-- the member's number on each of its rows
pub row_durable : (dim : Dim) (commands : List Accepted) (natural : List ℕ) (key : ℕ) (r : DimRow) → row_of key (member_rows commands dim natural) ≡ Some r → r.durable ≡ durable_key dim commands natural
row_durable dim commands natural key r found =
    let span = found_span dim commands natural (types_in dim commands) (profile_now (types_in dim commands) (profiles_of commands) (member_of dim commands natural)) (λ (r : DimRow). r.surrogate == key) r first_day (starts (types_in dim commands) (dated (changes_of dim commands natural))) found in
    ap (λ (q : DimRow). q.durable) span.2

-- a row of a mentioned member has the number of one of its anchors
row_owner : (dim : Dim) (commands : List Accepted) (natural : List ℕ) (key : ℕ) (r : DimRow) → RecordsHaveDays commands → IsMember dim commands natural → row_of key (member_rows commands dim natural) ≡ Some r → (a : Anchor) × (at_place key (anchors dim commands) ≡ Some a) × (a.natural ≡ natural)
row_owner dim commands natural key r ends member found =
    let span = found_span dim commands natural (types_in dim commands) (profile_now (types_in dim commands) (profiles_of commands) (member_of dim commands natural)) (λ (r : DimRow). r.surrogate == key) r first_day (starts (types_in dim commands) (dated (changes_of dim commands natural))) found in
    let order = InOrder-dated (changes_of dim commands natural) (days_in dim commands natural (described dim commands) (ends dim)) in
    let keyed = key_of_start dim commands natural (types_in dim commands) span.0 (dated (changes_of dim commands natural)) refl member order span.1 in
    let is : r.surrogate ≡ key = eqb-true r.surrogate key (find_passes (λ (r : DimRow). r.surrogate == key) r (member_rows commands dim natural) found) in
    let number : r.surrogate ≡ start_key (member_of dim commands natural) span.0.0 = ap (λ (q : DimRow). q.surrogate) span.2 in
    let here : key ≡ surrogate_key dim commands (start_anchor dim commands natural span.0.0) = sym is ∙ number ∙ keyed.0 in (
      start_anchor dim commands natural span.0.0,
      ap (λ n. at_place n (anchors dim commands)) here ∙ at_place-place same_anchor anchors_decide (start_anchor dim commands natural span.0.0) (anchors dim commands) keyed.1,
      refl,
    )

-- one member has one number
pub one_member : (dim : Dim) (commands : List Accepted) (m n : List ℕ) → 0 < durable_key dim commands m → durable_key dim commands m ≡ durable_key dim commands n → m ≡ n
one_member dim commands m n given same = one_place bytes_eq bytes_eq-Decides m n (members dim commands) given same

owned_itself : (durable : ℕ) (r : DimRow) → r.durable ≡ durable → owned durable (Some r) ≡ Some r
owned_itself durable r is = rw (eq-eqb r.durable durable is) refl

owned_other : (durable : ℕ) (r : DimRow) → ¬ (r.durable ≡ durable) → owned durable (Some r) ≡ None
owned_other durable r other = rw (ne_eqb r.durable durable other) refl

-- the rows with a member's number are the member's
module _ (dim : Dim) (commands : List Accepted) (natural : List ℕ) (ends : RecordsHaveDays commands) (given : 0 < durable_key dim commands natural) where
  member : IsMember dim commands natural
  member = mentioned_is dim commands natural given

  not_mine : (key : ℕ) (o : Option DimRow) → row_of key (member_rows commands dim natural) ≡ o → ((a : Anchor) → at_place key (anchors dim commands) ≡ Some a → a.natural ≡ natural → ⊥) → o ≡ None
  not_mine key None is other = refl
  not_mine key (Some r) is other = let owner = row_owner dim commands natural key r ends member is in absurd (other owner.0 owner.1 owner.2)

  mine : (key : ℕ) (o : Option DimRow) → row_of key (member_rows commands dim natural) ≡ o → owned (durable_key dim commands natural) o ≡ o
  mine key None is = refl
  mine key (Some r) is = owned_itself (durable_key dim commands natural) r (row_durable dim commands natural key r is)

  theirs : (key : ℕ) (a : Anchor) (o : Option DimRow) → at_place key (anchors dim commands) ≡ Some a → ¬ (a.natural ≡ natural) → row_of key (member_rows commands dim a.natural) ≡ o → owned (durable_key dim commands natural) o ≡ None
  theirs key a None at other is = refl
  theirs key a (Some r) at other is =
      owned_other (durable_key dim commands natural) r (λ same.
      let here = row_durable dim commands a.natural key r is in
      let anchored = all_at (λ (b : Anchor). 0 < durable_key dim commands b.natural) key (anchors dim commands) a (owners_given dim commands) at in
      other (one_member dim commands a.natural natural anchored (sym here ∙ same)))

  owned_at : (key : ℕ) (o : Option Anchor) → at_place key (anchors dim commands) ≡ o → owned (durable_key dim commands natural) (numbered_row commands dim key) ≡ row_of key (member_rows commands dim natural)
  owned_at key None is =
      ap (λ (o : Option Anchor). owned (durable_key dim commands natural) (option_and_then (λ (b : Anchor). row_of key (member_rows commands dim b.natural)) o)) is
      ∙ sym (not_mine key (row_of key (member_rows commands dim natural)) refl (λ a at _. cc))
  owned_at key (Some a) is =
      ap (owned (durable_key dim commands natural)) (row_of_member_now dim commands key a is)
      ∙ elim (bytes_eq a.natural natural) as (λ b. (bytes_eq a.natural natural ≡ b) → owned (durable_key dim commands natural) (row_of key (member_rows commands dim a.natural)) ≡ row_of key (member_rows commands dim natural)) [
        | true ↦ λ e.
            let same = (bytes_eq-Decides a.natural natural).0 e in
            ap (λ (n : List ℕ). owned (durable_key dim commands natural) (row_of key (member_rows commands dim n))) same ∙ mine key (row_of key (member_rows commands dim natural)) refl
        | false ↦ λ e.
            let other : a.natural ≡ natural → ⊥ = λ same. let t = (bytes_eq-Decides a.natural natural).1 same in cc in
            theirs key a (row_of key (member_rows commands dim a.natural)) is other refl
            ∙ sym (not_mine key (row_of key (member_rows commands dim natural)) refl (λ b at same. let one : b ≡ a = cc in other (ap (λ (c : Anchor). c.natural) (sym one) ∙ same)))
      ] refl

  pub owned_now : (key : ℕ) → owned (durable_key dim commands natural) (numbered_row commands dim key) ≡ row_of key (member_rows commands dim natural)
  owned_now key = owned_at key (at_place key (anchors dim commands)) refl

-- the row without a key has no member
owned_numbered : (dim : Dim) (commands : List Accepted) (durable key : ℕ) → 0 < durable → owned durable (dimension_row commands dim key) ≡ owned durable (numbered_row commands dim key)
owned_numbered Product commands durable key given = refl
owned_numbered Store commands durable key given = refl
owned_numbered Customer commands durable zero given = let other : ¬ (0 ≡ durable) = λ same. absurd (omega arith) in rw (ne_eqb 0 durable other) refl
owned_numbered Customer commands durable (suc n) given = refl

-- of the rows with a member's durable key, the one under a key is that of the member
pub row_of_member : (dim : Dim) (commands : List Accepted) (natural : List ℕ) (durable : ℕ) → RecordsHaveDays commands → 0 < durable → durable ≡ durable_key dim commands natural → (key : ℕ) → row_of key (rows_with dim commands durable) ≡ row_of key (member_rows commands dim natural)
row_of_member dim commands natural durable ends given is key =
    let number : 0 < durable_key dim commands natural = omega arith in
    row_with dim commands durable key ∙ owned_numbered dim commands durable key given ∙ ap (λ n. owned n (numbered_row commands dim key)) is ∙ owned_now dim commands natural ends number key

-- the same of what a table of this dimension answers
pub member_read : {X E : Type 0} (r : Result X E) (items : X → List DimRow) (dim : Dim) (commands : List Accepted) (natural : List ℕ) (durable : ℕ) → RecordsHaveDays commands → 0 < durable → durable ≡ durable_key dim commands natural
    → IfOk r (λ x. items x ≡ rows_with dim commands durable) → IfOk r (λ x. (key : ℕ) → row_of key (items x) ≡ row_of key (member_rows commands dim natural))
member_read r items dim commands natural durable ends given is read =
    IfOk-weaker r (λ x. items x ≡ rows_with dim commands durable) (λ x. (key : ℕ) → row_of key (items x) ≡ row_of key (member_rows commands dim natural))
    (λ x rows key. ap (row_of key) rows ∙ row_of_member dim commands natural durable ends given is key) read
