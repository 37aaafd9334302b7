-- The current row of a durable key: there is one, and it shows what is latest.
use Rattle.std.proofs.Common.{◌≡◌, ℕ, zero, suc, ◌<◌, ◌≤◌, ◌==◌, Bool, true, false, cond, List, [], ◌∷◌, Option, Some, None, refl, sym, ◌∙◌, ap, subst, arith, inl, inr}
use Rattle.std.specs.Prelude.{find, filter_map}
use Rattle.std.proofs.lemmas.Bool.{eqb-true, eq-eqb}
use Rattle.std.proofs.lemmas.Bool.Decides.{nat_tests}
use Rattle.wh_day.specs.Day.{first_day, last_day}
use Rattle.wh_policy.specs.declared.attribute.Dim.{Dim}
use Rattle.wh_policy.specs.declared.attribute.Dim.TheVariants.{Product, Store, Customer}
use Rattle.wh_history.specs.Accepted.{Accepted, Anchor, described, types_in, changes_of, member_of, anchors, durable_key, profiles_of}
use Rattle.wh_history.specs.Dated.{dated}
use Rattle.wh_history.specs.Keys.{at_place}
use Rattle.wh_history.specs.Laws.{RecordsHaveDays, IsMember}
use Rattle.wh_history.specs.Profiles.{profile_now}
use Rattle.wh_history.specs.Rows.{starts, row, holds}
use Rattle.wh_history.specs.Tables.{dimension_row, numbered_row, member_rows, key_at, no_card_row}
use Rattle.wh_history.specs.declared.rows.DimRow.{DimRow}
use Rattle.wh_history.proofs.Basics.{some_is}
use Rattle.wh_history.proofs.Effective.{found_row, effective, days_in, durable_given}
use Rattle.wh_history.proofs.Joins.{InSpans, all_weaker}
use Rattle.wh_history.proofs.Owners.{owners_given}
use Rattle.wh_history.proofs.Shown.{span_found, to_held}
use Rattle.wh_history.proofs.Spans.{Rises, InOrder-dated, Rises-starts}
use Rattle.wh_model.proofs.GrownKeys.{all_at}
use Rattle.wh_model.proofs.ValidTables.{then_of}
use Rattle.wh_report.specs.Defined.{AreRowsOf}
use Rattle.wh_report.specs.Labels.{entry, first_text}
use Rattle.wh_model.proofs.ValidRows.{last_is_day}
use Rattle.wh_report.proofs.FoundTexts.{found_first}

-- no span begins past the last day, and one that reaches it ends there
starts_within : (s : ℕ × ℕ) (from : ℕ) (more : List ℕ) → Rises from more → from ≤ last_day → InSpans s from more → s.0 ≤ last_day
starts_within s from [] up low here = let is = ap (λ (t : ℕ × ℕ). t.0) here in omega arith
starts_within s from (next ∷ more) up low here =
    elim here [
      | inl first ↦ let is = ap (λ (t : ℕ × ℕ). t.0) first in omega arith
      | inr later ↦ starts_within s next more up.3 up.1 later
    ]

ends_last : (s : ℕ × ℕ) (from : ℕ) (more : List ℕ) → Rises from more → InSpans s from more → last_day ≤ s.1 → s.1 ≡ last_day
ends_last s from [] up here late = ap (λ (t : ℕ × ℕ). t.1) here
ends_last s from (next ∷ more) up here late =
    elim here [
      | inl first ↦ let is = ap (λ (t : ℕ × ℕ). t.1) first in let before = up.2.0 in let within = up.1 in absurd (omega arith)
      | inr later ↦ ends_last s next more up.3 later late
    ]

holds_it : (day : ℕ) (r : DimRow) → r.from_day ≤ day → r.to_day ≡ day → holds day r ≡ true
holds_it day r low is = grind (arith, nat_tests)

module _ (commands : List Accepted) (dim : Dim) (ends : RecordsHaveDays commands) where
  abbrev number_of : List ℕ → ℕ
  number_of natural = profile_now (types_in dim commands) (profiles_of commands) (member_of dim commands natural)

  rises_of : (natural : List ℕ) → Rises first_day (starts (types_in dim commands) (dated (changes_of dim commands natural)))
  rises_of natural = Rises-starts (types_in dim commands) (dated (changes_of dim commands natural)) (InOrder-dated (changes_of dim commands natural) (days_in dim commands natural (described dim commands) (ends dim)))

  -- what a row that has a number stands for: its member's span
  record Behind (q : DimRow) : Type 0 where
    natural : List ℕ
    span : ℕ × ℕ
    among : InSpans span first_day (starts (types_in dim commands) (dated (changes_of dim commands natural)))
    is : q ≡ row (types_in dim commands) (number_of natural) (member_of dim commands natural) span
    owned : 0 < durable_key dim commands natural

  behind : (key : ℕ) (q : DimRow) → numbered_row commands dim key ≡ Some q → Behind q
  behind key q stands =
      let from = then_of (λ (a : Anchor). find (λ (r : DimRow). r.surrogate == key) (member_rows commands dim a.natural)) (at_place key (anchors dim commands)) q stands in
      let a : Anchor = from.0 in
      let found = span_found (types_in dim commands) (number_of a.natural) (member_of dim commands a.natural) (λ (r : DimRow). r.surrogate == key) q first_day (starts (types_in dim commands) (dated (changes_of dim commands a.natural))) from.2 in
      record { natural = a.natural; span = found.0; among = found.1; is = found.2; owned = all_at (λ (b : Anchor). 0 < durable_key dim commands b.natural) key (anchors dim commands) a (owners_given dim commands) from.1 }

  owned_row : (key : ℕ) (q : DimRow) → numbered_row commands dim key ≡ Some q → 0 < q.durable
  owned_row key q stands = let b = behind key q stands in subst (λ (n : ℕ). 0 < n) (sym (ap (λ (r : DimRow). r.durable) b.is)) b.owned

  -- a current row holds the last day
  holds_last : (key : ℕ) (q : DimRow) → numbered_row commands dim key ≡ Some q → q.is_current ≡ true → holds last_day q ≡ true
  holds_last key q stands current =
      let b = behind key q stands in
      let low : q.from_day ≤ last_day = subst (λ (n : ℕ). n ≤ last_day) (sym (ap (λ (r : DimRow). r.from_day) b.is)) (starts_within b.span first_day _ (rises_of b.natural) (omega arith) b.among) in
      let end : q.to_day ≡ last_day = ap (λ (r : DimRow). r.to_day) b.is ∙ eqb-true b.span.1 last_day (sym (ap (λ (r : DimRow). r.is_current) b.is) ∙ current) in
      holds_it last_day q low end

numbered : (commands : List Accepted) (dim : Dim) (key : ℕ) (q : DimRow) → dimension_row commands dim key ≡ Some q → 0 < q.durable → numbered_row commands dim key ≡ Some q
numbered commands Product key q h given = h
numbered commands Store key q h given = h
numbered commands Customer zero q h given = let is : 0 ≡ q.durable = ap (λ (r : DimRow). r.durable) (some_is _ q h) in absurd (omega arith)
numbered commands Customer (suc n) q h given = h

-- this row is current, and no other current row has its durable key
pub record IsCurrentRow (commands : List Accepted) (dim : Dim) (durable : ℕ) (r : DimRow) : Type 0 where
  pub key : ℕ
  pub there : dimension_row commands dim key ≡ Some r
  pub current : r.is_current ≡ true
  pub of_member : r.durable ≡ durable
  pub only : (q : DimRow) → dimension_row commands dim q.surrogate ≡ Some q → q.is_current ≡ true → q.durable ≡ durable → q ≡ r

-- a member's is the one that holds the last day
pub current_row : (commands : List Accepted) (dim : Dim) (natural : List ℕ) → (ends : RecordsHaveDays commands) → (member : IsMember dim commands natural) → IsCurrentRow commands dim (durable_key dim commands natural) (found_row dim commands natural ends member last_day last_is_day).0
current_row commands dim natural ends member =
    let found = found_row dim commands natural ends member last_day last_is_day in
    let r : DimRow = found.0 in
    let span = span_found (types_in dim commands) (number_of commands dim ends natural) (member_of dim commands natural) (holds last_day) r first_day (starts (types_in dim commands) (dated (changes_of dim commands natural))) found.1 in
    let late : last_day ≤ span.0.1 = subst (λ (q : DimRow). last_day ≤ q.to_day) span.2 (to_held last_day r span.3) in
    let end = ends_last span.0 first_day _ (rises_of commands dim ends natural) span.1 late in
    let one = effective dim commands natural ends member last_day last_is_day in
    record {
      key = key_at commands dim last_day natural;
      there = found.2;
      current = ap (λ (q : DimRow). q.is_current) span.2 ∙ eq-eqb span.0.1 last_day end;
      of_member = ap (λ (q : DimRow). q.durable) span.2;
      only = λ q stands current durable.
          let given : 0 < q.durable = subst (λ (n : ℕ). 0 < n) (sym durable) (durable_given dim commands natural ends member last_day last_is_day) in
          let holds_it = holds_last commands dim ends q.surrogate q (numbered commands dim q.surrogate q stands given) current in
          let same = one.only q.surrogate q stands durable holds_it in
          some_is _ _ (sym stands ∙ ap (dimension_row commands dim) same ∙ found.2);
    }

-- that of sales without a card is row 0
no_card_only : (commands : List Accepted) (ends : RecordsHaveDays commands) (key : ℕ) (q : DimRow) → dimension_row commands Customer key ≡ Some q → q.durable ≡ 0 → q ≡ no_card_row (types_in Customer commands)
no_card_only commands ends zero q stands none = sym (some_is _ _ stands)
no_card_only commands ends (suc n) q stands none = let given = owned_row commands Customer ends (suc n) q stands in absurd (omega arith)

pub no_card_current : (commands : List Accepted) → RecordsHaveDays commands → IsCurrentRow commands Customer 0 (no_card_row (types_in Customer commands))
no_card_current commands ends = record {
  key = 0;
  there = refl;
  current = refl;
  of_member = refl;
  only = λ q stands current durable. no_card_only commands ends q.surrogate q stands durable;
}

-- an entry that a current row alone has
entry_current : (key n : ℕ) (b : Bool) (text : Option (List ℕ)) (t : List ℕ) → entry (cond b (Some n) None) text ≡ Some (key, t) → (b ≡ true) × (n ≡ key) × (text ≡ Some t)
entry_current key n false text t is = cc
entry_current key n true None t is = cc
entry_current key n true (Some u) t is = let same = some_is _ _ is in (refl, ap (λ (p : ℕ × List ℕ). p.0) same, ap (λ (p : ℕ × List ℕ). Some p.1) same)

-- so its text is found by the durable key
pub found_current : (commands : List Accepted) (dim : Dim) (rows : List DimRow) (text_of : DimRow → Option (List ℕ)) (durable : ℕ) (r : DimRow) (text : List ℕ) → AreRowsOf (λ r. r.surrogate) (dimension_row commands dim) rows → IsCurrentRow commands dim durable r → text_of r ≡ Some text
    → first_text durable (filter_map (λ q. entry (cond q.is_current (Some q.durable) None) (text_of q)) rows) ≡ Some text
found_current commands dim rows text_of durable r text are one shows =
    found_first (λ q. entry (cond q.is_current (Some q.durable) None) (text_of q)) durable text r rows (are.whole one.key r one.there) (rw (shows, one.current, one.of_member) refl)
    (all_weaker (λ q. dimension_row commands dim q.surrogate ≡ Some q) (λ q. (t : List ℕ) → entry (cond q.is_current (Some q.durable) None) (text_of q) ≡ Some (durable, t) → t ≡ text) (λ q stands t e.
    let parts = entry_current durable q.durable q.is_current (text_of q) t e in
    let same = one.only q stands parts.0 parts.1 in
    some_is _ _ (sym parts.2 ∙ ap text_of same ∙ shows)) rows are.sound)
