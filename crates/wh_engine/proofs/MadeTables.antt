-- The tables of a warehouse that was just made are those of its one command.
use Rattle.std.proofs.Common.{◌≡◌, ◌≢◌, ℕ, zero, suc, cond, List, [], ◌∷◌, Some, None, refl, sym, ◌∙◌, ap, arith}
use Rattle.std.specs.Cmp.{unsigned_tied}
use Rattle.std.specs.FinMap.{FinMap, empty, insert, get, get-empty, get-insert}
use Rattle.std.specs.Ordering.{nat_cmp}
use Rattle.std.proofs.lemmas.Bool.{ne_eqb, eq-eqb}
use Rattle.std.proofs.lemmas.Cmp.{nat_cmp_total}
use Rattle.wh_day.specs.Value.{no_card_text, unknown_text}
use Rattle.wh_policy.specs.Policy.{policy_types}
use Rattle.wh_policy.specs.declared.attribute.Dim.{Dim}
use Rattle.wh_policy.specs.declared.attribute.Dim.TheVariants.{Product, Store, Customer}
use Rattle.wh_policy.specs.declared.policy.Policy.{Policy}
use Rattle.wh_history.specs.Keys.{at_place}
use Rattle.wh_history.specs.Accepted.{Accepted}
use Rattle.wh_history.specs.Tables.{Limits, no_card_row, numbered_row, dimension_row, change_row}
use Rattle.wh_rows.specs.Rows as row
use Rattle.wh_rows.specs.Tables.{Tables}
use Rattle.wh_rows.specs.declared.key.MemberKey.{MemberKey}
use Rattle.wh_rows.specs.declared.key.ChangeKey.{ChangeKey}
use Rattle.wh_rows.specs.declared.rows.ProfileRow.{ProfileRow}
use Rattle.wh_sql.specs.Making.{made_with}
use Rattle.wh_model.specs.Defined.{command_at, member_at, change_at, profile_at, AreOf}
use Rattle.wh_plan.specs.FirstRows.{making_row, profile_of, first_profiles, calendar_rows, with_first_rows}
use Rattle.wh_model.specs.Sound.{init_of}
use Rattle.wh_engine.proofs.MadeCalendar.{calendar_made}
use Rattle.wh_engine.proofs.MadeMeta.{meta_made}

-- the tables of a warehouse that was just made
abbrev pub tables_made : Limits → Policy → List ℕ → Tables
tables_made limits policy bytes =
    with_first_rows (making_row bytes) (no_card_row (policy_types policy Customer)) (first_profiles (policy_types policy Customer)) (calendar_rows policy) (made_with limits)

-- ---- tables of numbers

put_number : {V : Type 0} (m : FinMap nat_cmp V) (k : ℕ) (v : V) (q : ℕ) → q ≡ k → get (insert m k v) q ≡ Some v
put_number m k v q is = get-insert nat_cmp_total m k v q ∙ ap (λ b. cond b (Some v) (get m q)) (unsigned_tied q k ∙ eq-eqb q k is)

put_other : {V : Type 0} (m : FinMap nat_cmp V) (k : ℕ) (v : V) (q : ℕ) → q ≢ k → get (insert m k v) q ≡ get m q
put_other m k v q other = get-insert nat_cmp_total m k v q ∙ ap (λ b. cond b (Some v) (get m q)) (unsigned_tied q k ∙ ne_eqb q k other)

-- no place of a list is past its end
none_at : {X : Type 0} (n : ℕ) → at_place {X = X} n [] ≡ None
none_at zero = refl
none_at (suc n) = refl

module _ (limits : Limits) (policy : Policy) (bytes : List ℕ) where
  abbrev commands : List Accepted
  commands = init_of policy bytes ∷ []

  command_made : (number : ℕ) → get (tables_made limits policy bytes).command number ≡ command_at commands number
  command_made zero = put_other empty 1 (making_row bytes) 0 (λ is. omega arith) ∙ get-empty nat_cmp 0
  command_made (suc zero) = put_number empty 1 (making_row bytes) 1 refl
  command_made (suc (suc n)) = put_other empty 1 (making_row bytes) (suc (suc n)) (λ is. omega arith) ∙ get-empty nat_cmp (suc (suc n))

  abbrev no_card : ProfileRow
  no_card = profile_of 0 no_card_text (policy_types policy Customer)

  abbrev unknown : ProfileRow
  unknown = profile_of 1 unknown_text (policy_types policy Customer)

  profile_made : (number : ℕ) → get (tables_made limits policy bytes).profile number ≡ profile_at commands number
  profile_made zero = put_other (insert empty 0 no_card) 1 unknown 0 (λ is. omega arith) ∙ put_number empty 0 no_card 0 refl
  profile_made (suc zero) = put_number (insert empty 0 no_card) 1 unknown 1 refl
  profile_made (suc (suc n)) = put_other (insert empty 0 no_card) 1 unknown (suc (suc n)) (λ is. omega arith) ∙ put_other empty 0 no_card (suc (suc n)) (λ is. omega arith) ∙ get-empty nat_cmp (suc (suc n))

  no_numbered : (dim : Dim) (key : ℕ) → numbered_row commands dim key ≡ None
  no_numbered dim zero = refl
  no_numbered dim (suc n) = refl

  customer_made : (key : ℕ) → get (tables_made limits policy bytes).customer key ≡ dimension_row commands Customer key
  customer_made zero = put_number empty 0 (no_card_row (policy_types policy Customer)) 0 refl
  customer_made (suc n) = put_other empty 0 (no_card_row (policy_types policy Customer)) (suc n) (λ is. omega arith) ∙ get-empty nat_cmp (suc n)

  no_member : (key : MemberKey) → member_at commands key ≡ None
  no_member key = rw (none_at {X = List ℕ} key.durable) refl

  no_change_row : (number place : ℕ) → change_row commands number place ≡ None
  no_change_row zero place = refl
  no_change_row (suc zero) place = refl
  no_change_row (suc (suc n)) place = refl

  no_change : (key : ChangeKey) → change_at commands key ≡ None
  no_change key = rw (no_change_row key.command key.place) refl

  pub tables_are : AreOf limits commands (tables_made limits policy bytes)
  tables_are = record {
    format = refl;
    meta = meta_made limits;
    command = command_made;
    member = λ key. get-empty row.member.order key ∙ sym (no_member key);
    change = λ key. get-empty row.change.order key ∙ sym (no_change key);
    product = λ key. get-empty nat_cmp key ∙ sym (no_numbered Product key);
    store = λ key. get-empty nat_cmp key ∙ sym (no_numbered Store key);
    customer = customer_made;
    profile = profile_made;
    calendar = calendar_made policy;
    fact = λ key. get-empty row.fact.order key;
    fact2 = λ key. get-empty row.fact2.order key;
    void = λ key. get-empty row.void.order key;
  }
