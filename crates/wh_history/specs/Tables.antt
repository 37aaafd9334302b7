-- The tables that a list of accepted commands defines, each as a function from its keys. The calendar is not here: its rows
-- are those of the days of the years of the policy in force.
use Rattle.std.specs.Prelude.{ℕ, zero, suc, ◌==◌, ◌&&◌, true, if◌then◌else◌, List, [], ◌∷◌, length, filter_map, Option, Some, None, option_map, unwrap_or, find, bytes_eq, codes}
use Rattle.std.specs.Option.{option_and_then}
use Rattle.std.specs.List.{range_with_len}
use Rattle.wh_day.specs.Value.{unknown_text, no_card_text}
use Rattle.wh_history.specs.Keys.{at_place}
use Rattle.wh_policy.specs.Types.{rule, is_profile}
use Rattle.wh_history.specs.Slots.{columns_from, six}
use Rattle.wh_history.specs.Dated.{dated, at}
use Rattle.wh_day.specs.Day.{first_day, last_day}
use Rattle.wh_history.specs.Rows.{rows}
use Rattle.wh_history.specs.Profiles.{current_profile}
use Rattle.wh_history.specs.Facts.{key_in}
use Rattle.wh_history.specs.Accepted.{Accepted, Content, Governs, Describes, Sells, Upgrades, Withdraws, opening_of, day_of, types_in, standing, withdrawn_by, withdraws_line, anchors, members, durable_key, surrogate_key, member_of, profiles_of, records_by, placeholders_by}
use Rattle.wh_policy.specs.Formats.{format_number}
use Rattle.wh_policy.specs.declared.format.Format.{Format}
use Rattle.wh_policy.specs.declared.policy.Policy.{Policy}
use Rattle.wh_policy.specs.declared.record.DimensionRecord.{DimensionRecord}
use Rattle.wh_policy.specs.declared.record.SaleRecord.{SaleRecord}
use Rattle.wh_policy.specs.declared.attribute.Dim.{Dim}
use Rattle.wh_policy.specs.declared.attribute.Dim.TheVariants.{Product, Store, Customer}
use Rattle.wh_policy.specs.declared.attribute.AttributeType.{AttributeType}
use Rattle.wh_policy.specs.declared.type_rule.MainColumn.{MainColumn}
use Rattle.wh_policy.specs.declared.type_rule.MainColumn.TheVariants as main
use Rattle.wh_policy.specs.declared.type_rule.SecondColumn.{SecondColumn}
use Rattle.wh_policy.specs.declared.type_rule.SecondColumn.TheVariants as second
use Rattle.wh_history.specs.declared.rows.DimRow.{DimRow}
use Rattle.wh_history.specs.declared.facts.Fact.{Fact}

pub record CommandRow : Type 0 where
  pub id : List ℕ
  pub kind : List ℕ
  pub bytes : List ℕ
  pub records : ℕ
  pub placeholders : ℕ

pub record MemberRow : Type 0 where
  pub natural : List ℕ
  pub opening : ℕ

pub record ChangeRow : Type 0 where
  pub dim : Dim
  pub durable : ℕ
  pub day : ℕ
  pub anchor : ℕ
  pub texts : List (List ℕ)

-- command
abbrev pub command_row : List Accepted → ℕ → Option CommandRow
command_row commands number = option_map (λ c. record { id = c.id; kind = c.kind; bytes = c.bytes; records = records_by c.content; placeholders = placeholders_by commands number c.content }) (at_place number commands)

-- member
abbrev pub member_row : List Accepted → Dim → ℕ → Option MemberRow
member_row commands dim durable = option_map (λ natural. record { natural = natural; opening = surrogate_key dim commands (opening_of natural) }) (at_place durable (members dim commands))

-- change
abbrev pub change_row_of : List Accepted → Dim → DimensionRecord → ChangeRow
change_row_of commands dim r = record {
  dim = dim;
  durable = durable_key dim commands r.natural;
  day = r.day;
  anchor = surrogate_key dim commands (day_of r.natural r.day);
  texts = six r.values;
}

abbrev pub change_row_in : List Accepted → ℕ → Content → Option ChangeRow
change_row_in commands place (Governs policy) = None
change_row_in commands place (Describes dim records) = option_map (change_row_of commands dim) (at_place place records)
change_row_in commands place (Sells sales) = None
change_row_in commands place Upgrades = None
change_row_in commands place (Withdraws lines) = None

abbrev pub change_row : List Accepted → ℕ → ℕ → Option ChangeRow
change_row commands number place = option_and_then (λ c. change_row_in commands place c.content) (at_place number commands)

-- the rows of a member of product, store or customer
abbrev pub member_rows : List Accepted → Dim → List ℕ → List DimRow
member_rows commands dim natural = rows (types_in dim commands) (profiles_of commands) (member_of dim commands natural)

-- what the row of sales without a card shows: no card, where other rows show something
abbrev pub no_card_in_main : MainColumn → List ℕ
no_card_in_main main.Original = no_card_text
no_card_in_main main.FirstDay = no_card_text
no_card_in_main main.Latest = no_card_text
no_card_in_main main.Nothing = []

abbrev pub no_card_main : ℕ → AttributeType → List ℕ
no_card_main place kind = no_card_in_main (rule kind).main

abbrev pub no_card_in_second : SecondColumn → List ℕ
no_card_in_second second.Nothing = []
no_card_in_second second.Prior = no_card_text
no_card_in_second second.Latest = no_card_text

abbrev pub no_card_second : ℕ → AttributeType → List ℕ
no_card_second place kind = no_card_in_second (rule kind).second

abbrev pub no_card_row : List AttributeType → DimRow
no_card_row kinds = record {
  surrogate = 0;
  durable = 0;
  natural = no_card_text;
  from_day = first_day;
  to_day = last_day;
  is_current = true;
  a = six (columns_from no_card_main 0 kinds);
  b = six (columns_from no_card_second 0 kinds);
  profile_now = 0;
}

-- product, store and customer: under an anchor's number, its member's row that has this number, if one has
abbrev pub numbered_row : List Accepted → Dim → ℕ → Option DimRow
numbered_row commands dim key = option_and_then (λ a. find (λ r. r.surrogate == key) (member_rows commands dim a.natural)) (at_place key (anchors dim commands))

abbrev pub dimension_row : List Accepted → Dim → ℕ → Option DimRow
dimension_row commands Product key = numbered_row commands Product key
dimension_row commands Store key = numbered_row commands Store key
dimension_row commands Customer zero = Some (no_card_row (types_in Customer commands))
dimension_row commands Customer (suc n) = numbered_row commands Customer (suc n)

-- the whole table of a dimension, in order of surrogate key: only the row of sales without a card has the key 0
abbrev pub dimension_table : List Accepted → Dim → List DimRow
dimension_table commands dim = filter_map (dimension_row commands dim) (range_with_len 0 (suc (length (anchors dim commands))))

-- a trial: a making under the policy, and one batch of records; under which ids is of no account
abbrev pub unnamed : Content → Accepted
unnamed content = record { id = []; kind = []; bytes = []; content = content }

abbrev pub trial_commands : Policy → Dim → List DimensionRecord → List Accepted
trial_commands policy dim records = unnamed (Governs policy) ∷ unnamed (Describes dim records) ∷ []

-- profile
abbrev pub profile_row : List Accepted → ℕ → Option (List (List ℕ))
profile_row commands zero = Some (six (columns_from (λ _ kind. if is_profile kind then no_card_text else []) 0 (types_in Customer commands)))
profile_row commands (suc zero) = Some (six (columns_from (λ _ kind. if is_profile kind then unknown_text else []) 0 (types_in Customer commands)))
profile_row commands (suc (suc n)) = option_map six (at_place (suc n) (profiles_of commands))

-- the number of a member's one row that holds a day
abbrev pub key_at : List Accepted → Dim → ℕ → List ℕ → ℕ
key_at commands dim day natural = key_in (member_rows commands dim natural) day

-- the number of a customer's profile at a day
abbrev pub profile_at : List Accepted → ℕ → List ℕ → ℕ
profile_at commands day natural = current_profile (types_in Customer commands) (profiles_of commands) (at day (dated (member_of Customer commands natural).changes))

-- fact, of the sales that stand; without a card the customer's numbers are 0
abbrev pub fact_of : List Accepted → SaleRecord → Fact
fact_of commands s = record {
  ticket = s.ticket;
  line = s.line;
  day = s.day;
  keys = record {
    store_key = key_at commands Store s.day s.store;
    product_key = key_at commands Product s.day s.product;
    customer_key = unwrap_or (option_map (key_at commands Customer s.day) s.customer) 0;
    profile = unwrap_or (option_map (profile_at commands s.day) s.customer) 0;
  };
  store_durable = durable_key Store commands s.store;
  product_durable = durable_key Product commands s.product;
  customer_durable = unwrap_or (option_map (durable_key Customer commands) s.customer) 0;
  quantity = s.quantity;
  amount = s.amount;
  cost = s.cost;
  discount = s.discount;
}

abbrev pub fact_row : List Accepted → List ℕ → ℕ → Option Fact
fact_row commands ticket line = option_map (fact_of commands) (find (λ s. bytes_eq s.ticket ticket && (s.line == line)) (standing commands))

-- void: the number of the command that withdrew the line, where commands are numbered from this number on
abbrev pub withdrawn_from : ℕ → List Accepted → List ℕ → ℕ → Option ℕ
withdrawn_from number [] ticket line = None
withdrawn_from number (c ∷ commands) ticket line = if withdraws_line ticket line (withdrawn_by c.content) then Some number else withdrawn_from (suc number) commands ticket line

abbrev pub void_row : List Accepted → List ℕ → ℕ → Option ℕ
void_row commands ticket line = withdrawn_from 1 commands ticket line

-- meta, by the format and the three limits that were chosen at the making
pub record Limits : Type 0 where
  pub commands : ℕ
  pub changes : ℕ
  pub facts : ℕ

abbrev pub meta_value : Format → Limits → List ℕ → Option ℕ
meta_value format limits name =
    if bytes_eq name (codes "changes_max") then Some limits.changes
    else if bytes_eq name (codes "commands_max") then Some limits.commands
    else if bytes_eq name (codes "facts_max") then Some limits.facts
    else if bytes_eq name (codes "format") then Some (format_number format)
    else None
