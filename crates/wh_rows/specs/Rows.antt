-- The rows of the tables in their columns, and which of them have values of their types.
use Rattle.std.specs.Prelude.{ℕ, List, [], ◌∷◌, ◌++◌, Bool, pos, ◌&&◌, ◌||◌, ◌==◌, if◌then◌else◌, slice_index_or, bytes_eq}
use Rattle.std.specs.declared.cmp.Ordering.{Ordering}
use Rattle.std.specs.Ordering.{nat_cmp, then_cmp, on}
use Rattle.std.specs.Cmp.Lexicographic.{slice_cmp}
use Rattle.std.specs.Str.{is_utf8}
use Rattle.sqlite_value.specs.declared.value.Value.{Value}
use Rattle.sqlite_value.specs.declared.value.Value.TheVariants.{Int, Text, Blob}
use Rattle.sqlite.specs.Order.{Row}
use Rattle.sqlite.specs.Table.{Table}
use Rattle.wh_day.specs.Day.{is_day}
use Rattle.wh_day.specs.Value.{no_card_text}
use Rattle.wh_day.specs.declared.calendar.DateRow.{DateRow}
use Rattle.wh_policy.specs.declared.attribute.Dim.{Dim}
use Rattle.wh_policy.specs.declared.attribute.Dim.TheVariants.{Product, Store, Customer}
use Rattle.wh_history.specs.declared.rows.DimRow.{DimRow}
use Rattle.wh_history.specs.declared.facts.Fact.{Fact}
use Rattle.wh_rows.specs.declared.rows.MetaRow.{MetaRow}
use Rattle.wh_rows.specs.declared.rows.CommandRow.{CommandRow}
use Rattle.wh_rows.specs.declared.rows.MemberRow.{MemberRow}
use Rattle.wh_rows.specs.declared.rows.ChangeRow.{ChangeRow}
use Rattle.wh_rows.specs.declared.rows.ProfileRow.{ProfileRow}
use Rattle.wh_rows.specs.declared.rows.VoidRow.{VoidRow}
pub use Rattle.wh_rows.specs.declared.key.MemberKey.{MemberKey}
pub use Rattle.wh_rows.specs.declared.key.ChangeKey.{ChangeKey}
pub use Rattle.wh_rows.specs.declared.key.LineKey.{LineKey}
use Rattle.wh_rows.specs.Types.{is_number, is_line, is_measure, is_discount, is_key, is_kind, are_slots, dim_number}
use Rattle.wh_rows.specs.Holds.{Layout}
use Rattle.wh_rows.specs.Schema as schema

-- ---- what columns hold

-- yes is 1 and no is 0
abbrev pub flag : Bool → Value
flag is = Int (if is then pos 1 else pos 0)

-- the text of a slot
abbrev pub slot_column : List (List ℕ) → ℕ → Value
slot_column texts slot = Text (slice_index_or texts slot [])

-- the six slots
abbrev pub slot_columns : List (List ℕ) → Row
slot_columns texts = slot_column texts 0 ∷ slot_column texts 1 ∷ slot_column texts 2 ∷ slot_column texts 3 ∷ slot_column texts 4 ∷ slot_column texts 5 ∷ []

-- ---- meta

abbrev pub encode_meta : MetaRow → Row
encode_meta r = Text r.name ∷ Int r.value ∷ []

-- every name and every number
abbrev pub is_meta : MetaRow → Bool
is_meta r = is_utf8 r.name

abbrev pub meta : Layout (List ℕ) MetaRow
meta = record { table = schema.meta; order = slice_cmp nat_cmp; key = λ r. r.name; encode = encode_meta; is_valid = is_meta }

-- ---- command

abbrev pub encode_command : CommandRow → Row
encode_command r = Int (pos r.number) ∷ Text r.id ∷ Text r.kind ∷ Blob r.bytes ∷ Int (pos r.records) ∷ Int (pos r.placeholders) ∷ []

abbrev pub is_command : CommandRow → Bool
is_command r = is_number r.number && is_key 40 r.id && is_kind r.kind && is_number r.records && is_number r.placeholders

abbrev pub command : Layout ℕ CommandRow
command = record { table = schema.command; order = nat_cmp; key = λ r. r.number; encode = encode_command; is_valid = is_command }

-- ---- member

-- dimensions by their numbers, then durable keys
abbrev pub member_cmp : MemberKey → MemberKey → Ordering
member_cmp = then_cmp (on (λ k. dim_number k.dim) nat_cmp) (on (λ k. k.durable) nat_cmp)

abbrev pub encode_member : MemberRow → Row
encode_member r = Int (pos (dim_number r.dim)) ∷ Int (pos r.durable) ∷ Text r.natural ∷ Int (pos r.opening) ∷ []

abbrev pub is_member : MemberRow → Bool
is_member r = is_number r.durable && is_key 32 r.natural && is_number r.opening

abbrev pub member : Layout MemberKey MemberRow
member = record { table = schema.member; order = member_cmp; key = λ r. record { dim = r.dim; durable = r.durable }; encode = encode_member; is_valid = is_member }

-- ---- change

-- commands by their numbers, then records by their places
abbrev pub change_cmp : ChangeKey → ChangeKey → Ordering
change_cmp = then_cmp (on (λ k. k.command) nat_cmp) (on (λ k. k.place) nat_cmp)

abbrev pub encode_change : ChangeRow → Row
encode_change r =
    Int (pos r.command) ∷ Int (pos r.place) ∷ Int (pos (dim_number r.dim)) ∷ Int (pos r.durable) ∷ Int (pos r.day) ∷ Int (pos r.anchor) ∷ slot_columns r.values

abbrev pub is_change : ChangeRow → Bool
is_change r = is_number r.command && is_number r.place && is_number r.durable && is_day r.day && is_number r.anchor && are_slots r.values

abbrev pub change : Layout ChangeKey ChangeRow
change = record { table = schema.change; order = change_cmp; key = λ r. record { command = r.command; place = r.place }; encode = encode_change; is_valid = is_change }

-- ---- product, store, customer

abbrev pub encode_dimension : DimRow → Row
encode_dimension r =
    Int (pos r.surrogate) ∷ Int (pos r.durable) ∷ Text r.natural ∷ Int (pos r.from_day) ∷ Int (pos r.to_day) ∷ flag r.is_current
    ∷ slot_column r.a 0 ∷ slot_column r.a 1 ∷ slot_column r.a 2 ∷ slot_column r.a 3 ∷ slot_column r.a 4 ∷ slot_column r.a 5
    ∷ slot_column r.b 0 ∷ slot_column r.b 1 ∷ slot_column r.b 2 ∷ slot_column r.b 3 ∷ slot_column r.b 4 ∷ slot_column r.b 5
    ∷ Int (pos r.profile_now) ∷ []

-- a natural key; in row 0 of customer also what stands for sales without a card
abbrev pub is_natural : Dim → ℕ → List ℕ → Bool
is_natural Product surrogate text = is_key 32 text
is_natural Store surrogate text = is_key 32 text
is_natural Customer surrogate text = is_key 32 text || ((surrogate == 0) && bytes_eq text no_card_text)

abbrev pub is_dimension : Dim → DimRow → Bool
is_dimension dim r =
    is_number r.surrogate && is_number r.durable && is_natural dim r.surrogate r.natural && is_day r.from_day && is_day r.to_day
    && are_slots r.a && are_slots r.b && is_number r.profile_now

-- the layout of a dimension's table
abbrev pub dimension : Dim → Table → Layout ℕ DimRow
dimension dim table = record { table = table; order = nat_cmp; key = λ r. r.surrogate; encode = encode_dimension; is_valid = is_dimension dim }

abbrev pub product : Layout ℕ DimRow
product = dimension Product schema.product

abbrev pub store : Layout ℕ DimRow
store = dimension Store schema.store

abbrev pub customer : Layout ℕ DimRow
customer = dimension Customer schema.customer

-- ---- profile

abbrev pub encode_profile : ProfileRow → Row
encode_profile r = Int (pos r.number) ∷ slot_columns r.values

abbrev pub is_profile : ProfileRow → Bool
is_profile r = is_number r.number && are_slots r.values

abbrev pub profile : Layout ℕ ProfileRow
profile = record { table = schema.profile; order = nat_cmp; key = λ r. r.number; encode = encode_profile; is_valid = is_profile }

-- ---- calendar

abbrev pub encode_date : DateRow → Row
encode_date r =
    Int (pos r.date_key) ∷ Text r.iso ∷ Int r.year ∷ Int r.quarter ∷ Int r.month ∷ Int r.day ∷ Int r.day_of_year ∷ Int r.weekday ∷ Text r.weekday_name ∷ flag r.weekend ∷ Text r.holiday ∷ []

-- beside the day, any numbers and texts
abbrev pub is_date : DateRow → Bool
is_date r = is_day r.date_key && is_utf8 r.iso && is_utf8 r.weekday_name && is_utf8 r.holiday

abbrev pub calendar : Layout ℕ DateRow
calendar = record { table = schema.calendar; order = nat_cmp; key = λ r. r.date_key; encode = encode_date; is_valid = is_date }

-- ---- fact

-- tickets by their bytes, then lines
abbrev pub line_cmp : LineKey → LineKey → Ordering
line_cmp = then_cmp (on (λ k. k.ticket) (slice_cmp nat_cmp)) (on (λ k. k.line) nat_cmp)

abbrev pub encode_fact : Fact → Row
encode_fact r =
    Text r.ticket ∷ Int (pos r.line) ∷ Int (pos r.day) ∷ Int (pos r.keys.store_key) ∷ Int (pos r.keys.product_key) ∷ Int (pos r.keys.customer_key) ∷ Int (pos r.store_durable)
    ∷ Int (pos r.product_durable) ∷ Int (pos r.customer_durable) ∷ Int (pos r.keys.profile) ∷ Int r.quantity ∷ Int r.amount ∷ Int r.cost ∷ []

-- its columns that each format has are of their types
abbrev pub has_good_columns : Fact → Bool
has_good_columns r =
    is_key 20 r.ticket && is_line r.line && is_day r.day && is_number r.keys.store_key && is_number r.keys.product_key && is_number r.keys.customer_key
    && is_number r.store_durable && is_number r.product_durable && is_number r.customer_durable && is_number r.keys.profile
    && is_measure 9999 r.quantity && is_measure 999999999 r.amount && is_measure 999999999 r.cost

-- a fact of the first format has no discount
abbrev pub is_fact : Fact → Bool
is_fact r = has_good_columns r && (r.discount == 0)

abbrev pub fact : Layout LineKey Fact
fact = record { table = schema.fact; order = line_cmp; key = λ r. record { ticket = r.ticket; line = r.line }; encode = encode_fact; is_valid = is_fact }

-- ---- fact2

abbrev pub encode_fact2 : Fact → Row
encode_fact2 r = encode_fact r ++ Int (pos r.discount) ∷ []

abbrev pub is_fact2 : Fact → Bool
is_fact2 r = has_good_columns r && is_discount r.discount

abbrev pub fact2 : Layout LineKey Fact
fact2 = record { table = schema.fact2; order = line_cmp; key = λ r. record { ticket = r.ticket; line = r.line }; encode = encode_fact2; is_valid = is_fact2 }

-- ---- void

abbrev pub encode_void : VoidRow → Row
encode_void r = Text r.ticket ∷ Int (pos r.line) ∷ Int (pos r.command) ∷ []

abbrev pub is_void : VoidRow → Bool
is_void r = is_key 20 r.ticket && is_line r.line && is_number r.command

abbrev pub void : Layout LineKey VoidRow
void = record { table = schema.void; order = line_cmp; key = λ r. record { ticket = r.ticket; line = r.line }; encode = encode_void; is_valid = is_void }
