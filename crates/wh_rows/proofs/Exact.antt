-- A stored row is read exactly where it is a row of the table with values of their types.
use Rattle.std.proofs.Common.{◌≡◌, ◌≢◌, Bool, true, ◌&&◌, ◌==◌, ◌∷◌, length, Ok, Err, Result, IfOk, IfErr, refl, sym, ap, ap₂, subst, ◌∙◌, ◌++◌, pos, []}
use Rattle.std.specs.Prelude.{IsTrue}
use Rattle.std.specs.Str.{is_utf8}
use Rattle.std.proofs.lemmas.Bool.{and_parts, eqb-true}
use Rattle.sqlite_value.specs.declared.value.Value.TheVariants.{Null, Int}
use Rattle.sqlite.specs.Order.{Row, column}
use Rattle.wh_day.specs.Day.{is_day}
use Rattle.wh_day.specs.Reading.{Gives}
use Rattle.wh_day.specs.declared.error.ParseError.{ParseError}
use Rattle.wh_day.specs.declared.error.ParseError.TheVariants.{Memory, Fault}
use Rattle.wh_day.specs.declared.calendar.DateRow.{DateRow}
use Rattle.wh_policy.specs.declared.attribute.Dim.{Dim}
use Rattle.wh_history.specs.declared.rows.DimRow.{DimRow}
use Rattle.wh_history.specs.declared.facts.Fact.{Fact}
use Rattle.wh_rows.specs.declared.rows.VoidRow.{VoidRow}
use Rattle.wh_rows.specs.declared.columns.Damaged.{Damaged}
use Rattle.wh_rows.specs.declared.rows.MetaRow.{MetaRow}
use Rattle.wh_rows.specs.declared.rows.CommandRow.{CommandRow}
use Rattle.wh_rows.specs.declared.rows.MemberRow.{MemberRow}
use Rattle.wh_rows.specs.declared.rows.ChangeRow.{ChangeRow}
use Rattle.wh_rows.specs.declared.rows.ProfileRow.{ProfileRow}
use Rattle.wh_rows.specs.Types.{is_number, is_discount, is_line, is_measure, is_key, is_kind, are_slots}
use Rattle.wh_rows.specs.Rows.{encode_meta, encode_command, encode_member, encode_change, encode_dimension, encode_profile, encode_date, encode_fact, encode_fact2, encode_void, is_meta, is_command, is_member, is_change, is_natural, is_dimension, is_profile, is_date, has_good_columns, is_fact, is_fact2, is_void}
use Rattle.wh_rows.specs.Columns.{integer_of, number_of, discount_of, line_of, measure_of, day_of, flag_of, dim_of, blob_of, text_of, tested_of, slots_of}
use Rattle.wh_rows.specs.Stored.{meta_columns, command_columns, member_columns, change_columns, dimension_columns, profile_columns, date_columns, fact_columns, fact2_columns, void_columns, read_meta, read_command, read_member, read_change, read_dimension, read_profile, read_date, read_fact, read_fact2, read_void}
use Rattle.wh_rows.proofs.Edits.{same_value}
use Rattle.wh_rows.proofs.ColumnLemmas.{when_ok, bind_ok, bind_is, both, whole, integer_so, integer_is, number_so, discount_so, number_is, discount_is, line_so, line_is, measure_so, measure_is, day_so, day_is, flag_so, flag_is, dim_so, dim_is, blob_so, blob_is, text_so, text_is, tested_so, tested_is, key_text, kind_text, natural_text, slots_so, slots_is}

-- what a function that reads gives, by what it reads
module _ {V : Type 0} (of : Row → Result V Damaged) (encode : V → Row) (is_valid : V → Bool)
    (sound : (row : Row) (r : V) → of row ≡ Ok r → (is_valid r ≡ true) × (row ≡ encode r)) (complete : (r : V) → is_valid r ≡ true → of (encode r) ≡ Ok r) (row : Row) where
  pub read_ok : (result : Result V (ParseError Damaged)) → Gives (λ r. r) result (of row) → IfOk result (λ r. IsTrue (is_valid r) × (row ≡ encode r))
  read_ok (Ok r) gives = sound row r gives
  read_ok (Err e) gives = tt

  pub read_err : (result : Result V (ParseError Damaged)) → Gives (λ r. r) result (of row) → IfErr result (λ e. e ≢ Memory → (r : V) → IsTrue (is_valid r) → row ≢ encode r)
  read_err (Ok r) gives = tt
  read_err (Err Memory) gives = λ fault. absurd (fault refl)
  read_err (Err (Fault f)) gives = λ fault r valid is. let one = sym gives ∙ ap of is ∙ complete r valid in absurd (cc)

-- no two valid rows stand alike in the columns, since they are read again
pub once_read : {V : Type 0} (of : Row → Result V Damaged) (encode : V → Row) (is_valid : V → Bool) → ((r : V) → is_valid r ≡ true → of (encode r) ≡ Ok r)
    → (v w : V) → IsTrue (is_valid v) → IsTrue (is_valid w) → encode v ≡ encode w → v ≡ w
once_read of encode is_valid complete v w valid_v valid_w same = same_value (sym (complete v valid_v) ∙ ap of same ∙ complete w valid_w)

-- ---- meta

pub meta_sound : (row : Row) (r : MetaRow) → read_meta row ≡ Ok r → (is_meta r ≡ true) × (row ≡ encode_meta r)
unfolding read_meta
meta_sound row r h =
    let all = when_ok (length row == 2) (meta_columns row) r h in
    let c0 = bind_ok (text_of (column row 0)) _ r all.1 in
    let e0 = text_so (column row 0) c0.0 c0.1 in
    let c1 = bind_ok (integer_of (column row 1)) _ r c0.2 in
    let e1 = integer_so (column row 1) c1.0 c1.1 in
    let found : MetaRow = record { name = c0.0; value = c1.0 } in
    let columns : row ≡ encode_meta found = whole Null row 2 (eqb-true (length row) 2 all.0) ∙ ap₂ ◌∷◌ e0.0 (ap₂ ◌∷◌ e1 (refl)) in
    subst (λ r. (is_meta r ≡ true) × (row ≡ encode_meta r)) (same_value c1.2) (e0.1, columns)

pub meta_complete : (r : MetaRow) → is_meta r ≡ true → read_meta (encode_meta r) ≡ Ok r
unfolding read_meta
meta_complete r valid =
    bind_is _ r.name _ r (text_is r.name valid)
    (bind_is _ r.value _ r (integer_is r.value) refl)

-- ---- command

pub command_sound : (row : Row) (r : CommandRow) → read_command row ≡ Ok r → (is_command r ≡ true) × (row ≡ encode_command r)
unfolding read_command
command_sound row r h =
    let all = when_ok (length row == 6) (command_columns row) r h in
    let c0 = bind_ok (number_of (column row 0)) _ r all.1 in
    let e0 = number_so (column row 0) c0.0 c0.1 in
    let c1 = bind_ok (tested_of (is_key 40) (column row 1)) _ r c0.2 in
    let e1 = tested_so (is_key 40) (column row 1) c1.0 c1.1 in
    let c2 = bind_ok (tested_of is_kind (column row 2)) _ r c1.2 in
    let e2 = tested_so is_kind (column row 2) c2.0 c2.1 in
    let c3 = bind_ok (blob_of (column row 3)) _ r c2.2 in
    let e3 = blob_so (column row 3) c3.0 c3.1 in
    let c4 = bind_ok (number_of (column row 4)) _ r c3.2 in
    let e4 = number_so (column row 4) c4.0 c4.1 in
    let c5 = bind_ok (number_of (column row 5)) _ r c4.2 in
    let e5 = number_so (column row 5) c5.0 c5.1 in
    let found : CommandRow = record { number = c0.0; id = c1.0; kind = c2.0; bytes = c3.0; records = c4.0; placeholders = c5.0 } in
    let columns : row ≡ encode_command found = whole Null row 6 (eqb-true (length row) 6 all.0) ∙ ap₂ ◌∷◌ e0.0 (ap₂ ◌∷◌ e1.0 (ap₂ ◌∷◌ e2.0 (ap₂ ◌∷◌ e3 (ap₂ ◌∷◌ e4.0 (ap₂ ◌∷◌ e5.0 (refl)))))) in
    subst (λ r. (is_command r ≡ true) × (row ≡ encode_command r)) (same_value c5.2) (both (both (both (both e0.1 e1.1) (e2.1)) (e4.1)) (e5.1), columns)

pub command_complete : (r : CommandRow) → is_command r ≡ true → read_command (encode_command r) ≡ Ok r
unfolding read_command
command_complete r valid =
    let a4 = and_parts (is_number r.number && is_key 40 r.id && is_kind r.kind && is_number r.records) (is_number r.placeholders) valid in
    let a3 = and_parts (is_number r.number && is_key 40 r.id && is_kind r.kind) (is_number r.records) a4.0 in
    let a2 = and_parts (is_number r.number && is_key 40 r.id) (is_kind r.kind) a3.0 in
    let a1 = and_parts (is_number r.number) (is_key 40 r.id) a2.0 in
    bind_is _ r.number _ r (number_is r.number a1.0)
    (bind_is _ r.id _ r (tested_is (is_key 40) r.id (key_text 40 r.id a1.1) a1.1)
    (bind_is _ r.kind _ r (tested_is is_kind r.kind (kind_text r.kind a2.1) a2.1)
    (bind_is _ r.bytes _ r (blob_is r.bytes)
    (bind_is _ r.records _ r (number_is r.records a3.1)
    (bind_is _ r.placeholders _ r (number_is r.placeholders a4.1) refl)))))

-- ---- member

pub member_sound : (row : Row) (r : MemberRow) → read_member row ≡ Ok r → (is_member r ≡ true) × (row ≡ encode_member r)
unfolding read_member
member_sound row r h =
    let all = when_ok (length row == 4) (member_columns row) r h in
    let c0 = bind_ok (dim_of (column row 0)) _ r all.1 in
    let e0 = dim_so (column row 0) c0.0 c0.1 in
    let c1 = bind_ok (number_of (column row 1)) _ r c0.2 in
    let e1 = number_so (column row 1) c1.0 c1.1 in
    let c2 = bind_ok (tested_of (is_key 32) (column row 2)) _ r c1.2 in
    let e2 = tested_so (is_key 32) (column row 2) c2.0 c2.1 in
    let c3 = bind_ok (number_of (column row 3)) _ r c2.2 in
    let e3 = number_so (column row 3) c3.0 c3.1 in
    let found : MemberRow = record { dim = c0.0; durable = c1.0; natural = c2.0; opening = c3.0 } in
    let columns : row ≡ encode_member found = whole Null row 4 (eqb-true (length row) 4 all.0) ∙ ap₂ ◌∷◌ e0 (ap₂ ◌∷◌ e1.0 (ap₂ ◌∷◌ e2.0 (ap₂ ◌∷◌ e3.0 (refl)))) in
    subst (λ r. (is_member r ≡ true) × (row ≡ encode_member r)) (same_value c3.2) (both (both e1.1 e2.1) (e3.1), columns)

pub member_complete : (r : MemberRow) → is_member r ≡ true → read_member (encode_member r) ≡ Ok r
unfolding read_member
member_complete r valid =
    let a2 = and_parts (is_number r.durable && is_key 32 r.natural) (is_number r.opening) valid in
    let a1 = and_parts (is_number r.durable) (is_key 32 r.natural) a2.0 in
    bind_is _ r.dim _ r (dim_is r.dim)
    (bind_is _ r.durable _ r (number_is r.durable a1.0)
    (bind_is _ r.natural _ r (tested_is (is_key 32) r.natural (key_text 32 r.natural a1.1) a1.1)
    (bind_is _ r.opening _ r (number_is r.opening a2.1) refl)))

-- ---- change

pub change_sound : (row : Row) (r : ChangeRow) → read_change row ≡ Ok r → (is_change r ≡ true) × (row ≡ encode_change r)
unfolding read_change
change_sound row r h =
    let all = when_ok (length row == 12) (change_columns row) r h in
    let c0 = bind_ok (number_of (column row 0)) _ r all.1 in
    let e0 = number_so (column row 0) c0.0 c0.1 in
    let c1 = bind_ok (number_of (column row 1)) _ r c0.2 in
    let e1 = number_so (column row 1) c1.0 c1.1 in
    let c2 = bind_ok (dim_of (column row 2)) _ r c1.2 in
    let e2 = dim_so (column row 2) c2.0 c2.1 in
    let c3 = bind_ok (number_of (column row 3)) _ r c2.2 in
    let e3 = number_so (column row 3) c3.0 c3.1 in
    let c4 = bind_ok (day_of (column row 4)) _ r c3.2 in
    let e4 = day_so (column row 4) c4.0 c4.1 in
    let c5 = bind_ok (number_of (column row 5)) _ r c4.2 in
    let e5 = number_so (column row 5) c5.0 c5.1 in
    let c6 = bind_ok (slots_of row 6) _ r c5.2 in
    let e6 = slots_so row 6 c6.0 c6.1 in
    let found : ChangeRow = record { command = c0.0; place = c1.0; dim = c2.0; durable = c3.0; day = c4.0; anchor = c5.0; values = c6.0 } in
    let columns : row ≡ encode_change found = whole Null row 12 (eqb-true (length row) 12 all.0) ∙ ap₂ ◌∷◌ e0.0 (ap₂ ◌∷◌ e1.0 (ap₂ ◌∷◌ e2 (ap₂ ◌∷◌ e3.0 (ap₂ ◌∷◌ e4.0 (ap₂ ◌∷◌ e5.0 (ap₂ ◌∷◌ e6.1 (ap₂ ◌∷◌ e6.2 (ap₂ ◌∷◌ e6.3 (ap₂ ◌∷◌ e6.4 (ap₂ ◌∷◌ e6.5 (ap₂ ◌∷◌ e6.6 (refl)))))))))))) in
    subst (λ r. (is_change r ≡ true) × (row ≡ encode_change r)) (same_value c6.2) (both (both (both (both (both e0.1 e1.1) (e3.1)) (e4.1)) (e5.1)) (e6.0), columns)

pub change_complete : (r : ChangeRow) → is_change r ≡ true → read_change (encode_change r) ≡ Ok r
unfolding read_change
change_complete r valid =
    let a5 = and_parts (is_number r.command && is_number r.place && is_number r.durable && is_day r.day && is_number r.anchor) (are_slots r.values) valid in
    let a4 = and_parts (is_number r.command && is_number r.place && is_number r.durable && is_day r.day) (is_number r.anchor) a5.0 in
    let a3 = and_parts (is_number r.command && is_number r.place && is_number r.durable) (is_day r.day) a4.0 in
    let a2 = and_parts (is_number r.command && is_number r.place) (is_number r.durable) a3.0 in
    let a1 = and_parts (is_number r.command) (is_number r.place) a2.0 in
    bind_is _ r.command _ r (number_is r.command a1.0)
    (bind_is _ r.place _ r (number_is r.place a1.1)
    (bind_is _ r.dim _ r (dim_is r.dim)
    (bind_is _ r.durable _ r (number_is r.durable a2.1)
    (bind_is _ r.day _ r (day_is r.day a3.1)
    (bind_is _ r.anchor _ r (number_is r.anchor a4.1)
    (bind_is _ r.values _ r (slots_is (encode_change r) 6 r.values a5.1 refl refl refl refl refl refl) refl))))))

-- ---- dimension

pub dimension_sound : (dim : Dim) (row : Row) (r : DimRow) → read_dimension dim row ≡ Ok r → (is_dimension dim r ≡ true) × (row ≡ encode_dimension r)
unfolding read_dimension
dimension_sound dim row r h =
    let all = when_ok (length row == 19) (dimension_columns dim row) r h in
    let c0 = bind_ok (number_of (column row 0)) _ r all.1 in
    let e0 = number_so (column row 0) c0.0 c0.1 in
    let c1 = bind_ok (number_of (column row 1)) _ r c0.2 in
    let e1 = number_so (column row 1) c1.0 c1.1 in
    let c2 = bind_ok (tested_of (is_natural dim c0.0) (column row 2)) _ r c1.2 in
    let e2 = tested_so (is_natural dim c0.0) (column row 2) c2.0 c2.1 in
    let c3 = bind_ok (day_of (column row 3)) _ r c2.2 in
    let e3 = day_so (column row 3) c3.0 c3.1 in
    let c4 = bind_ok (day_of (column row 4)) _ r c3.2 in
    let e4 = day_so (column row 4) c4.0 c4.1 in
    let c5 = bind_ok (flag_of (column row 5)) _ r c4.2 in
    let e5 = flag_so (column row 5) c5.0 c5.1 in
    let c6 = bind_ok (slots_of row 6) _ r c5.2 in
    let e6 = slots_so row 6 c6.0 c6.1 in
    let c7 = bind_ok (slots_of row 12) _ r c6.2 in
    let e7 = slots_so row 12 c7.0 c7.1 in
    let c8 = bind_ok (number_of (column row 18)) _ r c7.2 in
    let e8 = number_so (column row 18) c8.0 c8.1 in
    let found : DimRow = record { surrogate = c0.0; durable = c1.0; natural = c2.0; from_day = c3.0; to_day = c4.0; is_current = c5.0; a = c6.0; b = c7.0; profile_now = c8.0 } in
    let columns : row ≡ encode_dimension found = whole Null row 19 (eqb-true (length row) 19 all.0) ∙ ap₂ ◌∷◌ e0.0 (ap₂ ◌∷◌ e1.0 (ap₂ ◌∷◌ e2.0 (ap₂ ◌∷◌ e3.0 (ap₂ ◌∷◌ e4.0 (ap₂ ◌∷◌ e5 (ap₂ ◌∷◌ e6.1 (ap₂ ◌∷◌ e6.2 (ap₂ ◌∷◌ e6.3 (ap₂ ◌∷◌ e6.4 (ap₂ ◌∷◌ e6.5 (ap₂ ◌∷◌ e6.6 (ap₂ ◌∷◌ e7.1 (ap₂ ◌∷◌ e7.2 (ap₂ ◌∷◌ e7.3 (ap₂ ◌∷◌ e7.4 (ap₂ ◌∷◌ e7.5 (ap₂ ◌∷◌ e7.6 (ap₂ ◌∷◌ e8.0 (refl))))))))))))))))))) in
    subst (λ r. (is_dimension dim r ≡ true) × (row ≡ encode_dimension r)) (same_value c8.2) (both (both (both (both (both (both (both e0.1 e1.1) (e2.1)) (e3.1)) (e4.1)) (e6.0)) (e7.0)) (e8.1), columns)

pub dimension_complete : (dim : Dim) (r : DimRow) → is_dimension dim r ≡ true → read_dimension dim (encode_dimension r) ≡ Ok r
unfolding read_dimension
dimension_complete dim r valid =
    let a7 = and_parts (is_number r.surrogate && is_number r.durable && is_natural dim r.surrogate r.natural && is_day r.from_day && is_day r.to_day && are_slots r.a && are_slots r.b) (is_number r.profile_now) valid in
    let a6 = and_parts (is_number r.surrogate && is_number r.durable && is_natural dim r.surrogate r.natural && is_day r.from_day && is_day r.to_day && are_slots r.a) (are_slots r.b) a7.0 in
    let a5 = and_parts (is_number r.surrogate && is_number r.durable && is_natural dim r.surrogate r.natural && is_day r.from_day && is_day r.to_day) (are_slots r.a) a6.0 in
    let a4 = and_parts (is_number r.surrogate && is_number r.durable && is_natural dim r.surrogate r.natural && is_day r.from_day) (is_day r.to_day) a5.0 in
    let a3 = and_parts (is_number r.surrogate && is_number r.durable && is_natural dim r.surrogate r.natural) (is_day r.from_day) a4.0 in
    let a2 = and_parts (is_number r.surrogate && is_number r.durable) (is_natural dim r.surrogate r.natural) a3.0 in
    let a1 = and_parts (is_number r.surrogate) (is_number r.durable) a2.0 in
    bind_is _ r.surrogate _ r (number_is r.surrogate a1.0)
    (bind_is _ r.durable _ r (number_is r.durable a1.1)
    (bind_is _ r.natural _ r (tested_is (is_natural dim r.surrogate) r.natural (natural_text dim r.surrogate r.natural a2.1) a2.1)
    (bind_is _ r.from_day _ r (day_is r.from_day a3.1)
    (bind_is _ r.to_day _ r (day_is r.to_day a4.1)
    (bind_is _ r.is_current _ r (flag_is r.is_current)
    (bind_is _ r.a _ r (slots_is (encode_dimension r) 6 r.a a5.1 refl refl refl refl refl refl)
    (bind_is _ r.b _ r (slots_is (encode_dimension r) 12 r.b a6.1 refl refl refl refl refl refl)
    (bind_is _ r.profile_now _ r (number_is r.profile_now a7.1) refl))))))))

-- ---- profile

pub profile_sound : (row : Row) (r : ProfileRow) → read_profile row ≡ Ok r → (is_profile r ≡ true) × (row ≡ encode_profile r)
unfolding read_profile
profile_sound row r h =
    let all = when_ok (length row == 7) (profile_columns row) r h in
    let c0 = bind_ok (number_of (column row 0)) _ r all.1 in
    let e0 = number_so (column row 0) c0.0 c0.1 in
    let c1 = bind_ok (slots_of row 1) _ r c0.2 in
    let e1 = slots_so row 1 c1.0 c1.1 in
    let found : ProfileRow = record { number = c0.0; values = c1.0 } in
    let columns : row ≡ encode_profile found = whole Null row 7 (eqb-true (length row) 7 all.0) ∙ ap₂ ◌∷◌ e0.0 (ap₂ ◌∷◌ e1.1 (ap₂ ◌∷◌ e1.2 (ap₂ ◌∷◌ e1.3 (ap₂ ◌∷◌ e1.4 (ap₂ ◌∷◌ e1.5 (ap₂ ◌∷◌ e1.6 (refl))))))) in
    subst (λ r. (is_profile r ≡ true) × (row ≡ encode_profile r)) (same_value c1.2) (both e0.1 e1.0, columns)

pub profile_complete : (r : ProfileRow) → is_profile r ≡ true → read_profile (encode_profile r) ≡ Ok r
unfolding read_profile
profile_complete r valid =
    let a1 = and_parts (is_number r.number) (are_slots r.values) valid in
    bind_is _ r.number _ r (number_is r.number a1.0)
    (bind_is _ r.values _ r (slots_is (encode_profile r) 1 r.values a1.1 refl refl refl refl refl refl) refl)

-- ---- date

pub date_sound : (row : Row) (r : DateRow) → read_date row ≡ Ok r → (is_date r ≡ true) × (row ≡ encode_date r)
unfolding read_date
date_sound row r h =
    let all = when_ok (length row == 11) (date_columns row) r h in
    let c0 = bind_ok (day_of (column row 0)) _ r all.1 in
    let e0 = day_so (column row 0) c0.0 c0.1 in
    let c1 = bind_ok (text_of (column row 1)) _ r c0.2 in
    let e1 = text_so (column row 1) c1.0 c1.1 in
    let c2 = bind_ok (integer_of (column row 2)) _ r c1.2 in
    let e2 = integer_so (column row 2) c2.0 c2.1 in
    let c3 = bind_ok (integer_of (column row 3)) _ r c2.2 in
    let e3 = integer_so (column row 3) c3.0 c3.1 in
    let c4 = bind_ok (integer_of (column row 4)) _ r c3.2 in
    let e4 = integer_so (column row 4) c4.0 c4.1 in
    let c5 = bind_ok (integer_of (column row 5)) _ r c4.2 in
    let e5 = integer_so (column row 5) c5.0 c5.1 in
    let c6 = bind_ok (integer_of (column row 6)) _ r c5.2 in
    let e6 = integer_so (column row 6) c6.0 c6.1 in
    let c7 = bind_ok (integer_of (column row 7)) _ r c6.2 in
    let e7 = integer_so (column row 7) c7.0 c7.1 in
    let c8 = bind_ok (text_of (column row 8)) _ r c7.2 in
    let e8 = text_so (column row 8) c8.0 c8.1 in
    let c9 = bind_ok (flag_of (column row 9)) _ r c8.2 in
    let e9 = flag_so (column row 9) c9.0 c9.1 in
    let c10 = bind_ok (text_of (column row 10)) _ r c9.2 in
    let e10 = text_so (column row 10) c10.0 c10.1 in
    let found : DateRow = record { date_key = c0.0; iso = c1.0; year = c2.0; quarter = c3.0; month = c4.0; day = c5.0; day_of_year = c6.0; weekday = c7.0; weekday_name = c8.0; weekend = c9.0; holiday = c10.0 } in
    let columns : row ≡ encode_date found = whole Null row 11 (eqb-true (length row) 11 all.0) ∙ ap₂ ◌∷◌ e0.0 (ap₂ ◌∷◌ e1.0 (ap₂ ◌∷◌ e2 (ap₂ ◌∷◌ e3 (ap₂ ◌∷◌ e4 (ap₂ ◌∷◌ e5 (ap₂ ◌∷◌ e6 (ap₂ ◌∷◌ e7 (ap₂ ◌∷◌ e8.0 (ap₂ ◌∷◌ e9 (ap₂ ◌∷◌ e10.0 (refl))))))))))) in
    subst (λ r. (is_date r ≡ true) × (row ≡ encode_date r)) (same_value c10.2) (both (both (both e0.1 e1.1) (e8.1)) (e10.1), columns)

pub date_complete : (r : DateRow) → is_date r ≡ true → read_date (encode_date r) ≡ Ok r
unfolding read_date
date_complete r valid =
    let a3 = and_parts (is_day r.date_key && is_utf8 r.iso && is_utf8 r.weekday_name) (is_utf8 r.holiday) valid in
    let a2 = and_parts (is_day r.date_key && is_utf8 r.iso) (is_utf8 r.weekday_name) a3.0 in
    let a1 = and_parts (is_day r.date_key) (is_utf8 r.iso) a2.0 in
    bind_is _ r.date_key _ r (day_is r.date_key a1.0)
    (bind_is _ r.iso _ r (text_is r.iso a1.1)
    (bind_is _ r.year _ r (integer_is r.year)
    (bind_is _ r.quarter _ r (integer_is r.quarter)
    (bind_is _ r.month _ r (integer_is r.month)
    (bind_is _ r.day _ r (integer_is r.day)
    (bind_is _ r.day_of_year _ r (integer_is r.day_of_year)
    (bind_is _ r.weekday _ r (integer_is r.weekday)
    (bind_is _ r.weekday_name _ r (text_is r.weekday_name a2.1)
    (bind_is _ r.weekend _ r (flag_is r.weekend)
    (bind_is _ r.holiday _ r (text_is r.holiday a3.1) refl))))))))))

-- ---- fact

-- the columns of a fact, in whatever row they stand first
fact_columns_sound : (row : Row) (r : Fact) → fact_columns row ≡ Ok r → (is_fact r ≡ true) × (column row 0 ∷ column row 1 ∷ column row 2 ∷ column row 3 ∷ column row 4 ∷ column row 5 ∷ column row 6 ∷ column row 7 ∷ column row 8 ∷ column row 9 ∷ column row 10 ∷ column row 11 ∷ column row 12 ∷ [] ≡ encode_fact r)
fact_columns_sound row r h =
    let c0 = bind_ok (tested_of (is_key 20) (column row 0)) _ r h in
    let e0 = tested_so (is_key 20) (column row 0) c0.0 c0.1 in
    let c1 = bind_ok (line_of (column row 1)) _ r c0.2 in
    let e1 = line_so (column row 1) c1.0 c1.1 in
    let c2 = bind_ok (day_of (column row 2)) _ r c1.2 in
    let e2 = day_so (column row 2) c2.0 c2.1 in
    let c3 = bind_ok (number_of (column row 3)) _ r c2.2 in
    let e3 = number_so (column row 3) c3.0 c3.1 in
    let c4 = bind_ok (number_of (column row 4)) _ r c3.2 in
    let e4 = number_so (column row 4) c4.0 c4.1 in
    let c5 = bind_ok (number_of (column row 5)) _ r c4.2 in
    let e5 = number_so (column row 5) c5.0 c5.1 in
    let c6 = bind_ok (number_of (column row 6)) _ r c5.2 in
    let e6 = number_so (column row 6) c6.0 c6.1 in
    let c7 = bind_ok (number_of (column row 7)) _ r c6.2 in
    let e7 = number_so (column row 7) c7.0 c7.1 in
    let c8 = bind_ok (number_of (column row 8)) _ r c7.2 in
    let e8 = number_so (column row 8) c8.0 c8.1 in
    let c9 = bind_ok (number_of (column row 9)) _ r c8.2 in
    let e9 = number_so (column row 9) c9.0 c9.1 in
    let c10 = bind_ok (measure_of 9999 (column row 10)) _ r c9.2 in
    let e10 = measure_so 9999 (column row 10) c10.0 c10.1 in
    let c11 = bind_ok (measure_of 999999999 (column row 11)) _ r c10.2 in
    let e11 = measure_so 999999999 (column row 11) c11.0 c11.1 in
    let c12 = bind_ok (measure_of 999999999 (column row 12)) _ r c11.2 in
    let e12 = measure_so 999999999 (column row 12) c12.0 c12.1 in
    let found : Fact = record { ticket = c0.0; line = c1.0; day = c2.0; keys = record { store_key = c3.0; product_key = c4.0; customer_key = c5.0; profile = c9.0 }; store_durable = c6.0; product_durable = c7.0; customer_durable = c8.0; quantity = c10.0; amount = c11.0; cost = c12.0; discount = 0 } in
    let columns = ap₂ ◌∷◌ e0.0 (ap₂ ◌∷◌ e1.0 (ap₂ ◌∷◌ e2.0 (ap₂ ◌∷◌ e3.0 (ap₂ ◌∷◌ e4.0 (ap₂ ◌∷◌ e5.0 (ap₂ ◌∷◌ e6.0 (ap₂ ◌∷◌ e7.0 (ap₂ ◌∷◌ e8.0 (ap₂ ◌∷◌ e9.0 (ap₂ ◌∷◌ e10.0 (ap₂ ◌∷◌ e11.0 (ap₂ ◌∷◌ e12.0 (refl))))))))))))) in
    subst (λ r. (is_fact r ≡ true) × (column row 0 ∷ column row 1 ∷ column row 2 ∷ column row 3 ∷ column row 4 ∷ column row 5 ∷ column row 6 ∷ column row 7 ∷ column row 8 ∷ column row 9 ∷ column row 10 ∷ column row 11 ∷ column row 12 ∷ [] ≡ encode_fact r)) (same_value c12.2) (both (both (both (both (both (both (both (both (both (both (both (both (both e0.1 e1.1) (e2.1)) (e3.1)) (e4.1)) (e5.1)) (e6.1)) (e7.1)) (e8.1)) (e9.1)) (e10.1)) (e11.1)) (e12.1)) refl, columns)

pub fact_sound : (row : Row) (r : Fact) → read_fact row ≡ Ok r → (is_fact r ≡ true) × (row ≡ encode_fact r)
unfolding read_fact
fact_sound row r h =
    let all = when_ok (length row == 13) (fact_columns row) r h in
    let found = fact_columns_sound row r all.1 in
    (found.0, whole Null row 13 (eqb-true (length row) 13 all.0) ∙ found.1)

-- a fact's columns are read as the fact without its discount, whatever stands behind them
fact_columns_complete : (r : Fact) (more : Row) → has_good_columns r ≡ true → fact_columns (encode_fact r ++ more) ≡ Ok (record r { discount = 0 })
fact_columns_complete r more valid =
    let a12 = and_parts (is_key 20 r.ticket && is_line r.line && is_day r.day && is_number r.keys.store_key && is_number r.keys.product_key && is_number r.keys.customer_key && is_number r.store_durable && is_number r.product_durable && is_number r.customer_durable && is_number r.keys.profile && is_measure 9999 r.quantity && is_measure 999999999 r.amount) (is_measure 999999999 r.cost) valid in
    let a11 = and_parts (is_key 20 r.ticket && is_line r.line && is_day r.day && is_number r.keys.store_key && is_number r.keys.product_key && is_number r.keys.customer_key && is_number r.store_durable && is_number r.product_durable && is_number r.customer_durable && is_number r.keys.profile && is_measure 9999 r.quantity) (is_measure 999999999 r.amount) a12.0 in
    let a10 = and_parts (is_key 20 r.ticket && is_line r.line && is_day r.day && is_number r.keys.store_key && is_number r.keys.product_key && is_number r.keys.customer_key && is_number r.store_durable && is_number r.product_durable && is_number r.customer_durable && is_number r.keys.profile) (is_measure 9999 r.quantity) a11.0 in
    let a9 = and_parts (is_key 20 r.ticket && is_line r.line && is_day r.day && is_number r.keys.store_key && is_number r.keys.product_key && is_number r.keys.customer_key && is_number r.store_durable && is_number r.product_durable && is_number r.customer_durable) (is_number r.keys.profile) a10.0 in
    let a8 = and_parts (is_key 20 r.ticket && is_line r.line && is_day r.day && is_number r.keys.store_key && is_number r.keys.product_key && is_number r.keys.customer_key && is_number r.store_durable && is_number r.product_durable) (is_number r.customer_durable) a9.0 in
    let a7 = and_parts (is_key 20 r.ticket && is_line r.line && is_day r.day && is_number r.keys.store_key && is_number r.keys.product_key && is_number r.keys.customer_key && is_number r.store_durable) (is_number r.product_durable) a8.0 in
    let a6 = and_parts (is_key 20 r.ticket && is_line r.line && is_day r.day && is_number r.keys.store_key && is_number r.keys.product_key && is_number r.keys.customer_key) (is_number r.store_durable) a7.0 in
    let a5 = and_parts (is_key 20 r.ticket && is_line r.line && is_day r.day && is_number r.keys.store_key && is_number r.keys.product_key) (is_number r.keys.customer_key) a6.0 in
    let a4 = and_parts (is_key 20 r.ticket && is_line r.line && is_day r.day && is_number r.keys.store_key) (is_number r.keys.product_key) a5.0 in
    let a3 = and_parts (is_key 20 r.ticket && is_line r.line && is_day r.day) (is_number r.keys.store_key) a4.0 in
    let a2 = and_parts (is_key 20 r.ticket && is_line r.line) (is_day r.day) a3.0 in
    let a1 = and_parts (is_key 20 r.ticket) (is_line r.line) a2.0 in
    let made : Fact = record r { discount = 0 } in
    bind_is _ r.ticket _ made (tested_is (is_key 20) r.ticket (key_text 20 r.ticket a1.0) a1.0)
    (bind_is _ r.line _ made (line_is r.line a1.1)
    (bind_is _ r.day _ made (day_is r.day a2.1)
    (bind_is _ r.keys.store_key _ made (number_is r.keys.store_key a3.1)
    (bind_is _ r.keys.product_key _ made (number_is r.keys.product_key a4.1)
    (bind_is _ r.keys.customer_key _ made (number_is r.keys.customer_key a5.1)
    (bind_is _ r.store_durable _ made (number_is r.store_durable a6.1)
    (bind_is _ r.product_durable _ made (number_is r.product_durable a7.1)
    (bind_is _ r.customer_durable _ made (number_is r.customer_durable a8.1)
    (bind_is _ r.keys.profile _ made (number_is r.keys.profile a9.1)
    (bind_is _ r.quantity _ made (measure_is 9999 r.quantity a10.1)
    (bind_is _ r.amount _ made (measure_is 999999999 r.amount a11.1)
    (bind_is _ r.cost _ made (measure_is 999999999 r.cost a12.1) refl))))))))))))

pub fact_complete : (r : Fact) → is_fact r ≡ true → read_fact (encode_fact r) ≡ Ok r
unfolding read_fact
fact_complete r valid =
    let parts = and_parts (has_good_columns r) (r.discount == 0) valid in
    fact_columns_complete r [] parts.0 ∙ ap (λ d. Ok (record r { discount = d })) (sym (eqb-true r.discount 0 parts.1))

-- ---- fact2

pub fact2_sound : (row : Row) (r : Fact) → read_fact2 row ≡ Ok r → (is_fact2 r ≡ true) × (row ≡ encode_fact2 r)
unfolding read_fact2
fact2_sound row r h =
    let all = when_ok (length row == 14) (fact2_columns row) r h in
    let c0 = bind_ok (fact_columns row) _ r all.1 in
    let e0 = fact_columns_sound row c0.0 c0.1 in
    let c1 = bind_ok (discount_of (column row 13)) _ r c0.2 in
    let e1 = discount_so (column row 13) c1.0 c1.1 in
    let found : Fact = record c0.0 { discount = c1.0 } in
    let columns : row ≡ encode_fact2 found = whole Null row 14 (eqb-true (length row) 14 all.0) ∙ ap₂ (λ (l : Row) d. l ++ d ∷ []) e0.1 e1.0 in
    subst (λ r. (is_fact2 r ≡ true) × (row ≡ encode_fact2 r)) (same_value c1.2) (both (and_parts (has_good_columns c0.0) (c0.0.discount == 0) e0.0).0 e1.1, columns)

pub fact2_complete : (r : Fact) → is_fact2 r ≡ true → read_fact2 (encode_fact2 r) ≡ Ok r
unfolding read_fact2
fact2_complete r valid =
    let parts = and_parts (has_good_columns r) (is_discount r.discount) valid in
    bind_is _ (record r { discount = 0 }) _ r (fact_columns_complete r (Int (pos r.discount) ∷ []) parts.0)
    (bind_is _ r.discount _ r (discount_is r.discount parts.1) refl)

-- ---- void

pub void_sound : (row : Row) (r : VoidRow) → read_void row ≡ Ok r → (is_void r ≡ true) × (row ≡ encode_void r)
unfolding read_void
void_sound row r h =
    let all = when_ok (length row == 3) (void_columns row) r h in
    let c0 = bind_ok (tested_of (is_key 20) (column row 0)) _ r all.1 in
    let e0 = tested_so (is_key 20) (column row 0) c0.0 c0.1 in
    let c1 = bind_ok (line_of (column row 1)) _ r c0.2 in
    let e1 = line_so (column row 1) c1.0 c1.1 in
    let c2 = bind_ok (number_of (column row 2)) _ r c1.2 in
    let e2 = number_so (column row 2) c2.0 c2.1 in
    let found : VoidRow = record { ticket = c0.0; line = c1.0; command = c2.0 } in
    let columns : row ≡ encode_void found = whole Null row 3 (eqb-true (length row) 3 all.0) ∙ ap₂ ◌∷◌ e0.0 (ap₂ ◌∷◌ e1.0 (ap₂ ◌∷◌ e2.0 refl)) in
    subst (λ r. (is_void r ≡ true) × (row ≡ encode_void r)) (same_value c2.2) (both (both e0.1 e1.1) e2.1, columns)

pub void_complete : (r : VoidRow) → is_void r ≡ true → read_void (encode_void r) ≡ Ok r
unfolding read_void
void_complete r valid =
    let a2 = and_parts (is_key 20 r.ticket && is_line r.line) (is_number r.command) valid in
    let a1 = and_parts (is_key 20 r.ticket) (is_line r.line) a2.0 in
    bind_is _ r.ticket _ r (tested_is (is_key 20) r.ticket (key_text 20 r.ticket a1.0) a1.0)
    (bind_is _ r.line _ r (line_is r.line a1.1)
    (bind_is _ r.command _ r (number_is r.command a2.1) refl))
