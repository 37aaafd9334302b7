-- What holds of each record of a dimension that was accepted: its batch had it, under a policy with no more attributes than the one in force.
use Rattle.std.proofs.Common.{◌≡◌, ℕ, ◌≤◌, ◌==◌, Bool, true, false, cond, not, leb, List, [], ◌∷◌, ◌++◌, length, map, Option, Some, None, Result, Ok, Err, refl, sym, ap, ◌∙◌, subst, arith, append_assoc, append-nil, inl, inr, length-append}
use Rattle.std.specs.Prelude.{unwrap_or, option_map, IsSome}
use Rattle.std.specs.List.{AllByRecursion}
use Rattle.std.proofs.lemmas.Bool.{eqb-true, not-false, leb-true}
use Rattle.std.proofs.lemmas.List.{length-map}
use Rattle.std.proofs.lemmas.Option.{cond_some}
use Rattle.wh_day.specs.Reading.{◌>>=◌}
use Rattle.wh_day.specs.Day.{is_day, read_day}
use Rattle.wh_day.specs.NaturalKey.{is_key}
use Rattle.wh_day.specs.Value.{is_given, read_value}
use Rattle.wh_day.proofs.Texts.{text_is}
use Rattle.wh_policy.specs.Names.{fits}
use Rattle.wh_policy.specs.Policy.{policy_attributes, policy_types, read_policy, trial_policy}
use Rattle.wh_policy.specs.declared.attribute.Attribute.{Attribute}
use Rattle.wh_policy.specs.declared.attribute.Dim.{Dim}
use Rattle.wh_policy.specs.declared.fault.PolicyFault.{PolicyFault}
use Rattle.wh_policy.specs.declared.policy.Policy.{Policy}
use Rattle.wh_policy.specs.declared.record.DimensionRecord.{DimensionRecord}
use Rattle.wh_policy.specs.declared.record.SaleRecord.{SaleRecord}
use Rattle.wh_policy.specs.declared.record.VoidRecord.{VoidRecord}
use Rattle.wh_policy.proofs.NameLaws.{fits_exactly}
use Rattle.wh_batch.specs.Fields.{key_of, day_of, last_effective_day, effective_day_of, value_of, values_of}
use Rattle.wh_batch.specs.Layouts.{dimension_record, dimension_layout, dimension_records}
use Rattle.wh_batch.specs.declared.fault.BatchFault.{BatchFault}
use Rattle.wh_batch.specs.declared.fault.FaultKind.{FaultKind}
use Rattle.wh_batch.specs.declared.fault.FaultKind.TheVariants.{BadKey, BadDay, BadValue}
use Rattle.wh_batch.specs.declared.kind.CommandKind.{CommandKind}
use Rattle.wh_batch.specs.declared.kind.CommandKind.TheVariants.{Batch, Migration, Upgrade}
use Rattle.wh_batch.specs.declared.kind.BatchKind.TheVariants.{Dimension, Sales, Voids}
use Rattle.wh_batch.proofs.GoodLemmas.{bind_ok, cond_ok, reads_batches}
use Rattle.wh_history.specs.Accepted.{Accepted, Content, Governs, Describes, Sells, Upgrades, Withdraws, same_dim, format_of, governed, policy_after, described, described_by}
use Rattle.wh_history.specs.Tables.{Limits}
use Rattle.wh_history.proofs.Joins.{all_append, all_weaker}
use Rattle.wh_history.proofs.Untouched.{described-last}
use Rattle.wh_model.specs.Sound.{init_of}
use Rattle.wh_model.proofs.GrownOthers.{same_dim_is}
use Rattle.wh_admission.specs.Admission.{current_policy, of_batch, of_file, judged_sales, judged_voids, content_of, AreAdmitted, IsOfItsBytes, AreOfTheirBytes}
use Rattle.wh_admission.specs.declared.command.Refusal.{Refusal}
use Rattle.wh_admission.specs.declared.command.Refusal.TheVariants.{Unfit}
use Rattle.wh_admission.proofs.Admitted.{admitted_sound, contents_are_read}
use Rattle.wh_admission.proofs.AdmittedSteps.{stepped}
use Rattle.wh_admission.proofs.GoodRecords.{read_ok, all_read}
use Rattle.wh_admission.proofs.Migrated.{policy_with}
use Rattle.wh_records.specs.Carried.{slots_in}
use Rattle.wh_records.specs.Laws.{IsReadValue}

-- a record that was read with so many attributes or fewer
pub record IsWritten (slots : ℕ) (r : DimensionRecord) : Type 0 where
  pub natural : is_key 32 r.natural ≡ true
  pub day : is_day r.day ≡ true
  pub early : r.day ≤ last_effective_day
  pub few : length r.values ≤ slots
  pub values : AllByRecursion IsReadValue r.values

-- ---- of one batch

test_ok : {A : Type 0} (b : Bool) (kind : FaultKind) (x y : A) → cond b (Ok x) (Err kind) ≡ Ok y → (b ≡ true) × (x ≡ y)
test_ok true kind x y h = (refl, cc)
test_ok false kind x y h = absurd cc

written_key : (field key : List ℕ) → key_of 32 field ≡ Ok key → is_key 32 key ≡ true
unfolding key_of
written_key field key h =
    let (passed, same) = test_ok (is_key 32 field) BadKey field key h in
    subst (λ text. is_key 32 text ≡ true) same passed

written_day : (field : List ℕ) (number : ℕ) → effective_day_of field ≡ Ok number → (is_day number ≡ true) × (number ≤ last_effective_day)
unfolding effective_day_of day_of
written_day field number h =
    let (read, found, more) = bind_ok (day_of field) _ number h in
    let (passed, same) = test_ok (leb read last_effective_day) BadDay read number more in
    let late : read ≤ last_effective_day = leb-true read last_effective_day passed in (
      subst (λ n. is_day n ≡ true) same (text_is field read (read_ok BadDay (read_day field) read found)).0,
      subst (λ n. n ≤ last_effective_day) same late,
    )

read_as : (field value : List ℕ) → read_value field ≡ Some value → IsReadValue value
unfolding read_value
read_as [] value h = inl (cc)
read_as (first ∷ rest) value h =
    let (passed, same) = cond_some (is_given (first ∷ rest)) (first ∷ rest) value h in
    inr (subst (λ v. is_given v ≡ true) same passed)

written_value : (field value : List ℕ) → value_of field ≡ Ok value → IsReadValue value
unfolding value_of
written_value field value h = read_as field value (read_ok BadValue (read_value field) value h)

written_values : (fields values : List (List ℕ)) → values_of fields ≡ Ok values → (length values ≡ length fields) × AllByRecursion IsReadValue values
unfolding values_of
written_values [] [] h = (refl, tt)
written_values [] (value ∷ values) h = absurd cc
written_values (field ∷ fields) values h =
    let (value, here, more) = bind_ok (value_of field) _ values h in
    let (others, rest, last) = bind_ok (values_of fields) _ values more in
    let e : value ∷ others ≡ values = cc in
    let next = written_values fields others rest in
    let count : length (value ∷ others) ≡ length (field ∷ fields) = let c = next.0 in omega (arith, c) in
    rw (← e) (count, (written_value field value here, next.1))

written_record : (attributes : ℕ) (fields : List (List ℕ)) (r : DimensionRecord) → dimension_record attributes fields ≡ Ok r → IsWritten attributes r
unfolding dimension_record
written_record attributes [] r h = absurd cc
written_record attributes (id ∷ []) r h = absurd cc
written_record attributes (id ∷ day ∷ fields) r h =
    let (counted, read) = cond_ok (not (length fields == attributes)) _ _ r h in
    let (natural, id_is, more) = bind_ok (key_of 32 id) _ r read in
    let (number, day_is, rest) = bind_ok (effective_day_of day) _ r more in
    let (values, values_are, last) = bind_ok (values_of fields) _ r rest in
    let made : DimensionRecord = record { natural = natural; day = number; values = values } in
    let e : made ≡ r = cc in
    let (as_many, all_read_) = written_values fields values values_are in
    let count : length fields ≡ attributes = eqb-true (length fields) attributes (not-false (length fields == attributes) counted) in
    let early = written_day day number day_is in
    rw (← e) (record { natural = written_key id natural id_is; day = early.0; early = early.1; few = omega (arith, as_many, count); values = all_read_ })

written_records : (dim : Dim) (policy : Policy) (bytes : List ℕ) (records : List DimensionRecord) → dimension_records dim policy bytes ≡ Ok records → AllByRecursion (IsWritten (length (policy_attributes policy dim))) records
unfolding dimension_records
written_records dim policy bytes records h =
    let batch = (reads_batches (dimension_layout (policy_attributes policy dim)) bytes records).0 h in
    all_read (dimension_record (length (policy_attributes policy dim))) (IsWritten (length (policy_attributes policy dim))) (λ fields r. written_record _ fields r) batch.rows records batch.each

-- ---- of all

wider : (slots more : ℕ) (r : DimensionRecord) → slots ≤ more → IsWritten slots r → IsWritten more r
wider slots more r le is = let few = is.few in record { natural = is.natural; day = is.day; early = is.early; few = omega (arith, few, le); values = is.values }

abbrev pub attributes_in : Dim → List Accepted → ℕ
attributes_in dim commands = length (policy_attributes (current_policy commands) dim)

abbrev AllWritten : List Accepted → Type 0
AllWritten commands = (dim : Dim) → AllByRecursion (IsWritten (attributes_in dim commands)) (described dim commands)

ok_is : {A F : Type 0} (x y : A) → ◌≡◌ {A = Result A F} (Ok x) (Ok y) → x ≡ y
ok_is x y e = cc

-- no attribute is lost
more_attributes : (older newer : Policy) (dim : Dim) → fits older newer ≡ true → length (policy_attributes older dim) ≤ length (policy_attributes newer dim)
more_attributes older newer dim fit =
    let (more, same) = ((fits_exactly older newer).0 fit).names dim in
    let counted = ap length same in
    let grown = length-append (map (λ (a : Attribute). a.name) (policy_attributes older dim)) more in
    let new = length-map (policy_attributes newer dim) (λ (a : Attribute). a.name) in
    let old = length-map (policy_attributes older dim) (λ (a : Attribute). a.name) in
    omega (arith, counted, grown, new, old)

module _ (before : List Accepted) (a : Accepted) (all : AllWritten before) where
  abbrev with_it : Content → List Accepted
  with_it content = before ++ record { id = a.id; kind = a.kind; bytes = a.bytes; content = content } ∷ []

  abbrev one : Content → Accepted
  one content = record { id = a.id; kind = a.kind; bytes = a.bytes; content = content }

  -- under a policy with as many attributes or more
  under : (content : Content) (policy : Policy) → current_policy (with_it content) ≡ policy
      → ((dim : Dim) → attributes_in dim before ≤ length (policy_attributes policy dim))
      → ((dim : Dim) → AllByRecursion (IsWritten (length (policy_attributes policy dim))) (described_by dim content))
      → AllWritten (with_it content)
  under content policy force le new dim =
      subst (λ (p : Policy). AllByRecursion (IsWritten (length (policy_attributes p dim))) (described dim (with_it content))) (sym force)
      (subst (AllByRecursion (IsWritten (length (policy_attributes policy dim)))) (sym (described-last dim before (one content)))
      (all_append (IsWritten (length (policy_attributes policy dim))) (described dim before) (described_by dim content)
      (all_weaker (IsWritten (attributes_in dim before)) (IsWritten (length (policy_attributes policy dim))) (λ r. wider _ _ r (le dim)) (described dim before) (all dim))
      (new dim)))

  same_policy : (content : Content) → governed (policy_after None before) content ≡ policy_after None before
      → ((dim : Dim) → AllByRecursion (IsWritten (attributes_in dim before)) (described_by dim content)) → AllWritten (with_it content)
  same_policy content same new =
      let force : current_policy (with_it content) ≡ current_policy before = ap (λ (o : Option Policy). unwrap_or o trial_policy) (policy_with None before (one content) ∙ same) in
      under content (current_policy before) force (λ dim. omega arith) new

  newer_policy : (newer : Policy) → fits (current_policy before) newer ≡ true → AllWritten (with_it (Governs newer))
  newer_policy newer fit =
      let force : current_policy (with_it (Governs newer)) ≡ newer = ap (λ (o : Option Policy). unwrap_or o trial_policy) (policy_with None before (one (Governs newer))) in
      under (Governs newer) newer force (λ dim. more_attributes (current_policy before) newer dim fit) (λ dim. tt)

  of_its_dimension : (other : Dim) (records : List DimensionRecord) → AllByRecursion (IsWritten (attributes_in other before)) records → (dim : Dim) → AllByRecursion (IsWritten (attributes_in dim before)) (described_by dim (Describes other records))
  of_its_dimension other records written dim =
      elim (same_dim dim other) as (λ b. (same_dim dim other ≡ b) → AllByRecursion (IsWritten (attributes_in dim before)) (cond b records [])) [
        | true ↦ λ e. subst (λ (d : Dim). AllByRecursion (IsWritten (attributes_in d before)) records) (sym (same_dim_is dim other e)) written
        | false ↦ λ e. tt
      ] refl

  of_records : (other : Dim) (r : Result (List DimensionRecord) BatchFault) (content : Content) → dimension_records other (current_policy before) a.bytes ≡ r → (of_batch r >>= λ records. Ok (Describes other records)) ≡ Ok content → AllWritten (with_it content)
  of_records other (Ok records) content is e = subst (λ x. AllWritten (with_it x)) (ok_is _ _ e) (same_policy (Describes other records) refl (of_its_dimension other records (written_records other (current_policy before) a.bytes records is)))
  of_records other (Err fault) content is e = absurd cc

  of_sales : (r : Result (List SaleRecord) Refusal) (content : Content) → (r >>= λ sales. Ok (Sells sales)) ≡ Ok content → AllWritten (with_it content)
  of_sales (Ok sales) content e = subst (λ x. AllWritten (with_it x)) (ok_is _ _ e) (same_policy (Sells sales) refl (λ dim. tt))
  of_sales (Err why) content e = absurd cc

  of_voids : (r : Result (List VoidRecord) Refusal) (content : Content) → (r >>= λ voids. Ok (Withdraws voids)) ≡ Ok content → AllWritten (with_it content)
  of_voids (Ok voids) content e = subst (λ x. AllWritten (with_it x)) (ok_is _ _ e) (same_policy (Withdraws voids) refl (λ dim. tt))
  of_voids (Err why) content e = absurd cc

  of_policy : (r : Result Policy PolicyFault) (content : Content) → ((of_file r >>= λ newer. cond (fits (current_policy before) newer) (Ok newer) (Err Unfit)) >>= λ newer. Ok (Governs newer)) ≡ Ok content → AllWritten (with_it content)
  of_policy (Ok newer) content e =
      elim (fits (current_policy before) newer) as (λ b. (fits (current_policy before) newer ≡ b) → ((cond b (Ok newer) (Err Unfit)) >>= λ newer. Ok (Governs newer)) ≡ Ok content → AllWritten (with_it content)) [
        | true ↦ λ fit same. subst (λ x. AllWritten (with_it x)) (ok_is _ _ same) (newer_policy newer fit)
        | false ↦ λ fit same. absurd cc
      ] refl e
  of_policy (Err fault) content e = absurd cc

  of_kind : (kind : CommandKind) (content : Content) → content_of kind (format_of before) (current_policy before) a.bytes ≡ Ok content → AllWritten (with_it content)
  of_kind (Batch (Dimension dim)) content e = of_records dim (dimension_records dim (current_policy before) a.bytes) content refl e
  of_kind (Batch Sales) content e = of_sales (judged_sales (format_of before) (current_policy before) a.bytes) content e
  of_kind (Batch Voids) content e = of_voids (judged_voids (format_of before) a.bytes) content e
  of_kind Migration content e = of_policy (read_policy a.bytes) content e
  of_kind Upgrade content e = subst (λ x. AllWritten (with_it x)) (ok_is _ _ e) (same_policy Upgrades refl (λ dim. tt))

  one_more : IsOfItsBytes before a → AllWritten (before ++ a ∷ [])
  one_more of_bytes = of_kind of_bytes.kind a.content of_bytes.content_is

all_more : (before later : List Accepted) → AllWritten before → AreOfTheirBytes before later → AllWritten (before ++ later)
all_more before [] all are = subst AllWritten (sym (append-nil before)) all
all_more before (a ∷ later) all are = subst AllWritten (append_assoc before (a ∷ []) later) (all_more (before ++ a ∷ []) later (one_more before a all are.0) are.1)

all_written : (limits : Limits) (commands : List Accepted) → AreAdmitted limits commands → AllWritten commands
all_written limits commands it =
    let steps = stepped limits commands it in
    let making = init_of steps.policy steps.bytes in
    let of_bytes = contents_are_read limits making steps.later (subst (AreAdmitted limits) steps.begins it) in
    subst AllWritten (sym steps.begins) (all_more (making ∷ []) steps.later (λ dim. tt) of_bytes)

-- ---- in slots

in_slots : (dim : Dim) (o : Option Policy) → IsSome o → length (policy_attributes (unwrap_or o trial_policy) dim) ≡ length (unwrap_or (option_map (λ policy. policy_types policy dim) o) [])
in_slots dim (Some policy) some = sym (length-map (policy_attributes policy dim) (λ (a : Attribute). a.kind))
in_slots dim None some = absurd cc

pub slots_are : (dim : Dim) (commands : List Accepted) → IsSome (policy_after None commands) → attributes_in dim commands ≡ slots_in dim commands
slots_are dim commands some = in_slots dim (policy_after None commands) some

pub records_written : (limits : Limits) (commands : List Accepted) (dim : Dim) → AreAdmitted limits commands → AllByRecursion (IsWritten (slots_in dim commands)) (described dim commands)
records_written limits commands dim it =
    subst (λ n. AllByRecursion (IsWritten n) (described dim commands)) (slots_are dim commands ((admitted_sound limits commands it).governed)) (all_written limits commands it dim)
