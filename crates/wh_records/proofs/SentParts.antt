-- The commands that carry members are accepted.
use Rattle.std.proofs.Common.{◌≡◌, ℕ, suc, ◌+◌, ◌≤◌, ◌<◌, true, false, nat_le, nat_lt, List, [], ◌∷◌, ◌++◌, length, map, Option, Some, None, Ok, refl, sym, ap, ◌∙◌, arith, append-nil, append_assoc, length-append}
use Rattle.std.specs.Prelude.{flat_map, find, bytes_eq, unwrap_or, codes}
use Rattle.std.specs.Option.{option_or}
use Rattle.std.specs.List.{AllByRecursion, IsDistinct}
use Rattle.std.proofs.lemmas.Bool.{lt-leb, le-ltb}
use Rattle.std.proofs.lemmas.Grind.{flat_map-append}
use Rattle.std.proofs.lemmas.List.{map-append}
use Rattle.std.proofs.lemmas.List.Folds.{find-append}
use Rattle.wh_policy.specs.Policy.{policy_attributes, trial_policy}
use Rattle.wh_policy.specs.Words.{every_dim}
use Rattle.wh_policy.specs.declared.attribute.Dim.{Dim}
use Rattle.wh_policy.specs.declared.attribute.Dim.TheVariants.{Product, Store, Customer}
use Rattle.wh_policy.specs.declared.policy.Policy.{Policy}
use Rattle.wh_policy.specs.declared.record.DimensionRecord.{DimensionRecord}
use Rattle.wh_batch.specs.declared.kind.CommandKind.TheVariants.{Batch}
use Rattle.wh_batch.specs.declared.kind.BatchKind.TheVariants.{Dimension}
use Rattle.wh_history.specs.Accepted.{Accepted, Content, Governs, Describes, policy_after, format_of, described, described_by, sold, sold_by}
use Rattle.wh_history.specs.Tables.{Limits}
use Rattle.wh_history.proofs.Joins.{all_append}
use Rattle.wh_history.proofs.Untouched.{described-last}
use Rattle.wh_rows.specs.Types.{is_key}
use Rattle.wh_model.specs.Sound.{init_of, changes_kept}
use Rattle.wh_admission.specs.Admission.{current_policy, content_of, accepted_as, number_for, accepted_after, accepted_after_all, AreAdmitted}
use Rattle.wh_admission.specs.declared.command.Command.{Command}
use Rattle.wh_admission.proofs.Migrated.{policy_with}
use Rattle.wh_records.specs.Texts.{records_text}
use Rattle.wh_records.specs.Carried.{firsts_of, records_of}
use Rattle.wh_records.specs.Parts.{parts, batches_of, carrying}
use Rattle.wh_records.specs.Laws.{AreABatch, IsInForce}
use Rattle.wh_records.specs.Sent.{DimensionPart, parts_of, part_command, part_commands, next_file, CarryingIsAccepted}
use Rattle.wh_records.proofs.Texts.{texts_are_read_again}
use Rattle.wh_records.proofs.CarriedBatches.{carried_records_are_batches}
use Rattle.wh_records.proofs.Carrying.{carrying_carries}

-- what is accepted of a part
abbrev accepted_part : Policy → List ℕ → DimensionPart → Accepted
accepted_part policy id part = accepted_as (part_command policy id part) (Describes part.dim part.records)

abbrev accepted_parts : Policy → List (List ℕ) → List DimensionPart → List Accepted
accepted_parts policy [] parts = []
accepted_parts policy (id ∷ ids) [] = []
accepted_parts policy (id ∷ ids) (part ∷ parts) = accepted_part policy id part ∷ accepted_parts policy ids parts

-- how many records they have
abbrev count_of : List DimensionPart → ℕ
count_of parts = length (flat_map (λ (part : DimensionPart). part.records) parts)

-- no command has the id
abbrev IsNew : List Accepted → List ℕ → Type 0
IsNew before id = find (λ (b : Accepted). bytes_eq b.id id) before ≡ None

-- one part more
more_changes : (before : List Accepted) (c : Accepted) (dim : Dim) (records : List DimensionRecord) → c.content ≡ Describes dim records → changes_kept (before ++ c ∷ []) ≡ changes_kept before + length records
more_changes before c dim records is =
    let by : (d : Dim) → length (described d (before ++ c ∷ [])) ≡ length (described d before) + length (described_by d (Describes dim records)) = λ d.
    ap length (described-last d before c) ∙ length-append (described d before) (described_by d c.content) ∙ ap (λ content. length (described d before) + length (described_by d content)) is in
    let p = by Product in
    let s = by Store in
    let k = by Customer in
    ap (λ n. n + length (described Store (before ++ c ∷ [])) + length (described Customer (before ++ c ∷ []))) p
    ∙ ap (λ n. length (described Product before) + length (described_by Product (Describes dim records)) + n + length (described Customer (before ++ c ∷ []))) s
    ∙ ap (λ n. length (described Product before) + length (described_by Product (Describes dim records)) + (length (described Store before) + length (described_by Store (Describes dim records))) + n) k
    ∙ all_of dim records (length (described Product before)) (length (described Store before)) (length (described Customer before))
  where
    all_of : (dim : Dim) (records : List DimensionRecord) (p s k : ℕ) → p + length (described_by Product (Describes dim records)) + (s + length (described_by Store (Describes dim records))) + (k + length (described_by Customer (Describes dim records))) ≡ p + s + k + length records
    all_of Product records p s k = omega arith
    all_of Store records p s k = omega arith
    all_of Customer records p s k = omega arith

sold_more : (before : List Accepted) (c : Accepted) (dim : Dim) (records : List DimensionRecord) → c.content ≡ Describes dim records → sold before ≡ [] → sold (before ++ c ∷ []) ≡ []
sold_more before c dim records is none =
    flat_map-append (λ (a : Accepted). sold_by a.content) before (c ∷ [])
    ∙ ap (λ ss. ss ++ (sold_by c.content ++ [])) none
    ∙ append-nil (sold_by c.content) ∙ ap sold_by is

new_more : (before : List Accepted) (c : Accepted) (ids : List (List ℕ)) → AllByRecursion (λ id. bytes_eq c.id id ≡ false) ids → AllByRecursion (IsNew before) ids → AllByRecursion (IsNew (before ++ c ∷ [])) ids
new_more before c [] apart new = tt
new_more before c (id ∷ ids) apart new =
    let other : bytes_eq c.id id ≡ false = apart.0 in
    let last : find (λ (b : Accepted). bytes_eq b.id id) (c ∷ []) ≡ None = rw other refl in (
      find-append (λ (b : Accepted). bytes_eq b.id id) before (c ∷ [])
          ∙ ap (λ (o : Option Accepted). option_or o (find (λ (b : Accepted). bytes_eq b.id id) (c ∷ []))) new.0
          ∙ last,
      new_more before c ids apart.1 new.1,
    )

-- a command whose content is read, where there is room for it, is accepted
taken_if : (limits : Limits) (before : List Accepted) (c : Command) (content : Content) → is_key 40 c.id ≡ true → IsNew before c.id → content_of c.kind (format_of before) (current_policy before) c.bytes ≡ Ok content
    → number_for limits before content ≡ Ok (suc (length before)) → accepted_after limits before c ≡ before ++ accepted_as c content ∷ []
taken_if limits before c content good new read numbered = rw (good, new, read, numbered, read) refl

module _ (limits : Limits) (policy : Policy) where
  -- what holds of the commands so far, and of the parts that come
  record IsReady (before : List Accepted) (ids : List (List ℕ)) (parts : List DimensionPart) : Type 0 where
    governed : policy_after None before ≡ Some policy
    unsold : sold before ≡ []
    changes : changes_kept before + count_of parts ≤ limits.changes
    commands : length before + length ids ≤ limits.commands
    good : AllByRecursion (λ id. is_key 40 id ≡ true) ids
    distinct : IsDistinct bytes_eq ids
    new : AllByRecursion (IsNew before) ids
    batches : AllByRecursion (λ (part : DimensionPart). AreABatch part.dim policy part.records) parts

  -- there is room for one
  numbered : (before : List Accepted) (dim : Dim) (records : List DimensionRecord) → sold before ≡ [] → length before < limits.commands → changes_kept before + length records ≤ limits.changes → number_for limits before (Describes dim records) ≡ Ok (suc (length before))
  numbered before dim records none fewer few =
      let room : nat_le limits.commands (length before) ≡ false = lt-leb limits.commands (length before) fewer in
      let left : nat_lt limits.changes (changes_kept before + length records) ≡ false = le-ltb limits.changes (changes_kept before + length records) few in
      let facts : nat_lt limits.facts (length (sold before) + 0) ≡ false = ap (λ ss. nat_lt limits.facts (length ss + 0)) none ∙ le-ltb limits.facts 0 (omega arith) in
      rw (room, left, facts) refl

  module _ (before : List Accepted) (id : List ℕ) (ids : List (List ℕ)) (part : DimensionPart) (parts : List DimensionPart) (ready : IsReady before (id ∷ ids) (part ∷ parts)) where
    joined : count_of (part ∷ parts) ≡ length part.records + count_of parts
    joined = length-append part.records (flat_map (λ (p : DimensionPart). p.records) parts)

    read : content_of (Batch (Dimension part.dim)) (format_of before) (current_policy before) (records_text (policy_attributes policy part.dim) part.records) ≡ Ok (Describes part.dim part.records)
    read =
        let force : current_policy before ≡ policy = ap (λ (o : Option Policy). unwrap_or o trial_policy) ready.governed in
        ap (λ (p : Policy). content_of (Batch (Dimension part.dim)) (format_of before) p (records_text (policy_attributes policy part.dim) part.records)) force
        ∙ rw (texts_are_read_again part.dim policy part.records ready.batches.0) refl

    taken : accepted_after limits before (part_command policy id part) ≡ before ++ accepted_part policy id part ∷ []
    taken =
        let changes = ready.changes in
        let commands = ready.commands in
        taken_if limits before (part_command policy id part) (Describes part.dim part.records) ready.good.0 ready.new.0 read
        (numbered before part.dim part.records ready.unsold (omega (arith, commands)) (omega (arith, changes, joined)))

    ready_more : IsReady (before ++ accepted_part policy id part ∷ []) ids parts
    unfolding IsDistinct
    ready_more =
        let changes = ready.changes in
        let commands = ready.commands in
        let kept = more_changes before (accepted_part policy id part) part.dim part.records refl in
        let longer = length-append before (accepted_part policy id part ∷ []) in
        record {
          governed = policy_with None before (accepted_part policy id part) ∙ ready.governed;
          unsold = sold_more before (accepted_part policy id part) part.dim part.records refl ready.unsold;
          changes = omega (arith, changes, kept, joined);
          commands = omega (arith, commands, longer);
          good = ready.good.1;
          distinct = ready.distinct.1;
          new = new_more before (accepted_part policy id part) ids ready.distinct.0 ready.new.1;
          batches = ready.batches.1;
        }

  all_taken : (before : List Accepted) (ids : List (List ℕ)) (parts : List DimensionPart) → IsReady before ids parts → accepted_after_all limits before (part_commands policy ids parts) ≡ before ++ accepted_parts policy ids parts
  all_taken before [] parts ready = sym (append-nil before)
  all_taken before (id ∷ ids) [] ready = sym (append-nil before)
  all_taken before (id ∷ ids) (part ∷ parts) ready =
      ap (λ list. accepted_after_all limits list (part_commands policy ids parts)) (taken before id ids part parts ready)
      ∙ all_taken (before ++ accepted_part policy id part ∷ []) ids parts (ready_more before id ids part parts ready)
      ∙ append_assoc before (accepted_part policy id part ∷ []) (accepted_parts policy ids parts)

-- ---- what they hold

contents_are : (policy : Policy) (ids : List (List ℕ)) (parts : List DimensionPart) → length ids ≡ length parts → map (λ (c : Accepted). c.content) (accepted_parts policy ids parts) ≡ map (λ (p : DimensionPart). Describes p.dim p.records) parts
contents_are policy [] [] as_many = refl
contents_are policy [] (part ∷ parts) as_many = absurd (omega arith)
contents_are policy (id ∷ ids) [] as_many = absurd (omega arith)
contents_are policy (id ∷ ids) (part ∷ parts) as_many =
    let fewer : length ids ≡ length parts = omega (arith, as_many) in
    ap (λ (cs : List Content). Describes part.dim part.records ∷ cs) (contents_are policy ids parts fewer)

counted : (policy : Policy) (ids : List (List ℕ)) (parts : List DimensionPart) → length ids ≡ length parts → length (accepted_parts policy ids parts) ≡ length ids
counted policy [] parts as_many = refl
counted policy (id ∷ ids) [] as_many = absurd (omega arith)
counted policy (id ∷ ids) (part ∷ parts) as_many = let fewer : length ids ≡ length parts = omega (arith, as_many) in ap suc (counted policy ids parts fewer)

parts_of_one : (dim : Dim) (batches : List (List DimensionRecord)) → map (λ (p : DimensionPart). Describes p.dim p.records) (map (λ part. record { dim = dim; records = part }) batches) ≡ map (Describes dim) batches
parts_of_one dim [] = refl
parts_of_one dim (b ∷ batches) = ap (λ (cs : List Content). Describes dim b ∷ cs) (parts_of_one dim batches)

parts_of_all : (batches : Dim → List (List DimensionRecord)) (dims : List Dim) → map (λ (p : DimensionPart). Describes p.dim p.records) (flat_map (λ dim. map (λ part. record { dim = dim; records = part }) (batches dim)) dims) ≡ flat_map (λ dim. map (Describes dim) (batches dim)) dims
parts_of_all batches [] = refl
parts_of_all batches (dim ∷ dims) =
    map-append (λ (p : DimensionPart). Describes p.dim p.records) (map (λ part. record { dim = dim; records = part }) (batches dim)) (flat_map (λ d. map (λ part. record { dim = d; records = part }) (batches d)) dims)
    ∙ ap (λ cs. cs ++ map (λ (p : DimensionPart). Describes p.dim p.records) (flat_map (λ d. map (λ part. record { dim = d; records = part }) (batches d)) dims)) (parts_of_one dim (batches dim))
    ∙ ap (λ cs. map (Describes dim) (batches dim) ++ cs) (parts_of_all batches dims)

-- each is a batch
module _ (limits : Limits) (commands : List Accepted) (policy : Policy) (it : AreAdmitted limits commands) (governed : IsInForce commands policy) where
  abbrev IsBatchPart : DimensionPart → Type 0
  IsBatchPart part = AreABatch part.dim policy part.records

  of_dim : (dim : Dim) (batches : List (List DimensionRecord)) → AllByRecursion (AreABatch dim policy) batches → AllByRecursion IsBatchPart (map (λ part. record { dim = dim; records = part }) batches)
  of_dim dim [] all = tt
  of_dim dim (b ∷ batches) all = (all.0, of_dim dim batches all.1)

  of_dims : (dims : List Dim) → AllByRecursion IsBatchPart (flat_map (λ dim. map (λ part. record { dim = dim; records = part }) (batches_of policy commands dim)) dims)
  of_dims [] = tt
  of_dims (dim ∷ dims) =
      let are = carried_records_are_batches limits commands dim policy it governed in
      let attributes = policy_attributes policy dim in
      all_append IsBatchPart (map (λ part. record { dim = dim; records = part }) (batches_of policy commands dim)) (flat_map (λ d. map (λ part. record { dim = d; records = part }) (batches_of policy commands d)) dims)
      (of_dim dim (batches_of policy commands dim) (all_append (AreABatch dim policy) (parts (policy_attributes policy dim) (firsts_of dim commands)) (parts (policy_attributes policy dim) (records_of dim commands)) are.0.batches are.1.batches))
      (of_dims dims)

-- ---- all of them

new_after_making : (policy : Policy) (bytes : List ℕ) (ids : List (List ℕ)) → AllByRecursion (λ id. bytes_eq (codes "init") id ≡ false) ids → AllByRecursion (IsNew (init_of policy bytes ∷ [])) ids
new_after_making policy bytes [] apart = tt
new_after_making policy bytes (id ∷ ids) apart = (rw apart.0 refl, new_after_making policy bytes ids apart.1)

pub carrying_is_accepted : CarryingIsAccepted
unfolding IsDistinct
carrying_is_accepted limits others commands policy bytes ids it governed written are =
    let list : List DimensionPart = parts_of policy commands in
    let making : Accepted = init_of policy bytes in
    let room = are.commands in
    let changes = are.changes in
    let next_is : next_file others policy bytes ids list ≡ making ∷ accepted_parts policy ids list =
    all_taken others policy (making ∷ []) ids list (record {
      governed = refl;
      unsold = refl;
      changes = omega (arith, changes);
      commands = omega (arith, room);
      good = are.good;
      distinct = are.distinct.1;
      new = new_after_making policy bytes ids are.distinct.0;
      batches = of_dims limits commands policy it governed every_dim;
    }) in
    let contents : map (λ (c : Accepted). c.content) (next_file others policy bytes ids list) ≡ carrying policy commands =
    ap (map (λ (c : Accepted). c.content)) next_is
    ∙ ap (λ (cs : List Content). Governs policy ∷ cs) (contents_are policy ids list are.as_many ∙ parts_of_all (batches_of policy commands) every_dim) in (
      record { limited = are.limited; policy = policy; bytes = bytes; written = written; sent = part_commands policy ids list; admitted = refl },
      carrying_carries limits commands (next_file others policy bytes ids list) policy it governed contents,
      ap length next_is ∙ ap suc (counted policy ids list are.as_many),
    )
