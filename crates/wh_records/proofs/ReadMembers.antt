-- What is carried of a dimension, by its members as they are read.
use Rattle.std.proofs.Common.{◌≡◌, ℕ, zero, suc, ◌≤◌, true, false, cond, List, [], ◌∷◌, ◌++◌, map, length, take, drop, refl, sym, ap, ◌∙◌, arith}
use Rattle.std.specs.Prelude.{flat_map}
use Rattle.std.specs.List.{AllByRecursion}
use Rattle.std.proofs.lemmas.Grind.{flat_map-append}
use Rattle.std.proofs.lemmas.List.{take_all}
use Rattle.wh_day.specs.NaturalKey.{is_key}
use Rattle.wh_policy.specs.declared.attribute.AttributeType.{AttributeType}
use Rattle.wh_policy.specs.declared.attribute.Dim.{Dim}
use Rattle.wh_policy.specs.declared.record.DimensionRecord.{DimensionRecord}
use Rattle.wh_history.specs.Accepted.{Accepted, types_in, members, member_of, changes_of}
use Rattle.wh_history.specs.Tables.{Limits}
use Rattle.wh_history.specs.declared.member.Change.{Change}
use Rattle.wh_history.specs.declared.member.Member.{Member}
use Rattle.wh_admission.specs.Admission.{AreAdmitted}
use Rattle.wh_records.specs.Carried.{dated_records, first_records, slots_in, kind_records, member_records, carried_of, members_between, carried_between, RangesAreJoined}
use Rattle.wh_records.specs.declared.member.RecordKind.{RecordKind}
use Rattle.wh_records.specs.declared.member.RecordKind.TheVariants.{First, Dated}
use Rattle.wh_records.proofs.WrittenRecords.{IsRecordable, are_recordable}

-- a member with a change has a key
keyed : (slots : ℕ) (natural : List ℕ) (changes : List Change) → AllByRecursion (IsRecordable slots natural) changes → is_key 32 natural ≡ false → changes ≡ []
keyed slots natural [] all none = refl
keyed slots natural (c ∷ cs) all none = let is = all.0.natural_is in absurd cc

by_key : (natural : List ℕ) (changes : List Change) (records : List Change → List DimensionRecord) → records [] ≡ [] → (is_key 32 natural ≡ false → changes ≡ []) → cond (is_key 32 natural) (records changes) [] ≡ records changes
by_key natural changes records nothing none = elim (is_key 32 natural) as (λ b. (is_key 32 natural ≡ b) → cond b (records changes) [] ≡ records changes) [
  | true ↦ λ e. refl
  | false ↦ λ e. sym (ap records (none e) ∙ nothing)
] refl

none_of : (kind : RecordKind) (kinds : List AttributeType) (natural : List ℕ) → kind_records kind kinds natural [] ≡ []
none_of First kinds natural = refl
none_of Dated kinds natural = refl

module _ (limits : Limits) (commands : List Accepted) (it : AreAdmitted limits commands) (dim : Dim) where
  each_keyed : (natural : List ℕ) → is_key 32 natural ≡ false → changes_of dim commands natural ≡ []
  each_keyed natural = keyed (slots_in dim commands) natural (changes_of dim commands natural) (are_recordable limits commands it dim natural)

  read_members : (kind : RecordKind) (ms : List (List ℕ)) → flat_map (member_records kind (types_in dim commands)) (map (member_of dim commands) ms) ≡ flat_map (λ natural. kind_records kind (types_in dim commands) natural (changes_of dim commands natural)) ms
  read_members kind [] = refl
  read_members kind (m ∷ ms) =
      ap (λ rs. rs ++ flat_map (member_records kind (types_in dim commands)) (map (member_of dim commands) ms)) (by_key m (changes_of dim commands m) (kind_records kind (types_in dim commands) m) (none_of kind (types_in dim commands) m) (each_keyed m))
      ∙ ap (λ rs. kind_records kind (types_in dim commands) m (changes_of dim commands m) ++ rs) (read_members kind ms)

  -- the records of a range of members that were read
  pub range_is_read : (kind : RecordKind) (types : List AttributeType) (ms : List Member) (after last : ℕ) → types ≡ types_in dim commands → ms ≡ map (member_of dim commands) (members_between dim commands after last)
      → flat_map (member_records kind types) ms ≡ carried_between kind dim commands after last
  range_is_read kind types ms after last types_are members_are =
      ap (λ ks. flat_map (member_records kind ks) ms) types_are ∙ ap (flat_map (member_records kind (types_in dim commands))) members_are ∙ read_members kind (members_between dim commands after last)

-- ---- ranges

ranges : {X : Type 0} (after middle last : ℕ) (xs : List X) → after ≤ middle → middle ≤ last → drop after (take last xs) ≡ drop after (take middle xs) ++ drop middle (take last xs)
ranges zero zero last xs le more = refl
ranges zero (suc middle) zero xs le more = absurd (omega arith)
ranges zero (suc middle) (suc last) [] le more = refl
ranges zero (suc middle) (suc last) (x ∷ xs) le more = ap (λ ys. x ∷ ys) (ranges zero middle last xs (omega arith) (omega arith))
ranges (suc after) zero last xs le more = absurd (omega arith)
ranges (suc after) (suc middle) zero xs le more = absurd (omega arith)
ranges (suc after) (suc middle) (suc last) [] le more = refl
ranges (suc after) (suc middle) (suc last) (x ∷ xs) le more = ranges after middle last xs (omega arith) (omega arith)

module _ (dim : Dim) (commands : List Accepted) where
  joined : (after middle last : ℕ) → after ≤ middle → middle ≤ last → members_between dim commands after last ≡ members_between dim commands after middle ++ members_between dim commands middle last
  joined after middle last le more = ranges after middle last (members dim commands) le more

  pub ranges_join : (kind : RecordKind) (after middle last : ℕ) → after ≤ middle → middle ≤ last → carried_between kind dim commands after last ≡ carried_between kind dim commands after middle ++ carried_between kind dim commands middle last
  ranges_join kind after middle last le more =
      let records : List ℕ → List DimensionRecord = λ natural. kind_records kind (types_in dim commands) natural (changes_of dim commands natural) in
      ap (flat_map records) (joined after middle last le more) ∙ flat_map-append records (members_between dim commands after middle) (members_between dim commands middle last)

  all_of : (last : ℕ) → length (members dim commands) ≤ last → members_between dim commands 0 last ≡ members dim commands
  all_of last within = take_all last (members dim commands) within

  -- all members are a range
  pub all_between : (kind : RecordKind) (last : ℕ) → length (members dim commands) ≤ last → carried_between kind dim commands 0 last ≡ carried_of kind dim commands
  all_between First last within = ap (flat_map (λ natural. first_records (types_in dim commands) natural (changes_of dim commands natural))) (all_of last within)
  all_between Dated last within = ap (flat_map (λ natural. dated_records (slots_in dim commands) natural (changes_of dim commands natural))) (all_of last within)

pub ranges_are_joined : (dim : Dim) (commands : List Accepted) → RangesAreJoined dim commands
ranges_are_joined dim commands = record {
  firsts = ranges_join dim commands First;
  dated = ranges_join dim commands Dated;
  all_firsts = all_between dim commands First;
  all_dated = all_between dim commands Dated;
}
