-- A part that is filled from records that come a few at a time.
use Rattle.std.specs.Prelude.{◌≡◌, ◌<◌, ◌||◌, ℕ, ◌+◌, ◌-◌, Bool, true, false, nat_le, nat_lt, List, ◌++◌, length, flat_map, drop, take}
use Rattle.wh_policy.specs.declared.attribute.Attribute.{Attribute}
use Rattle.wh_policy.specs.declared.record.DimensionRecord.{DimensionRecord}
use Rattle.wh_records.specs.Texts.{record_line, records_text}
use Rattle.wh_records.specs.Parts.{fitting, part_from}
use Rattle.wh_records.specs.declared.part.Filling.{Filling}

-- It is the part of these records that begins at this place. It knows how many of further ones stand before it, and whether one of these had no room.
pub record IsFilled (attributes : List Attribute) (place : ℕ) (records : List DimensionRecord) (f : Filling) : Type 0 where
  pub text : f.part.text.items ≡ records_text attributes (part_from attributes records place)
  pub counted : f.part.records ≡ length (part_from attributes records place)
  pub before : f.before ≡ place - length records
  pub full : f.is_full ≡ true → length (part_from attributes records place) < length (drop place records)
  pub whole : f.is_full ≡ false → length (part_from attributes records place) ≡ length (drop place records)

-- a record came that doesn't stand before it
abbrev pub is_begun : Filling → Bool
is_begun f = f.is_full || nat_le 1 f.part.records

-- how many of further records have room
abbrev pub room_for : Filling → List DimensionRecord → ℕ
room_for f records = fitting (5000 - f.part.records) (1000000 - length f.part.text.items) records

-- they are in it now
pub record IsFurther (old : Filling) (records : List DimensionRecord) (new : Filling) : Type 0 where
  pub text : new.part.text.items ≡ old.part.text.items ++ flat_map record_line (take (room_for old records) records)
  pub counted : new.part.records ≡ old.part.records + room_for old records
  pub before : new.before ≡ old.before
  pub full : new.is_full ≡ nat_lt (room_for old records) (length records)
