-- A small history that can be accepted.
use Rattle.std.proofs.Common.{◌≡◌, ◌≤◌, List, [], ◌∷◌, length, refl, arith}
use Rattle.std.specs.Prelude.{codes, bytes_eq, map, Ok}
use Rattle.std.specs.Str.{is_utf8, chars}
use lib.Utf8.{encode}
use Rattle.std.specs.List.{AllByRecursion, IsDistinct}
use Rattle.wh_day.specs.Day.{is_day}
use Rattle.wh_day.specs.Value.{none_text, unknown_text, no_card_text, is_plain}
use Rattle.wh_policy.specs.Policy.{read_policy}
use Rattle.wh_policy.specs.declared.attribute.Dim.{Dim}
use Rattle.wh_policy.specs.declared.attribute.Dim.TheVariants.{Product, Store, Customer}
use Rattle.wh_policy.specs.declared.record.DimensionRecord.{DimensionRecord}
use Rattle.wh_history.specs.Accepted.{Accepted, Governs, Describes, types_in}
use Rattle.wh_history.specs.Accepted as history
use Rattle.wh_rows.specs.Types.{is_slot, is_special}
use Rattle.wh_model.specs.Sound.{IsGivenValue, IsGoodRecord, IsAccepted}
use Rattle.wh_engine.proofs.Worked.{policy, limits}

abbrev told : DimensionRecord
told = record { natural = codes "P1"; day = 20240110; values = codes "Acme" ∷ [] }

-- a making, and a batch of one record
abbrev commands : List Accepted
commands =
    record { id = codes "init"; kind = codes "init"; bytes = codes "policy"; content = Governs policy }
    ∷ record { id = codes "p1"; kind = codes "product"; bytes = codes "first"; content = Describes Product (told ∷ []) }
    ∷ []

acme : IsGivenValue (codes "Acme")
unfolding is_slot is_special is_plain none_text unknown_text no_card_text is_utf8 chars encode
acme = (refl, λ same. cc)

good : IsGoodRecord told
unfolding is_day
good = record { natural = refl; day = refl; few = omega arith; values = (acme, tt) }

apart : IsDistinct bytes_eq (map (λ (c : Accepted). c.id) commands)
unfolding IsDistinct
apart = ((refl, tt), (tt, tt))

few_slots : (dim : Dim) → length (types_in dim commands) ≤ 6
few_slots Product = omega arith
few_slots Store = omega arith
few_slots Customer = omega arith

good_records : (dim : Dim) → AllByRecursion IsGoodRecord (history.described dim commands)
good_records Product = (good, tt)
good_records Store = tt
good_records Customer = tt

-- where its text writes its policy
accepted : read_policy (codes "policy") ≡ Ok policy → IsAccepted limits commands
unfolding IsDistinct
accepted written = record {
  limited = refl;
  commands_within = omega arith;
  changes_within = omega arith;
  facts_within = omega arith;
  few_a_batch = omega arith;
  few_sales_a_batch = omega arith;
  begun = record { policy = policy; bytes = codes "policy"; rest = record { id = codes "p1"; kind = codes "product"; bytes = codes "first"; content = Describes Product (told ∷ []) } ∷ []; making = refl; written = written };
  policies = ((refl, written), (refl, tt));
  governed = refl;
  six = few_slots;
  ids = (refl, (refl, tt));
  kinds = (refl, (refl, tt));
  distinct = apart;
  records = good_records;
  sales = tt;
  lines = tt;
  undiscounted = λ _. tt;
  withdrawn_sold = tt;
  withdrawn_once = tt;
  unwithdrawn = λ _. refl;
}
