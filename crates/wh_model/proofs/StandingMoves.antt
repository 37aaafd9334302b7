-- A batch of records moves the facts of sales that stand, and gives no line one.
use Rattle.std.proofs.Common.{◌≡◌, ℕ, ◌==◌, ◌&&◌, Bool, List, [], ◌∷◌, ◌++◌, Option, Some, None, refl, sym, ap, ◌∙◌}
use Rattle.std.specs.Prelude.{bytes_eq, find, option_map}
use Rattle.wh_policy.specs.declared.attribute.Dim.{Dim}
use Rattle.wh_policy.specs.declared.attribute.Dim.TheVariants.{Product, Store, Customer}
use Rattle.wh_policy.specs.declared.record.DimensionRecord.{DimensionRecord}
use Rattle.wh_policy.specs.declared.record.SaleRecord.{SaleRecord}
use Rattle.wh_history.specs.Accepted.{Accepted, Describes, sold, standing, withdrawn}
use Rattle.wh_history.specs.Tables.{fact_of}
use Rattle.wh_history.specs.declared.facts.Fact.{Fact}
use Rattle.wh_history.proofs.Standing.{standing-kept, stands_sold}
use Rattle.wh_rows.specs.declared.key.LineKey.{LineKey}
use Rattle.wh_model.specs.Defined.{fact_at}
use Rattle.wh_model.specs.Laws.{ShowsNoProfile, LateRecordsMoveStandingFacts, followed, standing_at}
use Rattle.wh_model.proofs.Following.{late_records_move_facts}
use Rattle.wh_model.proofs.MovedKeys.{at_found}

module _ (commands : List Accepted) (c : Accepted) (dim : Dim) (records : List DimensionRecord) (is : c.content ≡ Describes dim records)
    (shown : dim ≡ Customer → ShowsNoProfile commands Product × ShowsNoProfile commands Store) (key : LineKey) where
  abbrev after : List Accepted
  after = commands ++ c ∷ []

  abbrev on : SaleRecord → Bool
  on s = bytes_eq s.ticket key.ticket && (s.line == key.line)

  -- the sale that stands was sold
  moved_one : (o : Option SaleRecord) → standing_at commands key ≡ o → option_map (fact_of after) o ≡ option_map (λ s. followed after dim s (fact_of commands s)) o
  moved_one None _ = refl
  moved_one (Some s) found =
      let at = at_found on (sold commands) s (stands_sold (withdrawn commands) key.ticket key.line (sold commands) s found).0 in
      ap Some (late_records_move_facts commands c dim records at.0 s is shown at.1)

  same_standing : standing after ≡ standing commands
  same_standing = standing-kept commands c (rw is refl) (rw is refl)

  pub moved : fact_at after key ≡ option_map (λ s. followed after dim s (fact_of commands s)) (standing_at commands key)
  moved = ap (λ (sales : List SaleRecord). option_map (fact_of after) (find on sales)) same_standing ∙ moved_one (standing_at commands key) refl

  pub none : fact_at commands key ≡ None → fact_at after key ≡ None
  none unsold =
      moved
      ∙ elim (standing_at commands key) as (λ o. option_map (fact_of commands) o ≡ None → option_map (λ s. followed after dim s (fact_of commands s)) o ≡ None) [
        | None ↦ λ _. refl
        | Some s ↦ λ some. absurd cc
      ] unsold

pub late_records_move_standing_facts : LateRecordsMoveStandingFacts
late_records_move_standing_facts commands c dim records key is shown = record {
  moved = moved commands c dim records is shown key;
  none = none commands c dim records is shown key;
}
