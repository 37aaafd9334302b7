-- What a batch of one dimension leaves as it was.
use Rattle.std.proofs.Common.{◌≡◌, ℕ, zero, suc, ◌==◌, true, false, List, [], ◌∷◌, ◌++◌, Some, refl, sym, ◌∙◌, ap, append-nil}
use Rattle.std.specs.Prelude.{find, bytes_eq}
use Rattle.std.specs.Option.{option_and_then}
use Rattle.std.specs.List.{list_any}
use Rattle.std.proofs.lemmas.Grind.{flat_map-append}
use Rattle.wh_policy.specs.declared.attribute.Dim.{Dim}
use Rattle.wh_policy.specs.declared.attribute.Dim.TheVariants.{Product, Store, Customer}
use Rattle.wh_policy.specs.declared.record.DimensionRecord.{DimensionRecord}
use Rattle.wh_history.specs.Keys.{at_place, distinct}
use Rattle.wh_history.specs.Accepted.{Accepted, Describes, Anchor, same_anchor, same_dim, anchors_by, described_by, mentions, described, anchors, types_in, profiles_of, member_of, sold, sold_by, withdrawn, standing_but, standing}
use Rattle.wh_history.specs.Laws.{governs, mentions_member}
use Rattle.wh_history.specs.Profiles.{combinations_of}
use Rattle.wh_history.specs.Rows.{rows}
use Rattle.wh_history.specs.Tables.{member_rows, numbered_row, dimension_row, no_card_row}
use Rattle.wh_history.specs.declared.rows.DimRow.{DimRow}
use Rattle.wh_history.proofs.Batches.{member_same}
use Rattle.wh_history.proofs.Stays.{types-last, rows_stay}
use Rattle.wh_history.proofs.Untouched.{mentions-last, described-last}
use Rattle.wh_model.specs.Defined.{fact_at}
use Rattle.wh_rows.specs.declared.key.LineKey.{LineKey}
use Rattle.wh_model.specs.Laws.{ShowsNoProfile}
use Rattle.wh_model.proofs.GrownKeys.{then_same}
use Rattle.wh_model.proofs.StandingFacts.{fact_among}

pub same_dim_is : (a b : Dim) → same_dim a b ≡ true → a ≡ b
same_dim_is Product Product h = refl
same_dim_is Product Store h = cc
same_dim_is Product Customer h = cc
same_dim_is Store Product h = cc
same_dim_is Store Store h = refl
same_dim_is Store Customer h = cc
same_dim_is Customer Product h = cc
same_dim_is Customer Store h = cc
same_dim_is Customer Customer h = refl

-- a batch of a dimension says nothing of another
silent : (dim other : Dim) (rs : List DimensionRecord) → same_dim other dim ≡ false → described_by other (Describes dim rs) ≡ []
silent dim other rs h = rw h refl

unmentioned : (dim other : Dim) (rs : List DimensionRecord) → same_dim other dim ≡ false → anchors_by other (Describes dim rs) ≡ []
unmentioned dim other rs h = rw h refl

module _ (dim : Dim) (commands : List Accepted) (c : Accepted) (rs : List DimensionRecord) (is : c.content ≡ Describes dim rs) where
  abbrev after : List Accepted
  after = commands ++ c ∷ []

  no_policy : governs c.content ≡ false
  no_policy = ap governs is

  module _ (other : Dim) (apart : same_dim other dim ≡ false) where
    pub mentions_stay : mentions other after ≡ mentions other commands
    mentions_stay = mentions-last other commands c ∙ ap (λ ms. mentions other commands ++ ms) (ap (anchors_by other) is ∙ unmentioned dim other rs apart) ∙ append-nil (mentions other commands)

    described_stays : described other after ≡ described other commands
    described_stays = described-last other commands c ∙ ap (λ ds. described other commands ++ ds) (ap (described_by other) is ∙ silent dim other rs apart) ∙ append-nil (described other commands)

    pub member_stays : (natural : List ℕ) → member_of other after natural ≡ member_of other commands natural
    member_stays natural = member_same other after commands mentions_stay described_stays natural

    no_mention : (natural : List ℕ) → mentions_member other c natural ≡ false
    no_mention natural = ap (list_any (λ (a : Anchor). bytes_eq a.natural natural)) (ap (anchors_by other) is ∙ unmentioned dim other rs apart)

    -- its members keep their rows where no profile is new, and where rows show none
    pub rows_by_profiles : profiles_of after ≡ profiles_of commands → (natural : List ℕ) → member_rows after other natural ≡ member_rows commands other natural
    rows_by_profiles numbered natural =
        ap (λ kinds. rows kinds (profiles_of after) (member_of other after natural)) (types-last other commands c no_policy)
        ∙ ap (λ combinations. rows (types_in other commands) combinations (member_of other after natural)) numbered
        ∙ ap (rows (types_in other commands) (profiles_of commands)) (member_stays natural)

    pub rows_by_types : ShowsNoProfile commands other → (natural : List ℕ) → member_rows after other natural ≡ member_rows commands other natural
    rows_by_types plain natural = rows_stay commands c no_policy other natural plain (no_mention natural)

    numbered_stays : ((natural : List ℕ) → member_rows after other natural ≡ member_rows commands other natural) → (key : ℕ) → numbered_row after other key ≡ numbered_row commands other key
    numbered_stays stay key =
        let row_in = λ (list : List Accepted) (a : Anchor). find (λ (r : DimRow). r.surrogate == key) (member_rows list other a.natural) in
        ap (λ ms. option_and_then (row_in after) (at_place key (distinct same_anchor ms))) mentions_stay
        ∙ then_same (row_in after) (row_in commands) (at_place key (anchors other commands)) (λ a _. ap (find (λ (r : DimRow). r.surrogate == key)) (stay a.natural))

  in_table : (other : Dim) → ((key : ℕ) → numbered_row after other key ≡ numbered_row commands other key) → (key : ℕ) → dimension_row after other key ≡ dimension_row commands other key
  in_table Product stays key = stays key
  in_table Store stays key = stays key
  in_table Customer stays zero = ap (λ kinds. Some (no_card_row kinds)) (types-last Customer commands c no_policy)
  in_table Customer stays (suc n) = stays (suc n)

  pub profiles_stay : same_dim Customer dim ≡ false → profiles_of after ≡ profiles_of commands
  profiles_stay apart =
      ap (λ kinds. combinations_of kinds (described Customer after)) (types-last Customer commands c no_policy)
      ∙ ap (combinations_of (types_in Customer commands)) (described_stays Customer apart)

  -- another dimension's table stays under a batch that brings no profiles, and where its rows show none
  pub table_stays : (other : Dim) → same_dim other dim ≡ false → same_dim Customer dim ≡ false → (key : ℕ) → dimension_row after other key ≡ dimension_row commands other key
  table_stays other apart plain key = in_table other (numbered_stays other apart (rows_by_profiles other apart (profiles_stay plain))) key

  pub plain_table_stays : (other : Dim) → same_dim other dim ≡ false → ShowsNoProfile commands other → (key : ℕ) → dimension_row after other key ≡ dimension_row commands other key
  plain_table_stays other apart plain key = in_table other (numbered_stays other apart (rows_by_types other apart plain)) key

  -- and where nothing was sold there is no fact
  pub sold_nothing : sold commands ≡ [] → sold after ≡ []
  sold_nothing none =
      flat_map-append (λ (d : Accepted). sold_by d.content) commands (c ∷ [])
      ∙ ap (λ ss. ss ++ (sold_by c.content ++ [])) none
      ∙ ap (λ content. sold_by content ++ []) is

  stands_nothing : (list : List Accepted) → sold list ≡ [] → standing list ≡ []
  stands_nothing list none = ap (standing_but (withdrawn list)) none

  pub no_fact : sold commands ≡ [] → (key : LineKey) → fact_at after key ≡ fact_at commands key
  no_fact none key = ap (λ ss. fact_among after ss key) (stands_nothing after (sold_nothing none)) ∙ sym (ap (λ ss. fact_among commands ss key) (stands_nothing commands none))
