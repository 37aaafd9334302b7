-- Stored facts under a batch of records.
use Rattle.std.proofs.Common.{◌≡◌, ℕ, ◌<◌, true, false, List, [], ◌∷◌, ◌++◌, map, Some, None, refl, ap, ◌∙◌}
use Rattle.std.specs.Prelude.{bytes_eq, flat_map, option_map}
use Rattle.std.specs.List.{AllByRecursion, list_any}
use Rattle.std.proofs.lemmas.Slice.Eq.{bytes_eq-Decides}
use Rattle.wh_policy.specs.declared.attribute.Dim.{Dim}
use Rattle.wh_policy.specs.declared.attribute.Dim.TheVariants.{Product, Store, Customer}
use Rattle.wh_policy.specs.declared.record.DimensionRecord.{DimensionRecord}
use Rattle.wh_policy.specs.declared.record.SaleRecord.{SaleRecord}
use Rattle.wh_history.specs.Accepted.{Accepted, Anchor, Describes, same_dim, same_anchor, opening_of, member_of_sale, anchors_of_record, anchors_of_sale, anchors_by, described_by, sold_by, sold, mentions, durable_key, member_of, types_in, profiles_of}
use Rattle.wh_history.specs.Dated.{at, dated}
use Rattle.wh_history.specs.Facts.{key_in}
use Rattle.wh_history.specs.Laws.{governs}
use Rattle.wh_history.specs.Profiles.{current_profile}
use Rattle.wh_history.specs.Tables.{member_rows, key_at, profile_at, fact_of}
use Rattle.wh_history.proofs.Joins.{all_append, all_weaker, any_left, any_right}
use Rattle.wh_history.proofs.Growth.{durable_stays}
use Rattle.wh_history.proofs.Places.{place-distinct_given}
use Rattle.wh_history.proofs.Stays.{types-last}
use Rattle.wh_model.specs.Laws.{ShowsNoProfile, LateRecordsMoveFacts, followed}
use Rattle.wh_model.proofs.GrownChanges.{natural_among}
use Rattle.wh_model.proofs.GrownKeys.{all_at, map_same}
use Rattle.wh_model.proofs.GrownMembers.{opens_itself}
use Rattle.wh_model.proofs.GrownOthers.{member_stays, rows_by_profiles, rows_by_types, profiles_stay}

-- ---- the members that a sale names are mentioned

module _ (dim : Dim) where
  abbrev pub Names : List Anchor → SaleRecord → Type 0
  Names mentioned s = (natural : List ℕ) → member_of_sale dim s ≡ Some natural → list_any (λ a. same_anchor a (opening_of natural)) mentioned ≡ true

  names_itself : (s : SaleRecord) → Names (anchors_of_sale dim s) s
  names_itself s natural is = rw (is, opens_itself natural) refl

  names_in_sales : (sales : List SaleRecord) → AllByRecursion (Names (flat_map (anchors_of_sale dim) sales)) sales
  names_in_sales [] = tt
  names_in_sales (s ∷ sales) = (
    λ natural is. any_left (λ a. same_anchor a (opening_of natural)) (anchors_of_sale dim s) (flat_map (anchors_of_sale dim) sales) (names_itself s natural is),
    all_weaker (Names (flat_map (anchors_of_sale dim) sales)) (Names (flat_map (anchors_of_sale dim) (s ∷ sales)))
        (λ q named natural is. any_right (λ a. same_anchor a (opening_of natural)) (anchors_of_sale dim s) (flat_map (anchors_of_sale dim) sales) (named natural is)) sales (names_in_sales sales),
  )

  names_in_all : (cs : List Accepted) → AllByRecursion (Names (mentions dim cs)) (sold cs)
  names_in_all [] = tt
  names_in_all (c ∷ cs) =
      let told = flat_map anchors_of_record (described_by dim c.content) in
      let named_here = flat_map (anchors_of_sale dim) (sold_by c.content) in
      let here = anchors_by dim c.content in
      let in_command : AllByRecursion (Names here) (sold_by c.content) =
      all_weaker (Names named_here) (Names here) (λ q named natural is. any_right (λ a. same_anchor a (opening_of natural)) told named_here (named natural is)) (sold_by c.content) (names_in_sales (sold_by c.content)) in
      all_append (Names (mentions dim (c ∷ cs))) (sold_by c.content) (sold cs)
      (all_weaker (Names here) (Names (mentions dim (c ∷ cs))) (λ q named natural is. any_left (λ a. same_anchor a (opening_of natural)) here (mentions dim cs) (named natural is)) (sold_by c.content) in_command)
      (all_weaker (Names (mentions dim cs)) (Names (mentions dim (c ∷ cs))) (λ q named natural is. any_right (λ a. same_anchor a (opening_of natural)) here (mentions dim cs) (named natural is)) (sold cs) (names_in_all cs))

-- each of the three that a sale names is mentioned
abbrev pub Named : List Accepted → SaleRecord → Type 0
Named commands s = (dim : Dim) → Names dim (mentions dim commands) s

in_each : (mentioned : Dim → List Anchor) (sales : List SaleRecord) → ((dim : Dim) → AllByRecursion (Names dim (mentioned dim)) sales) → AllByRecursion (λ s. (dim : Dim) → Names dim (mentioned dim) s) sales
in_each mentioned [] each = tt
in_each mentioned (s ∷ sales) each = (λ dim. (each dim).0, in_each mentioned sales (λ dim. (each dim).1))

pub all_named : (commands : List Accepted) → AllByRecursion (Named commands) (sold commands)
all_named commands = in_each (λ dim. mentions dim commands) (sold commands) (λ dim. names_in_all dim commands)

-- ---- what stays

-- and has a durable key, which is not 0
pub owned : (commands : List Accepted) (s : SaleRecord) → Named commands s → (dim : Dim) (natural : List ℕ) → member_of_sale dim s ≡ Some natural → 0 < durable_key dim commands natural
owned commands s named dim natural is =
    place-distinct_given bytes_eq bytes_eq-Decides natural (map (λ (a : Anchor). a.natural) (mentions dim commands)) (natural_among (opening_of natural) (mentions dim commands) (named dim natural is))

module _ (commands : List Accepted) (c : Accepted) (s : SaleRecord) (named : Named commands s) where
  abbrev after : List Accepted
  after = commands ++ c ∷ []

  pub durable_kept : (dim : Dim) (natural : List ℕ) → member_of_sale dim s ≡ Some natural → durable_key dim after natural ≡ durable_key dim commands natural
  durable_kept dim natural is = durable_stays dim commands (c ∷ []) natural (owned commands s named dim natural is)

  pub customer_kept : option_map (durable_key Customer after) s.customer ≡ option_map (durable_key Customer commands) s.customer
  customer_kept = map_same (durable_key Customer after) (durable_key Customer commands) s.customer (λ natural is. durable_kept Customer natural is)

  module _ (dim : Dim) (rs : List DimensionRecord) (is : c.content ≡ Describes dim rs) (plain : (other : Dim) → same_dim other dim ≡ false → same_dim Customer dim ≡ true → ShowsNoProfile commands other) where
    rows_kept : (other : Dim) → same_dim other dim ≡ false → (natural : List ℕ) → member_rows after other natural ≡ member_rows commands other natural
    rows_kept other apart natural =
        elim (same_dim Customer dim) as (λ b. (same_dim Customer dim ≡ b) → member_rows after other natural ≡ member_rows commands other natural) [
          | true ↦ λ here. rows_by_types dim commands c rs is other apart (plain other apart here) natural
          | false ↦ λ none. rows_by_profiles dim commands c rs is other apart (profiles_stay dim commands c rs is none) natural
        ] refl

    key_kept : (other : Dim) → same_dim other dim ≡ false → (natural : List ℕ) → key_at after other s.day natural ≡ key_at commands other s.day natural
    key_kept other apart natural = ap (λ rows. key_in rows s.day) (rows_kept other apart natural)

    profile_kept : same_dim Customer dim ≡ false → (natural : List ℕ) → profile_at after s.day natural ≡ profile_at commands s.day natural
    profile_kept apart natural =
        ap (λ kinds. current_profile kinds (profiles_of after) (at s.day (dated (member_of Customer after natural).changes))) (types-last Customer commands c (ap governs is))
        ∙ ap (λ combinations. current_profile (types_in Customer commands) combinations (at s.day (dated (member_of Customer after natural).changes))) (profiles_stay dim commands c rs is apart)
        ∙ ap (λ m. current_profile (types_in Customer commands) (profiles_of commands) (at s.day (dated m.changes))) (member_stays dim commands c rs is Customer apart natural)

    customers_kept : same_dim Customer dim ≡ false → option_map (key_at after Customer s.day) s.customer ≡ option_map (key_at commands Customer s.day) s.customer
    customers_kept apart = map_same (key_at after Customer s.day) (key_at commands Customer s.day) s.customer (λ natural _. key_kept Customer apart natural)

    profiles_kept : same_dim Customer dim ≡ false → option_map (profile_at after s.day) s.customer ≡ option_map (profile_at commands s.day) s.customer
    profiles_kept apart = map_same (profile_at after s.day) (profile_at commands s.day) s.customer (λ natural _. profile_kept apart natural)

shown_in : (dim : Dim) (commands : List Accepted) → (dim ≡ Customer → ShowsNoProfile commands Product × ShowsNoProfile commands Store) → (other : Dim) → same_dim other dim ≡ false → same_dim Customer dim ≡ true → ShowsNoProfile commands other
shown_in Product commands shown other apart here = absurd cc
shown_in Store commands shown other apart here = absurd cc
shown_in Customer commands shown Product apart here = (shown refl).0
shown_in Customer commands shown Store apart here = (shown refl).1
shown_in Customer commands shown Customer apart here = absurd cc

pub late_records_move_facts : LateRecordsMoveFacts
late_records_move_facts commands c Product rs number s is shown there =
    let plain = shown_in Product commands shown in
    let named = all_at (Named commands) number (sold commands) s (all_named commands) there in
    rw (
      key_kept commands c s named Product rs is plain Store refl s.store,
      customers_kept commands c s named Product rs is plain refl,
      profiles_kept commands c s named Product rs is plain refl,
      durable_kept commands c s named Product s.product refl,
      durable_kept commands c s named Store s.store refl,
      customer_kept commands c s named,
    ) refl
late_records_move_facts commands c Store rs number s is shown there =
    let plain = shown_in Store commands shown in
    let named = all_at (Named commands) number (sold commands) s (all_named commands) there in
    rw (
      key_kept commands c s named Store rs is plain Product refl s.product,
      customers_kept commands c s named Store rs is plain refl,
      profiles_kept commands c s named Store rs is plain refl,
      durable_kept commands c s named Product s.product refl,
      durable_kept commands c s named Store s.store refl,
      customer_kept commands c s named,
    ) refl
late_records_move_facts commands c Customer rs number s is shown there =
    let plain = shown_in Customer commands shown in
    let named = all_at (Named commands) number (sold commands) s (all_named commands) there in
    let products = key_kept commands c s named Customer rs is plain Product refl s.product in
    let stores = key_kept commands c s named Customer rs is plain Store refl s.store in
    let product = durable_kept commands c s named Product s.product refl in
    let store = durable_kept commands c s named Store s.store refl in
    let customer = customer_kept commands c s named in
    elim s.customer as (λ o. (s.customer ≡ o) → fact_of (commands ++ c ∷ []) s ≡ followed (commands ++ c ∷ []) Customer s (fact_of commands s)) [
      | None ↦ λ none. rw (products, stores, product, store, none) refl
      | Some natural ↦ λ some. rw (products, stores, product, store, customer, some) refl
    ] refl
