-- A batch leaves the rows of each member that it does not mention.
use Rattle.std.proofs.Common.{◌≡◌, ℕ, zero, suc, ◌-◌, ◌<◌, Bool, true, false, cond, List, [], ◌∷◌, ◌++◌, map, length, replicate, get_or, Option, Some, None, refl, sym, ◌∙◌, ap, subst}
use Rattle.std.specs.Prelude.{filter, bytes_eq, slice_get, option_map, unwrap_or}
use Rattle.std.specs.List.{list_any, AllByRecursion}
use Rattle.std.proofs.lemmas.List.{map-append}
use Rattle.wh_day.specs.Value.{none_text}
use Rattle.wh_history.specs.Keys.{distinct, place}
use Rattle.wh_policy.specs.Policy.{policy_types}
use Rattle.wh_policy.specs.Types.{is_profile, is_outrigger}
use Rattle.wh_history.specs.Slots.{columns_from, picked, picks, padded, are_same}
use Rattle.wh_history.specs.Dated.{at, dated, newest}
use Rattle.wh_history.specs.Rows.{row, rows, spans, starts}
use Rattle.wh_history.specs.Profiles.{after_unknown, profile_number, current_profile, profile_now}
use Rattle.wh_history.specs.Accepted.{Accepted, Content, Governs, Describes, Sells, Upgrades, Withdraws, governed, policy_after, types_in, described, described_by, change_of, changes_of, member_of, profiles_of}
use Rattle.wh_policy.specs.declared.record.DimensionRecord.{DimensionRecord}
use Rattle.wh_history.specs.Tables.{member_rows}
use Rattle.wh_history.specs.Laws.{mentions_member, governs}
use Rattle.wh_policy.specs.declared.policy.Policy.{Policy}
use Rattle.wh_policy.specs.declared.attribute.Dim.{Dim}
use Rattle.wh_policy.specs.declared.attribute.Dim.TheVariants.{Customer}
use Rattle.wh_policy.specs.declared.attribute.AttributeType.{AttributeType}
use Rattle.wh_history.specs.declared.member.Change.{Change}
use Rattle.wh_day.specs.Day.{first_day}
use Rattle.wh_history.proofs.Basics.{or_true, texts_decide}
use Rattle.wh_history.proofs.Numbers.{fresh, distinct-append, place-append_front}
use Rattle.wh_history.proofs.Places.{place-distinct_given}
use Rattle.wh_history.proofs.Joins.{all_weaker, all_dated, all_in_force}
use Rattle.wh_history.proofs.Untouched.{described-last, member-last}

pub governed_same : (before : Option Policy) (content : Content) → governs content ≡ false → governed before content ≡ before
governed_same before (Governs policy) h = cc
governed_same before (Describes dim records) h = refl
governed_same before (Sells sales) h = refl
governed_same before Upgrades h = refl
governed_same before (Withdraws lines) h = refl

pub policy_last : (before : Option Policy) (commands : List Accepted) (c : Accepted) → governs c.content ≡ false → policy_after before (commands ++ c ∷ []) ≡ policy_after before commands
policy_last before [] c h = governed_same before c.content h
policy_last before (d ∷ commands) c h = policy_last (governed before d.content) commands c h

pub types-last : (dim : Dim) (commands : List Accepted) (c : Accepted) → governs c.content ≡ false → types_in dim (commands ++ c ∷ []) ≡ types_in dim commands
types-last dim commands c h = ap (λ (p : Option Policy). unwrap_or (option_map (λ policy. policy_types policy dim) p) []) (policy_last None commands c h)

-- the slots of padded values are those of the values
slot_filled : (k place : ℕ) → get_or (replicate k none_text) place none_text ≡ none_text
slot_filled zero place = refl
slot_filled (suc k) zero = refl
slot_filled (suc k) (suc place) = slot_filled k place

slot_more : (values : List (List ℕ)) (k place : ℕ) → get_or (values ++ replicate k none_text) place none_text ≡ get_or values place none_text
slot_more [] k place = slot_filled k place
slot_more (v ∷ values) k zero = refl
slot_more (v ∷ values) k (suc place) = slot_more values k place

pub picks_from : (counts : AttributeType → Bool) (values : List (List ℕ)) (k place : ℕ) (kinds : List AttributeType) → columns_from (picked counts (values ++ replicate k none_text)) place kinds ≡ columns_from (picked counts values) place kinds
picks_from counts values k place [] = refl
picks_from counts values k place (kind ∷ kinds) =
    let here = slot_more values k place in
    let rest = picks_from counts values k (suc place) kinds in
    rw (here, rest) refl

-- of an element, if there is one
abbrev pub IfThere : (Change → Type 0) → Option Change → Type 0
IfThere P None = Unit {0}
IfThere P (Some ch) = P ch

all_get : (P : Change → Type 0) (cs : List Change) (i : ℕ) → AllByRecursion P cs → IfThere P (slice_get cs i)
all_get P [] i all = tt
all_get P (ch ∷ cs) zero all = all.0
all_get P (ch ∷ cs) (suc i) all = all_get P cs i all.1

pub all_newest : (P : Change → Type 0) (cs : List Change) → AllByRecursion P cs → IfThere P (newest cs)
all_newest P cs all = all_get P cs (length cs - 1) all

pub all_at : (P : Change → Type 0) (day : ℕ) (cs : List Change) → AllByRecursion P cs → IfThere P (at day cs)
all_at P day [] all = tt
all_at P day (ch ∷ cs) all = all_in_force P day ch cs all.0 all.1

module _ (commands : List Accepted) where
  -- the combination of a record
  abbrev pub pick : DimensionRecord → List (List ℕ)
  pick r = picks is_profile (types_in Customer commands) r.values

  -- a change of a customer has a combination that was accepted
  abbrev pub Combined : Change → Type 0
  Combined ch = list_any (λ t. are_same t (picks is_profile (types_in Customer commands) ch.values)) (map pick (described Customer commands)) ≡ true

  -- the combination of the record is among those of these
  abbrev pub Picked : List DimensionRecord → DimensionRecord → Type 0
  Picked rs r = list_any (λ t. are_same t (pick r)) (map pick rs) ≡ true

  -- each record of a list has one that is among those of the list
  pub picked_in : (rs : List DimensionRecord) → AllByRecursion (Picked rs) rs
  picked_in [] = tt
  picked_in (r ∷ rs) = (
    rw ((texts_decide (pick r) (pick r)).1 refl) refl,
    all_weaker (Picked rs) (Picked (r ∷ rs)) (λ q t. rw t (or_true (are_same (pick r) (pick q)))) rs (picked_in rs),
  )

  -- the changes of a customer have combinations that were accepted
  pub combined_in : (natural : List ℕ) (rs : List DimensionRecord) → AllByRecursion (Picked (described Customer commands)) rs → AllByRecursion Combined (map (change_of Customer commands) (filter (λ r. bytes_eq r.natural natural) rs))
  combined_in natural [] all = tt
  combined_in natural (r ∷ rs) all =
      let rest = combined_in natural rs all.1 in
      let same : picks is_profile (types_in Customer commands) (padded none_text r.values) ≡ pick r = picks_from is_profile r.values _ 0 (types_in Customer commands) in
      elim (bytes_eq r.natural natural) as (λ b. AllByRecursion Combined (map (change_of Customer commands) (cond b (r ∷ filter (λ r. bytes_eq r.natural natural) rs) (filter (λ r. bytes_eq r.natural natural) rs)))) [
        | true ↦ (subst (λ (t : List (List ℕ)). list_any (λ u. are_same u t) (map pick (described Customer commands)) ≡ true) (sym same) all.0, rest)
        | false ↦ rest
      ]

  module _ (c : Accepted) (batch : governs c.content ≡ false) where
    -- a batch only adds combinations at the end
    pub profiles-last : profiles_of (commands ++ c ∷ []) ≡ profiles_of commands ++ fresh are_same (map pick (described Customer commands)) (distinct are_same (map pick (described_by Customer c.content)))
    profiles-last =
        ap (λ (kinds : List AttributeType). distinct are_same (map (λ (r : DimensionRecord). picks is_profile kinds r.values) (described Customer (commands ++ c ∷ [])))) (types-last Customer commands c batch)
        ∙ ap (λ (rs : List DimensionRecord). distinct are_same (map pick rs)) (described-last Customer commands c)
        ∙ ap (distinct are_same) (map-append pick (described Customer commands) (described_by Customer c.content))
        ∙ distinct-append are_same (map pick (described Customer commands)) (map pick (described_by Customer c.content))

    -- a number that was given stays
    pub profile_stays : (texts : List (List ℕ)) → 0 < place are_same texts (profiles_of commands) → profile_number (profiles_of (commands ++ c ∷ [])) texts ≡ profile_number (profiles_of commands) texts
    profile_stays texts given =
        ap (λ (cs : List (List (List ℕ))). profile_number cs texts) profiles-last ∙ ap after_unknown (place-append_front are_same texts (profiles_of commands) _ given)

    current_stays : (o : Option Change) → IfThere Combined o → current_profile (types_in Customer commands) (profiles_of (commands ++ c ∷ [])) o ≡ current_profile (types_in Customer commands) (profiles_of commands) o
    current_stays None all = refl
    current_stays (Some ch) all = ap (λ (o : Option ℕ). unwrap_or o 0) (profile_stays _ (place-distinct_given are_same texts_decide _ (map pick (described Customer commands)) all))

    -- the profile that a customer's changes before it say of a day has the number that it had
    pub profile_of_day_stays : (natural : List ℕ) (day : ℕ) → current_profile (types_in Customer commands) (profiles_of (commands ++ c ∷ [])) (at day (dated (changes_of Customer commands natural)))
        ≡ current_profile (types_in Customer commands) (profiles_of commands) (at day (dated (changes_of Customer commands natural)))
    profile_of_day_stays natural day =
        let changes = dated (changes_of Customer commands natural) in
        let all = all_dated Combined (changes_of Customer commands natural) (combined_in natural (described Customer commands) (picked_in (described Customer commands))) in
        current_stays (at day changes) (all_at Combined day changes all)

    -- a customer that the batch does not mention keeps its rows
    pub customer_rows_stay : (natural : List ℕ) → mentions_member Customer c natural ≡ false → member_rows (commands ++ c ∷ []) Customer natural ≡ member_rows commands Customer natural
    customer_rows_stay natural other =
        let all = all_newest Combined (dated (changes_of Customer commands natural)) (all_dated Combined (changes_of Customer commands natural) (combined_in natural (described Customer commands) (picked_in (described Customer commands)))) in
        let number : profile_now (types_in Customer commands) (profiles_of (commands ++ c ∷ [])) (member_of Customer commands natural) ≡ profile_now (types_in Customer commands) (profiles_of commands) (member_of Customer commands natural) =
        ap (λ (n : ℕ). cond (list_any is_outrigger (types_in Customer commands)) n 0) (current_stays (newest (dated (changes_of Customer commands natural))) all) in
        ap (λ (kinds : List AttributeType). rows kinds (profiles_of (commands ++ c ∷ [])) (member_of Customer (commands ++ c ∷ []) natural)) (types-last Customer commands c batch)
        ∙ ap (rows (types_in Customer commands) (profiles_of (commands ++ c ∷ []))) (member-last Customer commands c natural other)
        ∙ ap (λ (n : ℕ). map (row (types_in Customer commands) n (member_of Customer commands natural)) (spans first_day (starts (types_in Customer commands) (dated (changes_of Customer commands natural))))) number

    -- and a member of a dimension whose rows show no profile
    pub rows_stay : (dim : Dim) (natural : List ℕ) → list_any is_outrigger (types_in dim commands) ≡ false → mentions_member dim c natural ≡ false → member_rows (commands ++ c ∷ []) dim natural ≡ member_rows commands dim natural
    rows_stay dim natural plain other =
        let number : profile_now (types_in dim commands) (profiles_of (commands ++ c ∷ [])) (member_of dim commands natural) ≡ profile_now (types_in dim commands) (profiles_of commands) (member_of dim commands natural) = rw plain refl in
        ap (λ (kinds : List AttributeType). rows kinds (profiles_of (commands ++ c ∷ [])) (member_of dim (commands ++ c ∷ []) natural)) (types-last dim commands c batch)
        ∙ ap (rows (types_in dim commands) (profiles_of (commands ++ c ∷ []))) (member-last dim commands c natural other)
        ∙ ap (λ (n : ℕ). map (row (types_in dim commands) n (member_of dim commands natural)) (spans first_day (starts (types_in dim commands) (dated (changes_of dim commands natural))))) number
