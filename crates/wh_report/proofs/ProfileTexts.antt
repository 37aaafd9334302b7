-- What the profiles show: the values of a customer on the day of a sale, and the latest ones.
use Rattle.std.proofs.Common.{◌≡◌, ℕ, zero, suc, ◌<◌, Bool, true, cond, List, [], ◌∷◌, map, Option, Some, None, refl, ◌∙◌, ap, arith}
use Rattle.std.specs.Prelude.{slice_get, option_map, unwrap_or}
use Rattle.std.specs.Option.{option_and_then}
use Rattle.std.specs.List.{list_any, AllByRecursion}
use Rattle.wh_day.specs.Day.{first_day, last_day}
use Rattle.wh_day.specs.Value.{unknown_text, no_card_text}
use Rattle.wh_policy.specs.Types.{is_profile, is_outrigger}
use Rattle.wh_policy.specs.declared.attribute.AttributeType.{AttributeType}
use Rattle.wh_policy.specs.declared.attribute.Dim.TheVariants.{Customer}
use Rattle.wh_history.specs.Accepted.{Accepted, described, types_in, changes_of, member_of, profiles_of}
use Rattle.wh_history.specs.Dated.{dated, at, newest, said, value_at, latest}
use Rattle.wh_history.specs.Keys.{at_place, place}
use Rattle.wh_history.specs.Laws.{RecordsHaveDays, IsMember}
use Rattle.wh_history.specs.Profiles.{current_profile, after_unknown, profile_now}
use Rattle.wh_history.specs.Rows.{starts, holds}
use Rattle.wh_history.specs.Slots.{slot, picked, picks, columns_from, are_same, six}
use Rattle.wh_history.specs.Tables.{profile_row, profile_at}
use Rattle.wh_history.specs.declared.member.Change.{Change}
use Rattle.wh_history.specs.declared.rows.DimRow.{DimRow}
use Rattle.wh_history.proofs.Basics.{or_true, texts_decide}
use Rattle.wh_history.proofs.Effective.{found_row}
use Rattle.wh_history.proofs.Joins.{all_dated}
use Rattle.wh_history.proofs.Places.{at_place-place, place-distinct_given}
use Rattle.wh_history.proofs.Shown.{get_column, span_found}
use Rattle.wh_history.proofs.Stays.{IfThere, all_newest, all_at, pick, Combined, picked_in, combined_in}
use Rattle.wh_model.proofs.ValidRows.{last_is_day}
use Rattle.wh_report.proofs.DefinedTexts.{no_zero}

any_at : (p : AttributeType → Bool) (kinds : List AttributeType) (place : ℕ) (kind : AttributeType) → slice_get kinds place ≡ Some kind → p kind ≡ true → list_any p kinds ≡ true
any_at p [] place kind is passes = cc
any_at p (k ∷ kinds) zero kind is passes = let same : k ≡ kind = cc in let t : p k ≡ true = ap p same ∙ passes in rw t refl
any_at p (k ∷ kinds) (suc place) kind is passes = rw (any_at p kinds place kind is passes) (or_true (p k))

-- the value of a slot in a profile
abbrev pub profile_text : List Accepted → ℕ → ℕ → Option (List ℕ)
profile_text commands place number = option_and_then (λ (values : List (List ℕ)). slice_get values place) (profile_row commands number)

module _ (commands : List Accepted) where
  all_combined : (natural : List ℕ) → AllByRecursion (Combined commands) (dated (changes_of Customer commands natural))
  all_combined natural = all_dated (Combined commands) (changes_of Customer commands natural) (combined_in commands natural (described Customer commands) (picked_in commands (described Customer commands)))

  module _ (place_of : ℕ) (kind : AttributeType) (is : slice_get (types_in Customer commands) place_of ≡ Some kind) (counts : is_profile kind ≡ true) where
    number_shows : (n : ℕ) (texts : List (List ℕ)) → 0 < n → at_place n (profiles_of commands) ≡ Some texts → profile_text commands place_of (unwrap_or (after_unknown n) 0) ≡ slice_get (six texts) place_of
    number_shows zero texts given there = absurd (omega arith)
    number_shows (suc n) texts given there = ap (λ (o : Option (List (List ℕ))). option_and_then (λ (texts : List (List ℕ)). slice_get texts place_of) (option_map six o)) there

    column_shows : (text : List ℕ) → slice_get (six (columns_from (λ _ kind. cond (is_profile kind) text []) 0 (types_in Customer commands))) place_of ≡ Some text
    column_shows text =
        get_column (λ _ kind. cond (is_profile kind) text []) (types_in Customer commands) 0 place_of kind _ is
        ∙ rw counts refl

    picks_show : (values : List (List ℕ)) → slice_get (six (picks is_profile (types_in Customer commands) values)) place_of ≡ Some (slot values place_of)
    picks_show values =
        get_column (picked is_profile values) (types_in Customer commands) 0 place_of kind _ is
        ∙ ap (λ n. Some (picked is_profile values n kind)) (no_zero place_of)
        ∙ rw counts refl

    -- the profile that an accepted change has, or that of no change
    profile_shows : (o : Option Change) → IfThere (Combined commands) o → profile_text commands place_of (current_profile (types_in Customer commands) (profiles_of commands) o) ≡ Some (said place_of o)
    profile_shows None all = column_shows unknown_text
    profile_shows (Some ch) all =
        let texts : List (List ℕ) = picks is_profile (types_in Customer commands) ch.values in
        let given = place-distinct_given are_same texts_decide texts (map (pick commands) (described Customer commands)) all in
        let there = at_place-place are_same texts_decide texts (profiles_of commands) given in
        number_shows (place are_same texts (profiles_of commands)) texts given there ∙ picks_show ch.values

    pub at_sale_day : (natural : List ℕ) (day : ℕ) → profile_text commands place_of (profile_at commands day natural) ≡ Some (value_at day place_of (changes_of Customer commands natural))
    at_sale_day natural day = profile_shows (at day (dated (changes_of Customer commands natural))) (all_at (Combined commands) day (dated (changes_of Customer commands natural)) (all_combined natural))

    pub no_card_profile : profile_text commands place_of 0 ≡ Some no_card_text
    no_card_profile = column_shows no_card_text

    -- the profile that the row of the last day names
    pub newest_profile : (natural : List ℕ) (ends : RecordsHaveDays commands) (member : IsMember Customer commands natural) → is_outrigger kind ≡ true → profile_text commands place_of ((found_row Customer commands natural ends member last_day last_is_day).0).profile_now ≡ Some (latest place_of (changes_of Customer commands natural))
    newest_profile natural ends member outrigger =
        let number : ℕ = profile_now (types_in Customer commands) (profiles_of commands) (member_of Customer commands natural) in
        let found = found_row Customer commands natural ends member last_day last_is_day in
        let span = span_found (types_in Customer commands) number (member_of Customer commands natural) (holds last_day) found.0 first_day (starts (types_in Customer commands) (dated (changes_of Customer commands natural))) found.1 in
        let shown : found.0.profile_now ≡ current_profile (types_in Customer commands) (profiles_of commands) (newest (dated (changes_of Customer commands natural))) =
        ap (λ (q : DimRow). q.profile_now) span.2 ∙ rw (any_at is_outrigger (types_in Customer commands) place_of kind is outrigger) refl in
        ap (profile_text commands place_of) shown
        ∙ profile_shows (newest (dated (changes_of Customer commands natural))) (all_newest (Combined commands) (dated (changes_of Customer commands natural)) (all_combined natural))
