-- The profile table grows by the combinations that a batch brings.
use Rattle.std.proofs.Common.{◌≡◌, ℕ, zero, suc, ◌<◌, ◌≤◌, false, List, [], ◌∷◌, ◌++◌, length, Some, None, refl, ◌∙◌, ap, arith}
use Rattle.std.specs.Prelude.{option_map, cond}
use Rattle.wh_day.specs.Value.{no_card_text, unknown_text}
use Rattle.wh_policy.specs.Types.{is_profile}
use Rattle.wh_policy.specs.declared.attribute.Dim.TheVariants.{Customer}
use Rattle.wh_history.specs.Keys.{at_place}
use Rattle.wh_history.specs.Slots.{columns_from, six}
use Rattle.wh_history.specs.Accepted.{Accepted, profiles_of}
use Rattle.wh_history.specs.Laws.{governs}
use Rattle.wh_history.specs.Tables.{profile_row}
use Rattle.wh_history.proofs.Stays.{types-last, profiles-last}
use Rattle.wh_rows.specs.declared.rows.ProfileRow.{ProfileRow}
use Rattle.wh_rows.specs.Rows as row
use Rattle.wh_model.specs.Defined.{profile_at}
use Rattle.wh_model.proofs.Growing.{Grows}
use Rattle.wh_model.proofs.GrownKeys.{at_front, at_past, keyed_map, grows_behind}

abbrev numbered : ℕ → List (List ℕ) → ProfileRow
numbered number values = record { number = number; values = values }

pub profile_keyed : (commands : List Accepted) (k : ℕ) (v : ProfileRow) → profile_at commands k ≡ Some v → row.profile.key v ≡ k
profile_keyed commands k v is = keyed_map row.profile.key k (numbered k) (λ _. refl) (profile_row commands k) v is

pub none_past : (list : List Accepted) (n : ℕ) → suc (length (profiles_of list)) < n → profile_at list n ≡ None
none_past list zero h = absurd (omega arith)
none_past list (suc zero) h = absurd (omega arith)
none_past list (suc (suc n)) h = ap (λ o. option_map (numbered (suc (suc n))) (option_map six o)) (at_past (suc n) (profiles_of list) (omega arith))

module _ (commands : List Accepted) (c : Accepted) (batch : governs c.content ≡ false) where
  abbrev after : List Accepted
  after = commands ++ c ∷ []

  row_stays : (n : ℕ) → n ≤ suc (length (profiles_of commands)) → profile_row after n ≡ profile_row commands n
  row_stays zero h = ap (λ kinds. Some (six (columns_from (λ _ kind. cond (is_profile kind) no_card_text []) 0 kinds))) (types-last Customer commands c batch)
  row_stays (suc zero) h = ap (λ kinds. Some (six (columns_from (λ _ kind. cond (is_profile kind) unknown_text []) 0 kinds))) (types-last Customer commands c batch)
  row_stays (suc (suc n)) h =
      ap (λ combinations. option_map six (at_place (suc n) combinations)) (profiles-last commands c batch)
      ∙ ap (option_map six) (at_front (suc n) (profiles_of commands) _ (omega arith))

  -- the profiles that had numbers keep their rows
  pub profile_grows : (n : ℕ) → Grows (λ n. n) (suc (length (profiles_of commands))) (suc (length (profiles_of after))) (profile_at commands) (profile_at after) n
  profile_grows n = grows_behind (λ n. n) (suc (length (profiles_of commands))) (suc (length (profiles_of after))) (profile_at commands) (profile_at after) n
      (λ front. ap (option_map (numbered n)) (row_stays n front)) (none_past commands n) (none_past after n)
