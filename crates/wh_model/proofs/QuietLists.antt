-- A command that describes nothing, mentions nothing and sells nothing leaves what the list says of members and sales.
use Rattle.std.proofs.Common.{◌≡◌, ℕ, true, zero, suc, List, [], ◌∷◌, ◌++◌, map, Option, None, refl, sym, ◌∙◌, ap, append-nil}
use Rattle.std.specs.Prelude.{bytes_eq, filter, option_map}
use Rattle.std.proofs.lemmas.Grind.{flat_map-append}
use Rattle.wh_policy.specs.declared.attribute.Dim.{Dim}
use Rattle.wh_policy.specs.declared.record.DimensionRecord.{DimensionRecord}
use Rattle.wh_policy.specs.declared.record.VoidRecord.{VoidRecord}
use Rattle.wh_history.specs.Keys.{distinct, place, at_place}
use Rattle.wh_history.specs.Accepted.{Accepted, Anchor, Content, Governs, Describes, Sells, Upgrades, Withdraws, same_anchor, anchors_by, described_by, described, sold_by, sold, mentions, anchors, members, opening_of, day_of, durable_key, surrogate_key, change_of, changes_of, member_of}
use Rattle.wh_history.specs.Laws.{governs}
use Rattle.wh_history.specs.Tables.{change_row_of, change_row_in}
use Rattle.wh_history.proofs.Batches.{same_dimension}
use Rattle.wh_history.proofs.Untouched.{mentions-last, described-last}

pub record IsQuiet (content : Content) : Type 0 where
  pub no_mention : (dim : Dim) → anchors_by dim content ≡ []
  pub no_record : (dim : Dim) → described_by dim content ≡ []
  pub no_sale : sold_by content ≡ []

pub policy_quiet : (content : Content) → governs content ≡ true → IsQuiet content
policy_quiet (Governs policy) is = record { no_mention = λ dim. refl; no_record = λ dim. refl; no_sale = refl }
policy_quiet (Describes dim records) is = absurd cc
policy_quiet (Sells sales) is = absurd cc
policy_quiet Upgrades is = absurd cc
policy_quiet (Withdraws lines) is = absurd cc

pub upgrade_quiet : IsQuiet Upgrades
upgrade_quiet = record { no_mention = λ dim. refl; no_record = λ dim. refl; no_sale = refl }

pub void_quiet : (lines : List VoidRecord) → IsQuiet (Withdraws lines)
void_quiet lines = record { no_mention = λ dim. refl; no_record = λ dim. refl; no_sale = refl }

unchanged_by : (list : List Accepted) (content : Content) → IsQuiet content → (place : ℕ) → change_row_in list place content ≡ None
unchanged_by list (Governs policy) is place = refl
unchanged_by list (Describes dim records) is place = ap (λ rs. option_map (change_row_of list dim) (at_place place rs)) (sym (same_dimension dim records) ∙ is.no_record dim) ∙ nothing_at place
  where
    nothing_at : (n : ℕ) → option_map (change_row_of list dim) (at_place n []) ≡ None
    nothing_at zero = refl
    nothing_at (suc n) = refl
unchanged_by list (Sells sales) is place = refl
unchanged_by list Upgrades is place = refl
unchanged_by list (Withdraws lines) is place = refl

module _ (commands : List Accepted) (c : Accepted) (is : IsQuiet c.content) where
  -- it brings no change
  pub unchanged : (place : ℕ) → change_row_in (commands ++ c ∷ []) place c.content ≡ None
  unchanged place = unchanged_by (commands ++ c ∷ []) c.content is place

  abbrev after : List Accepted
  after = commands ++ c ∷ []

  pub sold_quiet : sold (commands ++ c ∷ []) ≡ sold commands
  sold_quiet =
      flat_map-append (λ (d : Accepted). sold_by d.content) commands (c ∷ [])
      ∙ ap (λ ss. sold commands ++ (ss ++ [])) is.no_sale
      ∙ append-nil (sold commands)

  module _ (dim : Dim) where
    pub mentions_quiet : mentions dim (commands ++ c ∷ []) ≡ mentions dim commands
    mentions_quiet = mentions-last dim commands c ∙ ap (λ as'. mentions dim commands ++ as') (is.no_mention dim) ∙ append-nil (mentions dim commands)

    pub described_quiet : described dim (commands ++ c ∷ []) ≡ described dim commands
    described_quiet = described-last dim commands c ∙ ap (λ rs. described dim commands ++ rs) (is.no_record dim) ∙ append-nil (described dim commands)

    pub anchors_quiet : anchors dim (commands ++ c ∷ []) ≡ anchors dim commands
    anchors_quiet = ap (distinct same_anchor) mentions_quiet

    pub members_quiet : members dim (commands ++ c ∷ []) ≡ members dim commands
    members_quiet = ap (λ (as' : List Anchor). distinct bytes_eq (map (λ (a : Anchor). a.natural) as')) mentions_quiet

    pub durable_quiet : (natural : List ℕ) → durable_key dim (commands ++ c ∷ []) natural ≡ durable_key dim commands natural
    durable_quiet natural = ap (place bytes_eq natural) members_quiet

    pub surrogate_quiet : (anchor : Anchor) → surrogate_key dim (commands ++ c ∷ []) anchor ≡ surrogate_key dim commands anchor
    surrogate_quiet anchor = ap (place same_anchor anchor) anchors_quiet

    changes_same : (rs : List DimensionRecord) → map (change_of dim after) rs ≡ map (change_of dim commands) rs
    changes_same [] = refl
    changes_same (r ∷ rs) = rw (surrogate_quiet (day_of r.natural r.day), changes_same rs) refl

    pub changes_quiet : (natural : List ℕ) → changes_of dim (commands ++ c ∷ []) natural ≡ changes_of dim commands natural
    changes_quiet natural =
        ap (λ (rs : List DimensionRecord). map (change_of dim after) (filter (λ r. bytes_eq r.natural natural) rs)) described_quiet
        ∙ changes_same (filter (λ r. bytes_eq r.natural natural) (described dim commands))

    pub member_quiet : (natural : List ℕ) → member_of dim (commands ++ c ∷ []) natural ≡ member_of dim commands natural
    member_quiet natural = rw (durable_quiet natural, surrogate_quiet (opening_of natural), changes_quiet natural) refl
