-- A command that gives a policy leaves what the list says of members and sales.
use Rattle.std.proofs.Common.{◌≡◌, ℕ, true, List, [], ◌∷◌, ◌++◌, Some, refl}
use Rattle.wh_policy.specs.declared.attribute.Dim.{Dim}
use Rattle.wh_policy.specs.declared.policy.Policy.{Policy}
use Rattle.wh_history.specs.Accepted.{Accepted, Anchor, Governs, described, sold, mentions, anchors, members, durable_key, surrogate_key, changes_of, member_of, policy_after}
use Rattle.wh_history.specs.Laws.{governs}
use Rattle.wh_model.proofs.QuietLists.{IsQuiet, policy_quiet, sold_quiet, mentions_quiet, described_quiet, anchors_quiet, members_quiet, durable_quiet, surrogate_quiet, changes_quiet, member_quiet}

module _ (commands : List Accepted) (c : Accepted) (is : governs c.content ≡ true) where
  quiet : IsQuiet c.content
  quiet = policy_quiet c.content is

  pub sold_governed : sold (commands ++ c ∷ []) ≡ sold commands
  sold_governed = sold_quiet commands c quiet

  module _ (dim : Dim) where
    pub mentions_governed : mentions dim (commands ++ c ∷ []) ≡ mentions dim commands
    mentions_governed = mentions_quiet commands c quiet dim

    pub described_governed : described dim (commands ++ c ∷ []) ≡ described dim commands
    described_governed = described_quiet commands c quiet dim

    pub anchors_governed : anchors dim (commands ++ c ∷ []) ≡ anchors dim commands
    anchors_governed = anchors_quiet commands c quiet dim

    pub members_governed : members dim (commands ++ c ∷ []) ≡ members dim commands
    members_governed = members_quiet commands c quiet dim

    pub durable_governed : (natural : List ℕ) → durable_key dim (commands ++ c ∷ []) natural ≡ durable_key dim commands natural
    durable_governed natural = durable_quiet commands c quiet dim natural

    pub surrogate_governed : (anchor : Anchor) → surrogate_key dim (commands ++ c ∷ []) anchor ≡ surrogate_key dim commands anchor
    surrogate_governed anchor = surrogate_quiet commands c quiet dim anchor

    pub changes_governed : (natural : List ℕ) → changes_of dim (commands ++ c ∷ []) natural ≡ changes_of dim commands natural
    changes_governed natural = changes_quiet commands c quiet dim natural

    pub member_governed : (natural : List ℕ) → member_of dim (commands ++ c ∷ []) natural ≡ member_of dim commands natural
    member_governed natural = member_quiet commands c quiet dim natural

-- the policy in force is its own
pub policy_governed : (before : _) (commands : List Accepted) (c : Accepted) (policy : Policy) → c.content ≡ Governs policy → policy_after before (commands ++ c ∷ []) ≡ Some policy
policy_governed before [] c policy is = rw is refl
policy_governed before (d ∷ ds) c policy is = policy_governed _ ds c policy is
