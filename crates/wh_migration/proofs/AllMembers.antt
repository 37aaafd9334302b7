-- All members of a dimension, by their durable keys.
use Rattle.std.proofs.Common.{◌≡◌, ℕ, true, zero, suc, ◌<◌, ◌≤◌, List, [], ◌∷◌, ◌++◌, map, take, drop, length, Option, Some, None, refl, sym, ◌∙◌, ap, arith}
use Rattle.std.specs.Prelude.{bytes_eq, option_map}
use Rattle.std.specs.Option.{option_to_list}
use Rattle.std.proofs.lemmas.List.{map-append}
use Rattle.std.proofs.lemmas.Slice.Eq.{bytes_eq-Decides}
use Rattle.wh_policy.specs.declared.attribute.Dim.{Dim}
use Rattle.wh_policy.specs.declared.policy.Policy.{Policy}
use Rattle.wh_policy.specs.Policy.{policy_types}
use Rattle.wh_history.specs.Keys.{at_place}
use Rattle.wh_history.specs.Accepted.{Accepted, Anchor, Governs, mentions, members, durable_key, surrogate_key, opening_of, changes_of, member_of, types_in}
use Rattle.wh_history.specs.Laws.{governs}
use Rattle.wh_history.specs.declared.member.Change.{Change}
use Rattle.wh_history.specs.declared.member.Member.{Member}
use Rattle.wh_history.proofs.Basics.{some_is}
use Rattle.wh_history.proofs.Once.{once_distinct}
use Rattle.wh_rows.specs.declared.rows.MemberRow.{MemberRow}
use Rattle.wh_model.specs.Defined.{member_at}
use Rattle.wh_migration.specs.Migrated.{all_members}
use Rattle.wh_plan.proofs.FoundMembers.{natural_at, member_is}
use Rattle.wh_model.proofs.FoundPlaces.{place_given, place_at}
use Rattle.wh_model.proofs.GovernedLists.{members_governed, member_governed, policy_governed}
use Rattle.wh_model.proofs.GrownMembers.{key_of}

module _ (dim : Dim) (commands : List Accepted) where
  module _ (durable : ℕ) (row : MemberRow) (is : member_at commands (key_of dim durable) ≡ Some row) where
    there : at_place durable (members dim commands) ≡ Some row.natural
    there = natural_at commands (key_of dim durable) row is

    pub number_given : 0 < row.durable
    number_given =
        let same = some_is _ _ (sym is ∙ member_is commands dim durable row.natural there) in
        let number : row.durable ≡ durable = ap (λ (r : MemberRow). r.durable) same in
        let given = place_given durable (members dim commands) row.natural there in
        omega arith

    pub number_is : row.durable ≡ durable_key dim commands row.natural
    number_is =
        let same = some_is _ _ (sym is ∙ member_is commands dim durable row.natural there) in
        let once = once_distinct bytes_eq bytes_eq-Decides (map (λ (a : Anchor). a.natural) (mentions dim commands)) in
        ap (λ (r : MemberRow). r.durable) same ∙ sym (place_at bytes_eq bytes_eq-Decides durable (members dim commands) row.natural once there)

    -- the row of a durable key and what was accepted of it are its member
    pub member_there : (changes : List Change) → changes ≡ changes_of dim commands row.natural
        → Some (record { durable = row.durable; natural = row.natural; opening = row.opening; changes = changes }) ≡ option_map (member_of dim commands) (at_place durable (members dim commands))
    member_there changes are =
        let same = some_is _ _ (sym is ∙ member_is commands dim durable row.natural there) in
        let opening : row.opening ≡ surrogate_key dim commands (opening_of row.natural) = ap (λ (r : MemberRow). r.opening) same in
        let make : ℕ → ℕ → List Change → Member = λ d o cs. record { durable = d; natural = row.natural; opening = o; changes = cs } in
        let made : make row.durable row.opening changes ≡ member_of dim commands row.natural = rw (number_is, opening, are) refl in
        ap Some made ∙ sym (ap (option_map (member_of dim commands)) there)

  -- no member has a durable key that has no row
  pub member_missing : (durable : ℕ) → member_at commands (key_of dim durable) ≡ None → None ≡ option_map (member_of dim commands) (at_place durable (members dim commands))
  member_missing durable none =
      elim (at_place durable (members dim commands)) as (λ o. (at_place durable (members dim commands) ≡ o) → None ≡ option_map (member_of dim commands) o) [
        | None ↦ λ _. refl
        | Some natural ↦ λ some. let row = member_is commands dim durable natural some in absurd cc
      ] refl

  -- one durable key further, of those past a number
  pub next_between : (after n : ℕ) (found : List Member) (o : Option Member) → after ≤ n → found ≡ map (member_of dim commands) (drop after (take n (members dim commands))) → o ≡ option_map (member_of dim commands) (at_place (suc n) (members dim commands))
      → found ++ option_to_list o ≡ map (member_of dim commands) (drop after (take (suc n) (members dim commands)))
  next_between after n found o le so_far is =
      ap (λ ms. ms ++ option_to_list o) so_far
      ∙ ap (λ (p : Option Member). map (member_of dim commands) (drop after (take n (members dim commands))) ++ option_to_list p) is
      ∙ ap (λ ms. map (member_of dim commands) (drop after (take n (members dim commands))) ++ ms) (listed (at_place (suc n) (members dim commands)))
      ∙ sym (map-append (member_of dim commands) (drop after (take n (members dim commands))) (option_to_list (at_place (suc n) (members dim commands))))
      ∙ ap (map (member_of dim commands)) (sym (past_more after n (members dim commands) le))
    where
      listed : (p : Option (List ℕ)) → option_to_list (option_map (member_of dim commands) p) ≡ map (member_of dim commands) (option_to_list p)
      listed None = refl
      listed (Some natural) = refl

      one_more : (n : ℕ) (ns : List (List ℕ)) → take (suc n) ns ≡ take n ns ++ option_to_list (at_place (suc n) ns)
      one_more zero [] = refl
      one_more (suc n) [] = refl
      one_more zero (natural ∷ ns) = refl
      one_more (suc n) (natural ∷ ns) = ap (λ ms. natural ∷ ms) (one_more n ns)

      past_more : (after n : ℕ) (ns : List (List ℕ)) → after ≤ n → drop after (take (suc n) ns) ≡ drop after (take n ns) ++ option_to_list (at_place (suc n) ns)
      past_more zero n ns le = one_more n ns
      past_more (suc after) zero ns le = absurd (omega arith)
      past_more (suc after) (suc n) [] le = refl
      past_more (suc after) (suc n) (natural ∷ ns) le = past_more after n ns (omega arith)

-- none stands past as many as there are
pub none_between : {X : Type 0} (n : ℕ) (xs : List X) → drop n (take n xs) ≡ []
none_between zero xs = refl
none_between (suc n) [] = refl
none_between (suc n) (x ∷ xs) = none_between n xs

pub taken_all : {X : Type 0} (n : ℕ) (xs : List X) → length xs ≤ n → take n xs ≡ xs
taken_all zero [] within = refl
taken_all zero (x ∷ xs) within = absurd (omega arith)
taken_all (suc n) [] within = refl
taken_all (suc n) (x ∷ xs) within = ap (λ ys. x ∷ ys) (taken_all n xs (omega arith))

-- the members are those of the list with a command that gives a policy
pub members_anew : (dim : Dim) (commands : List Accepted) (c : Accepted) → governs c.content ≡ true → all_members dim (commands ++ c ∷ []) ≡ all_members dim commands
members_anew dim commands c is = ap (map (member_of dim (commands ++ c ∷ []))) (members_governed commands c is dim) ∙ each (members dim commands)
  where
    each : (ns : List (List ℕ)) → map (member_of dim (commands ++ c ∷ [])) ns ≡ map (member_of dim commands) ns
    each [] = refl
    each (n ∷ ns) = rw (member_governed commands c is dim n, each ns) refl

-- and the types those that the policy gives
pub types_anew : (dim : Dim) (commands : List Accepted) (c : Accepted) (policy : Policy) → c.content ≡ Governs policy → types_in dim (commands ++ c ∷ []) ≡ policy_types policy dim
types_anew dim commands c policy is = rw (policy_governed None commands c policy is) refl
