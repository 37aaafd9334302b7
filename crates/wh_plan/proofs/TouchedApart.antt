-- No two members that a batch touches have one durable key.
use Rattle.std.proofs.Common.{◌≡◌, ℕ, ◌<◌, ◌==◌, ◌++◌, Bool, true, false, cond, nat_lt, ◌&&◌, List, [], ◌∷◌, map, Some, None, refl, sym, ◌∙◌}
use Rattle.std.specs.Prelude.{bytes_eq, zip}
use Rattle.std.specs.List.{list_any}
use Rattle.std.proofs.lemmas.Bool.{eqb-true}
use Rattle.std.proofs.lemmas.Slice.Eq.{bytes_eq-Decides}
use Rattle.wh_policy.specs.declared.attribute.Dim.{Dim}
use Rattle.wh_policy.specs.declared.record.DimensionRecord.{DimensionRecord}
use Rattle.wh_history.specs.Accepted.{Accepted, durable_key, member_of, members}
use Rattle.wh_history.specs.Shapes.{RenderedMember, Shape, rendered_in}
use Rattle.wh_history.specs.declared.member.Member.{Member}
use Rattle.wh_history.proofs.Basics.{or_none}
use Rattle.wh_history.proofs.Growth.{durable_stays}
use Rattle.wh_history.proofs.Once.{IsOnce, once_distinct}
use Rattle.wh_history.proofs.Places.{one_place}
use Rattle.wh_plan.specs.NewRows.{naturals_told}
use Rattle.wh_plan.specs.OnePass.{AreApart, owner_in}
use Rattle.wh_plan.proofs.PlanningMembers.{naturals}
use Rattle.wh_plan.proofs.PlanningOwners.{above_none}

module _ (shape : Shape) (commands : List Accepted) (c : Accepted) where
  abbrev dim : Dim
  dim = shape.dim

  abbrev after : List Accepted
  after = commands ++ c ∷ []

  abbrev pairs : List (List ℕ) → List (Member × RenderedMember)
  pairs ns = zip (map (member_of dim commands) ns) (map (rendered_in shape) (map (member_of dim after) ns))

  others : (n : List ℕ) → 0 < durable_key dim commands n → (ms : List (List ℕ)) → list_any (λ m. bytes_eq m n) ms ≡ false → owner_in (pairs ms) (durable_key dim after n) ≡ None
  others n given [] apart = refl
  others n given (m ∷ ms) apart =
      let split = or_none (bytes_eq m n) (list_any (λ k. bytes_eq k n) ms) apart in
      go (nat_lt 0 (durable_key dim commands m)) (durable_key dim after m == durable_key dim after n) refl refl split.0 (others n given ms split.1)
    where
      go : (stored mine : Bool) → nat_lt 0 (durable_key dim commands m) ≡ stored → (durable_key dim after m == durable_key dim after n) ≡ mine → bytes_eq m n ≡ false
          → owner_in (pairs ms) (durable_key dim after n) ≡ None → cond (stored && mine) (Some (member_of dim commands m, rendered_in shape (member_of dim after m))) (owner_in (pairs ms) (durable_key dim after n)) ≡ None
      go true true is_stored is_mine other rest =
          let its : 0 < durable_key dim commands m = above_none (durable_key dim commands m) is_stored in
          let same : durable_key dim commands m ≡ durable_key dim commands n =
          sym (durable_stays dim commands (c ∷ []) m its) ∙ eqb-true (durable_key dim after m) (durable_key dim after n) is_mine ∙ durable_stays dim commands (c ∷ []) n given in
          let one : m ≡ n = one_place bytes_eq bytes_eq-Decides m n (members dim commands) its same in
          let equal = (bytes_eq-Decides m n).1 one in
          absurd cc
      go true false is_stored is_mine other rest = rest
      go false mine is_stored is_mine other rest = rest

  pub apart_once : (ns : List (List ℕ)) → IsOnce bytes_eq bytes_eq-Decides ns → AreApart (zip (map (member_of shape.dim commands) ns) (map (rendered_in shape) (map (member_of shape.dim (commands ++ c ∷ [])) ns)))
  apart_once [] once = tt
  apart_once (n ∷ ns) once = ((λ stored. others n (above_none (durable_key dim commands n) stored) ns once.0), apart_once ns once.1)

pub touched_apart : (shape : Shape) (commands : List Accepted) (c : Accepted) (rs : List DimensionRecord) → AreApart (zip (map (member_of shape.dim commands) (naturals_told rs)) (map (rendered_in shape) (map (member_of shape.dim (commands ++ c ∷ [])) (naturals_told rs))))
touched_apart shape commands c rs = apart_once shape commands c (naturals_told rs) (once_distinct bytes_eq bytes_eq-Decides (naturals rs))
