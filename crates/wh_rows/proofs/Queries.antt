-- What a query of the warehouse leaves, and its rows as rows of a type.
use Rattle.std.proofs.Common.{◌≡◌, ℕ, List, Ok, Err, Result, IfOk, OnOk, sym, subst}
use Rattle.sqlite.specs.Order.{Row}
use Rattle.sqlite.specs.Listing.{understood}
use Rattle.sqlite.specs.State.{State, IsUnchanged, Survives, Shown, ShowsRows, CommitsShowing}
use Rattle.sqlite.specs.Clock.{timed}
use Rattle.sqlite.proofs.StateLemmas.{survives_weaker}
use Rattle.sqlite.proofs.Callers.{IsPlain, never_commits}
use Rattle.sqlite.specs.Schema.{Schema}

module _ {under : Schema} (text : List ℕ) (params : Row) (old new : State) (is : old.now.schema ≡ under) (plain : IsPlain (understood under text)) where
  here : IsPlain (understood old.now.schema text)
  here = subst (λ s. IsPlain (understood s text)) (sym is) plain

  pub query_keeps : (rows : List Row) → Shown text params old new rows → IsUnchanged old new
  unfolding Shown
  query_keeps rows h =
      let none = (subst IsPlain h.1.is here).0 in
      (subst (ShowsRows old new text h.0 (timed params h.0.formats h.1.now) rows) none h.2).3

  pub query_commits_nothing : Survives old new (CommitsShowing text params old) → Survives old new (λ _. ⊥)
  query_commits_nothing = survives_weaker old new _ _ (λ _ db. never_commits text params old db here)

pub on_ok : {A E : Type 0} (r : Result A E) (P : Type 0) → P → OnOk r P
on_ok (Ok x) P holds = holds
on_ok (Err e) P holds = tt

pub if_ok : {A E : Type 0} (P Q : A → Type 0) (r : Result A E) → IfOk r P → ((x : A) → P x → Q x) → IfOk r Q
if_ok P Q (Ok x) holds weaker = weaker x holds
if_ok P Q (Err e) holds weaker = tt
