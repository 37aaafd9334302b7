-- No two commands have one id, and no two members of a dimension one natural key.
use Rattle.std.proofs.Common.{◌≡◌, ℕ, zero, suc, Bool, true, false, List, [], ◌∷◌, map, Some, refl, sym, ap, ◌∙◌}
use Rattle.std.specs.Prelude.{slice_get, bytes_eq}
use Rattle.std.specs.Bool.{Decides}
use Rattle.std.specs.List.{list_any, IsDistinct}
use Rattle.std.proofs.lemmas.Slice.Eq.{bytes_eq-Decides}
use Rattle.wh_history.specs.Keys.{at_place}
use Rattle.wh_history.specs.Accepted.{Accepted, Anchor, opening_of, mentions, members, surrogate_key, records_by, placeholders_by}
use Rattle.wh_history.specs.Tables as history
use Rattle.wh_history.proofs.Basics.{or_true, some_is}
use Rattle.wh_history.proofs.Once.{IsOnce, once_distinct, none_same}
use Rattle.wh_history.proofs.Trials.{at_place-map}
use Rattle.wh_rows.specs.declared.rows.CommandRow.{CommandRow}
use Rattle.wh_rows.specs.declared.rows.MemberRow.{MemberRow}
use Rattle.wh_rows.specs.declared.key.MemberKey.{MemberKey}
use Rattle.wh_model.specs.Defined.{command_at, member_at}
use Rattle.wh_model.specs.Laws.{SecondKeysAreApart}
use Rattle.wh_model.proofs.ValidTables.{made_of}

-- ---- what stands once has one place

module _ {X : Type 0} (same : X → X → Bool) (decides : (x y : X) → Decides (same x y) (x ≡ y)) where
  abbrev Once : List X → Type 0
  Once = IsOnce same decides

  among_at : (n : ℕ) (xs : List X) (x : X) → slice_get xs n ≡ Some x → list_any (λ y. same y x) xs ≡ true
  among_at n [] x is = absurd (cc)
  among_at zero (y ∷ ys) x is = let here = (decides y x).1 (some_is y x is) in rw here refl
  among_at (suc n) (y ∷ ys) x is = rw (among_at n ys x is) (or_true (same y x))

  first_only : (n : ℕ) (y : X) (ys : List X) (x : X) → list_any (λ z. same z y) ys ≡ false → Some y ≡ Some x → slice_get ys n ≡ Some x → ⊥
  first_only n y ys x none first later =
      let is = some_is y x first in
      let among : list_any (λ z. same z y) ys ≡ true = among_at n ys y (later ∙ ap Some (sym is)) in
      cc

  one_get : (n m : ℕ) (xs : List X) (x : X) → Once xs → slice_get xs n ≡ Some x → slice_get xs m ≡ Some x → n ≡ m
  one_get n m [] x once left right = absurd (cc)
  one_get zero zero (y ∷ ys) x once left right = refl
  one_get zero (suc m) (y ∷ ys) x once left right = absurd (first_only m y ys x once.0 left right)
  one_get (suc n) zero (y ∷ ys) x once left right = absurd (first_only n y ys x once.0 right left)
  one_get (suc n) (suc m) (y ∷ ys) x once left right = ap suc (one_get n m ys x once.1 left right)

  one_at : (n m : ℕ) (xs : List X) (x : X) → Once xs → at_place n xs ≡ Some x → at_place m xs ≡ Some x → n ≡ m
  one_at zero m xs x once left right = absurd (cc)
  one_at (suc n) zero xs x once left right = absurd (cc)
  one_at (suc n) (suc m) xs x once left right = ap suc (one_get n m xs x once left right)

  distinct_once : (xs : List X) → IsDistinct same xs → Once xs
  unfolding IsDistinct
  distinct_once [] distinct = tt
  distinct_once (x ∷ xs) distinct = (none_same same decides x xs distinct.0, distinct_once xs distinct.1)

-- ---- commands

module _ (commands : List Accepted) where
  abbrev ids : List (List ℕ)
  ids = map (λ (c : Accepted). c.id) commands

  id_at : (number : ℕ) (v : CommandRow) → command_at commands number ≡ Some v → at_place number ids ≡ Some v.id
  id_at number v is =
      let outer = made_of (λ (c : history.CommandRow). record { number = number; id = c.id; kind = c.kind; bytes = c.bytes; records = c.records; placeholders = c.placeholders }) (history.command_row commands number) v is in
      let inner = made_of (λ (c : Accepted). record { id = c.id; kind = c.kind; bytes = c.bytes; records = records_by c.content; placeholders = placeholders_by commands number c.content }) (at_place number commands) outer.0 outer.1 in
      let own : v.id ≡ inner.0.id = ap (λ (q : CommandRow). q.id) outer.2 ∙ ap (λ (q : history.CommandRow). q.id) inner.2 in
      at_place-map (λ (c : Accepted). c.id) number commands inner.0 inner.1 ∙ ap Some (sym own)

  own_id : IsDistinct bytes_eq ids → (a b : ℕ) (v w : CommandRow) → command_at commands a ≡ Some v → command_at commands b ≡ Some w → v.id ≡ w.id → a ≡ b
  own_id distinct a b v w at_a at_b same =
      one_at bytes_eq bytes_eq-Decides a b ids v.id (distinct_once bytes_eq bytes_eq-Decides ids distinct) (id_at a v at_a) (id_at b w at_b ∙ ap Some (sym same))

-- ---- members

module _ (commands : List Accepted) where
  natural_at : (key : MemberKey) (v : MemberRow) → member_at commands key ≡ Some v → at_place key.durable (members key.dim commands) ≡ Some v.natural
  natural_at key v is =
      let outer = made_of (λ (m : history.MemberRow). record { dim = key.dim; durable = key.durable; natural = m.natural; opening = m.opening }) (history.member_row commands key.dim key.durable) v is in
      let inner = made_of (λ (natural : List ℕ). record { natural = natural; opening = surrogate_key key.dim commands (opening_of natural) }) (at_place key.durable (members key.dim commands)) outer.0 outer.1 in
      let own : v.natural ≡ inner.0 = ap (λ (q : MemberRow). q.natural) outer.2 ∙ ap (λ (q : history.MemberRow). q.natural) inner.2 in
      inner.1 ∙ ap Some (sym own)

  own_natural : (a b : MemberKey) (v w : MemberRow) → member_at commands a ≡ Some v → member_at commands b ≡ Some w → a.dim ≡ b.dim → v.natural ≡ w.natural → a.durable ≡ b.durable
  own_natural a b v w at_a at_b same_dim same_natural =
      let right : at_place b.durable (members a.dim commands) ≡ Some v.natural = ap (λ d. at_place b.durable (members d commands)) same_dim ∙ natural_at b w at_b ∙ ap Some (sym same_natural) in
      one_at bytes_eq bytes_eq-Decides a.durable b.durable (members a.dim commands) v.natural
      (once_distinct bytes_eq bytes_eq-Decides (map (λ (a : Anchor). a.natural) (mentions a.dim commands))) (natural_at a v at_a) right

pub second_keys_are_apart : SecondKeysAreApart
second_keys_are_apart limits commands t ok are = (
  λ a b v w at_a at_b same. own_id commands ok.distinct a b v w (sym (are.command a) ∙ at_a) (sym (are.command b) ∙ at_b) same,
  λ a b v w at_a at_b same_dim same_natural. own_natural commands a b v w (sym (are.member a) ∙ at_a) (sym (are.member b) ∙ at_b) same_dim same_natural,
)
