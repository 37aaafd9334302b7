-- What more accepted commands leave as it was.
use Rattle.std.proofs.Common.{◌≡◌, ℕ, ◌<◌, List, ◌++◌, map, length, ◌∙◌, ap, subst, arith}
use Rattle.std.specs.Prelude.{bytes_eq}
use Rattle.std.proofs.lemmas.Grind.{flat_map-append}
use Rattle.std.proofs.lemmas.List.{map-append}
use Rattle.wh_history.specs.Keys.{distinct, place}
use Rattle.wh_history.specs.Accepted.{Accepted, Anchor, same_anchor, anchors_by, mentions, anchors, members, durable_key, surrogate_key}
use Rattle.wh_policy.specs.declared.attribute.Dim.{Dim}
use Rattle.wh_history.proofs.Numbers.{fresh, distinct-append, place-append_front, place-append_behind, place-none_from_append}

pub mentions-append : (dim : Dim) (old new : List Accepted) → mentions dim (old ++ new) ≡ mentions dim old ++ mentions dim new
mentions-append dim old new = flat_map-append (λ (c : Accepted). anchors_by dim c.content) old new

pub anchors-append : (dim : Dim) (old new : List Accepted) → anchors dim (old ++ new) ≡ anchors dim old ++ fresh same_anchor (mentions dim old) (anchors dim new)
anchors-append dim old new = ap (distinct same_anchor) (mentions-append dim old new) ∙ distinct-append same_anchor (mentions dim old) (mentions dim new)

pub members-append : (dim : Dim) (old new : List Accepted) → members dim (old ++ new) ≡ members dim old ++ fresh bytes_eq (map (λ (a : Anchor). a.natural) (mentions dim old)) (members dim new)
members-append dim old new =
    let view = λ (a : Anchor). a.natural in
    ap (λ (ms : List Anchor). distinct bytes_eq (map view ms)) (mentions-append dim old new) ∙ ap (distinct bytes_eq) (map-append view (mentions dim old) (mentions dim new)) ∙ distinct-append bytes_eq (map view (mentions dim old)) (map view (mentions dim new))

pub durable_stays : (dim : Dim) (old new : List Accepted) (natural : List ℕ) → 0 < durable_key dim old natural → durable_key dim (old ++ new) natural ≡ durable_key dim old natural
durable_stays dim old new natural given = ap (place bytes_eq natural) (members-append dim old new) ∙ place-append_front bytes_eq natural (members dim old) _ given

pub surrogate_stays : (dim : Dim) (old new : List Accepted) (anchor : Anchor) → 0 < surrogate_key dim old anchor → surrogate_key dim (old ++ new) anchor ≡ surrogate_key dim old anchor
surrogate_stays dim old new anchor given = ap (place same_anchor anchor) (anchors-append dim old new) ∙ place-append_front same_anchor anchor (anchors dim old) _ given

pub durable_next : (dim : Dim) (old new : List Accepted) (natural : List ℕ) → durable_key dim old natural ≡ 0 → 0 < durable_key dim (old ++ new) natural → length (members dim old) < durable_key dim (old ++ new) natural
durable_next dim old new natural absent given =
    let later = fresh bytes_eq (map (λ (a : Anchor). a.natural) (mentions dim old)) (members dim new) in
    let whole = ap (place bytes_eq natural) (members-append dim old new) in
    let there : 0 < place bytes_eq natural (members dim old ++ later) = subst (λ (n : ℕ). 0 < n) whole given in
    let behind = place-none_from_append bytes_eq natural (members dim old) later absent there in
    rw whole (rw (place-append_behind bytes_eq natural (members dim old) later absent behind) (omega arith))

pub surrogate_next : (dim : Dim) (old new : List Accepted) (anchor : Anchor) → surrogate_key dim old anchor ≡ 0 → 0 < surrogate_key dim (old ++ new) anchor → length (anchors dim old) < surrogate_key dim (old ++ new) anchor
surrogate_next dim old new anchor absent given =
    let later = fresh same_anchor (mentions dim old) (anchors dim new) in
    let whole = ap (place same_anchor anchor) (anchors-append dim old new) in
    let there : 0 < place same_anchor anchor (anchors dim old ++ later) = subst (λ (n : ℕ). 0 < n) whole given in
    let behind = place-none_from_append same_anchor anchor (anchors dim old) later absent there in
    rw whole (rw (place-append_behind same_anchor anchor (anchors dim old) later absent behind) (omega arith))
