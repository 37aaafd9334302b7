use Rattle.std.proofs.Common.{◌≡◌, ◌++◌, ◌∷◌, [], List, ℕ, true, false, refl, sym, ◌∙◌, ap, map}
use Rattle.std.specs.Prelude.{string_bytes, string_eq, bytes_eq}
use Rattle.std.specs.List.{list_any, position_or_len}
use Rattle.std.proofs.lemmas.List.{map-append}
use Rattle.wh_history.specs.declared.member.Member.{Member}
use Rattle.wh_history.proofs.Touching.{index_by, any_by, current_natural, current_stored, not_new, is_new}
use Rattle.wh_history.proofs.touched.place_or_add.Goals as goal

pub returns-then-not-is_new : goal.returns-then-not-is_new
returns-then-not-is_new g c =
    let e = c.in_ok-place.ensures in
    let n = c.args.natural.now in
    let list = c.args.list.now.items in
    let name = c.in_ok-from_str.field-0 in
    let named : string_bytes name ≡ n = c.in_ok-from_str.ensures.ok ∙ c.as_str.ensures in
    let there : list_any (string_eq name) c.args.naturals.now.keys ≡ true = not_new c.in_ok-place.is_new _ e.added c.if-not-is_new.true in
    let any : list_any (λ (m : Member). bytes_eq m.natural n) list ≡ true =
    ap (λ (t : List ℕ). list_any (λ (m : Member). bytes_eq m.natural t) list) (sym named) ∙ sym (any_by string_bytes (string_bytes name) c.args.naturals.now.keys list c.requires) ∙ there in
    record {
      naturals = rw (e.keys, there) c.requires;
      list = rw any refl;
      place = e.index ∙ index_by string_bytes (string_bytes name) c.args.naturals.now.keys list c.requires ∙ ap (λ (t : List ℕ). position_or_len (λ (m : Member). bytes_eq m.natural t) list) named;
      natural = current_natural (g.S.MemberSource.stored c.args.stored.now) n list any;
    }

pub returns : goal.returns
returns g c =
    let e = c.in_ok-place.ensures in
    let n = c.args.natural.now in
    let list = c.args.list.now.items in
    let name = c.in_ok-from_str.field-0 in
    let named : string_bytes name ≡ n = c.in_ok-from_str.ensures.ok ∙ c.as_str.ensures in
    let missing : list_any (string_eq name) c.args.naturals.now.keys ≡ false = is_new c.in_ok-place.is_new _ e.added c.if-not-is_new.false in
    let any : list_any (λ (m : Member). bytes_eq m.natural n) list ≡ false =
    ap (λ (t : List ℕ). list_any (λ (m : Member). bytes_eq m.natural t) list) (sym named) ∙ sym (any_by string_bytes (string_bytes name) c.args.naturals.now.keys list c.requires) ∙ missing in
    let new = c.in_ok-source_member.ensures in
    let seen = λ (m : Member). m.natural in
    record {
      naturals = rw (e.keys, missing, c.in_ok-push.ensures.items) (map-append string_bytes c.args.naturals.now.keys (name ∷ []) ∙ rw (named, c.requires) (sym (map-append seen list (c.in_ok-source_member.field-0 ∷ []) ∙ ap (λ (t : List ℕ). map seen list ++ t ∷ []) new.natural)));
      list = c.in_ok-push.ensures.items ∙ rw (any, new.member) refl;
      place = e.index ∙ index_by string_bytes (string_bytes name) c.args.naturals.now.keys list c.requires ∙ ap (λ (t : List ℕ). position_or_len (λ (m : Member). bytes_eq m.natural t) list) named;
      natural = ap seen (current_stored (g.S.MemberSource.stored c.args.stored.now) n list any ∙ sym new.member) ∙ new.natural;
    }
