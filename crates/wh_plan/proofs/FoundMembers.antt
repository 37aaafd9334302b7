-- The rows of table member.
use Rattle.std.proofs.Common.{◌≡◌, ℕ, zero, suc, ◌+◌, ◌<◌, Bool, true, ◌&&◌, List, map, filter, length, take, reverse, Option, Some, None, refl, sym, ◌∙◌, ap, arith, inl, inr, Less}
use Rattle.std.specs.Prelude.{bytes_eq, option_map, filter_map}
use Rattle.std.specs.Option.{option_to_list}
use Rattle.std.specs.List.{range_with_len}
use Rattle.std.specs.Ordering.{eq_by_cmp, nat_cmp}
use Rattle.std.specs.Cmp.{eq_by_cmp_equiv}
use Rattle.std.specs.FinMap.{values, get}
use Rattle.std.proofs.lemmas.Bool.{cases_lt}
use Rattle.std.proofs.lemmas.Slice.Eq.{bytes_eq-Decides}
use Rattle.wh_policy.specs.declared.attribute.Dim.{Dim}
use Rattle.wh_policy.specs.declared.attribute.Dim.TheVariants.{Product, Store, Customer}
use Rattle.wh_history.specs.Keys.{at_place}
use Rattle.wh_history.specs.Accepted.{Accepted, Anchor, mentions, members, durable_key, surrogate_key, opening_of}
use Rattle.wh_history.specs.Tables.{Limits, member_row, MemberRow as Told}
use Rattle.wh_history.proofs.Basics.{some_is, both_true}
use Rattle.wh_history.proofs.Places.{at_place-place}
use Rattle.wh_history.proofs.Once.{once_distinct}
use Rattle.wh_rows.specs.declared.rows.MemberRow.{MemberRow}
use Rattle.wh_rows.specs.Types.{dim_number}
use Rattle.wh_rows.specs.declared.key.MemberKey.{MemberKey}
use Rattle.wh_rows.specs.Rows.{member_cmp}
use Rattle.wh_rows.specs.Tables.{Tables}
use Rattle.wh_rows.specs.Firsts.{part}
use Rattle.wh_rows.proofs.Orders.{dim_once, member_cmp_total, member_cmp-IsAntisymmetric}
use Rattle.wh_sql.specs.Answers.{same_text}
use Rattle.wh_model.specs.Defined.{AreOf, member_at}
use Rattle.wh_model.proofs.Listed.{filter-values, passes_at, ascends_numbered, all_numbered, among_numbered, last_numbered, number_rises}
use Rattle.wh_model.proofs.FoundPlaces.{same_text_is, text_itself, same_number_is, number_itself, at_place_there, place_given, place_at}
use Rattle.wh_model.proofs.GrownKeys.{at_past}
use Rattle.wh_model.proofs.GrownMembers.{key_of}

abbrev stored : MemberKey → Told → MemberRow
stored key m = record { dim = key.dim; durable = key.durable; natural = m.natural; opening = m.opening }

abbrev told : Dim → List Accepted → List ℕ → Told
told dim commands natural = record { natural = natural; opening = surrogate_key dim commands (opening_of natural) }

abbrev pub key_in : MemberRow → MemberKey
key_in r = record { dim = r.dim; durable = r.durable }

stored_key : (key : MemberKey) (o : Option Told) (r : MemberRow) → option_map (stored key) o ≡ Some r → key_in r ≡ key
stored_key key None r h = cc
stored_key key (Some m) r h = sym (ap key_in (some_is _ _ h))

told_natural : (dim : Dim) (commands : List Accepted) (key : MemberKey) (o : Option (List ℕ)) (r : MemberRow) → option_map (stored key) (option_map (told dim commands) o) ≡ Some r → o ≡ Some r.natural
told_natural dim commands key None r h = cc
told_natural dim commands key (Some natural) r h = ap (λ (q : MemberRow). Some q.natural) (some_is _ _ h)

abbrev pub same_dim : Dim → Dim → Bool
same_dim a b = eq_by_cmp nat_cmp (dim_number a) (dim_number b)

pub same_dim_is : (a b : Dim) → same_dim a b ≡ true → a ≡ b
same_dim_is a b h = dim_once a b (same_number_is _ _ h)

pub dim_itself : (dim : Dim) → same_dim dim dim ≡ true
dim_itself dim = number_itself (dim_number dim)

member_rises : (dim : Dim) (i j : ℕ) → i < j → member_cmp (key_of dim i) (key_of dim j) ≡ Less
member_rises Product i j less = number_rises i j less
member_rises Store i j less = number_rises i j less
member_rises Customer i j less = number_rises i j less

module _ (commands : List Accepted) where
  pub member_key : (key : MemberKey) (r : MemberRow) → member_at commands key ≡ Some r → key_in r ≡ key
  member_key key r is = stored_key key (member_row commands key.dim key.durable) r is

  -- the natural key of a row stands at its durable key
  pub natural_at : (key : MemberKey) (r : MemberRow) → member_at commands key ≡ Some r → at_place key.durable (members key.dim commands) ≡ Some r.natural
  natural_at key r is = told_natural key.dim commands key (at_place key.durable (members key.dim commands)) r is

  -- the row of what stands at a durable key
  pub member_is : (dim : Dim) (durable : ℕ) (natural : List ℕ) → at_place durable (members dim commands) ≡ Some natural → member_at commands (key_of dim durable) ≡ Some (stored (key_of dim durable) (told dim commands natural))
  member_is dim durable natural is = ap (λ (o : Option (List ℕ)). option_map (stored (key_of dim durable)) (option_map (told dim commands) o)) is

  pub no_member : (dim : Dim) (durable : ℕ) → at_place durable (members dim commands) ≡ None → member_at commands (key_of dim durable) ≡ None
  no_member dim durable is = ap (λ (o : Option (List ℕ)). option_map (stored (key_of dim durable)) (option_map (told dim commands) o)) is

module _ (limits : Limits) (commands : List Accepted) (t : Tables) (are : AreOf limits commands t) (dim : Dim) where
  held : (durable : ℕ) → get t.member (key_of dim durable) ≡ member_at commands (key_of dim durable)
  held durable = are.member (key_of dim durable)

  -- the rows of a dimension in order of their durable keys
  pub members_listed : filter (λ r. same_dim dim r.dim) (values t.member) ≡ filter_map (λ n. member_at commands (key_of dim n)) (range_with_len 1 (length (members dim commands)))
  members_listed =
      let row = λ (n : ℕ). member_at commands (key_of dim n) in
      let count = length (members dim commands) in
      let keyed : (n : ℕ) (r : MemberRow) → row n ≡ Some r → key_in r ≡ key_of dim n = λ n r is. member_key commands (key_of dim n) r is in
      filter-values member_cmp member_cmp_total member_cmp-IsAntisymmetric key_in (λ r. same_dim dim r.dim) t.member (filter_map row (range_with_len 1 count))
      (all_numbered row (λ r. (get t.member (key_in r) ≡ Some r) × (same_dim dim r.dim ≡ true)) (λ n r is. let at = keyed n r is in
      (ap (get t.member) at ∙ held n ∙ is, ap (λ (k : MemberKey). same_dim dim k.dim) at ∙ dim_itself dim)) 1 count)
      (λ k r here same.
      let is : member_at commands k ≡ Some r = sym (are.member k) ∙ here in
      let at = member_key commands k r is in
      let mine : k ≡ key_of dim k.durable = ap (λ (d : Dim). key_of d k.durable) (ap (λ (j : MemberKey). j.dim) (sym at) ∙ sym (same_dim_is dim r.dim same)) in
      let stands : row k.durable ≡ Some r = ap (member_at commands) (sym mine) ∙ is in
      elim (cases_lt (length (members dim commands)) k.durable) [
        | inl past ↦ let none = no_member commands dim k.durable (at_past k.durable (members dim commands) past) in absurd (cc)
        | inr within ↦
            let given = place_given k.durable (members k.dim commands) r.natural (natural_at commands k r is) in
            among_numbered row (λ w. eq_by_cmp member_cmp k (key_in w)) k.durable r stands (ap (eq_by_cmp member_cmp k) at ∙ (eq_by_cmp_equiv member_cmp_total).refl k) 1 count given (omega arith)
      ])
      (ascends_numbered member_cmp key_in (key_of dim) (member_rises dim) row keyed 1 count)

  -- the member of the greatest durable key is the last one
  pub last_member : part (Some (record { most = 1; backwards = true })) (filter (λ r. same_dim dim r.dim) (values t.member)) ≡ option_to_list (member_at commands (key_of dim (length (members dim commands))))
  last_member = ap (λ (rs : List MemberRow). take 1 (reverse rs)) members_listed ∙ last (length (members dim commands)) refl
    where
      last : (count : ℕ) → length (members dim commands) ≡ count → take 1 (reverse (filter_map (λ n. member_at commands (key_of dim n)) (range_with_len 1 count))) ≡ option_to_list (member_at commands (key_of dim count))
      last zero is = refl
      last (suc n) is =
          let there = at_place_there (suc n) (members dim commands) (omega arith) (omega arith) in
          let row = member_is commands dim (suc n) there.0 there.1 in
          let next : 1 + n ≡ suc n = omega arith in
          last_numbered (λ n. member_at commands (key_of dim n)) 1 n _ (ap (λ k. member_at commands (key_of dim k)) next ∙ row) ∙ sym (ap option_to_list row)

  -- a search by a natural key finds its member
  pub member_found : (natural : List ℕ) → filter (λ r. same_dim dim r.dim && same_text natural r.natural) (values t.member) ≡ option_to_list (member_at commands (key_of dim (durable_key dim commands natural)))
  member_found natural =
      let names = λ (ms : List Anchor). map (λ (a : Anchor). a.natural) ms in
      let once = once_distinct bytes_eq bytes_eq-Decides (names (mentions dim commands)) in
      let number = durable_key dim commands natural in
      let only : (j : MemberKey) (w : MemberRow) → get t.member j ≡ Some w → (same_dim dim w.dim && same_text natural w.natural) ≡ true → j ≡ key_of dim number = λ j w here passes.
      let is : member_at commands j ≡ Some w = sym (are.member j) ∙ here in
      let both = both_true _ _ passes in
      let at = member_key commands j w is in
      let mine : dim ≡ j.dim = same_dim_is dim w.dim both.0 ∙ ap (λ (k : MemberKey). k.dim) at in
      let name : natural ≡ w.natural = same_text_is natural w.natural both.1 in
      let there : at_place j.durable (members dim commands) ≡ Some natural = ap (λ (d : Dim). at_place j.durable (members d commands)) mine ∙ natural_at commands j w is ∙ ap Some (sym name) in
      let first = place_at bytes_eq bytes_eq-Decides j.durable (members dim commands) natural once there in
      ap (λ (d : Dim). key_of d j.durable) (sym mine) ∙ ap (key_of dim) (sym first) in
      let own : (w : MemberRow) → get t.member (key_of dim number) ≡ Some w → (key_in w ≡ key_of dim number) × ((same_dim dim w.dim && same_text natural w.natural) ≡ true) = λ w here.
      let is : member_at commands (key_of dim number) ≡ Some w = sym (held number) ∙ here in
      let at = member_key commands (key_of dim number) w is in
      let there = natural_at commands (key_of dim number) w is in
      let name : w.natural ≡ natural = some_is _ _ (sym there ∙ at_place-place bytes_eq bytes_eq-Decides natural (members dim commands) (place_given number (members dim commands) w.natural there)) in
      let same : same_dim dim w.dim ≡ true = ap (λ (k : MemberKey). same_dim dim k.dim) at ∙ dim_itself dim in
      let text : same_text natural w.natural ≡ true = ap (same_text natural) name ∙ text_itself natural in
      (at, rw (same, text) refl) in
      passes_at member_cmp member_cmp_total member_cmp-IsAntisymmetric key_in (λ r. same_dim dim r.dim && same_text natural r.natural) t.member (key_of dim number) own only
      ∙ ap option_to_list (held number)
