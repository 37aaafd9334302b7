use Rattle.std.proofs.Common.{◌≡◌, Bool, true, false, cond, ◌&&◌, ◌||◌, nat_lt, List, [], ◌∷◌, drop, length, None, Some, refl, sym, ◌∙◌, ap}
use Rattle.std.specs.Prelude.{find}
use Rattle.std.specs.List.{list_any, AllByRecursion}
use Rattle.wh_history.specs.Dated.{dated}
use Rattle.wh_history.specs.Shapes.{rendered_in, shape_of, shown}
use Rattle.wh_history.specs.declared.member.Change.{Change}
use Rattle.wh_history.proofs.Joins.{all_dated}
use Rattle.wh_history.specs.MovingDays.{before_record, first_kept, keeps_row, latest_day}
use Rattle.wh_history.proofs.dimension.DimensionShape.moves_until.Goals as goal

each_fails : (p : Change → Bool) (cs : List Change) → list_any p cs ≡ false → AllByRecursion (λ c. p c ≡ false) cs
each_fails p [] none = tt
each_fails p (c ∷ cs) none =
    elim (p c) as (λ b. (p c ≡ b) → (b || list_any p cs) ≡ false → AllByRecursion (λ d. p d ≡ false) (c ∷ cs)) [
      | true ↦ λ _ h. absurd cc
      | false ↦ λ e h. (e, each_fails p cs h)
    ] refl none

none_found : (p keeps : Change → Bool) (cs : List Change) → AllByRecursion (λ c. p c ≡ false) cs → find (λ c. p c && keeps c) cs ≡ None
none_found p keeps [] fail = refl
none_found p keeps (c ∷ cs) fail = ap (λ b. cond (b && keeps c) (Some c) (find (λ d. p d && keeps d) cs)) fail.0 ∙ none_found p keeps cs fail.1

-- where no change is of a later day, none of the dated list is found
none_later : (p keeps : Change → Bool) (cs : List Change) → list_any p cs ≡ false → find (λ c. p c && keeps c) (dated cs) ≡ None
none_later p keeps cs none = none_found p keeps (dated cs) (all_dated (λ c. p c ≡ false) cs (each_fails p cs none))

pub returns-then-not-has_later : goal.returns-then-not-has_later
returns-then-not-has_later c =
    let stored = c.args.stored.now in
    let before = rendered_in (shape_of c.args.self.now) stored in
    let after = shown c.args.after.now in
    let new = drop (length stored.changes) after.member.changes in
    let last : c.latest_day-last.result ≡ latest_day new =
    c.latest_day-last.ensures ∙ ap latest_day (c.new_changes.ensures ∙ ap (λ (cs : List Change). drop (length cs) c.as_slice.result.now) c.as_slice-changes.ensures ∙ ap (drop (length stored.changes)) c.as_slice.ensures) in
    let has : c.has_later.result ≡ false = let found = c.if-not-has_later.true in cc in
    let none : list_any (λ (d : Change). nat_lt (latest_day new) d.day) stored.changes ≡ false =
    sym (c.has_later.ensures ∙ ap (list_any (λ (d : Change). nat_lt c.latest_day-last.result d.day)) c.as_slice-changes.ensures ∙ ap (λ n. list_any (λ (d : Change). nat_lt n d.day) stored.changes) last) ∙ has in
    let kept : first_kept before after (latest_day new) ≡ None = none_later (λ (d : Change). nat_lt (latest_day new) d.day) (λ (d : Change). keeps_row before after d.day) stored.changes none in
    c.last.ensures ∙ sym (ap before_record kept)
