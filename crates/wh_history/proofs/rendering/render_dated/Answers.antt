use Rattle.std.proofs.Common.{◌≡◌, ◌∷◌, ◌++◌, ◌+◌, ◌-◌, ◌≤◌, List, length, map, subst, drop, refl, sym, ◌∙◌, arith, Bor, length-drop}
use Rattle.std.proofs.lemmas.List.{length-map}
use Rattle.wh_day.specs.Day.{first_day}
use Rattle.wh_history.specs.Dated.{dated}
use Rattle.wh_history.specs.Rows.{row, starts, spans}
use Rattle.wh_history.specs.Laws.{EachDayHasOneRow, OneRowIsCurrent}
use Rattle.wh_history.specs.declared.member.Change.{Change}
use Rattle.wh_history.specs.declared.rows.DimRow.{DimRow}
use Rattle.wh_history.proofs.Calendar.{not_first}
use Rattle.wh_history.proofs.Steps.{starts_end}
use Rattle.wh_history.proofs.Spans.{InOrder, InOrder-dated, each_day_has_one_row, one_row_is_current}
use Rattle.wh_history.proofs.Walks.{all_own, first_is, start_at, one_left, two_left, row_more}
use Rattle.wh_history.proofs.rendering.render_dated.Goals as goal

abbrev seen : Bor Change → Change
seen c = c.now

pub loop-place-init : goal.loop-place-init
loop-place-init c =
    let m = c.args.frame.now.member.now in
    let order : InOrder (dated m.changes) = InOrder-dated m.changes c.requires.days in
    record {
      order = rw c.requires.changes order;
      own = rw c.requires.changes (all_own (dated m.changes) order);
      start = record {
        key = rw c.first.ensures refl;
        in_force = rw (c.copied.ensures, c.first-2.ensures.value, c.first.ensures) (first_is seen c.args.changes.now (dated m.changes) c.requires.changes order);
      };
      whole = rw (c.new-found.ensures.items, c.first.ensures, c.requires.changes) refl;
    }

pub day_before-requires : goal.day_before-requires
day_before-requires c =
    let x = c.index-changes-place-in-loop-place.result in
    let y = c.index-changes-place.result in
    let left = two_left seen c.args.changes.now c.loop-place.place x y (omega arith) (omega arith) c.index-changes-place-in-loop-place.is c.index-changes-place.is in
    let up = rw left at c.loop-place.invariant.order in
    not_first x.now.day y.now.day up.0 up.1.0

pub loop-place-preserved : goal.loop-place-preserved
loop-place-preserved c =
    let frame = c.args.frame.now in
    let x = c.index-changes-place-in-loop-place.result in
    let y = c.index-changes-place.result in
    let rest = map seen (drop (c.loop-place.place + 1) c.args.changes.now) in
    let left = two_left seen c.args.changes.now c.loop-place.place x y (omega arith) (omega arith) c.index-changes-place-in-loop-place.is c.index-changes-place.is in
    let next = one_left seen c.args.changes.now c.loop-place.place y (omega arith) c.index-changes-place.is in
    let up = rw left at c.loop-place.invariant.order in
    let own = rw left at c.loop-place.invariant.own in
    let differs = sym c.same_tracked.ensures ∙ c.if-same_tracked.false in
    let rows_of = map (row frame.types.now frame.profile_now frame.member.now) in
    let all = rows_of (spans first_day (starts frame.types.now (dated frame.member.now.changes))) in
    let whole : c.loop-place.found.items ++ rows_of (spans c.loop-place.start.day (starts frame.types.now (x.now ∷ y.now ∷ rest))) ≡ all = rw left at c.loop-place.invariant.whole in
    record {
      order = rw next (up.1.1, up.1.2);
      own = rw next own.1;
      start = start_at frame.member.now x.now y.now rest up own;
      whole = rw (next, c.in_ok-push.ensures.items, c.in_ok-render_row.ensures, c.day_before.ensures) (row_more frame.types.now frame.profile_now frame.member.now c.loop-place.found.items all x.now y.now rest c.loop-place.start.day differs whole);
    }

pub returns : goal.returns
returns c =
    let frame = c.args.frame.now in
    let few : length (map seen (drop (c.loop-place.place - 1) c.args.changes.now)) ≤ 1 = simp (length-map, length-drop) (omega arith) in
    let none = starts_end frame.types.now (map seen (drop (c.loop-place.place - 1) c.args.changes.now)) few in
    let rows_of = map (row frame.types.now frame.profile_now frame.member.now) in
    let is : c.push-2.new.self.items ≡ rows_of (spans first_day (starts frame.types.now (dated frame.member.now.changes))) =
    rw (c.in_ok-push-2.ensures.items, c.in_ok-render_row-2.ensures, c.last.ensures) (rw none at c.loop-place.invariant.whole) in
    record {
      rows = is;
      days = subst (λ (rs : List DimRow). EachDayHasOneRow rs) (sym is) (each_day_has_one_row frame.types.now frame.profile_now frame.member.now c.requires.days);
      current = subst (λ (rs : List DimRow). OneRowIsCurrent rs) (sym is) (one_row_is_current frame.types.now frame.profile_now frame.member.now c.requires.days);
    }
