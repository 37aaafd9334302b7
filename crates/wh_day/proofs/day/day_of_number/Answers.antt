use Rattle.std.proofs.Common.{arith, refl, sym}
use Rattle.wh_day.proofs.Days.{Parts, casts, parts-is_date, is_date, is_day-parts, day_of_number-some, day_of_number-none}
use Rattle.wh_day.proofs.day.day_of_number.Goals as goal
use Rattle.wh_day.proofs.day.day_of_number.Goals.{then-year-lt1900-via-then-year-lt1900, then-year-lt1900-via-else-year-lt1900+then-year-gt9999}

pub returns-then-year-lt1900 : goal.returns-then-year-lt1900
returns-then-year-lt1900 c =
    elim c.then-year-lt1900.branch [
      | then-year-lt1900-via-then-year-lt1900 w ↦ sym (day_of_number-none c.args.number (λ p. omega (arith, p.year_low)))
      | then-year-lt1900-via-else-year-lt1900+then-year-gt9999 w ↦ sym (day_of_number-none c.args.number (λ p. omega (arith, p.year_high)))
    ]

found : (c : goal.In-Ok) → Parts c.args.number
found c =
    let e = casts c.args.number c.if-year-gt9999.false in
    parts-is_date c.args.number c.if-year-lt1900.false c.if-year-gt9999.false (rw (e.0, e.1, e.2) at c.in-Ok.ensures.succeeds.0 refl)

pub invariant_of-result : goal.invariant_of-result
invariant_of-result c = is_day-parts c.args.number (found c)

pub returns-in-Ok : goal.returns-in-Ok
returns-in-Ok c = sym (day_of_number-some c.args.number (found c))

pub returns-in-Err : goal.returns-in-Err
returns-in-Err c =
    let e = casts c.args.number c.if-year-gt9999.false in
    let refused = rw (e.0, e.1, e.2) at c.in-Err.ensures.succeeds.1 in
    sym (day_of_number-none c.args.number (λ p. cc (refused (is_date c.args.number p))))
