use Rattle.std.proofs.Common.{◌≡◌, List, [], ◌∷◌, Option, subst}
use Rattle.wh_store.specs.Scan.{HandsOut, rows_left}
use Rattle.wh_checking.proofs.Comparing.{alike_next}
use Rattle.wh_checking.proofs.compare.is_next.Goals as goal

never : {X : Type 0} (left : List X) (x : X) (xs : List X) → left ≡ [] → left ≡ x ∷ xs → ⊥
never left x xs none is = cc

pub returns-in-Some-clause-next : goal.returns-in-Some-clause-next
returns-in-Some-clause-next g c t same at =
    let layout = g.T.StoredTable.layout in
    let rows = g.T.StoredTable.rows t in
    let left = rows_left layout rows c.args.ahead.now in
    let rest = rows_left layout rows c.next_expected.new.ahead in
    let is : left ≡ c.in-Some.there ∷ rest = subst (λ (found : Option _). HandsOut left found rest) c.in-Some.is (c.in_ok-there.ensures.row t same at) in
    alike_next layout left rest c.in-Some.there c.args.row.now c.are_alike.result is c.are_alike.ensures

pub returns-in-None-clause-next : goal.returns-in-None-clause-next
returns-in-None-clause-next g c t same at =
    let layout = g.T.StoredTable.layout in
    let rows = g.T.StoredTable.rows t in
    let left = rows_left layout rows c.args.ahead.now in
    let rest = rows_left layout rows c.next_expected.new.ahead in
    let none = subst (λ (found : Option _). HandsOut left found rest) c.in-None.is (c.in_ok-there.ensures.row t same at) in
    λ there later is alike. never left there later none.0 is
