use Rattle.std.proofs.Common.{◌≡◌, Bool, true, false, ◌||◌, map, refl, sym, ap, ◌∙◌}
use Rattle.std.specs.List.{list_any}
use Rattle.sqlite.specs.Schema.{Schema}
use Rattle.sqlite.specs.Change.{is_used}
use Rattle.wh_rows.specs.Schema.{warehouse}
use Rattle.wh_sql.specs.Present.{is_any_taken, is_second_taken}
use Rattle.wh_sql.proofs.schema.is_any_taken.Goals as goal

first_taken : Schema → Bool
first_taken schema = list_any (is_used schema) (map (λ t. t.name) warehouse.tables)

by_the_first : (a b : Bool) → a ≡ true → true ≡ (a || b)
by_the_first true b is = refl
by_the_first false b is = absurd (cc)

by_the_second : (a b : Bool) → a ≡ false → b ≡ (a || b)
by_the_second true b is = absurd (cc)
by_the_second false b is = refl

pub returns-then-is_one_taken : goal.returns-then-is_one_taken
unfolding is_any_taken first_taken
returns-then-is_one_taken g c =
    let schema = c.args.conn.now.schema in
    c.if-is_one_taken.true ∙ by_the_first (first_taken schema) (is_second_taken schema) (sym (c.is_one_taken.ensures ∙ ap first_taken c.schema.ensures.value) ∙ c.if-is_one_taken.true)

pub returns-else-is_one_taken : goal.returns-else-is_one_taken
unfolding is_any_taken is_second_taken first_taken
returns-else-is_one_taken g c =
    let schema = c.args.conn.now.schema in
    c.is_one_taken-else-is_one_taken.ensures ∙ ap is_second_taken c.schema-else-is_one_taken.ensures.value
    ∙ by_the_second (first_taken schema) (is_second_taken schema) (sym (c.is_one_taken.ensures ∙ ap first_taken c.schema.ensures.value) ∙ c.if-is_one_taken.false)
