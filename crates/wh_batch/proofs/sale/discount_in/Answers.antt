use Rattle.std.proofs.Common.{◌≡◌, ◌∙◌, ap, subst, refl, ℕ, List, [], Option, Some, None, option_map, unwrap_or, Bor}
use Rattle.csv.specs.Records.{fields_of, field_at}
use Rattle.wh_day.specs.Reading.{Gives}
use Rattle.wh_batch.specs.Layouts.{discount_in}
use Rattle.wh_batch.specs.Numbers.{discount_of}
use Rattle.wh_batch.proofs.sale.discount_in.Goals as goal

now_or_nothing : (found : Option (Bor (List ℕ))) (other : Bor (List ℕ)) → other.now ≡ [] → (unwrap_or found other).now ≡ unwrap_or (option_map (λ f. f.now) found) []
now_or_nothing None other nothing = nothing
now_or_nothing (Some field) other nothing = refl

pub returns-in-Two : goal.returns-in-Two
unfolding discount_in
returns-in-Two c =
    let same : c.unwrap_or.result.now ≡ unwrap_or (field_at (fields_of c.args.row.now) 9) [] =
    ap (λ f. f.now) c.unwrap_or.ensures ∙ now_or_nothing c.get.result _ refl ∙ ap (λ o. unwrap_or o []) c.get.ensures.value in
    rw c.in-Two.is (subst (λ field. Gives (λ d. d) c.discount_of.result (discount_of field)) same c.discount_of.ensures)
