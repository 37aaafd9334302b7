use Rattle.std.proofs.Common.{◌≡◌, map, Some, None, sym, ◌∙◌, ap}
use Rattle.std.specs.Prelude.{bytes_eq, find, option_map}
use Rattle.std.specs.Option.{option_copied}
use Rattle.std.proofs.lemmas.Result.{IfOk-weaker}
use Rattle.wh_history.specs.Accepted.{member_of_sale}
use Rattle.wh_history.specs.Shapes.{shape_of, shown}
use Rattle.wh_history.specs.declared.dimension.RenderedRows.{RenderedRows}
use Rattle.wh_plan.specs.SoldMembers.{rendered_named}
use Rattle.wh_plan.proofs.SaleBatches.SalesKeys.{found_shown, keys_there, keys_missing, keys_without}
use Rattle.wh_plan.proofs.sales.sale_keys.keys_of_sale.Goals as goal
use Rattle.wh_plan.proofs.sales.sale_keys.keys_of_sale.Goals.{in-Some, in-None}

pub returns-in-Some-found : goal.returns-in-Some-found
returns-in-Some-found c list are =
    elim c.match-member_of_sale.branch [
      | in-Some w ↦
          let mentions : member_of_sale c.args.dimension.now.dim c.args.sale.now ≡ Some w.in-Some.natural.now = sym c.member_of_sale.ensures ∙ ap option_copied w.in-Some.is in
          let found : option_copied w.copied-found.result ≡ find (λ (m : RenderedRows). bytes_eq m.member.now.natural w.in-Some.natural.now) list =
          ap option_copied (w.copied-found.ensures ∙ w.get.ensures.value) ∙ are w.as_str.result.now ∙ ap (λ n. find (λ (m : RenderedRows). bytes_eq m.member.now.natural n) list) w.as_str.ensures in
          let there : rendered_named (map shown list) w.in-Some.natural.now ≡ Some (shown c.in-Some-found.member.now) =
          sym (found_shown list w.in-Some.natural.now) ∙ ap (option_map shown) (sym found ∙ ap option_copied (sym w.found-is ∙ c.in-Some-found.is)) in
          IfOk-weaker c.keys_on.result _ _ (λ keys made. made ∙ keys_there (shape_of c.args.dimension.now) (map shown list) c.args.sale.now w.in-Some.natural.now (shown c.in-Some-found.member.now) mentions there) c.keys_on.ensures
      | in-None w ↦ let none = w.found-is in let some = c.in-Some-found.is in absurd cc
    ]

pub returns-in-None-found : goal.returns-in-None-found
returns-in-None-found c list are =
    let shape = shape_of c.args.dimension.now in
    let sale = c.args.sale.now in
    elim c.match-member_of_sale.branch [
      | in-Some w ↦
          let natural = w.in-Some.natural.now in
          let mentions : member_of_sale c.args.dimension.now.dim sale ≡ Some natural = sym c.member_of_sale.ensures ∙ ap option_copied w.in-Some.is in
          let found : option_copied w.copied-found.result ≡ find (λ (m : RenderedRows). bytes_eq m.member.now.natural natural) list =
          ap option_copied (w.copied-found.ensures ∙ w.get.ensures.value) ∙ are w.as_str.result.now ∙ ap (λ n. find (λ (m : RenderedRows). bytes_eq m.member.now.natural n) list) w.as_str.ensures in
          let there : rendered_named (map shown list) natural ≡ None =
          sym (found_shown list natural) ∙ ap (option_map shown) (sym found ∙ ap option_copied (sym w.found-is ∙ c.in-None-found.is)) in
          keys_missing shape (map shown list) sale natural mentions there
      | in-None w ↦
          let mentions : member_of_sale c.args.dimension.now.dim sale ≡ None = sym c.member_of_sale.ensures ∙ ap option_copied w.in-None.is in
          keys_without shape (map shown list) sale mentions
    ]
