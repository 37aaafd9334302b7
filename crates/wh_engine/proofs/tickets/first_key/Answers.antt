use Rattle.std.proofs.Common.{option_map, slice_get, filter, ap, ◌∙◌}
use Rattle.std.specs.FinMap.{values}
use Rattle.std.proofs.lemmas.Bool.{ltb-true}
use Rattle.sqlite.proofs.MarkLemmas.{slice_get-take}
use Rattle.wh_rows.specs.Parts.{is_behind}
use Rattle.wh_engine.proofs.tickets.first_key.Goals as goal

pub returns-clause-first : goal.returns-clause-first
returns-clause-first g c clean t rests =
    let d = g.T.StoredTable in
    let texts = g.T.PagedTable.part_texts in
    c.in_ok-key_of_first.ensures
    ∙ ap (λ l. option_map d.layout.key (slice_get l 0)) (c.deref.ensures.value ∙ c.in_ok-rows.ensures.rows clean t rests)
    ∙ ap (option_map d.layout.key) (slice_get-take texts.most (filter (is_behind d.layout c.args.part.now.after) (values (d.rows t))) 0 (ltb-true 0 texts.most texts.some))
