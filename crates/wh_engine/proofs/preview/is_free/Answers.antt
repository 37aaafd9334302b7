use Rattle.std.proofs.Common.{◌≡◌, ◌∙◌, Option, Some, None, false, ap, not, refl, sym, subst}
use Rattle.std.specs.Prelude.{filter, is_some}
use Rattle.wh_rows.specs.Questions.{has_id}
use Rattle.wh_rows.specs.Raw.{IsLastOf}
use Rattle.wh_rows.specs.Rows as layout
use Rattle.wh_rows.specs.declared.rows.CommandRow.{CommandRow}
use Rattle.wh_rows.specs.declared.table.Table.TheVariants as table
use Rattle.wh_engine.proofs.preview.is_free.Goals as goal

missing : (found : Option CommandRow) → is_some found ≡ false → found ≡ None
missing None is = refl
missing (Some row) is = absurd cc

pub returns-clause-new : goal.returns-clause-new
returns-clause-new g c clean limits commands t are rests distinct free =
    let found : Option CommandRow = c.in_ok-row.row in
    let none : found ≡ None = missing found (c.is_none.ensures ∙ ap not free) in
    sym (c.in_ok-row.ensures.command clean limits commands t are rests distinct) ∙ none

pub returns-clause-free : goal.returns-clause-free
returns-clause-free g c clean stored rests free =
    let found : Option CommandRow = c.in_ok-row.row in
    let none : found ≡ None = missing found (c.is_none.ensures ∙ ap not free) in
    subst (IsLastOf layout.command (filter (has_id c.args.id.now) (stored.rows table.Command))) none (c.in_ok-row.ensures.stored clean stored rests)
