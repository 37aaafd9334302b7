use Rattle.std.proofs.Common.{◌≡◌, ◌∙◌, Option, Some, None, false, ap, refl, sym, subst}
use Rattle.std.specs.Prelude.{filter, is_some}
use Rattle.wh_rows.specs.Keys.{stands_at_number}
use Rattle.wh_rows.specs.Raw.{IsLastOf}
use Rattle.wh_rows.specs.Rows as layout
use Rattle.wh_rows.specs.declared.rows.CommandRow.{CommandRow}
use Rattle.wh_rows.specs.declared.table.Table.TheVariants as table
use Rattle.wh_engine.proofs.admission.is_taken.Goals as goal

pub returns-clause-taken : goal.returns-clause-taken
returns-clause-taken g c clean limits commands t are rests = c.is_some.ensures ∙ ap is_some (c.in_ok-row.ensures.rows clean t rests ∙ are.command c.args.number)

pub returns-clause-free : goal.returns-clause-free
returns-clause-free g c clean stored rests untaken =
    let found : Option CommandRow = c.in_ok-row.row in
    let none : found ≡ None = missing found (sym c.is_some.ensures ∙ untaken) in
    subst (IsLastOf layout.command (filter (stands_at_number c.args.number) (stored.rows table.Command))) none (c.in_ok-row.ensures.stored clean stored rests)
  where
    missing : (found : Option CommandRow) → is_some found ≡ false → found ≡ None
    missing None is = refl
    missing (Some row) is = absurd cc
