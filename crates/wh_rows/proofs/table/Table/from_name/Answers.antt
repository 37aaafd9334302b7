use Rattle.std.proofs.Common.{◌≡◌, sym, ap, ◌∙◌, IfSome, subst}
use Rattle.wh_rows.specs.Names.{table_name, table_of_name}
use Rattle.wh_rows.proofs.Named.{named_so, named_back}
use Rattle.wh_rows.proofs.table.Table.from_name.Goals as goal

pub returns-clause-found : goal.returns-clause-found
returns-clause-found c = subst (λ found. IfSome found (λ table. table_name table ≡ c.args.name.now)) (sym c.table_of_name.ensures) (named_so c.args.name.now)

pub returns-clause-only : goal.returns-clause-only
returns-clause-only c table is = c.table_of_name.ensures ∙ ap table_of_name (sym is) ∙ named_back table
