use Rattle.std.proofs.Common.{ap, ◌∙◌}
use Rattle.std.proofs.lemmas.List.{map-append}
use Rattle.sqlite.specs.Values.{bound, bound_value}
use Rattle.sqlite_value.specs.Value.{owned}
use Rattle.wh_sql.proofs.insert.append.Goals as goal

pub returns-clause-ok : goal.returns-clause-ok
returns-clause-ok c = ap bound c.in_ok-append.ensures.items ∙ map-append (λ v. bound_value (owned v)) c.args.values.now.items c.args.row.items
