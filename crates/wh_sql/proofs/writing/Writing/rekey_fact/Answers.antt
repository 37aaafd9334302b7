use Rattle.std.proofs.Common.{refl, rules, ap, ◌∙◌}
use Rattle.std.proofs.lemmas.Result.{err_from_is_err_and}
use Rattle.sqlite.specs.Held.{state}
use Rattle.sqlite.specs.Values.{bound}
use Rattle.wh_sql.proofs.Putting.{rekey_leaves_in, rekeys_in}
use Rattle.wh_sql.proofs.writing.Writing.rekey_fact.Goals as goal

pub returns-in_err-execute : goal.returns-in_err-execute
returns-in_err-execute g c =
    let p = err_from_is_err_and c.from_residual-in_err-execute.result c.from_residual-in_err-execute.ensures.1 in
    let same = ap bound c.deref.ensures.value ∙ c.in_ok-values.ensures.ok in
    rw (p.1, p.2) (record {
      same_reference = refl;
      writes = record { clean = c.execute.ensures.clean; counts = c.execute.ensures.counts; left = λ clean before made at may. rekey_leaves_in c.args.format _ (state g.S.Store c.args.self.now.tables.now.conn) (state g.S.Store c.execute.new.conn) before made at clean (rw c.rekeying.ensures at c.execute.ensures.survives) };
      edited = λ clean before made at may. tt;
      cause = λ clean inside room types. (λ other. rw (c.rekeying.ensures, same) at (c.in_err-execute.ensures.cause clean inside));
      counted = tt;
      late = λ off. (refl, (c.execute.ensures.late off).1);
      noted = search rules;
    })

pub returns : goal.returns
returns g c =
    let same = ap bound c.deref.ensures.value ∙ c.in_ok-values.ensures.ok in
    record {
      same_reference = refl;
      writes = record { clean = c.execute.ensures.clean; counts = c.execute.ensures.counts; left = λ clean before made at may. rekey_leaves_in c.args.format _ (state g.S.Store c.args.self.now.tables.now.conn) (state g.S.Store c.execute.new.conn) before made at clean (rw c.rekeying.ensures at c.execute.ensures.survives) };
      edited = λ clean before made at may. rekeys_in c.args.format _ (state g.S.Store c.args.self.now.tables.now.conn) (state g.S.Store c.execute.new.conn) before made at clean (rw c.rekeying.ensures at c.execute.ensures.survives) c.in_ok-execute.field-0 (rw c.rekeying.ensures at (c.in_ok-execute.ensures.runs clean)) (c.args.line.now, c.args.keys.now) same may;
      cause = λ clean inside room types. tt;
      counted = c.in_ok-writes.ensures.more;
      late = λ off. search rules;
      noted = c.replace-refused.ensures.value;
    }
