use Rattle.std.proofs.Common.{Some, IfOk, map, subst, sym}
use Rattle.std.specs.Prelude.{if◌then◌else◌}
use Rattle.std.specs.List.{AllByRecursion}
use Rattle.wh_rows.specs.AtRest.{IsWriting}
use Rattle.wh_rows.specs.Facts.{fact_layout, facts_in, with_facts_in}
use Rattle.wh_rows.specs.Rows as row
use Rattle.wh_rows.specs.Steps.{with_rows}
use Rattle.wh_sql.specs.Edits.{IsValid}
use Rattle.wh_sql.specs.Answers.{state_of}
use Rattle.wh_sql.proofs.FormatFacts.{same_rows}
use Rattle.wh_sql.proofs.writing.Writing.insert_new_facts.Goals as goal

pub returns-in-Two : goal.returns-in-Two
returns-in-Two g c =
    let facts = map (λ f. f.now) c.args.facts.now in
    let new = state_of g.S.Store c.insert_new-in-Two.new.self.tables.now in
    let one = c.insert_new-in-Two.ensures in
    record {
      same_reference = one.same_reference;
      writes = one.writes;
      inserted = λ clean before made at may.
          let made_so = one.inserted clean before made at (subst (λ format. AllByRecursion (IsValid (fact_layout format)) facts) c.in-Two.is may) in
          subst (λ format. IfOk c.insert_new-in-Two.result (λ done. IsWriting before (Some (if done then with_facts_in format (with_rows row.fact facts (facts_in format made)) made else made)) new)) (sym c.in-Two.is)
          (subst (λ rows. IfOk c.insert_new-in-Two.result (λ done. IsWriting before (Some (if done then record made { fact2 = rows } else made)) new)) (same_rows facts made.fact2) made_so);
      sixteen = one.sixteen;
      refused = rw c.in-Two.is one.refused;
      counted = one.counted;
      cause = rw c.in-Two.is one.cause;
      late = one.late;
      noted = one.noted;
    }
