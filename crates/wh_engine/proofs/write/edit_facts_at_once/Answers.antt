use Rattle.std.proofs.Common.{◌≡◌, map, Some, subst, sym, ap, ◌∙◌, arith}
use Rattle.sqlite.specs.Held.{state}
use Rattle.wh_rows.specs.AtRest.{IsWriting}
use Rattle.wh_rows.specs.Facts.{facts_in, with_facts_in}
use Rattle.wh_rows.specs.Steps.{after_all}
use Rattle.wh_plan.specs.Edits.{with_fact_edit}
use Rattle.wh_plan.specs.FactEdits.{put_of}
use Rattle.wh_engine.specs.Writing.{AreValidFactEdits}
use Rattle.wh_engine.proofs.PutFacts.{valid_facts, facts_put}
use Rattle.wh_engine.proofs.write.edit_facts_at_once.Goals as goal

pub returns-then-branch-clause-edited : goal.returns-then-branch-clause-edited
returns-then-branch-clause-edited g c clean before made at may =
    let format = c.args.format in
    let facts = map (λ f. f.now) c.in-Ok-Some.facts.items in
    let put : c.args.edits.now ≡ map put_of facts = c.in-Ok-Some.ensures c.in-Ok-Some.facts c.in-Ok-Some.field-0-is in
    let valid = valid_facts format facts (subst (AreValidFactEdits format) put may) in
    let inserted = rw (c.if-branch.true, c.deref.ensures.value) at c.in_ok-insert_new_facts.ensures.inserted in
    subst (λ m. IsWriting before (Some (with_facts_in format m made)) (state g.S.Store c.insert_new_facts.new.self.tables.now.conn)) (sym (ap (λ es. after_all with_fact_edit es (facts_in format made)) put ∙ facts_put facts (facts_in format made)))
    (inserted clean before made at valid)

pub returns-clause-writes : goal.returns-clause-writes
returns-clause-writes g c =
    let format = c.args.format in
    let facts = map (λ f. f.now) c.in-Ok-Some.facts.items in
    let put : c.args.edits.now ≡ map put_of facts = c.in-Ok-Some.ensures c.in-Ok-Some.facts c.in-Ok-Some.field-0-is in
    let inserted = rw (c.if-branch.false, c.deref.ensures.value) at c.in_ok-insert_new_facts.ensures.inserted in
    let writes = c.edit_each_fact-2.ensures.writes in
    record {
      clean = λ clean. c.insert_new_facts.ensures.writes.clean (writes.clean clean);
      counts = omega (arith, c.insert_new_facts.ensures.writes.counts, writes.counts);
      left = λ clean before made at may. writes.left clean before made (inserted (writes.clean clean) before made at (valid_facts format facts (subst (AreValidFactEdits format) put may))) may;
    }

pub returns-clause-edited : goal.returns-clause-edited
returns-clause-edited g c clean before made at may =
    let format = c.args.format in
    let facts = map (λ f. f.now) c.in-Ok-Some.facts.items in
    let put : c.args.edits.now ≡ map put_of facts = c.in-Ok-Some.ensures c.in-Ok-Some.facts c.in-Ok-Some.field-0-is in
    let inserted = rw (c.if-branch.false, c.deref.ensures.value) at c.in_ok-insert_new_facts.ensures.inserted in
    c.edit_each_fact-2.ensures.edited clean before made (inserted (c.edit_each_fact-2.ensures.writes.clean clean) before made at (valid_facts format facts (subst (AreValidFactEdits format) put may))) may
