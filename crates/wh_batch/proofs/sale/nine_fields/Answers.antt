use Rattle.std.proofs.Common.{ap, sym, ◌∙◌, ◌≡◌, ◌<◌, ◌++◌, ◌∷◌, [], add-one, take, length, map, arith}
use Rattle.std.proofs.lemmas.List.{map_push, take_all, take_more_set, length-set}
use Rattle.csv.proofs.RecordFacts.{field-there}
use Rattle.csv.specs.Records.{fields_of}
use Rattle.wh_batch.proofs.FieldLemmas.{take-field}
use Rattle.wh_batch.proofs.sale.nine_fields.Goals as goal
use Rattle.wh_batch.proofs.sale.nine_fields.Goals.{in-Some, in_default}

pub loop-i-preserved : goal.loop-i-preserved
loop-i-preserved c =
    let i = c.loop-i.i in
    let found = fields_of c.args.row.now in
    let few = c.requires in
    let below = c.loop-i-test.true in
    let there : i < length found = omega (arith, few, below) in
    elim c.match-get.branch [
      | in-Some w ↦
          let one = take-field found i w.in-Some.field.now (sym w.in-Some.ensures.value) in
          let more = take_more_set c.loop-i.fields i w.in-Some.field (rw c.loop-i.invariant.0 c.loop-i-test.true) in
          rw w.fields-is (length-set c.loop-i.fields i w.in-Some.field ∙ c.loop-i.invariant.0, rw (more, add-one) (map_push _ (take i c.loop-i.fields) w.in-Some.field ∙ ap (λ (x : _). x ++ w.in-Some.field.now ∷ []) c.loop-i.invariant.1 ∙ one), omega (arith, below))
      | in_default w ↦ absurd (field-there found i there (sym w.in_default.ensures.value))
    ]

pub returns : goal.returns
returns c =
    let found = fields_of c.args.row.now in
    let past = c.loop-i-test.false in
    let most = c.loop-i.invariant.2 in
    let whole = take_all c.loop-i.i c.loop-i.fields (rw c.loop-i.invariant.0 c.loop-i-test.false) in
    let nine : c.loop-i.i ≡ 9 = omega (arith, past, most) in
    ap (map (λ f. f.now)) (sym whole) ∙ c.loop-i.invariant.1 ∙ ap (λ i. take i found) nine
