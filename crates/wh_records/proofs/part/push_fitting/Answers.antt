use Rattle.std.proofs.Common.{◌≡◌, ◌+◌, ◌-◌, ◌<◌, ◌≤◌, ◌++◌, ◌∙◌, ℕ, length, take, drop, ap, arith, append_assoc}
use Rattle.std.specs.Prelude.{flat_map}
use Rattle.wh_records.specs.Texts.{record_line}
use Rattle.wh_records.specs.Parts.{fitting}
use Rattle.wh_records.proofs.PartLemmas.{stops, goes_on, ends, line_more}
use Rattle.wh_records.proofs.part.push_fitting.Goals as goal

pub returns-then-left-len-clause-count : goal.returns-then-left-len-clause-count
returns-then-left-len-clause-count c =
    let counted : c.len.result ≡ length c.in_ok-line.line.items = let len = c.len.ensures in omega arith in
    let long : c.len.result ≡ length (record_line c.index-records-place.result) = counted ∙ ap length c.in_ok-line.ensures in
    let wide : c.loop-place.left < length (record_line c.index-records-place.result) = omega (arith, long, c.if-left-len.true) in
    stops c.args.most c.args.records.now c.loop-place.place c.loop-place.left c.args.room c.loop-place.invariant.count c.index-records-place.result c.loop-place-test.true c.index-records-place.is wide

pub loop-place-preserved : goal.loop-place-preserved
loop-place-preserved c =
    let rs = c.args.records.now in
    let place : ℕ = c.loop-place.place in
    let r = c.index-records-place.result in
    let counted : c.len.result ≡ length c.in_ok-line.line.items = let len = c.len.ensures in omega arith in
    let long : c.len.result ≡ length (record_line c.index-records-place.result) = counted ∙ ap length c.in_ok-line.ensures in
    let recounted : c.len-left.result ≡ length c.in_ok-line.line.items = let len = c.len-left.ensures in omega arith in
    let again : c.len-left.result ≡ length (record_line c.index-records-place.result) = recounted ∙ ap length c.in_ok-line.ensures in
    let le : length (record_line c.index-records-place.result) ≤ c.loop-place.left = omega (arith, long, c.if-left-len.false) in
    let few : c.loop-place.place < c.args.most = omega (arith, c.if-place-most.false, c.loop-place.invariant.few) in
    let line : c.deref.result.now ≡ record_line c.index-records-place.result = c.deref.ensures.value ∙ c.in_ok-line.ensures in
    record {
      few = omega (arith, few);
      count = ap (λ n. c.loop-place.place + 1 + fitting (c.args.most - (c.loop-place.place + 1)) (c.loop-place.left - n) (drop (c.loop-place.place + 1) c.args.records.now)) again
          ∙ goes_on c.args.most c.args.records.now c.loop-place.place c.loop-place.left c.args.room c.loop-place.invariant.count c.index-records-place.result c.loop-place-test.true c.index-records-place.is few le;
      text = c.in_ok-extend_from_slice.ensures.items
          ∙ ap (λ t. t ++ c.deref.result.now) c.loop-place.invariant.text
          ∙ append_assoc c.args.text.now.items (flat_map record_line (take c.loop-place.place c.args.records.now)) c.deref.result.now
          ∙ ap (λ t. c.args.text.now.items ++ t) (ap (λ t. flat_map record_line (take c.loop-place.place c.args.records.now) ++ t) line ∙ line_more c.args.records.now c.loop-place.place c.index-records-place.result c.loop-place-test.true c.index-records-place.is);
    }

pub returns-clause-count : goal.returns-clause-count
returns-clause-count c = ends c.args.most c.args.records.now c.loop-place.place c.loop-place.left c.args.room c.loop-place.invariant.count c.loop-place-test.false (omega arith)
