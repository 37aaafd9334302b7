use Rattle.std.proofs.Common.{List, drop, take, length, ◌-◌}
use Rattle.std.proofs.lemmas.Result.{on_ok_weaker}
use Rattle.wh_policy.specs.declared.record.DimensionRecord.{DimensionRecord}
use Rattle.wh_records.proofs.FilledParts.{still_full, now_filled}
use Rattle.wh_records.proofs.PartLemmas.{slice_least}
use Rattle.wh_records.proofs.part.Filling.add.Goals as goal

pub returns-then-self : goal.returns-then-self
returns-then-self c attributes place done is = still_full attributes place done c.args.records.now c.args.self.now is c.if-self.true

pub returns : goal.returns
returns c =
    let records : List DimensionRecord = take (length c.args.records.now - c.pass_over-first.result) (drop c.pass_over-first.result c.args.records.now) in
    on_ok_weaker c.push.result
    (λ further attributes place done is.
    now_filled attributes place done c.args.records.now c.args.self.now is c.pass_over-first.new.before records c.push.new.self c.if-self.false c.pass_over-first.ensures.left
    (slice_least c.pass_over-first.result c.args.self.now.before c.args.records.now c.pass_over-first.ensures.first) further)
    c.push.ensures
