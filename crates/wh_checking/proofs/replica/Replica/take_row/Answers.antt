use Rattle.std.proofs.Common.{◌≡◌, List, [], Some, subst}
use Rattle.sqlite.specs.Files.{over_files}
use Rattle.wh_history.specs.Accepted.{Accepted}
use Rattle.wh_checking.specs.Replica.{IsOpenFor, IsEngineOf, IsReplica, IsFollowed, IsMadeOrNot}
use Rattle.wh_checking.proofs.Answering.{told_more}
use Rattle.wh_checking.proofs.Followed.{followed_more}
use Rattle.wh_checking.proofs.replica.Replica.take_row.Goals as goal

pub returns-in-Some : goal.returns-in-Some
returns-in-Some c limits commands held =
    let last = c.follow.new.engine in
    let Holds = λ (list : List Accepted). IsOpenFor over_files limits list last in
    let Others = λ (list : List Accepted). IsReplica limits list (record { limits = c.args.self.now.limits; engine = Some last }) in
    told_more (IsFollowed limits commands c.args.row Holds) (IsFollowed limits commands c.args.row Others) c.follow.result
    (λ taken it. followed_more limits commands c.args.row Holds Others (λ list is. record { limits_are = held.limits_are; engine_is = is }) taken it)
    (c.follow.ensures limits commands (subst (IsEngineOf over_files limits commands) c.in-Some.is held.engine_is))

pub returns-in-Some-2 : goal.returns-in-Some-2
returns-in-Some-2 c limits commands held =
    let none : commands ≡ [] = subst (IsEngineOf over_files limits commands) c.in_default.is held.engine_is in
    let made = subst (IsMadeOrNot over_files c.args.self.now.limits c.args.row) c.in-Some-2.is c.in_ok-engine.ensures in
    let first = subst (λ least. IsMadeOrNot over_files least c.args.row (Some c.in-Some-2.engine)) held.limits_are made in
    rw none (first.0, first.1, record { limits_are = held.limits_are; engine_is = first.2 })
