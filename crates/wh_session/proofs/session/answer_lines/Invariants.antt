use Rattle.std.proofs.Common.{◌≡◌, List, ℕ, Some, true}
use Rattle.wh_words.specs.CommandLine.{is_operand}
use Rattle.wh_session.specs.Session.{KeepsTo}
use Rattle.wh_session.proofs.SessionLemmas.{IsSoFar}
use Rattle.wh_session.proofs.session.answer_lines.Given as goal

abbrev pub invariant-lines : goal.invariant-lines
invariant-lines g l = ((lines : List (List ℕ)) → g.C.Console.hears l.fn.console ≡ Some lines
    → IsSoFar g.H.Host.holds g.H.Host.refuses g.H.Host.stores g.H.Host.shut l.file lines l.fn.host l.host (g.W.Write.contents l.fn.out) (g.W.Write.contents l.out) l.greatest (g.C.Console.hears l.console))
    × (is_operand l.file ≡ true → KeepsTo g.H.Host.stores g.H.Host.shut l.file l.fn.host l.host)
