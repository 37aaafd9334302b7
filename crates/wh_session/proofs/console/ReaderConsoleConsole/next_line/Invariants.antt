use Rattle.std.proofs.Common.{◌≡◌, List, ℕ, Some}
use Rattle.wh_session.proofs.LineLemmas.{IsWithin}
use Rattle.wh_session.proofs.console.ReaderConsoleConsole.next_line.Given as goal

abbrev pub invariant-bytes : goal.invariant-bytes
invariant-bytes g l = (bytes : List ℕ) → g.R.Read.remaining l.fn.self.reader ≡ Some bytes → IsWithin l.most l.line.items bytes (g.R.Read.remaining l.self.reader)
