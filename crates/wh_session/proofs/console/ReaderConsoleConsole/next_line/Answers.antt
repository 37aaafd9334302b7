use Rattle.std.proofs.Common.{◌≡◌, ◌≢◌, sym, subst, arith, List, ℕ, Option, Some}
use Rattle.std.specs.Prelude.{option_map}
use Rattle.wh_words.specs.Line.{lines_of}
use Rattle.wh_session.specs.Line.{IsNext, IsNextByte}
use Rattle.wh_session.proofs.LineLemmas.{heard, input_ends, line_ends, read_byte}
use Rattle.wh_session.proofs.console.ReaderConsoleConsole.next_line.Goals as goal

pub returns-in-Some-eq10 : goal.returns-in-Some-eq10
returns-in-Some-eq10 g c = λ lines heard_is.
    let old = g.R.Read.remaining c.args.self.now.reader in
    let mid = g.R.Read.remaining c.bytes.self.reader in
    let new = g.R.Read.remaining c.next_byte.new.reader in
    let known = heard old lines heard_is in
    let ends : c.in-Some-eq10.field-0 ≡ 10 = omega (arith, c.in-Some-eq10.field-0-test, c.in-Some-eq10.field-0-is) in
    subst (λ (them : List (List ℕ)). IsNext c.args.most them (Some c.bytes.line.items) (option_map lines_of new)) known.2
    (line_ends c.args.most c.bytes.line.items known.0 mid new (c.bytes.invariant known.0 known.1) (λ left is. subst (λ (byte : ℕ). IsNextByte left (Some byte) new) ends (rw c.in-Some-eq10.is at (c.in_ok-next_byte.ensures left is))))

pub returns-in-None : goal.returns-in-None
returns-in-None g c = λ lines heard_is.
    let old = g.R.Read.remaining c.args.self.now.reader in
    let mid = g.R.Read.remaining c.bytes.self.reader in
    let new = g.R.Read.remaining c.next_byte.new.reader in
    let known = heard old lines heard_is in
    subst (λ (them : List (List ℕ)). IsNext c.args.most them (option_map (λ bytes. bytes.items) c.last_line.result) (option_map lines_of new)) known.2
    (subst (λ (last : Option (List ℕ)). IsNext c.args.most (lines_of known.0) last (option_map lines_of new)) (sym c.last_line.ensures)
    (input_ends c.args.most c.bytes.line.items known.0 mid new (c.bytes.invariant known.0 known.1) (λ left is. rw c.in-None.is at (c.in_ok-next_byte.ensures left is))))

pub bytes-preserved : goal.bytes-preserved
bytes-preserved g c = λ bytes is.
    let other : c.in-Some.byte ≢ 10 = omega (arith, c.in-Some.byte-test, c.in-Some.byte-is) in
    read_byte c.args.most c.bytes.line.items c.add_byte.new.line.items bytes (g.R.Read.remaining c.bytes.self.reader) (g.R.Read.remaining c.next_byte.new.reader) c.in-Some.byte (c.bytes.invariant bytes is)
    (λ left heard. rw c.in-Some.is at (c.in_ok-next_byte.ensures left heard)) other c.in_ok-add_byte-in-Some.ensures
