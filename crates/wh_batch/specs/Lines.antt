-- The lines of a text.
use Rattle.std.specs.Prelude.{ℕ, ◌+◌, Bool, not, cond, nat_eq, ◌&&◌, ◌||◌, List, [], ◌∷◌}

-- whether a byte ends a line: a CR, or an LF that isn't behind a CR
abbrev pub ends_line : (previous byte : ℕ) → Bool
ends_line previous byte = nat_eq byte 13 || (nat_eq byte 10 && not (nat_eq previous 13))

-- how many lines end in what follows a byte
unfoldable pub line_ends : (previous : ℕ) → List ℕ → ℕ
line_ends previous [] = 0
line_ends previous (byte ∷ bytes) = cond (ends_line previous byte) 1 0 + line_ends byte bytes
