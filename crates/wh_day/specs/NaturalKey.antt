-- The texts that natural keys and tickets are.
use Rattle.std.specs.Prelude.{ℕ, Bool, ◌&&◌, ◌||◌, ◌==◌, nat_le, List, length}
use Rattle.std.specs.List.{list_all}
use Rattle.std.specs.Char.{is_ascii_alphanumeric}

-- a letter, a digit, '-', '_' or '.'
abbrev pub is_key_byte : ℕ → Bool
is_key_byte byte = is_ascii_alphanumeric byte || (byte == 45) || (byte == 95) || (byte == 46)

-- one up to `most` such bytes
abbrev pub is_key : ℕ → List ℕ → Bool
is_key most text = nat_le 1 (length text) && nat_le (length text) most && list_all is_key_byte text
