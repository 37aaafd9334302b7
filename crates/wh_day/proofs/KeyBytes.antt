-- The bytes of natural keys.
use Rattle.std.proofs.Common.{◌≡◌, ℕ, zero, suc, ◌<◌, true, List, [], ◌∷◌, arith}
use Rattle.std.specs.List.{list_all}
use Rattle.std.specs.Str.{IsAscii, IsUtf8}
use Rattle.std.proofs.lemmas.Bool.{and_parts}
use Rattle.std.proofs.lemmas.Bool.Decides.{nat_tests}
use Rattle.std.proofs.lemmas.Str.{IsUtf8-from_ascii}
use Rattle.wh_day.specs.NaturalKey.{is_key_byte}

key_byte-ascii : (byte : ℕ) → is_key_byte byte ≡ true → byte < 128
key_byte-ascii byte h = grind (arith, nat_tests)

key_bytes-ascii : (text : List ℕ) → list_all is_key_byte text ≡ true → IsAscii text
key_bytes-ascii [] h i = omega arith
key_bytes-ascii (byte ∷ bytes) h zero = key_byte-ascii byte (and_parts (is_key_byte byte) (list_all is_key_byte bytes) h).0
key_bytes-ascii (byte ∷ bytes) h (suc i) = key_bytes-ascii bytes (and_parts (is_key_byte byte) (list_all is_key_byte bytes) h).1 i

-- a key is text
pub key_is_text : (text : List ℕ) → list_all is_key_byte text ≡ true → IsUtf8 text
key_is_text text h = IsUtf8-from_ascii text (key_bytes-ascii text h)
