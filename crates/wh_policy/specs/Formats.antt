-- The formats of a warehouse.
use Rattle.std.specs.Prelude.{ℕ, Bool, true, false}
use Rattle.wh_policy.specs.declared.format.Format.{Format}
use Rattle.wh_policy.specs.declared.format.Format.TheVariants.{One, Two}

-- a format's number, which meta keeps
abbrev pub format_number : Format → ℕ
format_number One = 1
format_number Two = 2

-- it is the second
abbrev pub is_two : Format → Bool
is_two One = false
is_two Two = true

abbrev pub same_format : Format → Format → Bool
same_format One One = true
same_format One Two = false
same_format Two One = false
same_format Two Two = true
