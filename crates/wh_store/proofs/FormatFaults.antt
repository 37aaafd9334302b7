-- Which faults a format has.
use Rattle.std.proofs.Common.{◌≡◌, ◌≤◌, Bool, true, false, ℤ, pos, negsuc, Option, None, Some, Ok, Err, IfOk, IfErr, refl, subst, sym, arith}
use Rattle.std.specs.Prelude.{⊤, if◌then◌else◌, int_lt}
use Rattle.wh_policy.specs.declared.format.Format.{Format}
use Rattle.wh_policy.specs.declared.format.Format.TheVariants.{One, Two}
use Rattle.wh_store.specs.declared.fault.OpenFault.{OpenFault}
use Rattle.wh_store.specs.declared.fault.OpenFault.TheVariants.{NotAWarehouse, OldFormat, NewFormat, Memory, Damaged, Store}
use Rattle.wh_policy.specs.Formats.{format_number}
use Rattle.wh_store.specs.Meta.{format_of}

abbrev pub IsOfFormat : OpenFault → Type 0
IsOfFormat NotAWarehouse = ⊤
IsOfFormat OldFormat = ⊤
IsOfFormat NewFormat = ⊤
IsOfFormat Memory = ⊥
IsOfFormat (Damaged table) = ⊥
IsOfFormat (Store cause) = ⊥

each : (low high first second : Bool) → IfErr (if low then Err OldFormat else if high then Err NewFormat else if first then Ok One else if second then Ok Two else Err NotAWarehouse) IsOfFormat
each true high first second = tt
each false true first second = tt
each false false true second = tt
each false false false true = tt
each false false false false = tt

-- those alone
pub of_format : (newest : Format) (second : Bool) (number : Option ℤ) (fault : OpenFault) → Err fault ≡ format_of newest second number → IsOfFormat fault
of_format newest second None fault is = subst (λ r. IfErr r IsOfFormat) (sym is) tt
of_format newest second (Some number) fault is = subst (λ r. IfErr r IsOfFormat) (sym is) (each (int_lt number (pos 1)) (int_lt (pos (format_number newest)) number) (int_lt number (pos 2)) second)

-- ---- a format that is told isn't newer than the newest that is known

below_two : (number : ℤ) → int_lt (pos 1) number ≡ false → int_lt number (pos 2) ≡ true
below_two (pos n) more = grind (arith, more)
below_two (negsuc n) more = refl

known_one : (low high first second : Bool) → (high ≡ false → first ≡ true) → IfOk (if low then Err OldFormat else if high then Err NewFormat else if first then Ok One else if second then Ok Two else Err NotAWarehouse) (λ format. format_number format ≤ 1)
known_one true high first second below = tt
known_one false true first second below = tt
known_one false false true second below = omega arith
known_one false false false second below = absurd (let same = below refl in cc)

known_two : (low high first second : Bool) → IfOk (if low then Err OldFormat else if high then Err NewFormat else if first then Ok One else if second then Ok Two else Err NotAWarehouse) (λ format. format_number format ≤ 2)
known_two true high first second = tt
known_two false true first second = tt
known_two false false true second = omega arith
known_two false false false true = omega arith
known_two false false false false = tt

pub is_known : (newest : Format) (second : Bool) (number : Option ℤ) → IfOk (format_of newest second number) (λ format. format_number format ≤ format_number newest)
is_known newest second None = tt
is_known One second (Some number) = known_one (int_lt number (pos 1)) (int_lt (pos 1) number) (int_lt number (pos 2)) second (below_two number)
is_known Two second (Some number) = known_two (int_lt number (pos 1)) (int_lt (pos 2) number) (int_lt number (pos 2)) second

-- ---- without the tables of the second format it is the first

single_one : (low high first : Bool) → IfOk (if low then Err OldFormat else if high then Err NewFormat else if first then Ok One else if false then Ok Two else Err NotAWarehouse) (λ format. format ≡ One)
single_one true high first = tt
single_one false true first = tt
single_one false false true = refl
single_one false false false = tt

pub is_single : (newest : Format) (number : Option ℤ) → IfOk (format_of newest false number) (λ format. format ≡ One)
is_single newest None = tt
is_single newest (Some number) = single_one (int_lt number (pos 1)) (int_lt (pos (format_number newest)) number) (int_lt number (pos 2))
