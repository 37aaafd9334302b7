-- What is stored is judged in one way.
use Rattle.std.proofs.Common.{◌≡◌, ℕ, ◌<◌, ◌≤◌, ◌⊎◌, inl, inr, Ok, Err, refl, sym, ap, subst, ◌∙◌, arith}
use Rattle.std.specs.Prelude.{slice_get, unwrap_or, [], ◌∷◌}
use Rattle.std.proofs.lemmas.Bool.{cases_lt}
use Rattle.wh_rows.specs.Raw.{Stored, HasDamageIn}
use Rattle.wh_rows.specs.declared.table.Table.{Table}
use Rattle.wh_rows.specs.declared.table.Table.TheVariants.{Meta, Command, Member, Change, Product, Store, Customer, Profile, Calendar, Fact, Fact2, Void}
use Rattle.wh_sql.specs.declared.fault.ReadFault.TheVariants as fault
use Rattle.wh_admission.specs.Checked.{IsSoundStored, table_place, IsFirstWrong}
use Rattle.wh_admission.proofs.CheckedTables.{sound_is_each_right}
use Rattle.wh_checking.specs.declared.verdict.Verdict.TheVariants.{Clean, Wrong}
use Rattle.wh_checking.specs.Judged.{VerdictsAreOne}

table_at : ℕ → Table
table_at n = unwrap_or (slice_get (Meta ∷ Command ∷ Member ∷ Change ∷ Product ∷ Store ∷ Customer ∷ Profile ∷ Calendar ∷ Fact ∷ Fact2 ∷ Void ∷ []) n) Meta

at_place : (table : Table) → table_at (table_place table) ≡ table
unfolding table_at
at_place Meta = refl
at_place Command = refl
at_place Member = refl
at_place Change = refl
at_place Product = refl
at_place Store = refl
at_place Customer = refl
at_place Profile = refl
at_place Calendar = refl
at_place Fact = refl
at_place Fact2 = refl
at_place Void = refl

first_is_one : (stored : Stored) (table other : Table) → IsFirstWrong stored table → IsFirstWrong stored other → table ≡ other
first_is_one stored table other first second = go (cases_lt (table_place table) (table_place other)) (cases_lt (table_place other) (table_place table))
  where
    go : (table_place table < table_place other) ⊎ (table_place other ≤ table_place table) → (table_place other < table_place table) ⊎ (table_place table ≤ table_place other) → table ≡ other
    go (inl less) back = absurd (first.wrong (second.before table less))
    go (inr upto) (inl less) = absurd (second.wrong (first.before other less))
    go (inr upto) (inr back) = let one : table_place table ≡ table_place other = omega (arith, upto, back) in sym (at_place table) ∙ ap table_at one ∙ at_place other

sound_has_none : (stored : Stored) (table : Table) → IsSoundStored stored → IsFirstWrong stored table → ⊥
sound_has_none stored table sound first = first.wrong ((sound_is_each_right stored).0 sound table)

pub verdicts_are_one : VerdictsAreOne
verdicts_are_one stored (Ok Clean) (Ok Clean) d e one other = refl
verdicts_are_one stored (Ok Clean) (Ok (Wrong table)) d e one other = absurd (sound_has_none stored table one other.0)
verdicts_are_one stored (Ok (Wrong table)) (Ok Clean) d e one other = absurd (sound_has_none stored table other one.0)
verdicts_are_one stored (Ok (Wrong table)) (Ok (Wrong again)) d e one other = ap (λ (t : Table). Ok (Wrong t)) (first_is_one stored table again one.0 other.0)
verdicts_are_one stored (Ok Clean) (Err (fault.Damaged table)) d e one other = absurd (sound_has_none stored table one other.0)
verdicts_are_one stored (Err (fault.Damaged table)) (Ok Clean) d e one other = absurd (sound_has_none stored table other one.0)
verdicts_are_one stored (Ok (Wrong table)) (Err (fault.Damaged again)) d e one other = absurd (one.1 (subst (HasDamageIn stored) (sym (first_is_one stored table again one.0 other.0)) other.1))
verdicts_are_one stored (Err (fault.Damaged table)) (Ok (Wrong again)) d e one other = absurd (other.1 (subst (HasDamageIn stored) (first_is_one stored table again one.0 other.0) one.1))
verdicts_are_one stored (Err (fault.Damaged table)) (Err (fault.Damaged again)) d e one other = ap (λ (t : Table). Err (fault.Damaged t)) (first_is_one stored table again one.0 other.0)
verdicts_are_one stored (Err fault.Memory) other d e one judged = absurd d
verdicts_are_one stored (Err (fault.Store cause)) other d e one judged = absurd d
verdicts_are_one stored (Ok verdict) (Err fault.Memory) d e one judged = absurd e
verdicts_are_one stored (Ok verdict) (Err (fault.Store cause)) d e one judged = absurd e
verdicts_are_one stored (Err (fault.Damaged table)) (Err fault.Memory) d e one judged = absurd e
verdicts_are_one stored (Err (fault.Damaged table)) (Err (fault.Store cause)) d e one judged = absurd e
