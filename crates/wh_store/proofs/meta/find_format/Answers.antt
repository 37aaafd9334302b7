use Rattle.std.proofs.Common.{◌≡◌, ◌≤◌, Bool, ℤ, Option, Result, Ok, Err, IfOk, IfErr, sym, subst, ap, codes, ◌∙◌}
use Rattle.sqlite.specs.State.{State}
use Rattle.wh_policy.specs.declared.format.Format.{Format}
use Rattle.wh_policy.specs.declared.format.Format.TheVariants.{One}
use Rattle.wh_rows.specs.Tables.{Tables}
use Rattle.wh_store.specs.declared.fault.OpenFault.{OpenFault}
use Rattle.wh_store.specs.declared.fault.OpenFault.TheVariants.{NotAWarehouse, OldFormat, NewFormat, Memory, Damaged, Store}
use Rattle.wh_store.specs.Meta.{format_of, number_in}
use Rattle.wh_store.specs.Opening.{IsTaken, IsRefusedWith}
use Rattle.wh_policy.specs.Formats.{format_number}
use Rattle.wh_store.proofs.FormatFaults.{of_format, is_known, is_single}
use Rattle.wh_store.proofs.meta.find_format.Goals as goal

module _ (newest : Format) (second : Bool) (number : Option ℤ) (t : Tables) (same : number ≡ number_in t (codes "format")) where
  taken : (told : Result Format OpenFault) → told ≡ format_of newest second number → IfOk told (IsTaken newest second t)
  taken (Ok format) is = ap (format_of newest second) (sym same) ∙ sym is
  taken (Err fault) is = tt

  refused : (old new : State) (told : Result Format OpenFault) → told ≡ format_of newest second number → IfErr told (IsRefusedWith newest second t old new)
  refused old new (Ok format) is = tt
  refused old new (Err NotAWarehouse) is = ap (format_of newest second) (sym same) ∙ sym is
  refused old new (Err OldFormat) is = ap (format_of newest second) (sym same) ∙ sym is
  refused old new (Err NewFormat) is = ap (format_of newest second) (sym same) ∙ sym is
  refused old new (Err Memory) is = tt
  refused old new (Err (Damaged table)) is = absurd (of_format newest second number (Damaged table) is)
  refused old new (Err (Store cause)) is = absurd (of_format newest second number (Store cause) is)

pub returns-in-Ok-clause-taken : goal.returns-in-Ok-clause-taken
returns-in-Ok-clause-taken g c clean t at = taken c.args.newest c.args.second _ t (c.in-Ok.ensures.number clean t at) c.format_of.result c.format_of.ensures

pub returns-in-Ok-clause-known : goal.returns-in-Ok-clause-known
returns-in-Ok-clause-known g c = subst (λ told. IfOk told (λ format. format_number format ≤ format_number c.args.newest)) (sym c.format_of.ensures) (is_known c.args.newest c.args.second c.in-Ok.number)

pub returns-in-Ok-clause-refused : goal.returns-in-Ok-clause-refused
returns-in-Ok-clause-refused g c clean t at = refused c.args.newest c.args.second _ t (c.in-Ok.ensures.number clean t at) _ _ c.format_of.result c.format_of.ensures

pub returns-in-Ok-clause-single : goal.returns-in-Ok-clause-single
returns-in-Ok-clause-single g c none =
    subst (λ told. IfOk told (λ format. format ≡ One)) (sym (c.format_of.ensures ∙ ap (λ second. format_of c.args.newest second c.in-Ok.number) none)) (is_single c.args.newest c.in-Ok.number)
