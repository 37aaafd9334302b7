use Rattle.std.proofs.Common.{◌≡◌, sym, pos, Some, None, refl, ap, subst, arith, w64, to_z, of_z}
use Rattle.std.proofs.lemmas.Int.{ints}
use Rattle.wh_rows.specs.Rows.{meta}
use Rattle.wh_rows.specs.Raw.{IsLastOf}
use Rattle.wh_store.specs.Raw.{rows_named}
use Rattle.std.proofs.lemmas.Str.{is_utf8-from_IsUtf8}
use Rattle.wh_rows.specs.declared.rows.MetaRow.{MetaRow}
use Rattle.wh_store.proofs.meta.number.Goals as goal

pub returns-clause-unread : goal.returns-clause-unread
returns-clause-unread g c clean =
    let row : MetaRow = record { name = c.args.name.now; value = pos 0 } in
    let refused = c.in-Err-get.ensures.refused clean row (is_utf8-from_IsUtf8 c.args.name.now c.utf8.name) (sym c.in-Ok.ensures) in
    rw c.in-Ok.ensures at refused

-- ---- of any stored rows

pub returns-in-Ok-Some-clause-stored : goal.returns-in-Ok-Some-clause-stored
returns-in-Ok-Some-clause-stored g c clean stored at =
    let value : to_z w64 (of_z w64 c.in-Ok-Some.row.value) ≡ c.in-Ok-Some.row.value = omega (arith, ints) in
    let last : IsLastOf meta (rows_named stored c.args.name.now) c.in-Ok-Some.field-0 = rw c.in-Ok.ensures at (c.in-Ok-Some.ensures.stored clean stored at) in
    (Some c.in-Ok-Some.row, subst (IsLastOf meta (rows_named stored c.args.name.now)) c.in-Ok-Some.field-0-is last, ap Some value)

pub returns-in-Ok-None-clause-stored : goal.returns-in-Ok-None-clause-stored
returns-in-Ok-None-clause-stored g c clean stored at =
    let last : IsLastOf meta (rows_named stored c.args.name.now) c.in-Ok-None.field-0 = rw c.in-Ok.ensures at (c.in-Ok-None.ensures.stored clean stored at) in
    (None, subst (IsLastOf meta (rows_named stored c.args.name.now)) c.in-Ok-None.field-0-is last, refl)

pub returns-clause-damaged : goal.returns-clause-damaged
returns-clause-damaged g c clean stored at = rw c.in-Ok.ensures at (c.in-Err-get.ensures.damaged clean stored at)
