use Rattle.std.proofs.Common.{◌∷◌, []}
use Rattle.std.specs.Prelude.{codes}
use Rattle.std.specs.Fmt.{decimal}
use Rattle.wh_program.proofs.LineLemmas.{receipt_parts}
use Rattle.wh_program.proofs.lines.push_receipt.Goals as goal

pub returns-clause-added : goal.returns-clause-added
returns-clause-added c =
    let receipt = c.args.receipt.now in
    rw (
      c.in_ok-extend_from_slice-7.ensures.items,
      c.in_ok-push_number-3.ensures.added,
      c.in_ok-extend_from_slice-6.ensures.items,
      c.in_ok-push_number-2.ensures.added,
      c.in_ok-extend_from_slice-5.ensures.items,
      c.in_ok-extend_from_slice-4.ensures.items,
      c.in_ok-extend_from_slice-3.ensures.items,
      c.in_ok-push_number.ensures.added,
      c.in_ok-extend_from_slice-2.ensures.items,
      c.in_ok-extend_from_slice.ensures.items,
      c.as_bytes.ensures.value,
      c.as_bytes-2.ensures.value,
    ) (receipt_parts c.args.text.now.items c.args.word.now (codes " ") (decimal receipt.number) (codes " ") c.args.id.now (codes ": ") (decimal receipt.records) (codes " records, ") (decimal receipt.placeholders) (codes " placeholders") (10 ∷ []))
