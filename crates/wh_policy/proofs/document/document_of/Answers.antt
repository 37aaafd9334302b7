use Rattle.std.proofs.Common.{◌∙◌, ap}
use Rattle.std.specs.Prelude.{ok_or}
use Rattle.wh_policy.specs.declared.fault.PolicyFault.TheVariants.{NotToml}
use Rattle.wh_policy.proofs.DocumentLemmas.{document-text, document-no_text}
use Rattle.wh_policy.proofs.document.document_of.Goals as goal

pub returns-in_default : goal.returns-in_default
returns-in_default c = document-no_text c.args.bytes.now c.if-bytes-gt-POLICY_LIMIT.false c.in_default.ensures.cases.0

pub returns-in-Ok-table_from_str : goal.returns-in-Ok-table_from_str
returns-in-Ok-table_from_str c =
    let text = c.in-Ok.ensures.cases in
    document-text c.args.bytes.now c.if-bytes-gt-POLICY_LIMIT.false text.1 ∙ ap (λ found. ok_or found NotToml) (rw text.0 at c.in-Ok-table_from_str.ensures.ok)
