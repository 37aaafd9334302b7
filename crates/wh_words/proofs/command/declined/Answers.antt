use Rattle.std.proofs.Common.{◌∙◌, inl, inr, sym}
use Rattle.wh_words.proofs.WordLemmas.{help_among, version_among, mistake_among}
use Rattle.wh_words.proofs.command.declined.Goals as goal

pub returns-in_ok-to_string-in-DisplayHelp-clause-declined : goal.returns-in_ok-to_string-in-DisplayHelp-clause-declined
returns-in_ok-to_string-in-DisplayHelp-clause-declined c = λ faults kind. elim c.in-DisplayHelp.is [
  | inl is ↦ help_among faults c.args.error.now (sym c.kind.ensures ∙ is) kind
  | inr is ↦ version_among faults c.args.error.now (sym c.kind.ensures ∙ is) kind
]

pub returns-in_ok-to_string-in_default-clause-declined : goal.returns-in_ok-to_string-in_default-clause-declined
returns-in_ok-to_string-in_default-clause-declined c = λ faults kind.
    mistake_among faults c.args.error.now (λ is. c.in_default.not-OutOfMemory (c.kind.ensures ∙ is)) (λ is. c.in_default.not-DisplayHelp (c.kind.ensures ∙ is))
    (λ is. c.in_default.not-DisplayVersion (c.kind.ensures ∙ is)) kind
