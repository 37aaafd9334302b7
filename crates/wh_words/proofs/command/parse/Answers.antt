use Rattle.std.proofs.Common.{◌∙◌, Some, Ok, Err, ap, map, refl, sym, true≢false}
use Rattle.std.specs.Prelude.{Result, IfOk, IsErr}
use Rattle.std.proofs.lemmas.Result.{IfOk-weaker}
use Rattle.clap.specs.Words.{subcommand_of}
use Rattle.wh_words.specs.declared.command.Request.{Request}
use Rattle.wh_words.specs.Asked.{asked_of, faults_in}
use Rattle.wh_words.specs.CommandLine.{CommandLine, program_app}
use Rattle.wh_words.specs.Request.{Asks}
use Rattle.wh_words.proofs.PlainWords.{reads}
use Rattle.wh_words.proofs.WordLemmas.{no_memory, read_found, read_declined}
use Rattle.wh_words.proofs.command.parse.Goals as goal

nothing_asked : {E : Type 0} (r : Result Request E) (Is Holds : CommandLine → Type 0) → ((line : CommandLine) → Is line → Holds line → IsErr r)
    → IfOk r (λ request. (line : CommandLine) → Is line → Holds line → Asks line request)
nothing_asked (Ok request) Is Holds none = λ line is holds. absurd (true≢false (sym (none line is holds)))
nothing_asked (Err e) Is Holds none = tt

pub returns-in-Ok-clause-said : goal.returns-in-Ok-clause-said
returns-in-Ok-clause-said g c = IfOk-weaker c.requested.result _ _ (λ request asks line words-are operands-are.
    asks ∙ ap Some (ap asked_of (c.in-Ok.ensures.ok ∙ ap (subcommand_of program_app) words-are) ∙ (reads line operands-are).asks)) c.requested.ensures

pub returns-in-Ok-clause-read : goal.returns-in-Ok-clause-read
returns-in-Ok-clause-read g c = IfOk-weaker c.requested.result _ _ (λ request asks.
    read_found (map g.S.AsStr.text c.args.words.now) (asked_of (subcommand_of program_app (map g.S.AsStr.text c.args.words.now))) request c.in-Ok.ensures.faults refl (asks ∙ ap Some (ap asked_of c.in-Ok.ensures.ok))) c.requested.ensures

pub returns-in-Err-clause-said : goal.returns-in-Err-clause-said
returns-in-Err-clause-said g c = nothing_asked c.declined.result _ _ (λ line words-are operands-are.
    c.declined.ensures.memory (no_memory (faults_in (map g.S.AsStr.text c.args.words.now)) c.in-Err.error (ap faults_in words-are ∙ (reads line operands-are).faultless) c.in-Err.ensures.faults))

pub returns-in-Err-clause-read : goal.returns-in-Err-clause-read
returns-in-Err-clause-read g c =
    let words = map g.S.AsStr.text c.args.words.now in
    read_declined words c.in-Err.error c.declined.result c.in-Err.ensures.faults c.declined.ensures.memory (c.declined.ensures.declined (faults_in words) c.in-Err.ensures.faults)
