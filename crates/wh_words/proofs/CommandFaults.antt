-- Which words clap finds a fault in.
use Rattle.std.proofs.Common.{◌≡◌, [], ◌∷◌, List, refl, ap, None}
use Rattle.clap.specs.Words.{Kinds, Text, subcommand_of}
use Rattle.clap.specs.declared.error.kind.ErrorKind.{ErrorKind}
use Rattle.clap.specs.declared.error.kind.ErrorKind.TheVariants.{MissingSubcommand}
use Rattle.wh_words.specs.Asked.{asked_by, asked_of, faults_in, no_line, when_none}
use Rattle.wh_words.specs.CommandLine.{program_app}
use Rattle.wh_words.proofs.Program.{commands_on_literals}

-- words with one ask for nothing
pub not_asked : (words : List Text) (fault : ErrorKind) (faults : Kinds) → faults_in words ≡ fault ∷ faults → asked_by words ≡ None
unfolding asked_by
not_asked words fault faults is = ap (λ (f : Kinds). when_none f (no_line (asked_of (subcommand_of program_app words)))) is

-- no words
pub no_words : faults_in [] ≡ MissingSubcommand ∷ []
unfolding faults_in program_app commands_on_literals
no_words = refl
