-- The commands of the program, as clap builds them.
use Rattle.std.proofs.Common.{◌≡◌, ◌∙◌, [], ◌∷◌, ◌++◌, List, Option, Some, Bool, map, refl, ap, true, false, codes}
use Rattle.std.specs.Prelude.{⊤, bytes_eq, find}
use Rattle.clap.specs.Words.{Shape, Text, built, is_simple_and_free}
use Rattle.clap.specs.Simple.{built_leaf, help_shape, inherited, label_of, marked_built, with_leaf_noted}
use Rattle.clap.specs.Walk.{answers_to}
use Rattle.clap.proofs.OnLiterals.{clap_on_literals}
use Rattle.wh_words.specs.CommandLine.{app_with, program_app, top_app}
use Rattle.wh_words.specs.Task.{Command, command_of, every_command}
use Rattle.wh_words.proofs.Reading.{Meets, top_fault}

-- what a proof unfolds to compute with a command and words that are written out
unfoldable pub commands_on_literals : ⊤
unfolding clap_on_literals top_app command_of
commands_on_literals = tt

-- the program as its commands see it
abbrev above : Shape
above = with_leaf_noted (marked_built (record top_app.top { is_leaf = false }))

-- a command, built
abbrev pub leaf : Command → Shape
leaf command = built_leaf (inherited above (app_with command).top)

-- those of the program, and clap's own
abbrev pub leaves : List Shape
leaves = map leaf every_command ++ built_leaf help_shape ∷ []

pub commands : (built program_app).subs ≡ leaves
unfolding program_app commands_on_literals
commands = refl

-- the words come without the program's name
pub bare : program_app.top.no_binary_name ≡ true
unfolding program_app commands_on_literals
bare = refl

-- nothing is wrong with what the program takes beside a command
pub top_faultless : top_fault (built program_app).top ≡ []
unfolding program_app commands_on_literals
top_faultless = refl

-- none of the commands has what changes how words are read, and none of the arguments has a rule on another
pub simple_and_free : is_simple_and_free program_app ≡ true
unfolding program_app commands_on_literals
simple_and_free = refl

-- ---- a command is found by its name

abbrev first_called : Text → Option Shape
first_called name = find (λ (command : Shape). answers_to name (label_of command)) leaves

-- by clap, and in the table
abbrev search_of : Command → Option Shape × Text × Bool × Option Command
search_of c = (first_called c.name, (leaf c).name, bytes_eq c.name (codes "help"), command_of c.name)

abbrev pub IsFound : Command → Type 0
IsFound c = search_of c ≡ (Some (leaf c), c.name, false, Some c)

pub meets : (c : Command) → IsFound c → Meets program_app c.name (leaf c)
meets c found = record {
  finds = ap (find (λ (command : Shape). answers_to c.name (label_of command))) commands ∙ ap (λ o. o.0) found;
  called = ap (λ o. o.1) found;
  no_help = ap (λ o. o.2) found;
}
