-- The words for the kinds of batches, and of commands.
use Rattle.std.specs.Prelude.{ℕ, codes, List, Option, Some, option_map, if◌then◌else◌, bytes_eq}
use Rattle.wh_policy.specs.Words.{dim_word, dim_of_word}
use Rattle.wh_batch.specs.declared.kind.BatchKind.{BatchKind}
use Rattle.wh_batch.specs.declared.kind.BatchKind.TheVariants.{Dimension, Sales, Voids}
use Rattle.wh_batch.specs.declared.kind.CommandKind.{CommandKind}
use Rattle.wh_batch.specs.declared.kind.CommandKind.TheVariants.{Batch, Migration, Upgrade}

-- the word for a kind
abbrev pub kind_word : BatchKind → List ℕ
kind_word (Dimension dim) = dim_word dim
kind_word Sales = codes "sales"
kind_word Voids = codes "void"

-- the kind of a word, if it is the word for one
abbrev pub kind_of_word : List ℕ → Option BatchKind
kind_of_word word = if bytes_eq word (codes "sales") then Some Sales else if bytes_eq word (codes "void") then Some Voids else option_map Dimension (dim_of_word word)

-- the word for what a command is
abbrev pub command_kind_word : CommandKind → List ℕ
command_kind_word (Batch kind) = kind_word kind
command_kind_word Migration = codes "migrate"
command_kind_word Upgrade = codes "upgrade"

-- the kind of a command by the word for it
abbrev pub command_kind_of_word : List ℕ → Option CommandKind
command_kind_of_word word = if bytes_eq word (codes "migrate") then Some Migration else if bytes_eq word (codes "upgrade") then Some Upgrade else option_map Batch (kind_of_word word)
