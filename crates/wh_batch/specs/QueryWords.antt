-- The words that ask for a query: its columns and its conditions.
use Rattle.std.specs.Prelude.{ℕ, ◌==◌, nat_lt, if◌then◌else◌, List, length, Option, Some, None, option_map}
use Rattle.std.specs.List.{position_or_len, before_first, after_first}
use Rattle.wh_batch.specs.Mode.{mode_of_word}
use Rattle.wh_batch.specs.declared.mode.Mode.{Mode}

-- the words for an attribute, and a mode where one is given
pub record ColumnGiven : Type 0 where
  pub attribute : List ℕ
  pub mode : Option Mode

-- such a column, and a label
pub record ConditionGiven : Type 0 where
  pub column : ColumnGiven
  pub label : List ℕ

-- what stands before and behind the first such sign of a word, if there is one
abbrev pub parted_at : ℕ → List ℕ → Option (List ℕ × List ℕ)
parted_at sign word = if nat_lt (position_or_len (λ b. b == sign) word) (length word) then Some (before_first (λ b. b == sign) word, after_first (λ b. b == sign) word) else None

abbrev pub column_parted : List ℕ → Option (List ℕ × List ℕ) → Option ColumnGiven
column_parted word None = Some (record { attribute = word; mode = None })
column_parted word (Some parts) = option_map (λ mode. record { attribute = parts.0; mode = Some mode }) (mode_of_word parts.1)

-- the column of a word: ATTRIBUTE, or ATTRIBUTE:MODE
unfoldable pub column_given : List ℕ → Option ColumnGiven
column_given word = column_parted word (parted_at 58 word)

abbrev pub condition_parted : Option (List ℕ × List ℕ) → Option ConditionGiven
condition_parted None = None
condition_parted (Some parts) = option_map (λ column. record { column = column; label = parts.1 }) (column_given parts.0)

-- the condition of a word: a column, and behind the first equals sign its label
unfoldable pub condition_given : List ℕ → Option ConditionGiven
condition_given word = condition_parted (parted_at 61 word)
