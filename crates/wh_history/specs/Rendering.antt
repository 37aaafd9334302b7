-- How the rows of a member are made from what they share.
use Rattle.std.specs.Prelude.{◌≡◌, ℕ, if◌then◌else◌, List, [], Option, slice_index_or}
use Rattle.wh_policy.specs.Types.{rule, is_tracked}
use Rattle.wh_policy.specs.declared.attribute.AttributeType.{AttributeType}
use Rattle.wh_policy.specs.declared.type_rule.MainColumn.{MainColumn}
use Rattle.wh_policy.specs.declared.type_rule.MainColumn.TheVariants as main
use Rattle.wh_history.specs.Slots.{columns_from, six}
use Rattle.wh_history.specs.Dated.{dated, at, said, latest, original}
use Rattle.wh_history.specs.Rows.{second_column, start_key}
use Rattle.wh_history.specs.declared.member.Change.{Change}
use Rattle.wh_history.specs.declared.member.Member.{Member}

-- what each row of a member shows in the column a, in a slot that isn't tracked
abbrev pub steady_text : List Change → ℕ → MainColumn → List ℕ
steady_text changes place main.Original = original place changes
steady_text changes place main.FirstDay = []
steady_text changes place main.Latest = latest place changes
steady_text changes place main.Nothing = []

abbrev pub steady_column : List Change → ℕ → AttributeType → List ℕ
steady_column changes place kind = steady_text changes place (rule kind).main

-- a slot of the column a: in a tracked slot what the change in force says, else the text that all rows share
abbrev pub shown_column : List (List ℕ) → Option Change → ℕ → AttributeType → List ℕ
shown_column steady change place kind = if is_tracked kind then said place change else slice_index_or steady place []

-- the surrogate key and the change in force of the start of a row
pub record IsStart (m : Member) (day surrogate : ℕ) (change : Option Change) : Type 0 where
  pub key : surrogate ≡ start_key m day
  pub in_force : change ≡ at day (dated m.changes)

-- the texts that all rows of a member share
pub record IsFrame (kinds : List AttributeType) (m : Member) (steady second : List (List ℕ)) : Type 0 where
  pub main : steady ≡ columns_from (steady_column m.changes) 0 kinds
  pub other : second ≡ six (columns_from (second_column m.changes) 0 kinds)
