-- How a dimension shows its members.
use Rattle.std.specs.Prelude.{ℕ, List, map, Option}
use Rattle.wh_policy.specs.declared.attribute.Dim.{Dim}
use Rattle.wh_policy.specs.declared.attribute.AttributeType.{AttributeType}
use Rattle.wh_history.specs.Accepted.{Accepted, types_in, profiles_of}
use Rattle.wh_history.specs.Dated.{dated}
use Rattle.wh_history.specs.Known.{number_in}
use Rattle.wh_history.specs.Profiles.{profile_number}
use Rattle.wh_history.specs.Rows.{rows_by}
use Rattle.wh_history.specs.declared.dimension.DimensionShape.{DimensionShape}
use Rattle.wh_history.specs.declared.dimension.RenderedRows.{RenderedRows}
use Rattle.wh_history.specs.declared.member.Change.{Change}
use Rattle.wh_history.specs.declared.member.Member.{Member}
use Rattle.wh_history.specs.declared.rows.DimRow.{DimRow}

-- which dimension it is, the types of its slots, and what gives the numbers of combinations of profile values
pub record Shape : Type 0 where
  pub dim : Dim
  pub kinds : List AttributeType
  pub number : List (List ℕ) → Option ℕ

-- by what is known of the profiles
abbrev pub shape_of : DimensionShape → Shape
shape_of d = record { dim = d.dim; kinds = d.types.now; number = number_in d.profiles.now }

-- by all that was accepted
abbrev pub shape_after : Dim → List Accepted → Shape
shape_after dim commands = record { dim = dim; kinds = types_in dim commands; number = profile_number (profiles_of commands) }

-- a member's rows, in order of their starts
abbrev pub shape_rows : Shape → Member → List DimRow
shape_rows shape m = rows_by shape.kinds shape.number m

-- a member with its rows, and its changes in order of their days
pub record RenderedMember : Type 0 where
  pub member : Member
  pub rows : List DimRow
  pub dated : List Change

abbrev pub rendered_in : Shape → Member → RenderedMember
rendered_in shape m = record { member = m; rows = shape_rows shape m; dated = dated m.changes }

-- what a call made of it
abbrev pub shown : RenderedRows → RenderedMember
shown r = record { member = r.member.now; rows = r.rows.items; dated = map (λ c. c.now) r.dated.items }
