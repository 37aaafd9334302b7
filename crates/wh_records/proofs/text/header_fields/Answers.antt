use Rattle.std.proofs.Common.{◌≡◌, [], ◌∷◌, List, map, refl, ap, rules}
use Rattle.wh_policy.specs.declared.attribute.Attribute.{Attribute}
use Rattle.wh_batch.specs.Columns.{names}
use Rattle.wh_batch.specs.Layouts.{column}
use Rattle.wh_batch.specs.declared.holds.Holds.TheVariants as holds
use Rattle.wh_records.proofs.text.header_fields.Goals as goal

named : (attributes : List Attribute) → names (map (λ a. column a.name holds.Value) attributes) ≡ map (λ a. a.name) attributes
named [] = refl
named (a ∷ attributes) = ap (λ ns. a.name ∷ ns) (named attributes)

pub returns : goal.returns
returns c = rw (named c.args.attributes.now) (search rules)
