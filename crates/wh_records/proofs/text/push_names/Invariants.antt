use Rattle.std.proofs.Common.{◌≡◌, ◌++◌, map, drop}
use Rattle.csv.specs.Records.{fields_of}
use Rattle.wh_policy.specs.declared.attribute.Attribute.{Attribute}
use Rattle.wh_records.proofs.text.push_names.Given as goal

-- what was added, before the names that are left, are all
abbrev pub invariant-loop-attribute : goal.invariant-loop-attribute
invariant-loop-attribute l = fields_of l.fields ++ map (λ (a : Attribute). a.name) (drop l.attribute-index l.attributes) ≡ fields_of l.fn.fields ++ map (λ (a : Attribute). a.name) l.attributes
