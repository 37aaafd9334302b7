use Rattle.std.proofs.Common.{◌≡◌, ◌+◌, ◌++◌, drop}
use Rattle.wh_explain.specs.Views.{columns_from, columns_text}
use Rattle.wh_explain.proofs.views.push_attributes.Given as goal

-- the columns so far were added, and those of the attributes that are left make them all
abbrev pub invariant-loop-place : goal.invariant-loop-place
invariant-loop-place l =
    l.text.items ++ columns_text (columns_from l.view l.dim (l.place + 1) (drop l.place l.attributes)) ≡ l.initial.text.items ++ columns_text (columns_from l.view l.dim 1 l.attributes)
