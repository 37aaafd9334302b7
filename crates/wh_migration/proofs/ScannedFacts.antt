-- The facts that a migration moves, as the table is read a part at a time.
use Rattle.std.proofs.Common.{◌≡◌, List, [], ◌∷◌, ◌++◌, Option, None, Some, refl, sym, ap, ◌∙◌, append_assoc, append-nil}
use Rattle.std.specs.List.{cons_option}
use Rattle.wh_history.specs.Facts.{rekeyed_to}
use Rattle.wh_history.specs.declared.facts.Fact.{Fact}
use Rattle.wh_migration.specs.Migrated.{keys_anew, moved_anew}
use Rattle.wh_migration.specs.declared.migrated.ShownDimensions.{ShownDimensions}

option_before : {X : Type 0} (found : Option X) (xs : List X) → cons_option found [] ++ xs ≡ cons_option found xs
option_before None xs = refl
option_before (Some x) xs = refl

-- one fact more is read: with those of the facts that are left, those so far are still those of all
pub moved_further : (d : ShownDimensions) (before now : List Fact) (f : Fact) (left rest all : List Fact) → now ≡ before ++ moved_anew d (f ∷ []) → left ≡ f ∷ rest
    → before ++ moved_anew d left ≡ all → now ++ moved_anew d rest ≡ all
moved_further d before now f left rest all made is so_far =
    ap (λ fs. fs ++ moved_anew d rest) made
    ∙ append_assoc before (moved_anew d (f ∷ [])) (moved_anew d rest)
    ∙ ap (λ fs. before ++ fs) (option_before (rekeyed_to f (keys_anew d f)) (moved_anew d rest))
    ∙ ap (λ fs. before ++ moved_anew d fs) (sym is)
    ∙ so_far

-- no fact is left
pub moved_whole : (d : ShownDimensions) (before left all : List Fact) → left ≡ [] → before ++ moved_anew d left ≡ all → before ≡ all
moved_whole d before left all none so_far = sym (append-nil before) ∙ ap (λ fs. before ++ moved_anew d fs) (sym none) ∙ so_far
