-- One record more among the combinations of profile values.
use Rattle.std.proofs.Common.{◌≡◌, Bool, cond, true, false, List, [], ◌∷◌, ◌++◌, map, refl, sym, ◌∙◌, ap, append-nil}
use Rattle.std.specs.List.{list_any}
use Rattle.std.proofs.lemmas.List.{map-append}
use Rattle.wh_policy.specs.Types.{is_profile}
use Rattle.wh_policy.specs.declared.attribute.AttributeType.{AttributeType}
use Rattle.wh_policy.specs.declared.record.DimensionRecord.{DimensionRecord}
use Rattle.wh_history.specs.Keys.{distinct}
use Rattle.wh_history.specs.Slots.{picks, are_same}
use Rattle.wh_history.specs.Profiles.{combinations_of}
use Rattle.wh_history.proofs.Basics.{texts_decide}
use Rattle.wh_history.proofs.Numbers.{distinct-append}
use Rattle.wh_history.proofs.Lasts.{fresh_one}
use Rattle.wh_history.proofs.Once.{among_distinct}

-- a list with one more, if it is new
pub put_last : {X : Type 0} (b : Bool) (xs : List X) (x : X) → xs ++ cond b [] (x ∷ []) ≡ cond b xs (xs ++ x ∷ [])
put_last true xs x = append-nil xs
put_last false xs x = refl

pub combinations_more : (kinds : List AttributeType) (rs : List DimensionRecord) (r : DimensionRecord)
    → combinations_of kinds (rs ++ r ∷ []) ≡ cond (list_any (λ c. are_same c (picks is_profile kinds r.values)) (combinations_of kinds rs)) (combinations_of kinds rs) (combinations_of kinds rs ++ picks is_profile kinds r.values ∷ [])
combinations_more kinds rs r =
    let pick = λ (q : DimensionRecord). picks is_profile kinds q.values in
    ap (distinct are_same) (map-append pick rs (r ∷ []))
    ∙ distinct-append are_same (map pick rs) (pick r ∷ [])
    ∙ ap (λ cs. combinations_of kinds rs ++ cs) (fresh_one are_same texts_decide (pick r) (map pick rs))
    ∙ ap (λ b. combinations_of kinds rs ++ cond b [] (pick r ∷ [])) (sym (among_distinct are_same texts_decide (pick r) (map pick rs)))
    ∙ put_last (list_any (λ c. are_same c (pick r)) (combinations_of kinds rs)) (combinations_of kinds rs) (pick r)
