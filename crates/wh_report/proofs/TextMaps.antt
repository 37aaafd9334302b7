-- A map by text: its changes and look-ups, seen by the bytes of its keys.
use Rattle.std.proofs.Common.{◌≡◌, ℕ, cond, List, [], ◌∷◌, Some, refl, sym, ◌∙◌, ap}
use Rattle.std.specs.Prelude.{String, string_bytes}
use Rattle.std.specs.String.{string_cmp}
use Rattle.std.specs.Map.{lookup}
use Rattle.std.specs.Ordering.{match_ordering, is_eq}
use Rattle.std.specs.declared.cmp.Ordering.TheVariants.{Equal}
use Rattle.std.specs.BTreeMap.{is_at, insert_entry}
use Rattle.std.proofs.lemmas.Map.Text.{is_eq-slice_cmp}
use Rattle.std.proofs.lemmas.Slice.Eq.{bytes_eq-Decides}
use Rattle.wh_report.specs.Summary.{by_bytes}
use Rattle.wh_report.specs.Maps.{by_text}
use Rattle.wh_report.proofs.MappedLines.{map-match}

pub same_label : (x y : List ℕ) → by_bytes x y ≡ Equal → x ≡ y
same_label x y e = (bytes_eq-Decides x y).0 (sym (is_eq-slice_cmp x y) ∙ ap is_eq e)

pub insert_by_text : {Z X : Type 0} (es : List (String Z × X)) (k : String Z) (v : X) → by_text (insert_entry string_cmp es k v) ≡ insert_entry by_bytes (by_text es) (string_bytes k) v
insert_by_text [] k v = refl
insert_by_text (e ∷ es) k v =
    let rest = insert_by_text es k v in
    map-match (λ (e : String _ × _). (string_bytes e.0, e.1)) (string_cmp k e.0) _ _ _
    ∙ ap (λ ys. match_ordering (string_cmp k e.0) ((string_bytes k, v) ∷ (string_bytes e.0, e.1) ∷ by_text es) ((string_bytes e.0, v) ∷ by_text es) ((string_bytes e.0, e.1) ∷ ys)) rest

pub lookup_by_text : {Z X : Type 0} (bs : List ℕ) (es : List (String Z × X)) → lookup (λ k. is_eq (by_bytes bs (string_bytes k))) es ≡ lookup (is_at (by_bytes bs)) (by_text es)
lookup_by_text bs [] = refl
lookup_by_text bs (e ∷ es) = ap (λ o. cond (is_eq (by_bytes bs (string_bytes e.0))) (Some e.1) o) (lookup_by_text bs es)
