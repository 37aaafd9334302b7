-- Texts side by side.
use Rattle.std.proofs.Common.{◌≡◌, ℕ, List, [], ◌∷◌, ◌++◌, map, refl, sym, ◌∙◌, ap, append-nil, append_assoc}
use Rattle.std.specs.Prelude.{flat_map}
use Rattle.std.proofs.lemmas.List.{map-append}
use Rattle.wh_query.specs.Table.{in_column, in_columns}

-- with the last behind the others
last_behind : (texts : List (List ℕ)) (last : List ℕ) → in_columns (texts ++ last ∷ []) ≡ flat_map in_column texts ++ last
last_behind [] last = refl
last_behind (text ∷ []) last = ap (λ t. t ++ last) (sym (append-nil (in_column text)))
last_behind (text ∷ next ∷ texts) last = ap (λ t. in_column text ++ t) (last_behind (next ∷ texts) last) ∙ sym (append_assoc (in_column text) (flat_map in_column (next ∷ texts)) last)

pub all_behind : {S : Type 0} (text : S → List ℕ) (all others : List S) (last : S) → all ≡ others ++ last ∷ [] → in_columns (map text all) ≡ flat_map in_column (map text others) ++ text last
all_behind text all others last is = ap (λ s. in_columns (map text s)) is ∙ ap in_columns (map-append text others (last ∷ [])) ∙ last_behind (map text others) (text last)
