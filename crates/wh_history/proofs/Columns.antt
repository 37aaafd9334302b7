-- Steps of the loops over columns.
use Rattle.std.proofs.Common.{◌≡◌, ℕ, suc, ◌-◌, ◌<◌, cond, List, [], ◌∷◌, ◌++◌, length, replicate, get_or, refl, sym, ◌∙◌, ap, append_assoc, length-append, arith}
use Rattle.wh_policy.specs.Types.{rule, shows_first_day}
use Rattle.wh_policy.specs.declared.attribute.AttributeType.{AttributeType}
use Rattle.wh_policy.specs.declared.type_rule.MainColumn.{MainColumn}
use Rattle.wh_policy.specs.declared.type_rule.MainColumn.TheVariants as main
use Rattle.wh_history.specs.Slots.{six, padded, columns_from}
use Rattle.wh_history.specs.Dated.{dated, at, said}
use Rattle.wh_history.specs.Rows.{main_text, main_column}
use Rattle.wh_history.specs.Rendering.{steady_text, steady_column, shown_column}
use Rattle.wh_history.specs.declared.member.Change.{Change}

-- one text more leaves less to fill
pub padded_more : (text : List ℕ) (values : List (List ℕ)) → length values < 6 → padded text (values ++ text ∷ []) ≡ padded text values
padded_more text values few =
    let left : 6 - length values ≡ suc (6 - length (values ++ text ∷ [])) = simp length-append (omega arith) in
    append_assoc values (text ∷ []) (replicate (6 - length (values ++ text ∷ [])) text) ∙ ap (λ n. values ++ replicate n text) (sym left)

-- an empty text more makes the same six columns
pub six_more : (texts : List (List ℕ)) → length texts < 6 → six (texts ++ [] ∷ []) ≡ six texts
six_more = padded_more []

get_behind : (front back : List (List ℕ)) (text : List ℕ) → get_or (front ++ text ∷ back) (length front) [] ≡ text
get_behind [] back text = refl
get_behind (t ∷ front) back text = get_behind front back text

-- the shared texts and the change in force make the column a
shown_as : (changes : List Change) (start place : ℕ) (column : MainColumn) (steady : List (List ℕ)) → get_or steady place [] ≡ steady_text changes place column
    → cond (shows_first_day column) (said place (at start (dated changes))) (get_or steady place []) ≡ main_text changes start place column
shown_as changes start place main.Original steady is = is
shown_as changes start place main.FirstDay steady is = refl
shown_as changes start place main.Latest steady is = is
shown_as changes start place main.Nothing steady is = is

shown_is : (changes : List Change) (start place : ℕ) (kind : AttributeType) (steady : List (List ℕ)) → get_or steady place [] ≡ steady_column changes place kind → shown_column steady (at start (dated changes)) place kind ≡ main_column changes start place kind
shown_is changes start place kind steady is = shown_as changes start place (rule kind).main steady is

shown_from : (changes : List Change) (start place : ℕ) (front : List (List ℕ)) (kinds : List AttributeType) → length front ≡ place
    → columns_from (shown_column (front ++ columns_from (steady_column changes) place kinds) (at start (dated changes))) place kinds ≡ columns_from (main_column changes start) place kinds
shown_from changes start place front [] is = refl
shown_from changes start place front (kind ∷ kinds) is =
    let text = steady_column changes place kind in
    let back = columns_from (steady_column changes) (suc place) kinds in
    let got : get_or (front ++ text ∷ back) place [] ≡ text = ap (λ n. get_or (front ++ text ∷ back) n []) (sym is) ∙ get_behind front back text in
    let here = shown_is changes start place kind (front ++ text ∷ back) got in
    let longer : length (front ++ text ∷ []) ≡ suc place = simp length-append (omega arith) in
    let rest = shown_from changes start (suc place) (front ++ text ∷ []) kinds longer in
    let same : front ++ text ∷ back ≡ (front ++ text ∷ []) ++ back = sym (append_assoc front (text ∷ []) back) in
    let behind : columns_from (shown_column (front ++ text ∷ back) (at start (dated changes))) (suc place) kinds ≡ columns_from (main_column changes start) (suc place) kinds = ap (λ ts. columns_from (shown_column ts (at start (dated changes))) (suc place) kinds) same ∙ rest in
    rw (here, behind) refl

pub shown_columns : (changes : List Change) (start : ℕ) (kinds : List AttributeType) → columns_from (shown_column (columns_from (steady_column changes) 0 kinds) (at start (dated changes))) 0 kinds ≡ columns_from (main_column changes start) 0 kinds
shown_columns changes start kinds = shown_from changes start 0 [] kinds refl
