-- Walking along a member's changes in order of their days.
use Rattle.std.proofs.Common.{◌≡◌, ℕ, ◌+◌, ◌-◌, ◌<◌, ◌≤◌, ◌==◌, true, false, List, [], ◌∷◌, ◌++◌, append_assoc, length, map, drop, get_or, Option, Some, refl, sym, ◌∙◌, ap, arith, nat_le}
use Rattle.std.specs.Prelude.{slice_get, option_map}
use Rattle.std.specs.List.{AllByRecursion}
use Rattle.std.proofs.lemmas.Bool.{ne_eqb}
use Rattle.std.proofs.lemmas.Bool.Decides.{nat_tests}
use Rattle.std.proofs.lemmas.List.{drop_more}
use Rattle.wh_day.specs.Day.{first_day, last_day, day_before}
use Rattle.wh_day.proofs.Days.{from_first}
use Rattle.wh_history.specs.Dated.{dated, in_force, at}
use Rattle.wh_policy.specs.declared.attribute.AttributeType.{AttributeType}
use Rattle.wh_history.specs.Slots.{columns_from, six}
use Rattle.wh_history.specs.Rows.{same_tracked, starts, spans, main_column, row}
use Rattle.wh_history.specs.Rendering.{shown_column, IsStart, IsFrame}
use Rattle.wh_history.specs.declared.member.Change.{Change}
use Rattle.wh_history.specs.declared.member.Member.{Member}
use Rattle.wh_history.specs.declared.rows.DimRow.{DimRow}
use Rattle.wh_history.proofs.Columns.{shown_columns}
use Rattle.wh_history.proofs.Calendar.{not_first}
use Rattle.wh_history.proofs.Spans.{Follows, InOrder}
use Rattle.wh_history.proofs.Joins.{stays, all_weaker}

-- on its own day each change is in force
abbrev pub InForceAtOwn : List Change → List Change → Type 0
InForceAtOwn all changes = AllByRecursion (λ d. at d.day all ≡ Some d) changes

pub follows_weaker : (low day : ℕ) (cs : List Change) → low ≤ day → Follows day cs → Follows low cs
follows_weaker low day [] le up = tt
follows_weaker low day (c ∷ cs) le up = (omega arith, up.1, up.2)

abbrev IsOwn : Change → List Change → Change → Type 0
IsOwn first cs d = (in_force d.day first cs ≡ d) × (first.day < d.day)

passes_on : (first c : Change) (cs : List Change) → first.day < c.day → (d : Change) → IsOwn c cs d → IsOwn first (c ∷ cs) d
passes_on first c cs less d own =
    let later = own.1 in
    let t : nat_le c.day d.day ≡ true = grind (arith, nat_tests) in
    (rw t own.0, omega arith)

own_behind : (first : Change) (cs : List Change) → Follows first.day cs → AllByRecursion (IsOwn first cs) cs
own_behind first [] up = tt
own_behind first (c ∷ cs) up =
    let t : nat_le c.day c.day ≡ true = grind (arith, nat_tests) in
    ((rw t (stays c.day c cs up.2), up.0), all_weaker (IsOwn c cs) (IsOwn first (c ∷ cs)) (passes_on first c cs up.0) cs (own_behind c cs up.2))

pub all_own : (changes : List Change) → InOrder changes → InForceAtOwn changes changes
all_own [] up = tt
all_own (c ∷ cs) up = (ap Some (stays c.day c cs up.1), all_weaker (IsOwn c cs) (λ d. at d.day (c ∷ cs) ≡ Some d) (λ d own. ap Some own.0) cs (own_behind c cs up.1))

-- on the first day the earliest change is in force
pub opening_is : (changes : List Change) → InOrder changes → at first_day changes ≡ slice_get changes 0
opening_is [] up = refl
opening_is (c ∷ cs) up = ap Some (stays first_day c cs (follows_weaker first_day c.day cs (from_first c.day up.0) up.1))

pub first_is : {X : Type 0} (v : X → Change) (xs : List X) (changes : List Change) → map v xs ≡ changes → InOrder changes → option_map v (slice_get xs 0) ≡ at first_day changes
first_is v [] changes is up = rw (← is) refl
first_is v (x ∷ xs) changes is up = ap (λ cs. slice_get cs 0) is ∙ sym (opening_is changes up)

-- a row that begins at a later change has its number
pub start_at : (m : Member) (p d : Change) (ds : List Change) → InOrder (p ∷ d ∷ ds) → InForceAtOwn (dated m.changes) (p ∷ d ∷ ds) → IsStart m d.day d.anchor (Some d)
start_at m p d ds up own =
    let later = ne_eqb d.day first_day (not_first p.day d.day up.0 up.1.0) in
    let here : at d.day (dated m.changes) ≡ Some d = own.1.0 in
    record { key = rw (later, here) refl; in_force = sym here }

-- what is left after one change and after two, at the places of a loop
pub one_left : {X : Type 0} (v : X → Change) (xs : List X) (place : ℕ) (y : X) → place < length xs → y ≡ get_or xs place y → map v (drop (place + 1 - 1) xs) ≡ v y ∷ map v (drop (place + 1) xs)
one_left v xs place y high is_y =
    let back : place + 1 - 1 ≡ place = omega arith in
    rw back (ap (map v) (drop_more xs place y high) ∙ ap (λ z. v z ∷ map v (drop (place + 1) xs)) (sym is_y))

pub two_left : {X : Type 0} (v : X → Change) (xs : List X) (place : ℕ) (x y : X) → 1 ≤ place → place < length xs → x ≡ get_or xs (place - 1) x → y ≡ get_or xs place y → map v (drop (place - 1) xs) ≡ v x ∷ v y ∷ map v (drop (place + 1) xs)
two_left v xs place x y low high is_x is_y =
    let back : place - 1 + 1 ≡ place = omega arith in
    ap (map v) (drop_more xs (place - 1) x (omega arith)) ∙ ap (λ z. v z ∷ map v (drop (place - 1 + 1) xs)) (sym is_x) ∙ ap (λ n. v x ∷ map v (drop n xs)) back
    ∙ ap (λ ys. v x ∷ map v ys) (drop_more xs place y high) ∙ ap (λ z. v x ∷ v z ∷ map v (drop (place + 1) xs)) (sym is_y)

-- a row by its parts
abbrev pub made_row : ℕ → Member → ℕ → ℕ → ℕ → List (List ℕ) → List (List ℕ) → DimRow
made_row number m from to surrogate a b = record {
  surrogate = surrogate;
  durable = m.durable;
  natural = m.natural;
  from_day = from;
  to_day = to;
  is_current = to == last_day;
  a = a;
  b = b;
  profile_now = number;
}

-- one row more, where a tracked value differs
pub row_more : (kinds : List AttributeType) (number : ℕ) (m : Member) (done all : List DimRow) (p d : Change) (ds : List Change) (day : ℕ) → same_tracked kinds p d ≡ false
    → done ++ map (row kinds number m) (spans day (starts kinds (p ∷ d ∷ ds))) ≡ all → (done ++ row kinds number m (day, day_before d.day) ∷ []) ++ map (row kinds number m) (spans d.day (starts kinds (d ∷ ds))) ≡ all
row_more kinds number m done all p d ds day differs whole =
    append_assoc done (row kinds number m (day, day_before d.day) ∷ []) (map (row kinds number m) (spans d.day (starts kinds (d ∷ ds)))) ∙ (rw differs at whole)

-- the row of a start
pub row_is : (kinds : List AttributeType) (number : ℕ) (m : Member) (day to_day surrogate : ℕ) (change : Option Change) (steady second : List (List ℕ)) → IsFrame kinds m steady second → IsStart m day surrogate change → made_row number m day to_day surrogate (six (columns_from (shown_column steady change) 0 kinds)) second ≡ row kinds number m (day, to_day)
row_is kinds number m day to_day surrogate change steady second frame start =
    let main : columns_from (shown_column steady change) 0 kinds ≡ columns_from (main_column m.changes day) 0 kinds = rw (frame.main, start.in_force) (shown_columns m.changes day kinds) in
    rw (main, start.key, frame.other) refl
