-- What is found of a line, and what becomes of it.
use Rattle.std.specs.Prelude.{◌≡◌, ◌≤◌, ℕ, List, Some, None}
use Rattle.std.specs.BTreeMap.{is_at}
use Rattle.std.specs.Map.{lookup, set_value}
use Rattle.wh_report.specs.Sums.{Measured, Figures, with_line}
use Rattle.wh_query.specs.Words.{by_texts}
use Rattle.wh_query.specs.declared.lines.Found.{Found}
use Rattle.wh_query.specs.declared.lines.Found.TheVariants.{Added, Full, Wanting}

-- a sale was added to the line of its labels; or that has all that can be counted; or there is none
abbrev pub IsFound : List (List ℕ) → Measured → List (List (List ℕ) × Figures) → List (List (List ℕ) × Figures) → Found → Type 0
IsFound labels m old new Added = (line : Figures) × (lookup (is_at (by_texts labels)) old ≡ Some line) × (new ≡ set_value (is_at (by_texts labels)) old (with_line m line))
IsFound labels m old new Full = (line : Figures) × (lookup (is_at (by_texts labels)) old ≡ Some line) × (4_294_967_295 ≤ line.lines)
IsFound labels m old new Wanting = (lookup (is_at (by_texts labels)) old ≡ None) × (new ≡ old)
