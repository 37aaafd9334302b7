-- What sales come to by the keys that lead to their labels.
use Rattle.std.specs.Prelude.{◌≡◌, ◌≤◌, ℕ, ◌==◌, Bool, List, [], ◌∷◌, Option, Some, None, Result, Ok, Err, filter, filter_map, length, map, ⊤}
use Rattle.std.specs.BTreeMap.{is_at}
use Rattle.std.specs.Map.{lookup}
use Rattle.std.specs.Ordering.{nat_cmp}
use Rattle.wh_rows.specs.declared.keyed_sale.KeyedSale.{KeyedSale}
use Rattle.wh_report.specs.Counting.{measures_of, with_label, AreLabelled, HasNoLabel}
use Rattle.wh_report.specs.Lines.{figures}
use Rattle.wh_report.specs.Summary.{Summed, summed}
use Rattle.wh_report.specs.Sums.{Figures}
use Rattle.wh_report.specs.declared.fact.FactFault.{FactFault}
use Rattle.wh_report.specs.declared.fact.FactFault.TheVariants.{Memory, NoLabel, Damaged}

-- whether a sale has the key
abbrev pub has_key : ℕ → KeyedSale → Bool
has_key key s = s.key == key

-- what sales come to, where there are any
abbrev pub figures_of : List KeyedSale → Option Figures
figures_of [] = None
figures_of (s ∷ sales) = Some (figures (map measures_of (s ∷ sales)))

-- The figures that a map has under each key are those of the sales that have it.
pub record AreKeySums (sums : List (ℕ × Figures)) (sales : List KeyedSale) : Type 0 where
  pub found : (key : ℕ) → lookup (is_at (nat_cmp key)) sums ≡ figures_of (filter (has_key key) sales)

-- What sales come to by the labels that their keys lead to: none is passed over. Or why they can't be counted: one has no label, or they are too many.
abbrev pub IsLabelled : (ℕ → Option (List ℕ)) → List KeyedSale → Result Summed FactFault → Type 0
IsLabelled labels sales (Ok sums) = (sums ≡ summed (filter_map (with_label labels) sales)) × AreLabelled labels sales
IsLabelled labels sales (Err Memory) = ⊤
IsLabelled labels sales (Err NoLabel) = HasNoLabel labels sales
IsLabelled labels sales (Err Damaged) = 4_294_967_295 ≤ length sales
