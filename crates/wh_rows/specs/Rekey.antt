-- Giving a fact other keys.
use Rattle.std.specs.Prelude.{ℕ, List, [], ◌∷◌, codes, pos, Bool, ◌&&◌}
use Rattle.std.specs.FinMap.{FinMap, get}
use Rattle.sqlite_value.specs.declared.value.Value.TheVariants.{Int, Text}
use Rattle.sqlite.specs.Order.{Row}
use Rattle.wh_history.specs.declared.facts.Fact.{Fact}
use Rattle.wh_history.specs.declared.facts.FactKeys.{FactKeys}
use Rattle.wh_rows.specs.Types.{is_number}
use Rattle.wh_rows.specs.Rows.{LineKey, line_cmp}
use Rattle.wh_rows.specs.Meaning.{moved_at}

-- a line, and the keys that its fact gets
abbrev pub Rekey : Type 0
Rekey = LineKey × FactKeys

abbrev pub rekey_text : List ℕ
rekey_text = codes "UPDATE fact SET store_key = ?3, product_key = ?4, customer_key = ?5, profile = ?6 WHERE ticket = ?1 AND line = ?2"

-- both as the parameters of a statement
abbrev pub bind_rekey : Rekey → Row
bind_rekey r = Text r.0.ticket ∷ Int (pos r.0.line) ∷ Int (pos r.1.store_key) ∷ Int (pos r.1.product_key) ∷ Int (pos r.1.customer_key) ∷ Int (pos r.1.profile) ∷ []

-- the keys are numbers that can be stored
abbrev pub are_keys : FactKeys → Bool
are_keys k = is_number k.store_key && is_number k.product_key && is_number k.customer_key && is_number k.profile

-- the fact with other keys
abbrev pub with_keys : Rekey → Fact → Fact
with_keys r f = record f { keys = r.1 }

-- the facts, that of the line, if it is there, with these keys
abbrev pub rekeyed : Rekey → FinMap line_cmp Fact → FinMap line_cmp Fact
rekeyed r facts = moved_at facts r.0 (with_keys r) (get facts r.0)

-- ---- in the second format

abbrev pub rekey2_text : List ℕ
rekey2_text = codes "UPDATE fact2 SET store_key = ?3, product_key = ?4, customer_key = ?5, profile = ?6 WHERE ticket = ?1 AND line = ?2"
