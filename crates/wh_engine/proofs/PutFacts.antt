-- Edits of the facts of a format, one after the other, of several at once, and one part after the other.
use Rattle.std.proofs.Common.{◌≡◌, ◌+◌, ◌≤◌, ℕ, List, [], ◌∷◌, ◌++◌, map, drop, length, refl, ap}
use Rattle.std.specs.List.{AllByRecursion}
use Rattle.std.specs.FinMap.{FinMap}
use Rattle.wh_policy.specs.declared.format.Format.{Format}
use Rattle.wh_policy.specs.declared.format.Format.TheVariants.{One, Two}
use Rattle.wh_history.specs.declared.facts.Fact.{Fact}
use Rattle.wh_rows.specs.Facts.{fact_layout, facts_in, with_facts_in}
use Rattle.wh_rows.specs.Rows as row
use Rattle.wh_rows.specs.Steps.{with_row, with_rows, after_all}
use Rattle.wh_rows.specs.Tables.{Tables}
use Rattle.wh_rows.proofs.Places as places
use Rattle.wh_sql.specs.Edits.{IsValid}
use Rattle.wh_sql.proofs.Looping as looping
use Rattle.wh_sql.proofs.Looping.{IsOnTheWay, in_parts}
use Rattle.wh_plan.specs.Edits.{with_fact_edit}
use Rattle.wh_plan.specs.Writable.{IsValidFactEdit}
use Rattle.wh_plan.specs.declared.edits.FactEdit.{FactEdit}
use Rattle.wh_plan.specs.FactEdits.{put_of}
use Rattle.wh_engine.specs.Writing.{with_fact_edits}

-- ---- one after the other

-- tables on the way to a whole, by edits of the facts of a format
abbrev pub IsOnItsWay : Format → List FactEdit → Tables → Tables → Type 0
IsOnItsWay format left now whole = IsOnTheWay with_fact_edit (IsValidFactEdit format) (facts_in format) (with_facts_in format) left now whole

module _ (es : List FactEdit) (i : ℕ) (e : FactEdit) (now whole : Tables) (is : drop i es ≡ e ∷ drop (i + 1) es) where
  pub next_may : (format : Format) → IsOnItsWay format (drop i es) now whole → IsValidFactEdit format e
  next_may One way = looping.next_may row.fact with_fact_edit (IsValidFactEdit One) (facts_in One) (with_facts_in One) places.fact es i e now whole is way
  next_may Two way = looping.next_may row.fact2 with_fact_edit (IsValidFactEdit Two) (facts_in Two) (with_facts_in Two) places.fact2 es i e now whole is way

  pub next_way : (format : Format) → IsOnItsWay format (drop i es) now whole → IsOnItsWay format (drop (i + 1) es) (with_facts_in format (with_fact_edit e (facts_in format now)) now) whole
  next_way One way = looping.next_way row.fact with_fact_edit (IsValidFactEdit One) (facts_in One) (with_facts_in One) places.fact es i e now whole is way
  next_way Two way = looping.next_way row.fact2 with_fact_edit (IsValidFactEdit Two) (facts_in Two) (with_facts_in Two) places.fact2 es i e now whole is way

pub way_ends : (format : Format) (es : List FactEdit) (i : ℕ) (now whole : Tables) → length es ≤ i → IsOnItsWay format (drop i es) now whole → now ≡ whole
way_ends One es i now whole over way = looping.way_ends row.fact with_fact_edit (IsValidFactEdit One) (facts_in One) (with_facts_in One) places.fact es i now whole over way
way_ends Two es i now whole over way = looping.way_ends row.fact2 with_fact_edit (IsValidFactEdit Two) (facts_in Two) (with_facts_in Two) places.fact2 es i now whole over way

-- ---- several at once

-- the facts of valid edits are valid
pub valid_facts : (format : Format) (facts : List Fact) → AllByRecursion (IsValidFactEdit format) (map put_of facts) → AllByRecursion (IsValid (fact_layout format)) facts
valid_facts format [] may = tt
valid_facts format (fact ∷ facts) may = (may.0, valid_facts format facts may.1)

-- such edits lead to the facts put, one after the other
pub facts_put : (facts : List Fact) (m : FinMap row.fact.order Fact) → after_all with_fact_edit (map put_of facts) m ≡ with_rows row.fact facts m
facts_put [] m = refl
facts_put (fact ∷ facts) m = facts_put facts (with_row row.fact fact m)

-- ---- one part after the other

-- no edit leaves the tables
pub put_none : (format : Format) (t : Tables) → with_fact_edits format [] t ≡ t
put_none One t = refl
put_none Two t = refl

-- a part of the edits, and then the rest
pub parts_put : (format : Format) (part rest : List FactEdit) (t : Tables) → with_fact_edits format (part ++ rest) t ≡ with_fact_edits format rest (with_fact_edits format part t)
parts_put One part rest t = ap (λ facts. with_facts_in One facts t) (in_parts with_fact_edit part rest t.fact)
parts_put Two part rest t = ap (λ facts. with_facts_in Two facts t) (in_parts with_fact_edit part rest t.fact2)
