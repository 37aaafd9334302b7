-- The format of a list of commands, and the facts in the table of the format.
use Rattle.std.proofs.Common.{◌≡◌, true, false, Bool, cond, List, [], ◌∷◌, ◌++◌, Option, None, refl, sym, ap, ◌∙◌}
use Rattle.std.specs.FinMap.{get}
use Rattle.wh_policy.specs.Formats.{same_format}
use Rattle.wh_policy.specs.declared.format.Format.{Format}
use Rattle.wh_policy.specs.declared.format.Format.TheVariants.{One, Two}
use Rattle.wh_history.specs.Accepted.{Accepted, Content, Governs, Describes, Sells, Upgrades, Withdraws, formatted, format_after, format_of}
use Rattle.wh_history.specs.Tables.{Limits}
use Rattle.wh_history.specs.declared.facts.Fact.{Fact}
use Rattle.wh_rows.specs.Facts.{facts_in, facts_of}
use Rattle.wh_rows.specs.Tables.{Tables}
use Rattle.wh_rows.specs.declared.key.LineKey.{LineKey}
use Rattle.wh_model.specs.Defined.{fact_at, fact_in, AreOf}

-- ---- the format with one more command

pub format_with : (before : Format) (commands : List Accepted) (c : Accepted) → format_after before (commands ++ c ∷ []) ≡ formatted (format_after before commands) c.content
format_with before [] c = refl
format_with before (d ∷ ds) c = format_with (formatted before d.content) ds c

-- what doesn't make the second format of the first leaves the format
left_as_it_was : (content : Content) → formatted One content ≡ One → (format : Format) → formatted format content ≡ format
left_as_it_was (Governs policy) leaves format = refl
left_as_it_was (Describes dim records) leaves format = refl
left_as_it_was (Sells sales) leaves format = refl
left_as_it_was Upgrades leaves format = absurd (cc)
left_as_it_was (Withdraws lines) leaves format = refl

pub format_stays : (commands : List Accepted) (c : Accepted) → formatted One c.content ≡ One → format_of (commands ++ c ∷ []) ≡ format_of commands
format_stays commands c leaves = format_with One commands c ∙ left_as_it_was c.content leaves (format_of commands)

-- where it is the first after a command, it was before
first_before : (content : Content) (format : Format) → formatted format content ≡ One → format ≡ One
first_before (Governs policy) format first = first
first_before (Describes dim records) format first = first
first_before (Sells sales) format first = first
first_before Upgrades format first = absurd (cc)
first_before (Withdraws lines) format first = first

pub format_before : (commands : List Accepted) (c : Accepted) → format_of (commands ++ c ∷ []) ≡ One → format_of commands ≡ One
format_before commands c first = first_before c.content (format_of commands) (sym (format_with One commands c) ∙ first)

-- ---- the table of the format

pub same_as_itself : (format : Format) → same_format format format ≡ true
same_as_itself One = refl
same_as_itself Two = refl

-- the facts stand in the table of the list's format
pub in_its_table : (format : Format) (commands : List Accepted) → format ≡ format_of commands → (key : LineKey) → fact_in format commands key ≡ fact_at commands key
in_its_table format commands same key =
    let kept : Bool → Option Fact = λ b. cond b (fact_at commands key) None in
    ap (λ (f : Format). kept (same_format format f)) (sym same) ∙ ap kept (same_as_itself format)

-- and in the other there is none
pub in_no_other : (format : Format) (commands : List Accepted) → same_format format (format_of commands) ≡ false → (key : LineKey) → fact_in format commands key ≡ None
in_no_other format commands other key = rw other refl

module _ (limits : Limits) (commands : List Accepted) (t : Tables) (are : AreOf limits commands t) where
  pub facts_in_are : (format : Format) → format ≡ format_of commands → (key : LineKey) → get (facts_in format t) key ≡ fact_at commands key
  facts_in_are One same key = are.fact key ∙ in_its_table One commands same key
  facts_in_are Two same key = are.fact2 key ∙ in_its_table Two commands same key

  pub facts_are : (key : LineKey) → get (facts_of t) key ≡ fact_at commands key
  facts_are key = facts_in_are t.format are.format key
