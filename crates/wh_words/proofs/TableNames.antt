-- The table of a name.
use Rattle.std.proofs.Common.{◌≡◌, ◌∙◌, refl, sym, ap, Bool, true, false, List, [], ◌∷◌, ℕ, Option, Some, None}
use Rattle.std.specs.Prelude.{find, bytes_eq, IfSome}
use Rattle.std.proofs.lemmas.Slice.Eq.{bytes_eq-Decides}
use Rattle.wh_rows.specs.Names.{table_name, table_of_name, every_table}
use Rattle.wh_rows.specs.declared.table.Table.{Table}
use Rattle.wh_rows.proofs.Named.{named_back}

no_match : (b : Bool) → (b ≡ true → ⊥) → b ≡ false
no_match true other = absurd (other refl)
no_match false other = refl

-- nothing is found where no table has the name
none_found : (w : List ℕ) (tables : List Table) → ((t : Table) → table_name t ≡ w → ⊥) → find (λ t. bytes_eq w (table_name t)) tables ≡ None
none_found w [] none = refl
none_found w (t ∷ tables) none =
    let other : bytes_eq w (table_name t) ≡ false = no_match (bytes_eq w (table_name t)) (λ is. none t (sym ((bytes_eq-Decides w (table_name t)).0 is))) in
    rw other (none_found w tables none)

pub named_by_both : (w : List ℕ) (found : Option Table) → IfSome found (λ t. table_name t ≡ w) → ((t : Table) → table_name t ≡ w → found ≡ Some t) → found ≡ table_of_name w
named_by_both w (Some t) is only = sym (ap table_of_name (sym is) ∙ named_back t)
named_by_both w None is only = sym (none_found w every_table (λ t e. let taken = only t e in absurd (cc taken)))
