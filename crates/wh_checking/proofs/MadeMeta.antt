-- Meta in tables that were made, with a row that says a format, says that one and its limits.
use Rattle.std.proofs.Common.{◌≡◌, inl, inr, ℕ, false, cond, List, Some, refl, sym, ◌∙◌, ap, subst}
use Rattle.std.specs.Prelude.{codes, bytes_eq}
use Rattle.std.specs.FinMap.{get}
use Rattle.std.proofs.lemmas.Bool.{cases_Bool}
use Rattle.std.proofs.lemmas.Slice.Eq.{bytes_eq-Decides}
use Rattle.wh_policy.specs.Formats.{format_number}
use Rattle.wh_policy.specs.declared.format.Format.{Format}
use Rattle.wh_policy.specs.declared.format.Format.TheVariants.{One}
use Rattle.wh_history.specs.Tables.{Limits}
use Rattle.wh_model.specs.Defined.{meta_at}
use Rattle.wh_sql.specs.Making.{made_with}
use Rattle.wh_engine.proofs.MadeMeta.{named, put_text, meta_made as made_first}
use Rattle.wh_checking.specs.Meta.{made_in}

found : (format : Format) (limits : Limits) (q : List ℕ) → get (made_in format limits).meta q ≡ cond (bytes_eq q (codes "format")) (Some (named (codes "format") (format_number format))) (get (made_with limits).meta q)
found format limits q = put_text (made_with limits).meta (codes "format") q (format_number format)

-- the formats differ in one row
other_rows : (format : Format) (limits : Limits) (q : List ℕ) → bytes_eq q (codes "format") ≡ false → meta_at One limits q ≡ meta_at format limits q
other_rows format limits q other = rw other refl

pub meta_made : (format : Format) (limits : Limits) (q : List ℕ) → get (made_in format limits).meta q ≡ meta_at format limits q
meta_made format limits q =
    elim (cases_Bool (bytes_eq q (codes "format"))) [
      | inl is ↦ subst (λ (n : List ℕ). get (made_in format limits).meta n ≡ meta_at format limits n) (sym ((bytes_eq-Decides q (codes "format")).0 is)) (found format limits (codes "format"))
      | inr other ↦ found format limits q ∙ ap (λ b. cond b (Some (named (codes "format") (format_number format))) (get (made_with limits).meta q)) other ∙ made_first limits q ∙ other_rows format limits q other
    ]
