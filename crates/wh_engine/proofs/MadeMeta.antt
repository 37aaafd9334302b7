-- Meta as a making writes it says the first format and its limits.
use Rattle.std.proofs.Common.{◌≡◌, inl, inr, ℕ, true, cond, List, Some, None, refl, sym, ◌∙◌, ap, subst, pos}
use Rattle.std.specs.Prelude.{codes, bytes_eq}
use Rattle.std.specs.Cmp.Lexicographic.{slice_cmp, nat_list_cmp_total}
use Rattle.std.specs.FinMap.{FinMap, insert, get, get-empty, get-insert}
use Rattle.std.specs.Ordering.{nat_cmp}
use Rattle.std.proofs.lemmas.Bool.{cases_Bool}
use Rattle.std.proofs.lemmas.Map.Text.{is_eq-slice_cmp}
use Rattle.std.proofs.lemmas.Slice.Eq.{bytes_eq-Decides}
use Rattle.wh_policy.specs.declared.format.Format.TheVariants.{One}
use Rattle.wh_history.specs.Tables.{Limits}
use Rattle.wh_model.specs.Defined.{meta_at}
use Rattle.wh_rows.specs.declared.rows.MetaRow.{MetaRow}
use Rattle.wh_sql.specs.Making.{made_with}

abbrev Text : Type 0
Text = List ℕ

-- a row under a name
abbrev pub named : Text → ℕ → MetaRow
named name value = record { name = name; value = pos value }

pub put_text : (m : FinMap (slice_cmp nat_cmp) MetaRow) (name q : Text) (value : ℕ) → get (insert m name (named name value)) q ≡ cond (bytes_eq q name) (Some (named name value)) (get m q)
put_text m name q value = get-insert nat_list_cmp_total m name (named name value) q ∙ ap (λ b. cond b (Some (named name value)) (get m q)) (is_eq-slice_cmp q name)

meta_found : (limits : Limits) (q : Text) → get (made_with limits).meta q
    ≡ cond (bytes_eq q (codes "format")) (Some (named (codes "format") 1)) (cond (bytes_eq q (codes "facts_max")) (Some (named (codes "facts_max") limits.facts))
    (cond (bytes_eq q (codes "commands_max")) (Some (named (codes "commands_max") limits.commands)) (cond (bytes_eq q (codes "changes_max")) (Some (named (codes "changes_max") limits.changes)) None)))
meta_found limits q =
    rw (put_text _ (codes "format") q 1, put_text _ (codes "facts_max") q limits.facts, put_text _ (codes "commands_max") q limits.commands, put_text _ (codes "changes_max") q limits.changes, get-empty (slice_cmp nat_cmp) q) refl

among : (limits : Limits) (q name : Text) → bytes_eq q name ≡ true → get (made_with limits).meta name ≡ meta_at One limits name → get (made_with limits).meta q ≡ meta_at One limits q
among limits q name is known = subst (λ (n : Text). get (made_with limits).meta n ≡ meta_at One limits n) (sym ((bytes_eq-Decides q name).0 is)) known

pub meta_made : (limits : Limits) (q : Text) → get (made_with limits).meta q ≡ meta_at One limits q
meta_made limits q =
    elim (cases_Bool (bytes_eq q (codes "changes_max"))) [
      | inl is ↦ among limits q (codes "changes_max") is (meta_found limits (codes "changes_max"))
      | inr changes ↦ elim (cases_Bool (bytes_eq q (codes "commands_max"))) [
        | inl is ↦ among limits q (codes "commands_max") is (meta_found limits (codes "commands_max"))
        | inr commands ↦ elim (cases_Bool (bytes_eq q (codes "facts_max"))) [
          | inl is ↦ among limits q (codes "facts_max") is (meta_found limits (codes "facts_max"))
          | inr facts ↦ elim (cases_Bool (bytes_eq q (codes "format"))) [
            | inl is ↦ among limits q (codes "format") is (meta_found limits (codes "format"))
            | inr other ↦ meta_found limits q ∙ rw (changes, commands, facts, other) refl
          ]
        ]
      ]
    ]
