-- The keys of the tables, as a plan has them.
use Rattle.std.proofs.Common.{◌≡◌, ◌∙◌, ◌++◌, ℕ, List, ap, sym, append-nil, append_assoc}
use Rattle.std.specs.Prelude.{codes}
use Rattle.std.specs.Fmt.{decimal}
use Rattle.wh_rows.specs.Keys.{bind_text, bind_number, bind_member, bind_change, bind_line}
use Rattle.wh_rows.specs.Types.{dim_number}
use Rattle.wh_rows.specs.declared.key.MemberKey.{MemberKey}
use Rattle.wh_rows.specs.declared.key.ChangeKey.{ChangeKey}
use Rattle.wh_rows.specs.declared.key.LineKey.{LineKey}
use Rattle.wh_program.specs.PlanText.{key_words}

pub of_text : (key : List ℕ) → key_words bind_text key ≡ key
of_text key = append-nil key

pub of_number : (key : ℕ) → key_words bind_number key ≡ decimal key
of_number key = append-nil (decimal key)

pub of_member : (key : MemberKey) → key_words bind_member key ≡ decimal (dim_number key.dim) ++ codes " " ++ decimal key.durable
of_member key = ap (λ t. decimal (dim_number key.dim) ++ t) (append-nil (codes " " ++ decimal key.durable)) ∙ sym (append_assoc (decimal (dim_number key.dim)) (codes " ") (decimal key.durable))

pub of_change : (key : ChangeKey) → key_words bind_change key ≡ decimal key.command ++ codes " " ++ decimal key.place
of_change key = ap (λ t. decimal key.command ++ t) (append-nil (codes " " ++ decimal key.place)) ∙ sym (append_assoc (decimal key.command) (codes " ") (decimal key.place))

pub of_line : (key : LineKey) → key_words bind_line key ≡ key.ticket ++ codes " " ++ decimal key.line
of_line key = ap (λ t. key.ticket ++ t) (append-nil (codes " " ++ decimal key.line)) ∙ sym (append_assoc key.ticket (codes " ") (decimal key.line))
