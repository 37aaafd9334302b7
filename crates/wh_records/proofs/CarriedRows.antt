-- A member that was carried has the same rows, but for their numbers.
use Rattle.std.proofs.Common.{◌≡◌, ℕ, suc, ◌+◌, true, false, cond, List, [], ◌∷◌, map, Option, Some, refl, sym, ap, ◌∙◌, subst, arith}
use Rattle.std.specs.Prelude.{slice_get, unwrap_or, option_map}
use Rattle.wh_day.specs.Day.{first_day}
use Rattle.wh_policy.specs.Policy.{policy_types}
use Rattle.wh_policy.specs.Types.{rule}
use Rattle.wh_policy.specs.declared.attribute.AttributeType.{AttributeType}
use Rattle.wh_policy.specs.declared.type_rule.MainColumn.{MainColumn}
use Rattle.wh_policy.specs.declared.type_rule.MainColumn.TheVariants as main
use Rattle.wh_policy.specs.declared.type_rule.SecondColumn.{SecondColumn}
use Rattle.wh_policy.specs.declared.type_rule.SecondColumn.TheVariants as second
use Rattle.wh_policy.specs.declared.policy.Policy.{Policy}
use Rattle.wh_policy.proofs.TypeLemmas.{original_outside}
use Rattle.wh_history.specs.Accepted.{types_in, member_of, profiles_of}
use Rattle.wh_history.specs.Dated.{dated, original}
use Rattle.wh_history.specs.Profiles.{profile_now_by, profile_number}
use Rattle.wh_history.specs.Rows.{starts, later_starts, same_tracked, spans, main_text, main_column, second_text, second_column, row, rows}
use Rattle.wh_history.specs.Slots.{columns_from, six}
use Rattle.wh_history.specs.declared.member.Change.{Change}
use Rattle.wh_history.specs.declared.member.Member.{Member}
use Rattle.wh_history.specs.declared.rows.DimRow.{DimRow}
use Rattle.wh_records.specs.Laws.{unnumbered, SaysTheSame, without_numbers, RowsAreCarried}
use Rattle.wh_records.proofs.CarriedMembers.{members_are_carried}

-- ---- where rows begin

later_unnumbered : (kinds : List AttributeType) (c : Change) (cs : List Change) → later_starts kinds (unnumbered c) (map unnumbered cs) ≡ later_starts kinds c cs
later_unnumbered kinds c [] = refl
later_unnumbered kinds c (d ∷ ds) =
    let rest = later_unnumbered kinds d ds in
    elim (same_tracked kinds c d) as (λ b. cond b (later_starts kinds (unnumbered d) (map unnumbered ds)) (d.day ∷ later_starts kinds (unnumbered d) (map unnumbered ds)) ≡ cond b (later_starts kinds d ds) (d.day ∷ later_starts kinds d ds)) [
      | true ↦ rest
      | false ↦ ap (λ days. d.day ∷ days) rest
    ]

starts_unnumbered : (kinds : List AttributeType) (cs : List Change) → starts kinds (map unnumbered cs) ≡ starts kinds cs
starts_unnumbered kinds [] = refl
starts_unnumbered kinds (c ∷ cs) = later_unnumbered kinds c cs

-- ---- what rows show

pub same_columns : (f g : ℕ → AttributeType → List ℕ) (from : ℕ) (kinds : List AttributeType) → ((place : ℕ) (kind : AttributeType) → slice_get kinds place ≡ Some kind → f (from + place) kind ≡ g (from + place) kind) → columns_from f from kinds ≡ columns_from g from kinds
same_columns f g from [] same = refl
same_columns f g from (kind ∷ kinds) same =
    let here : f from kind ≡ g from kind = subst (λ n. f n kind ≡ g n kind) (let at : from + 0 ≡ from = omega arith in at) (same 0 kind refl) in
    let rest = same_columns f g (suc from) kinds (λ place k there. subst (λ n. f n k ≡ g n k) (let at : from + suc place ≡ suc from + place = omega arith in at) (same (suc place) k there)) in
    cc

module _ (kinds : List AttributeType) (changes others : List Change) (says : SaysTheSame kinds changes others) where
  main_as : (start place : ℕ) (column : MainColumn) → (column ≡ main.Original → original place changes ≡ original place others) → main_text changes start place column ≡ main_text others start place column
  main_as start place main.Original first = first refl
  main_as start place main.FirstDay first = says.at_day start place
  main_as start place main.Latest first = says.newest place
  main_as start place main.Nothing first = refl

  main_same : (start place : ℕ) (kind : AttributeType) → slice_get kinds place ≡ Some kind → main_column changes start place kind ≡ main_column others start place kind
  main_same start place kind there = main_as start place (rule kind).main (λ is. says.first place kind there (original_outside kind is))

  second_as : (place : ℕ) (column : SecondColumn) → second_text changes place column ≡ second_text others place column
  second_as place second.Nothing = refl
  second_as place second.Prior = says.before place
  second_as place second.Latest = says.newest place

  second_same : (place : ℕ) (kind : AttributeType) → second_column changes place kind ≡ second_column others place kind
  second_same place kind = second_as place (rule kind).second

  main_texts : (start : ℕ) → columns_from (main_column changes start) 0 kinds ≡ columns_from (main_column others start) 0 kinds
  main_texts start = same_columns (main_column changes start) (main_column others start) 0 kinds (λ place kind there.
      let at : 0 + place ≡ place = omega arith in
      subst (λ n. main_column changes start n kind ≡ main_column others start n kind) (sym at) (main_same start place kind there))

  second_texts : columns_from (second_column changes) 0 kinds ≡ columns_from (second_column others) 0 kinds
  second_texts = same_columns (second_column changes) (second_column others) 0 kinds (λ place kind there. second_same (0 + place) kind)

  starts_same : starts kinds (dated changes) ≡ starts kinds (dated others)
  starts_same = sym (starts_unnumbered kinds (dated changes)) ∙ ap (starts kinds) says.by_day ∙ starts_unnumbered kinds (dated others)

-- ---- rows

module _ (kinds : List AttributeType) (m n : Member) (named : m.natural ≡ n.natural) (says : SaysTheSame kinds m.changes n.changes) (p q : ℕ) where
  row_same : (span : ℕ × ℕ) → without_numbers (row kinds p m span) ≡ without_numbers (row kinds q n span)
  row_same span =
      let make : List ℕ → List (List ℕ) → List (List ℕ) → DimRow = λ natural a b. without_numbers (record (row kinds p m span) { natural = natural; a = six a; b = six b }) in
      ap (λ natural. make natural (columns_from (main_column m.changes span.0) 0 kinds) (columns_from (second_column m.changes) 0 kinds)) named
      ∙ ap (λ a. make n.natural a (columns_from (second_column m.changes) 0 kinds)) (main_texts kinds m.changes n.changes says span.0)
      ∙ ap (λ b. make n.natural (columns_from (main_column n.changes span.0) 0 kinds) b) (second_texts kinds m.changes n.changes says)

  all_same : (ss : List (ℕ × ℕ)) → map without_numbers (map (row kinds p m) ss) ≡ map without_numbers (map (row kinds q n) ss)
  all_same [] = refl
  all_same (s ∷ ss) =
      let here = row_same s in
      let rest = all_same ss in
      cc

  spans_same : map without_numbers (map (row kinds p m) (spans first_day (starts kinds (dated m.changes)))) ≡ map without_numbers (map (row kinds q n) (spans first_day (starts kinds (dated n.changes))))
  spans_same =
      ap (λ days. map without_numbers (map (row kinds p m) (spans first_day days))) (starts_same kinds m.changes n.changes says)
      ∙ all_same (spans first_day (starts kinds (dated n.changes)))

pub rows_are_carried : RowsAreCarried
rows_are_carried limits commands next it carries dim natural =
    let kinds : types_in dim next ≡ types_in dim commands = ap (λ (o : Option Policy). unwrap_or (option_map (λ policy. policy_types policy dim) o) []) carries.policy in
    ap (λ ks. map without_numbers (rows ks (profiles_of next) (member_of dim next natural))) kinds
    ∙ spans_same (types_in dim commands) (member_of dim next natural) (member_of dim commands natural) refl (members_are_carried limits commands next it carries dim natural)
    (profile_now_by (types_in dim commands) (profile_number (profiles_of next)) (member_of dim next natural)) (profile_now_by (types_in dim commands) (profile_number (profiles_of commands)) (member_of dim commands natural))
