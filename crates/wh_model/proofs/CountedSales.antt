-- The sales that stand and the lines that were withdrawn are as many as all that were sold.
use Rattle.std.proofs.Common.{◌≡◌, ℕ, suc, ◌+◌, ◌==◌, ◌&&◌, ◌||◌, Bool, true, false, not, cond, List, [], ◌∷◌, length, refl, sym, ◌∙◌, ap, arith}
use Rattle.std.specs.Prelude.{bytes_eq}
use Rattle.std.specs.List.{AllByRecursion, IsDistinct, list_any}
use Rattle.wh_policy.specs.declared.record.SaleRecord.{SaleRecord}
use Rattle.wh_policy.specs.declared.record.VoidRecord.{VoidRecord}
use Rattle.wh_history.specs.Accepted.{Accepted, sold, withdrawn, withdraws_line, standing_but, standing}
use Rattle.wh_history.specs.Tables.{Limits}
use Rattle.wh_history.proofs.Joins.{all_weaker}
use Rattle.wh_history.proofs.Standing.{all_stand, none_withdrawn, stand_but_both, all_standing}
use Rattle.wh_model.specs.Sound.{IsAccepted, same_line, same_void, is_sold_line}
use Rattle.wh_model.proofs.SameLines.{line_turned, line_joined}

-- a sale of another line than one that has the void's is not withdrawn by it
other_line : (v : VoidRecord) (s t : SaleRecord) → (bytes_eq v.ticket s.ticket && (v.line == s.line)) ≡ true → same_line s t ≡ false → withdraws_line t.ticket t.line (v ∷ []) ≡ false
other_line v s t here apart =
    elim (bytes_eq v.ticket t.ticket && (v.line == t.line)) as (λ b. ((bytes_eq v.ticket t.ticket && (v.line == t.line)) ≡ b) → (b || false) ≡ false) [
      | false ↦ λ _. refl
      | true ↦ λ there.
          let back : (bytes_eq t.ticket v.ticket && (t.line == v.line)) ≡ true = sym (line_turned v.ticket t.ticket v.line t.line) ∙ there in
          let same = line_joined t.ticket v.ticket s.ticket t.line v.line s.line back here in
          cc
    ] refl

standing_apart : (voids : List VoidRecord) (sales : List SaleRecord) → IsDistinct same_line sales → IsDistinct same_line (standing_but voids sales)
unfolding IsDistinct
standing_apart voids [] once = tt
standing_apart voids (s ∷ sales) once =
    let rest = standing_apart voids sales once.1 in
    let own = all_standing (λ t. same_line s t ≡ false) voids sales once.0 in
    elim (withdraws_line s.ticket s.line voids) as (λ b. IsDistinct same_line (cond (not b) (s ∷ standing_but voids sales) (standing_but voids sales))) [
      | true ↦ rest
      | false ↦ (own, rest)
    ]

-- a void of a line that was sold takes one sale out
one_out : (v : VoidRecord) (sales : List SaleRecord) → IsDistinct same_line sales → is_sold_line sales v ≡ true → length (standing_but (v ∷ []) sales) + 1 ≡ length sales
unfolding IsDistinct
one_out v [] once sold_at = absurd cc
one_out v (s ∷ sales) once sold_at =
    let turned = line_turned s.ticket v.ticket s.line v.line in
    elim (bytes_eq v.ticket s.ticket && (v.line == s.line)) as (λ b. ((bytes_eq v.ticket s.ticket && (v.line == s.line)) ≡ b) → length (cond (not (b || false)) (s ∷ standing_but (v ∷ []) sales) (standing_but (v ∷ []) sales)) + 1 ≡ suc (length sales)) [
      | true ↦ λ here.
          let rest = all_stand (v ∷ []) sales (all_weaker (λ t. same_line s t ≡ false) (λ t. withdraws_line t.ticket t.line (v ∷ []) ≡ false) (λ t apart. other_line v s t here apart) sales once.0) in
          ap (λ ss. length ss + 1) rest ∙ omega arith
      | false ↦ λ elsewhere.
          let later : is_sold_line sales v ≡ true = sym (ap (λ b. b || is_sold_line sales v) (turned ∙ elsewhere)) ∙ sold_at in
          let rest = one_out v sales once.1 later in
          omega (arith, rest)
    ] refl

-- and leaves the lines of other voids
still_sold : (v w : VoidRecord) (sales : List SaleRecord) → same_void v w ≡ false → is_sold_line sales w ≡ true → is_sold_line (standing_but (v ∷ []) sales) w ≡ true
still_sold v w [] apart sold_at = absurd cc
still_sold v w (s ∷ sales) apart sold_at =
    elim (bytes_eq v.ticket s.ticket && (v.line == s.line)) as (λ b. ((bytes_eq v.ticket s.ticket && (v.line == s.line)) ≡ b) → is_sold_line (cond (not (b || false)) (s ∷ standing_but (v ∷ []) sales) (standing_but (v ∷ []) sales)) w ≡ true) [
      | true ↦ λ here.
          let elsewhere : (bytes_eq s.ticket w.ticket && (s.line == w.line)) ≡ false = elim (bytes_eq s.ticket w.ticket && (s.line == w.line)) as (λ b. ((bytes_eq s.ticket w.ticket && (s.line == w.line)) ≡ b) → b ≡ false) [
            | false ↦ λ _. refl
            | true ↦ λ there.
                let same = line_turned w.ticket v.ticket w.line v.line ∙ line_joined v.ticket s.ticket w.ticket v.line s.line w.line here there in
                cc
          ] refl in
          still_sold v w sales apart (sym (ap (λ b. b || is_sold_line sales w) elsewhere) ∙ sold_at)
      | false ↦ λ _.
          elim (bytes_eq s.ticket w.ticket && (s.line == w.line)) as (λ b. (b || is_sold_line sales w) ≡ true → (b || is_sold_line (standing_but (v ∷ []) sales) w) ≡ true) [
            | true ↦ λ _. refl
            | false ↦ λ later. still_sold v w sales apart later
          ] sold_at
    ] refl

all_still_sold : (v : VoidRecord) (sales : List SaleRecord) (voids : List VoidRecord) → AllByRecursion (λ w. same_void v w ≡ false) voids → AllByRecursion (λ w. is_sold_line sales w ≡ true) voids → AllByRecursion (λ w. is_sold_line (standing_but (v ∷ []) sales) w ≡ true) voids
all_still_sold v sales [] apart all = tt
all_still_sold v sales (w ∷ voids) apart all = (still_sold v w sales apart.0 all.0, all_still_sold v sales voids apart.1 all.1)

as_many : (voids : List VoidRecord) (sales : List SaleRecord) → IsDistinct same_void voids → IsDistinct same_line sales → AllByRecursion (λ v. is_sold_line sales v ≡ true) voids → length (standing_but voids sales) + length voids ≡ length sales
unfolding IsDistinct
as_many [] sales apart once all = let same = ap (λ (ss : List SaleRecord). length ss) (none_withdrawn sales) in omega (arith, same)
as_many (v ∷ voids) sales apart once all =
    let one = one_out v sales once all.0 in
    let rest = as_many voids (standing_but (v ∷ []) sales) apart.1 (standing_apart (v ∷ []) sales once) (all_still_sold v sales voids apart.0 all.1) in
    let both = ap (λ (ss : List SaleRecord). length ss) (stand_but_both (v ∷ []) voids sales) in
    omega (arith, one, rest, both)

module _ (limits : Limits) (commands : List Accepted) (ok : IsAccepted limits commands) where
  pub standing_once : IsDistinct same_line (standing commands)
  standing_once = standing_apart (withdrawn commands) (sold commands) ok.lines

  pub standing_counted : length (standing commands) + length (withdrawn commands) ≡ length (sold commands)
  standing_counted = as_many (withdrawn commands) (sold commands) ok.withdrawn_once ok.lines ok.withdrawn_sold
