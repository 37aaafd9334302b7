-- What rows that are put at their keys make of a table.
use Rattle.std.proofs.Common.{◌≡◌, ◌⊎◌, inl, inr, ℕ, suc, ◌-◌, true, false, cond, List, [], ◌∷◌, Option, Some, None, refl, sym, ◌∙◌, ap, arith}
use Rattle.std.specs.Prelude.{filter_map}
use Rattle.std.specs.List.{cons_option}
use Rattle.std.specs.Ordering.{eq_by_cmp}
use Rattle.std.specs.Cmp.{IsTotalOrder, eq_by_cmp_equiv, Equal-is}
use Rattle.std.specs.FinMap.{FinMap, get, insert, IsAntisymmetric, get-insert}
use Rattle.wh_rows.specs.Holds.{Layout}
use Rattle.wh_plan.specs.BatchRows.{numbers_after}
use Rattle.wh_model.proofs.Growing.{AmongKeys, among_range, Grows}
use Rattle.wh_rows.specs.Steps.{with_rows}

module _ {I K V : Type 0} (layout : Layout K V) (total : IsTotalOrder layout.order) (same : IsAntisymmetric layout.order) (new : K → Option V) (keyed : (k : K) (v : V) → new k ≡ Some v → layout.key v ≡ k) (at : I → K) where
  -- a key has its row already, or has none and is to get it
  abbrev Awaits : FinMap layout.order V → K → List I → Type 0
  Awaits m q ns = (get m q ≡ new q) ⊎ ((get m q ≡ None) × AmongKeys at q ns)

  -- where its row is put it has it, and elsewhere nothing changes
  after_put : (m : FinMap layout.order V) (q : K) (n : I) (ns : List I) (v : V) → new (at n) ≡ Some v → Awaits m q (n ∷ ns) → Awaits (insert m (layout.key v) v) q ns
  after_put m q n ns v is so =
      let key : layout.key v ≡ at n = keyed (at n) v is in
      let got : get (insert m (layout.key v) v) q ≡ cond (eq_by_cmp layout.order q (layout.key v)) (Some v) (get m q) = get-insert total m (layout.key v) v q in
      elim (eq_by_cmp layout.order q (layout.key v)) as (λ b. (eq_by_cmp layout.order q (layout.key v) ≡ b) → get (insert m (layout.key v) v) q ≡ cond b (Some v) (get m q) → Awaits (insert m (layout.key v) v) q ns) [
        | true ↦ λ tied here.
            let here_is : q ≡ layout.key v = same q (layout.key v) ((Equal-is (layout.order q (layout.key v))).0 tied) in
            inl (here ∙ sym is ∙ ap new (sym (here_is ∙ key)))
        | false ↦ λ other here.
            elim so [
              | inl has ↦ inl (here ∙ has)
              | inr waits ↦ elim waits.1 [
                | inl first ↦
                    let itself = (eq_by_cmp_equiv total).refl (layout.key v) in
                    let tied : eq_by_cmp layout.order q (layout.key v) ≡ true = ap (λ k. eq_by_cmp layout.order k (layout.key v)) (first ∙ sym key) ∙ itself in
                    absurd (cc)
                | inr rest ↦ inr (here ∙ waits.0, rest)
              ]
            ]
      ] refl got

  written_all : (ns : List I) (m : FinMap layout.order V) (q : K) → Awaits m q ns → get (with_rows layout (filter_map (λ n. new (at n)) ns) m) q ≡ new q
  written_all [] m q so = elim so [ inl has ↦ has | inr waits ↦ absurd waits.1 ]
  written_all (n ∷ ns) m q so =
      elim (new (at n)) as (λ o. (new (at n) ≡ o) → get (with_rows layout (cons_option o (filter_map (λ n. new (at n)) ns)) m) q ≡ new q) [
        | None ↦ λ none. written_all ns m q (elim so [
          | inl has ↦ inl has
          | inr waits ↦ elim waits.1 [
            | inl first ↦ inl (waits.0 ∙ sym none ∙ ap new (sym first))
            | inr rest ↦ inr (waits.0, rest)
          ]
        ])
        | Some v ↦ λ is. written_all ns (insert m (layout.key v) v) q (after_put m q n ns v is so)
      ] refl

  -- a table with rows put under the keys that have none yet
  pub written_where : (old : K → Option V) (ns : List I) (m : FinMap layout.order V) (rows : List V) (q : K) → get m q ≡ old q → rows ≡ filter_map (λ n. new (at n)) ns
      → (new q ≡ old q) ⊎ ((old q ≡ None) × AmongKeys at q ns) → get (with_rows layout rows m) q ≡ new q
  written_where old ns m rows q has made so =
      ap (λ (rs : List V). get (with_rows layout rs m) q) made ∙
      written_all ns m q (elim so [
        | inl kept ↦ inl (has ∙ sym kept)
        | inr added ↦ inr (has ∙ added.0, added.1)
      ])

module _ {K V : Type 0} (layout : Layout K V) (total : IsTotalOrder layout.order) (same : IsAntisymmetric layout.order) (new : K → Option V) (keyed : (k : K) (v : V) → new k ≡ Some v → layout.key v ≡ k) (at : ℕ → K) where
  -- a table that grows, with the new rows put, is the table after
  pub written : (old : K → Option V) (low high : ℕ) (m : FinMap layout.order V) (rows : List V) (q : K) → get m q ≡ old q → rows ≡ filter_map (λ n. new (at n)) (numbers_after low high) → Grows at low high old new q → get (with_rows layout rows m) q ≡ new q
  written old low high m rows q has made grows =
      written_where layout total same new keyed at old (numbers_after low high) m rows q has made (elim grows [
        | inl kept ↦ inl kept.same
        | inr added ↦ inr (added.none, among_range at q added.number (suc low) (high - low) added.is (let above = added.above in omega arith) (let above = added.above in let within = added.within in omega arith))
      ])
