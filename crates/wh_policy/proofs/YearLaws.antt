-- The years of a calendar, judged.
use Rattle.std.proofs.Common.{◌≡◌, ℕ, ◌+◌, ℤ, pos, negsuc, unsigned_abs, Bool, true, ◌&&◌, leb, ltb, Option, Some, None, refl, ap}
use Rattle.std.proofs.lemmas.Bool.{and_parts, and_from, le-leb, leb-true, lt-ltb, ltb-true, both_ways}
use Rattle.std.proofs.lemmas.Option.{same_Some, none-some}
use Rattle.toml.specs.Data.{Data, integer, as_integer}
use Rattle.wh_policy.specs.declared.fault.PolicyFault.{PolicyFault}
use Rattle.wh_policy.specs.declared.fault.PolicyFault.TheVariants.{BadYears}
use Rattle.wh_policy.specs.declared.policy.Years.{Years}
use Rattle.wh_policy.specs.Written.{AreYears}
use Rattle.wh_policy.specs.Years.{found_years, years_of}
use Rattle.wh_policy.proofs.Judged.{Judged, judged-ok, judged-more, judged-unless}
use Rattle.wh_policy.proofs.WrittenLemmas.{as_integer-is}

abbrev are_years : ℕ → ℕ → Bool
are_years first last = leb 1900 first && leb last 2199 && leb first last && ltb last (first + 30)

are_years-true : (first last : ℕ) → are_years first last ≡ true → AreYears (record { first = first; last = last })
are_years-true first last h =
    let (three, few) = and_parts _ _ h in
    let (two, ordered) = and_parts _ _ three in
    let (from, to) = and_parts _ _ two in
    record { from = leb-true _ _ from; to = leb-true _ _ to; ordered = leb-true _ _ ordered; few = ltb-true _ _ few }

are_years-from : (years : Years) → AreYears years → are_years years.first years.last ≡ true
are_years-from years h = and_from _ _ (and_from _ _ (and_from _ _ (le-leb _ _ h.from) (le-leb _ _ h.to)) (le-leb _ _ h.ordered)) (lt-ltb _ _ h.few)

found_years-judged : {bad : PolicyFault → Type 0} (a b : Option ℤ) → (((years : Years) → a ≡ Some (pos years.first) → b ≡ Some (pos years.last) → ¬ AreYears years) → bad BadYears)
    → Judged (λ years. (a ≡ Some (pos years.first)) × (b ≡ Some (pos years.last)) × AreYears years) bad (found_years a b)
found_years-judged (Some (pos first)) (Some (pos last)) fails =
    judged-unless (are_years first last) BadYears _
    (λ no. fails (λ years first_is last_is are.
    let from : first ≡ years.first = ap unsigned_abs (same_Some _ _ first_is) in
    let to : last ≡ years.last = ap unsigned_abs (same_Some _ _ last_is) in
    both_ways _ no (rw (from, to) (are_years-from years are))))
    (λ yes. judged-ok (record { first = first; last = last }) (refl, refl, are_years-true first last yes))
found_years-judged (Some (pos first)) (Some (negsuc last)) fails = record { verdict = fails (λ years first_is last_is are. absurd cc) }
found_years-judged (Some (pos first)) None fails = record { verdict = fails (λ years first_is last_is are. none-some _ last_is) }
found_years-judged (Some (negsuc first)) b fails = record { verdict = fails (λ years first_is last_is are. absurd cc) }
found_years-judged None b fails = record { verdict = fails (λ years first_is last_is are. none-some _ first_is) }

pub years_of-judged : {bad : PolicyFault → Type 0} (first last : Data) → (((years : Years) → first ≡ integer (pos years.first) → last ≡ integer (pos years.last) → ¬ AreYears years) → bad BadYears)
    → Judged (λ years. (first ≡ integer (pos years.first)) × (last ≡ integer (pos years.last)) × AreYears years) bad (years_of first last)
unfolding years_of
years_of-judged first last fails = judged-more _
    (found_years-judged (as_integer first) (as_integer last) (λ none. fails (λ years first_is last_is. none years (ap as_integer first_is) (ap as_integer last_is))))
    (λ years p. (as_integer-is first _ p.0, as_integer-is last _ p.1, p.2))
