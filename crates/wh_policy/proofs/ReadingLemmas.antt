-- The tables of a policy file, read one after the other.
use Rattle.std.proofs.Common.{◌≡◌, ℕ, ◌+◌, ◌<◌, ◌≤◌, List, [], ◌∷◌, ◌++◌, length, drop, get_or, map, Result, Ok, ap, Bor, BTreeMap, String, Global}
use Rattle.std.proofs.lemmas.List.{drop_more, drop_all}
use Rattle.toml.specs.Data.{Members}
use Rattle.toml.specs.View.{table_view}
use Rattle.toml.specs.declared.value.Value.{Value}
use Rattle.wh_day.specs.declared.error.ParseError.{ParseError}
use Rattle.wh_day.specs.Reading.{Fails}
use Rattle.wh_day.proofs.Loops.{with_front, with_front-cons, with_front-nil, with_front-fails}
use Rattle.wh_policy.specs.declared.fault.PolicyFault.{PolicyFault}
use Rattle.wh_policy.specs.Document.{each_after}

abbrev pub Reader : Type 0 → Type 0
Reader A = List A → Members → Result A PolicyFault

pub each-next : {A : Type 0} (read : Reader A) (front earlier : List A) (m : Members) (tables : List Members) (x : A) → read earlier m ≡ Ok x
    → with_front front (each_after read earlier (m ∷ tables)) ≡ with_front (front ++ x ∷ []) (each_after read (earlier ++ x ∷ []) tables)
unfolding each_after
each-next read front earlier m tables x e = rw e (with_front-cons front x (each_after read (earlier ++ x ∷ []) tables))

pub each-fail : {A : Type 0} (read : Reader A) (error : ParseError PolicyFault) (front earlier : List A) (m : Members) (tables : List Members) → Fails error (read earlier m)
    → Fails error (with_front front (each_after read earlier (m ∷ tables)))
unfolding each_after
each-fail read error front earlier m tables h = with_front-fails error front (read earlier m) _ h

pub each-done : {A : Type 0} (read : Reader A) (front earlier : List A) → with_front front (each_after read earlier []) ≡ Ok front
unfolding each_after
each-done read front earlier = with_front-nil front

abbrev pub Tables : Type 0
Tables = List (Bor (BTreeMap (String Global) Value))

-- the tables from a place on
pub tables-from : (tables : Tables) (i : ℕ) (d : Bor (BTreeMap (String Global) Value)) → i < length tables
    → map (λ t. table_view t.now) (drop i tables) ≡ table_view (get_or tables i d).now ∷ map (λ t. table_view t.now) (drop (i + 1) tables)
tables-from tables i d lt = ap (map (λ t. table_view t.now)) (drop_more tables i d lt)

pub tables-past : (tables : Tables) (i : ℕ) → length tables ≤ i → map (λ t. table_view t.now) (drop i tables) ≡ []
tables-past tables i le = ap (map (λ t. table_view t.now)) (drop_all i tables le)
