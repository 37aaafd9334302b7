-- What is learned of combinations of profile values by look-ups, and the numbers of new ones.
use Rattle.std.proofs.Common.{◌≡◌, ℕ, suc, ◌+◌, ◌-◌, Bool, true, false, cond, not, ◌||◌, List, [], ◌∷◌, ◌++◌, map, length, Option, Some, None, refl, sym, ◌∙◌, ap, arith, append-nil, length-append, ◌<◌, drop, get_or}
use Rattle.std.specs.Prelude.{filter_map, option_map, find}
use Rattle.std.specs.List.{list_any, cons_option, range_with_len, AllByRecursion}
use Rattle.std.specs.Option.{option_or, option_to_list}
use Rattle.std.proofs.lemmas.List.{append_assoc, at_drop_more}
use Rattle.std.proofs.lemmas.List.Folds.{find-append, list_any-append}
use Rattle.wh_policy.specs.Types.{is_profile}
use Rattle.wh_policy.specs.declared.attribute.AttributeType.{AttributeType}
use Rattle.wh_history.specs.Accepted.{Accepted, profiles_of}
use Rattle.wh_history.specs.Keys.{distinct, at_place}
use Rattle.wh_history.specs.Known.{number_in, numbered_from, all_numbered}
use Rattle.wh_history.specs.Profiles.{profile_number}
use Rattle.wh_history.specs.Slots.{picks, six, are_same}
use Rattle.wh_history.specs.declared.member.Change.{Change}
use Rattle.wh_history.specs.declared.member.Member.{Member}
use Rattle.wh_history.specs.declared.profiles.NumberedProfile.{NumberedProfile}
use Rattle.wh_history.proofs.Basics.{or_true, texts_decide}
use Rattle.wh_history.proofs.Joins.{all_weaker}
use Rattle.wh_history.proofs.Knowing.{number_all, is_there, there_is}
use Rattle.wh_history.proofs.Lasts.{fresh_one}
use Rattle.wh_history.proofs.Mixtures.{put_last}
use Rattle.wh_history.proofs.Numbers.{distinct-append}
use Rattle.wh_history.proofs.Once.{among_distinct}
use Rattle.wh_rows.specs.declared.rows.ProfileRow.{ProfileRow}
use Rattle.wh_model.specs.Defined.{profile_at}
use Rattle.wh_plan.specs.Profiles.{with_combination, with_combinations, said_of, said_by, numbered_as, learned, is_none, row_of_profile}
use Rattle.wh_plan.specs.BatchRows.{numbers_after}
use Rattle.wh_history.proofs.Trials.{get_middle}
use Rattle.wh_history.proofs.Lists.{all_apart}

abbrev pub any_of : List (List ℕ) → List (List (List ℕ)) → Bool
any_of t D = list_any (λ c. are_same c t) D

-- ---- combinations, each once

one_more : (xs : List (List (List ℕ))) (x : List (List ℕ)) → with_combination (distinct are_same xs) x ≡ distinct are_same (xs ++ x ∷ [])
one_more xs x =
    sym (distinct-append are_same xs (x ∷ [])
    ∙ ap (λ cs. distinct are_same xs ++ cs) (fresh_one are_same texts_decide x xs)
    ∙ ap (λ b. distinct are_same xs ++ cond b [] (x ∷ [])) (sym (among_distinct are_same texts_decide x xs))
    ∙ put_last (any_of x (distinct are_same xs)) (distinct are_same xs) x)

pub distinct_with : (xs ys : List (List (List ℕ))) → with_combinations (distinct are_same xs) ys ≡ distinct are_same (xs ++ ys)
distinct_with xs [] = ap (distinct are_same) (sym (append-nil xs))
distinct_with xs (y ∷ ys) = ap (λ cs. with_combinations cs ys) (one_more xs y) ∙ distinct_with (xs ++ y ∷ []) ys ∙ ap (distinct are_same) (append_assoc xs (y ∷ []) ys)

pub with_append : (cs xs ys : List (List (List ℕ))) → with_combinations cs (xs ++ ys) ≡ with_combinations (with_combinations cs xs) ys
with_append cs [] ys = refl
with_append cs (x ∷ xs) ys = with_append (with_combination cs x) xs ys

any_with : (ts : List (List (List ℕ))) (t : List (List ℕ)) → any_of t (with_combinations [] ts) ≡ any_of t ts
any_with ts t = ap (any_of t) (distinct_with [] ts) ∙ among_distinct are_same texts_decide t ts

-- each of a list is among it
pub all_there : (ts : List (List (List ℕ))) → AllByRecursion (λ t. any_of t ts ≡ true) ts
all_there [] = tt
all_there (x ∷ ts) = (
  rw ((texts_decide x x).1 refl) refl,
  all_weaker (λ t. any_of t ts ≡ true) (λ t. any_of t (x ∷ ts) ≡ true) (λ t among. rw among (or_true (are_same x t))) ts (all_there ts),
)

pub any_left : (t : List (List ℕ)) (xs ys : List (List (List ℕ))) → any_of t xs ≡ true → any_of t (xs ++ ys) ≡ true
any_left t xs ys among = list_any-append (λ c. are_same c t) xs ys ∙ ap (λ b. b || any_of t ys) among

any_right : (t : List (List ℕ)) (xs ys : List (List (List ℕ))) → any_of t ys ≡ true → any_of t (xs ++ ys) ≡ true
any_right t xs ys among = list_any-append (λ c. are_same c t) xs ys ∙ ap (λ b. any_of t xs || b) among ∙ or_true (any_of t xs)

-- ---- what members say

all_said : (kinds : List AttributeType) (P : List (List ℕ) → Type 0) (cs : List Change) → AllByRecursion P (said_of kinds cs) → AllByRecursion (λ (c : Change). P (picks is_profile kinds c.values)) cs
all_said kinds P [] all = tt
all_said kinds P (c ∷ cs) all = (all.0, all_said kinds P cs all.1)

pub each_said : (kinds : List AttributeType) (P : List (List ℕ) → Type 0) (ms : List Member) → AllByRecursion P (said_by kinds ms) → AllByRecursion (λ (m : Member). AllByRecursion (λ (c : Change). P (picks is_profile kinds c.values)) m.changes) ms
each_said kinds P [] all = tt
each_said kinds P (m ∷ ms) all = let split = all_apart P (said_of kinds m.changes) (said_by kinds ms) all in (all_said kinds P m.changes split.0, each_said kinds P ms split.1)

-- where what holds of a combination among those of members holds of each change
pub each_change : (kinds : List AttributeType) (Q : List (List ℕ) → Type 0) (front : List (List (List ℕ))) (ms : List Member) → ((values : List (List ℕ)) → any_of (picks is_profile kinds values) (front ++ said_by kinds ms) ≡ true → Q (picks is_profile kinds values))
    → AllByRecursion (λ (m : Member). AllByRecursion (λ (c : Change). Q (picks is_profile kinds c.values)) m.changes) ms
each_change kinds Q front ms each =
    let P = λ (t : List (List ℕ)). any_of t (front ++ said_by kinds ms) ≡ true in
    let there = (all_apart P front (said_by kinds ms) (all_there (front ++ said_by kinds ms))).1 in
    all_weaker (λ (m : Member). AllByRecursion (λ (c : Change). P (picks is_profile kinds c.values)) m.changes) (λ (m : Member). AllByRecursion (λ (c : Change). Q (picks is_profile kinds c.values)) m.changes)
    (λ m all. all_weaker (λ (c : Change). P (picks is_profile kinds c.values)) (λ (c : Change). Q (picks is_profile kinds c.values)) (λ c among. each c.values among) m.changes all)
    ms (each_said kinds P ms there)

-- ---- what is learned

none_either : (b : Bool) → ◌≡◌ {A = Option ℕ} (cond b None None) None
none_either true = refl
none_either false = refl

number_learned : (number : List (List ℕ) → Option ℕ) (D : List (List (List ℕ))) (t : List (List ℕ)) → number_in (learned number D) t ≡ cond (any_of t D) (number t) None
number_learned number [] t = refl
number_learned number (x ∷ D) t =
    let rest = number_learned number D t in
    let more : List NumberedProfile = learned number D in
    elim (are_same x t) as (λ b. (are_same x t ≡ b) → number_in (cons_option (numbered_as number x) more) t ≡ cond (b || any_of t D) (number t) None) [
      | true ↦ λ e.
          let same : x ≡ t = (texts_decide x t).0 e in
          elim (number x) as (λ o. (number x ≡ o) → number_in (cons_option (option_map (λ n. record { texts = x; number = n }) o) more) t ≡ number t) [
            | None ↦ λ is.
                let none : number t ≡ None = ap number (sym same) ∙ is in
                rest ∙ ap (λ o. cond (any_of t D) o None) none ∙ none_either (any_of t D) ∙ sym none
            | Some n ↦ λ is. ap (λ b. option_map (λ (k : NumberedProfile). k.number) (cond b (Some (record { texts = x; number = n })) (find (λ k. are_same k.texts t) more))) e ∙ sym is ∙ ap number same
          ] refl
      | false ↦ λ e.
          elim (number x) as (λ o. number_in (cons_option (option_map (λ n. record { texts = x; number = n }) o) more) t ≡ cond (any_of t D) (number t) None) [
            | None ↦ rest
            | Some n ↦ ap (λ b. option_map (λ (k : NumberedProfile). k.number) (cond b (Some (record { texts = x; number = n })) (find (λ k. are_same k.texts t) more))) e ∙ rest
          ]
    ] refl

-- what is among the combinations that were looked up has the number that was looked up
pub number_looked_up : (number : List (List ℕ) → Option ℕ) (ts : List (List (List ℕ))) (t : List (List ℕ)) → any_of t ts ≡ true → number_in (learned number (with_combinations [] ts)) t ≡ number t
number_looked_up number ts t among = number_learned number (with_combinations [] ts) t ∙ ap (λ b. cond b (number t) None) (any_with ts t ∙ among)

-- one look-up more
pub learned_more : (number : List (List ℕ) → Option ℕ) (known new : List NumberedProfile) (x : List (List ℕ)) (D : List (List (List ℕ))) (all : List NumberedProfile) → new ≡ known ++ option_to_list (numbered_as number x) → known ++ learned number (x ∷ D) ≡ all → new ++ learned number D ≡ all
learned_more number known new x D all made whole =
    ap (λ ks. ks ++ learned number D) made ∙ append_assoc known (option_to_list (numbered_as number x)) (learned number D) ∙ ap (λ ks. known ++ ks) (listed (numbered_as number x) (learned number D)) ∙ whole
  where
    listed : (o : Option NumberedProfile) (ks : List NumberedProfile) → option_to_list o ++ ks ≡ cons_option o ks
    listed None ks = refl
    listed (Some k) ks = refl

-- ---- new combinations

or_mapped : (a b : Option NumberedProfile) → option_map (λ (k : NumberedProfile). k.number) (option_or a b) ≡ option_or (option_map (λ (k : NumberedProfile). k.number) a) (option_map (λ (k : NumberedProfile). k.number) b)
or_mapped None b = refl
or_mapped (Some k) b = refl

number_append : (a b : List NumberedProfile) (t : List (List ℕ)) → number_in (a ++ b) t ≡ option_or (number_in a t) (number_in b t)
number_append a b t = ap (option_map (λ (k : NumberedProfile). k.number)) (find-append (λ (k : NumberedProfile). are_same k.texts t) a b) ∙ or_mapped (find (λ (k : NumberedProfile). are_same k.texts t) a) (find (λ (k : NumberedProfile). are_same k.texts t) b)

numbered_append : (next : ℕ) (xs ys : List (List (List ℕ))) → numbered_from next (xs ++ ys) ≡ numbered_from next xs ++ numbered_from (length xs + next) ys
numbered_append next [] ys = let same : next ≡ 0 + next = omega arith in ap (λ n. numbered_from n ys) same
numbered_append next (x ∷ xs) ys =
    let same : length xs + suc next ≡ suc (length xs) + next = omega arith in
    ap (λ (ks : List NumberedProfile). record { texts = x; number = next } ∷ ks) (numbered_append (suc next) xs ys ∙ ap (λ n. numbered_from (suc next) xs ++ numbered_from n ys) same)

-- with the numbers of new ones what is known is known among all
pub number_with : (base new : List (List (List ℕ))) (known : List NumberedProfile) (next : ℕ) (t : List (List ℕ)) → next ≡ length base + 2 → number_in known t ≡ profile_number base t → number_in (known ++ numbered_from next new) t ≡ profile_number (base ++ new) t
number_with base new known next t at is =
    number_append known (numbered_from next new) t
    ∙ ap (λ o. option_or o (number_in (numbered_from next new) t)) (is ∙ sym (number_all base t))
    ∙ ap (λ n. option_or (number_in (all_numbered base) t) (number_in (numbered_from n new) t)) at
    ∙ sym (number_append (all_numbered base) (numbered_from (length base + 2) new) t)
    ∙ sym (ap (λ ks. number_in ks t) (numbered_append 2 base new))
    ∙ number_all (base ++ new) t

-- nothing is known of a combination where it is not among all
pub none_known : (base : List (List (List ℕ))) (t : List (List ℕ)) → is_none (profile_number base t) ≡ not (any_of t base)
none_known base t = by_option (number_in (all_numbered base) t) (number_all base t) (there_is 2 base t)
  where
    by_option : (o : Option ℕ) → o ≡ profile_number base t → any_of t base ≡ is_there o → is_none (profile_number base t) ≡ not (any_of t base)
    by_option None is any = ap is_none (sym is) ∙ sym (ap not any)
    by_option (Some n) is any = ap is_none (sym is) ∙ sym (ap not any)

-- the rows of combinations after others
rows_from : (list : List Accepted) (front back : List (List (List ℕ))) (next : ℕ) → next ≡ suc (suc (length front)) → front ++ back ≡ profiles_of list
    → filter_map (profile_at list) (range_with_len next (length back)) ≡ map row_of_profile (numbered_from next back)
rows_from list front [] next at whole = refl
rows_from list front (x ∷ back) next at whole =
    let row : ℕ → List (List ℕ) → ProfileRow = λ n values. record { number = n; values = values } in
    let there : at_place (suc (length front)) (profiles_of list) ≡ Some x = ap (at_place (suc (length front))) (sym whole) ∙ get_middle front back x in
    let here : profile_at list next ≡ Some (row_of_profile (record { texts = x; number = next })) =
    ap (profile_at list) at ∙ ap (λ o. option_map (row (suc (suc (length front)))) (option_map six o)) there ∙ sym (ap (λ n. Some (row n (six x))) at) in
    let long = length-append front (x ∷ []) in
    let further : suc next ≡ suc (suc (length (front ++ x ∷ []))) = omega arith in
    let one : next + 1 ≡ suc next = omega arith in
    let rest = rows_from list (front ++ x ∷ []) back (suc next) further (append_assoc front (x ∷ []) back ∙ whole) in
    ap (λ o. cons_option o (filter_map (profile_at list) (range_with_len (next + 1) (length back)))) here
    ∙ ap (λ n. row_of_profile (record { texts = x; number = next }) ∷ filter_map (profile_at list) (range_with_len n (length back))) one
    ∙ ap (λ rs. row_of_profile (record { texts = x; number = next }) ∷ rs) rest

pub rows_fresh : (before after : List Accepted) (new : List (List (List ℕ))) (next : ℕ) → next ≡ suc (suc (length (profiles_of before))) → profiles_of before ++ new ≡ profiles_of after
    → map row_of_profile (numbered_from next new) ≡ filter_map (profile_at after) (numbers_after (suc (length (profiles_of before))) (suc (length (profiles_of after))))
rows_fresh before after new next at grown =
    let long = length-append (profiles_of before) new in
    let longer : length (profiles_of after) ≡ length (profiles_of before ++ new) = ap (λ (cs : List (List (List ℕ))). length cs) (sym grown) in
    let count : length new ≡ suc (length (profiles_of after)) - suc (length (profiles_of before)) = omega arith in
    sym (rows_from after (profiles_of before) new next at grown)
    ∙ ap (λ n. filter_map (profile_at after) (range_with_len n (length new))) at
    ∙ ap (λ n. filter_map (profile_at after) (range_with_len (suc (suc (length (profiles_of before)))) n)) count

-- one member more
pub said_more : (kinds : List AttributeType) (ms : List Member) (i : ℕ) (m : Member) (cs new all : List (List (List ℕ))) → i < length ms → m ≡ get_or ms i m → new ≡ with_combinations cs (said_of kinds m.changes)
    → with_combinations cs (said_by kinds (drop i ms)) ≡ all → with_combinations new (said_by kinds (drop (i + 1) ms)) ≡ all
said_more kinds ms i m cs new all within is made whole =
    ap (λ ds. with_combinations ds (said_by kinds (drop (i + 1) ms))) made
    ∙ sym (with_append cs (said_of kinds m.changes) (said_by kinds (drop (i + 1) ms)))
    ∙ ap (λ (q : Member). with_combinations cs (said_of kinds q.changes ++ said_by kinds (drop (i + 1) ms))) is
    ∙ sym (at_drop_more (λ (qs : List Member). with_combinations cs (said_by kinds qs)) ms i m within)
    ∙ whole
