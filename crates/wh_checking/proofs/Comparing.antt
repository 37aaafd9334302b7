-- Rows that are handed out of what is stored, against those that should be stored.
use Rattle.std.proofs.Common.{◌≡◌, ◌≢◌, ◌+◌, ◌≤◌, Bool, true, false, cond, List, [], ◌∷◌, ◌++◌, map, filter, length, Option, Some, None, Result, Ok, Err, refl, sym, ap, subst, ◌∙◌, arith, inl, inr, append_assoc, append-nil, Ordering, Less, Equal, Greater}
use Rattle.std.specs.Prelude.{⊤, IsTrue, IfOk, is_none}
use Rattle.std.specs.Cmp.{IsTotalOrder}
use Rattle.std.specs.List.{AllByRecursion, list_all}
use Rattle.std.specs.List.Sorted.{IsPermutation}
use Rattle.std.specs.Ordering.{is_gt, ordering_reverse}
use Rattle.std.proofs.lemmas.Bool.{and_parts}
use Rattle.std.proofs.lemmas.List.{map-append, append_cancel_left}
use Rattle.std.proofs.lemmas.List.Sorted.{IsPermutation-sym, IsPermutation-trans, length_permutation}
use Rattle.sqlite_trees.specs.Tree.{IsAscending}
use Rattle.sqlite_trees.proofs.ListLemmas.{IsPermutation-filter}
use Rattle.sqlite_sql.proofs.QueryLemmas.{key_cmp_total}
use Rattle.sqlite.specs.Order.{Row}
use Rattle.sqlite_rules.specs.Lists.{Has}
use Rattle.sqlite_rules.proofs.ListLemmas.{all_has}
use Rattle.wh_rows.specs.Holds.{Layout}
use Rattle.wh_rows.specs.Raw.{stored_cmp}
use Rattle.wh_rows.specs.Parts.{IsKeyed, IsArranged}
use Rattle.wh_rows.specs.Raw.{HasDamage}
use Rattle.wh_rows.proofs.Raw.{has_again, no_damage}
use Rattle.wh_rows.specs.Firsts.{Front}
use Rattle.wh_rows.specs.declared.table.Table.{Table}
use Rattle.wh_sql.specs.Reads.{IsOfAskedDamage, IsOfDamage}
use Rattle.wh_sql.specs.declared.fault.ReadFault.{ReadFault}
use Rattle.wh_sql.specs.declared.fault.ReadFault.TheVariants.{Memory, Damaged, Store}
use Rattle.wh_store.specs.Scan.{HandsOut}
use Rattle.wh_checking.specs.Alike.{AreAlike}
use Rattle.wh_checking.specs.Compared.{IsNext, IsEnd}
use Rattle.wh_rows.proofs.BehindStored.{all_two, none_kept, less_not_equal}
use Rattle.wh_rows.proofs.Among.{has_taken}
use Rattle.wh_policy.proofs.WrittenLemmas.{reverse_tied}

-- the keys of the rows rise
abbrev pub DoKeysRise : {K V : Type 0} → Layout K V → List V → Type 0
DoKeysRise layout [] = ⊤
DoKeysRise layout (v ∷ rows) = AllByRecursion (λ w. layout.order (layout.key v) (layout.key w) ≡ Less) rows × DoKeysRise layout rows

-- what is stored are these rows, none more and none damaged, in whatever order; or it isn't, and none of it is damaged
abbrev pub IsCompared : {K V : Type 0} → Layout K V → List Row → List V → Bool → Type 0
IsCompared layout stored rows true = IsPermutation stored (map layout.encode rows)
IsCompared layout stored rows false = (¬ IsPermutation stored (map layout.encode rows)) × (¬ HasDamage layout stored)

-- ---- lists that ascend

fewer_later : {X : Type 0} (p : X → Bool) (x : X) (xs : List X) → length (filter p (x ∷ xs)) ≤ 1 → length (filter p xs) ≤ 1
fewer_later p x xs one = go (p x) one
  where
    go : (b : Bool) → length (cond b (x ∷ filter p xs) (filter p xs)) ≤ 1 → length (filter p xs) ≤ 1
    go true one = omega (arith, one)
    go false one = one

none_later : {X : Type 0} (p : X → Bool) (x : X) (xs : List X) → length (filter p (x ∷ xs)) ≤ 1 → p x ≡ true → AllByRecursion (λ y. p y ≡ false) xs
none_later p x xs one here = none_kept p xs (let more : length (filter p (x ∷ xs)) ≡ length (filter p xs) + 1 = ap (λ b. length (cond b (x ∷ filter p xs) (filter p xs))) here ∙ omega arith in omega (arith, one, more))

not_less : (o : Ordering) → o ≡ Less → ordering_reverse o ≡ Less → ⊥
not_less Less is back = absurd cc
not_less Equal is back = absurd cc
not_less Greater is back = absurd cc

less_itself : (o : Ordering) → o ≡ ordering_reverse o → o ≢ Less
less_itself Less h = λ _. cc
less_itself Equal h = λ is. cc
less_itself Greater h = λ is. cc

-- a row is below another
abbrev pub Below : (Row → Row → Ordering) → Row → Row → Type 0
Below cmp r s = cmp r s ≡ Less

module _ (cmp : Row → Row → Ordering) (total : IsTotalOrder cmp) where
  -- lists that rise and have the same elements are the same
  pub same_lists : (xs ys : List Row) → IsAscending (Below cmp) xs → IsAscending (Below cmp) ys → ((r : Row) → Has xs r → Has ys r) → ((r : Row) → Has ys r → Has xs r) → xs ≡ ys
  same_lists [] [] up rise to back = refl
  same_lists [] (y ∷ ys) up rise to back = absurd (back y (inl refl))
  same_lists (x ∷ xs) [] up rise to back = absurd (to x (inl refl))
  same_lists (x ∷ xs) (y ∷ ys) up rise to back =
      let one : x ≡ y = first (to x (inl refl)) (back y (inl refl)) in
      let rest : xs ≡ ys = same_lists xs ys up.1 rise.1 (λ r h. later x xs y ys r (sym one) up.0 h (to r (inr h))) (λ r h. later y ys x xs r one rise.0 h (back r (inr h))) in
      λ i. one i ∷ rest i
    where
      first : Has (y ∷ ys) x → Has (x ∷ xs) y → x ≡ y
      first (inl same) h = same
      first (inr below) (inl same) = sym same
      first (inr below) (inr above) =
          let less : cmp y x ≡ Less = all_has (Below cmp y) ys x rise.0 below in
          let more : cmp x y ≡ Less = all_has (Below cmp x) xs y up.0 above in
          absurd (not_less (cmp x y) more (sym (total.antisymm y x) ∙ less))

      later : (a : Row) (list : List Row) (b : Row) (bs : List Row) (r : Row) → b ≡ a → AllByRecursion (Below cmp a) list → Has list r → Has (b ∷ bs) r → Has bs r
      later a list b bs r same below h (inl is) =
          let less : cmp a r ≡ Less = all_has (Below cmp a) list r below h in
          absurd (less_itself (cmp a a) (total.antisymm a a) (ap (cmp a) (sym (is ∙ same)) ∙ less))
      later a list b bs r same below h (inr there) = there

-- a row that was handed out comes to those before it
pub with_one : {K V : Type 0} (layout : Layout K V) (seen : List V) (row : V) (left : List Row) → map layout.encode seen ++ layout.encode row ∷ left ≡ map layout.encode (seen ++ row ∷ []) ++ left
with_one layout seen row left = sym (append_assoc (map layout.encode seen) (layout.encode row ∷ []) left) ∙ ap (λ l. l ++ left) (sym (map-append layout.encode seen (row ∷ [])))

pub all_valid_with : {K V : Type 0} (layout : Layout K V) (seen : List V) (row : V) → list_all layout.is_valid seen ≡ true → IsTrue (layout.is_valid row) → list_all layout.is_valid (seen ++ row ∷ []) ≡ true
all_valid_with layout [] row valid good = rw good refl
all_valid_with layout (v ∷ seen) row valid good =
    let parts = and_parts (layout.is_valid v) (list_all layout.is_valid seen) valid in
    rw (parts.0, all_valid_with layout seen row parts.1 good) refl

-- These rows were handed out, of values of their types, and what is left comes after them. As long as all were those that should be there, they and the rest of these are
-- all of these; else nothing that comes makes them these.
pub record HasSeen {K V : Type 0} (layout : Layout K V) (stored : List Row) (rows rest : List V) (Left : List Row → Type 0) (same : Bool) : Type 0 where
  pub seen : List V
  pub valid : list_all layout.is_valid seen ≡ true
  pub before : (left : List Row) → Left left → IsArranged layout.table stored (map layout.encode seen ++ left)
  pub alike : same ≡ true → map layout.encode seen ++ map layout.encode rest ≡ map layout.encode rows
  pub differs : same ≡ false → (more : List Row) → map layout.encode seen ++ more ≢ map layout.encode rows

module _ {K V : Type 0} (layout : Layout K V) (bind : K → Row) (stands_at : K → Row → Bool) (keyed : IsKeyed layout bind stands_at) where
  abbrev cmp : Row → Row → Ordering
  cmp = stored_cmp layout.table false

  total : IsTotalOrder cmp
  total = key_cmp_total _ 0

  abbrev NotBelow : Row → Row → Type 0
  NotBelow r s = is_gt (cmp r s) ≡ false

  stands : (v : V) (r : Row) → cmp r (layout.encode v) ≡ Equal → stands_at (layout.key v) r ≡ true
  stands v r tie = keyed.tied r (layout.key v) (sym (keyed.led r v) ∙ tie)

  -- stored rows in order, of which at most one stands at each key, rise
  rises : (vs : List V) → ((k : K) → length (filter (stands_at k) (map layout.encode vs)) ≤ 1) → IsAscending NotBelow (map layout.encode vs) → IsAscending (Below cmp) (map layout.encode vs)
  rises [] once up = tt
  rises (v ∷ vs) once up =
      let head = layout.encode v in
      let p = stands_at (layout.key v) in
      let here : p head ≡ true = stands v head (reverse_tied (cmp head head) (total.antisymm head head)) in
      let apart = none_later p head (map layout.encode vs) (once (layout.key v)) here in (
        all_two (NotBelow head) (λ r. p r ≡ false) (Below cmp head) (map layout.encode vs)
            (λ r not_below other. less_not_equal (cmp head r) not_below (λ tie. let never : true ≡ false = sym (stands v r (total.antisymm r head ∙ ap ordering_reverse tie)) ∙ other in cc)) up.0 apart,
        rises vs (λ k. fewer_later (stands_at k) head (map layout.encode vs) (once k)) up.1,
      )

  below_mapped : (v : V) (vs : List V) → AllByRecursion (λ w. layout.order (layout.key v) (layout.key w) ≡ Less) vs → AllByRecursion (Below cmp (layout.encode v)) (map layout.encode vs)
  below_mapped v [] below = tt
  below_mapped v (w ∷ vs) below = (keyed.led (layout.encode v) w ∙ keyed.ordered v (layout.key w) ∙ below.0, below_mapped v vs below.1)

  -- so do rows whose keys rise
  keys_rise : (vs : List V) → DoKeysRise layout vs → IsAscending (Below cmp) (map layout.encode vs)
  keys_rise [] rise = tt
  keys_rise (v ∷ vs) rise = (below_mapped v vs rise.0, keys_rise vs rise.1)

  module _ (stored : List Row) (once : (k : K) → length (filter (stands_at k) stored) ≤ 1) (rows : List V) where
    -- the stored rows in their order are these, where these are stored
    pub arranged_once : (seen : List V) → IsArranged layout.table stored (map layout.encode seen) → DoKeysRise layout rows → IsPermutation stored (map layout.encode rows) → map layout.encode seen ≡ map layout.encode rows
    arranged_once seen arranged rise same =
        let mine = map layout.encode seen in
        let theirs = map layout.encode rows in
        let alone : (k : K) → length (filter (stands_at k) mine) ≤ 1 = λ k. let long = length_permutation (filter (stands_at k) stored) (filter (stands_at k) mine) (IsPermutation-filter (stands_at k) stored mine arranged.same) in let few = once k in omega (arith, long, few) in
        let between : IsPermutation mine theirs = IsPermutation-trans _ _ _ (IsPermutation-sym _ _ arranged.same) same in
        same_lists cmp total mine theirs (rises seen alone arranged.in_order) (keys_rise rows rise) (λ r h. has_again theirs mine r (IsPermutation-sym _ _ between) h) (λ r h. has_again mine theirs r between h)

    -- ---- what was handed out so far

    -- what may be left before a row is handed out, and after it
    abbrev Hands : (List Row → Type 0) → V → (List Row → Type 0) → Type 0
    Hands Left row Rest = (left : List Row) → Rest left → Left (layout.encode row ∷ left)

    heads : (x y : Row) (xs ys : List Row) → x ∷ xs ≡ y ∷ ys → x ≡ y
    heads x y xs ys same = cc

    -- where the row isn't the first of the rest, nothing that comes after it makes these
    apart : (seen rest later : List V) (row : V) → map layout.encode seen ++ map layout.encode rest ≡ map layout.encode rows → IsNext layout rest row later false → (more : List Row) → map layout.encode (seen ++ row ∷ []) ++ more ≢ map layout.encode rows
    apart seen rest later row alike other more same =
        go rest other (append_cancel_left (map layout.encode seen) (layout.encode row ∷ more) (map layout.encode rest) (with_one layout seen row more ∙ same ∙ sym alike))
      where
        go : (rest : List V) → IsNext layout rest row later false → layout.encode row ∷ more ≡ map layout.encode rest → ⊥
        go [] other is = cc
        go (there ∷ others) other is = other there others refl (sym (heads (layout.encode row) (layout.encode there) more (map layout.encode others) is))

    module _ (Left Rest : List Row → Type 0) (row : V) (good : IsTrue (layout.is_valid row)) (hands : Hands Left row Rest) where
      more_seen : (rest : List V) (same : Bool) (it : HasSeen layout stored rows rest Left same) (left : List Row) → Rest left → IsArranged layout.table stored (map layout.encode (it.seen ++ row ∷ []) ++ left)
      more_seen rest same it left are = subst (IsArranged layout.table stored) (with_one layout it.seen row left) (it.before (layout.encode row ∷ left) (hands left are))

      -- a row that was compared with the first of the rest
      pub seen_next : (rest later : List V) (same : Bool) → HasSeen layout stored rows rest Left true → IsNext layout rest row later same → HasSeen layout stored rows later Rest same
      seen_next rest later true it next = record {
        seen = it.seen ++ row ∷ [];
        valid = all_valid_with layout it.seen row it.valid good;
        before = more_seen rest true it;
        alike = λ _. sym (with_one layout it.seen row (map layout.encode later)) ∙ (λ i. map layout.encode it.seen ++ sym next.2 i ∷ map layout.encode later) ∙ ap (λ l. map layout.encode it.seen ++ map layout.encode l) (sym next.1) ∙ it.alike refl;
        differs = λ no. absurd cc;
      }
      seen_next rest later false it other = record {
        seen = it.seen ++ row ∷ [];
        valid = all_valid_with layout it.seen row it.valid good;
        before = more_seen rest true it;
        alike = λ no. absurd cc;
        differs = λ _. apart it.seen rest later row (it.alike refl) other;
      }

      -- and one after the first difference
      pub seen_past : (rest : List V) → HasSeen layout stored rows rest Left false → HasSeen layout stored rows rest Rest false
      seen_past rest it = record {
        seen = it.seen ++ row ∷ [];
        valid = all_valid_with layout it.seen row it.valid good;
        before = more_seen rest false it;
        alike = λ no. absurd cc;
        differs = λ _ more same. it.differs refl (layout.encode row ∷ more) (with_one layout it.seen row more ∙ same);
      }

    pub seen_none : (rest : List V) (Left : List Row → Type 0) → rest ≡ rows → ((left : List Row) → Left left → IsArranged layout.table stored left) → HasSeen layout stored rows rest Left true
    seen_none rest Left all starts = record { seen = []; valid = refl; before = starts; alike = λ _. ap (map layout.encode) all; differs = λ no. absurd cc }

    -- ---- at the end

    module _ (rise : DoKeysRise layout rows) (Left : List Row → Type 0) (ends : Left []) (rest : List V) where
      whole : (same : Bool) (it : HasSeen layout stored rows rest Left same) → IsArranged layout.table stored (map layout.encode it.seen)
      whole same it = subst (IsArranged layout.table stored) (append-nil (map layout.encode it.seen)) (it.before [] ends)

      other : (same : Bool) (it : HasSeen layout stored rows rest Left same) → map layout.encode it.seen ≢ map layout.encode rows → IsCompared layout stored rows false
      other same it differ = (
        λ stores. differ (arranged_once it.seen (whole same it) rise stores),
        no_damage layout stored it.seen it.valid (whole same it).same,
      )

      -- after a difference
      pub compared_other : HasSeen layout stored rows rest Left false → IsCompared layout stored rows false
      compared_other it = other false it (λ all. it.differs refl [] (append-nil (map layout.encode it.seen) ∙ all))

      -- and without one: by whether the rest is empty
      pub compared : (end : Bool) → IsEnd rest end → HasSeen layout stored rows rest Left true → IsCompared layout stored rows end
      compared true none it = subst (IsPermutation stored) (sym (append-nil (map layout.encode it.seen)) ∙ ap (λ l. map layout.encode it.seen ++ map layout.encode l) (sym none) ∙ it.alike refl) (whole true it).same
      compared false some it =
          other true it (λ all. some (none_mapped rest (append_cancel_left (map layout.encode it.seen) (map layout.encode rest) [] (it.alike refl ∙ sym all ∙ sym (append-nil (map layout.encode it.seen))))))
        where
          none_mapped : (vs : List V) → map layout.encode vs ≡ [] → vs ≡ []
          none_mapped [] is = refl
          none_mapped (v ∷ vs) is = absurd cc

-- a row that was compared with the first of those that are left
pub alike_next : {K V E : Type 0} (layout : Layout K V) (left rest : List V) (there row : V) (result : Result Bool E) → left ≡ there ∷ rest → IfOk result (AreAlike layout there row) → IfOk result (IsNext layout left row rest)
alike_next layout left rest there row (Ok true) is same = (there, is, same)
alike_next layout left rest there row (Ok false) is differ = λ other later found same. differ (ap layout.encode (first_is there other rest later (sym is ∙ found)) ∙ same)
  where
    first_is : {X : Type 0} (x y : X) (xs ys : List X) → x ∷ xs ≡ y ∷ ys → x ≡ y
    first_is x y xs ys h = cc
alike_next layout left rest there row (Err why) is told = tt

-- none was handed out exactly where none was left
pub handed_end : {V : Type 0} (left rest : List V) (found : Option V) → HandsOut left found rest → IsEnd left (is_none found)
handed_end left rest None none = none.0
handed_end left rest (Some row) is = λ none. cc

-- ---- damage

pub kept_has : {X : Type 0} (p : X → Bool) (xs : List X) (x : X) → Has (filter p xs) x → Has xs x
kept_has p [] x h = absurd h
kept_has {X = X} p (y ∷ xs) x h = go (p y) h (kept_has p xs x)
  where
    go : (b : Bool) → Has (cond b (y ∷ filter p xs) (filter p xs)) x → (Has (filter p xs) x → Has xs x) → Has (y ∷ xs) x
    go true (inl same) more = inl same
    go true (inr later) more = inr (more later)
    go false later more = inr (more later)

-- a damaged row of a part is one of the table
pub part_damaged : {K V : Type 0} (front : Front) (layout : Layout K V) (table : Table) (p : Row → Bool) (stored : List Row) (fault : ReadFault) → IsOfAskedDamage (Some front) layout table (filter p stored) fault → IsOfDamage layout table stored fault
part_damaged front layout table p stored Memory told = tt
part_damaged front layout table p stored (Damaged which) told =
    let (shown, from, damage) = told.1 in
    let among = has_again (filter p stored) from.ordered damage.0 from.same (has_taken front.most from.ordered damage.0 (subst (λ l. Has l damage.0) from.first damage.1)) in
    (told.0, (damage.0, kept_has p stored damage.0 among, damage.2))
part_damaged front layout table p stored (Store why) told = tt
