-- Stored rows in the order of their keys, and what a cursor handed out of them so far.
use Rattle.std.proofs.Common.{◌≡◌, Bool, true, false, cond, List, [], ◌∷◌, ◌++◌, map, filter, Option, Some, None, refl, sym, ap, subst, ◌∙◌, append_assoc, Ordering, Less, Equal, Greater}
use Rattle.std.specs.Prelude.{IsTrue, IfSome}
use Rattle.std.specs.Cmp.{IsTotalOrder}
use Rattle.std.specs.List.{AllByRecursion, list_all}
use Rattle.std.specs.Ordering.{is_gt, ordering_reverse}
use Rattle.std.proofs.lemmas.Cmp.{upto}
use Rattle.std.proofs.lemmas.List.{map-append}
use Rattle.std.proofs.lemmas.List.Folds.{list_all-append}
use Rattle.std.proofs.lemmas.List.Sorted.{IsPermutation-sym}
use Rattle.sqlite_trees.specs.Tree.{IsAscending}
use Rattle.sqlite_keyed.specs.Lists.{insert_sorted, sort_by}
use Rattle.sqlite_keyed.proofs.SortLemmas.{IsPermutation-sort_by}
use Rattle.sqlite_sql.proofs.QueryLemmas.{key_cmp_total}
use Rattle.sqlite.specs.Order.{Row}
use Rattle.sqlite.specs.Table as stored
use Rattle.wh_rows.specs.Holds.{Layout}
use Rattle.wh_rows.specs.Parts.{stands_behind, IsArranged}
use Rattle.wh_rows.specs.Raw.{stored_cmp}
use Rattle.wh_store.specs.Scan.{AreUnread, AreAheadOf, HandsOutSo}
use Rattle.wh_report.specs.Dumped.{BeginsWith}

-- ---- any rows have an order

module _ {X : Type 0} (cmp : X → X → Ordering) (total : IsTotalOrder cmp) where
  abbrev AtMost : X → X → Type 0
  AtMost x y = is_gt (cmp x y) ≡ false

  all_further : (P Q : X → Type 0) (xs : List X) → ((x : X) → P x → Q x) → AllByRecursion P xs → AllByRecursion Q xs
  all_further P Q [] to all = tt
  all_further P Q (x ∷ xs) to all = (to x all.0, all_further P Q xs to all.1)

  all_with : (P : X → Type 0) (new : X) (xs : List X) → P new → AllByRecursion P xs → AllByRecursion P (insert_sorted cmp new xs)
  all_with P new [] h all = (h, tt)
  all_with P new (x ∷ xs) h all =
      elim (is_gt (cmp new x)) as (λ b. AllByRecursion P (cond b (x ∷ insert_sorted cmp new xs) (new ∷ x ∷ xs))) [ true ↦ (all.0, all_with P new xs h all.1) | false ↦ (h, all) ]

  up_with : (new : X) (xs : List X) → IsAscending AtMost xs → IsAscending AtMost (insert_sorted cmp new xs)
  up_with new [] up = (tt, tt)
  up_with new (x ∷ xs) up = go (cmp new x) refl (up_with new xs up.1)
    where
      in_front : AtMost new x → IsAscending AtMost (new ∷ x ∷ xs)
      in_front first = ((first, all_further (AtMost x) (AtMost new) xs (λ y later. upto total new x y first later) up.0), up)

      go : (o : Ordering) → cmp new x ≡ o → IsAscending AtMost (insert_sorted cmp new xs) → IsAscending AtMost (cond (is_gt o) (x ∷ insert_sorted cmp new xs) (new ∷ x ∷ xs))
      go Less e more = in_front (ap is_gt e)
      go Equal e more = in_front (ap is_gt e)
      go Greater e more = (all_with (AtMost x) new xs (ap is_gt (total.antisymm x new ∙ ap ordering_reverse e)) up.0, more)

  pub up_sorted : (xs : List X) → IsAscending AtMost (sort_by cmp xs)
  up_sorted [] = tt
  up_sorted (x ∷ xs) = up_with x (sort_by cmp xs) (up_sorted xs)

-- these rows by key
pub arranged : (table : stored.Table) (rows : List Row) → (ordered : List Row) × IsArranged table rows ordered
arranged table rows =
    let cmp = stored_cmp table false in
    let total : IsTotalOrder cmp = key_cmp_total _ 0 in
    (sort_by cmp rows, record { same = IsPermutation-sym _ _ (IsPermutation-sort_by cmp total rows); in_order = up_sorted cmp total rows })

-- ---- what was handed out

pub valid_hands : {V : Type 0} (Valid : V → Type 0) (Ahead : Type 0) (found : Option V) (row : V) → found ≡ Some row → IfSome found Valid × Ahead → Valid row × Ahead
valid_hands Valid Ahead found row is = subst (λ f. IfSome f Valid × Ahead) is

-- nothing was read ahead
pub none_ahead : {V : Type 0} (is_valid : V → Bool) (ahead : List V) → ahead ≡ [] → IsTrue (list_all is_valid ahead)
none_ahead is_valid ahead none = subst (λ vs. IsTrue (list_all is_valid vs)) (sym none) refl

valid_more : {V : Type 0} (p : V → Bool) (xs : List V) (x : V) → IsTrue (list_all p xs) → IsTrue (p x) → IsTrue (list_all p (xs ++ x ∷ []))
valid_more p xs x all one = rw (list_all-append p xs (x ∷ []), all, one) refl

with_one : {V : Type 0} (encode : V → Row) (done : List V) (row : V) (left : List Row) → map encode done ++ encode row ∷ left ≡ map encode (done ++ row ∷ []) ++ left
with_one encode done row left = sym (append_assoc (map encode done) (encode row ∷ []) left) ∙ ap (λ rows. rows ++ left) (sym (map-append encode done (row ∷ [])))

module _ {K V : Type 0} (layout : Layout K V) (stored : List Row) where
  -- these were handed out, of values of their types, and what is left comes after them
  pub record HasSeen (Left : List Row → Type 0) (done : List V) : Type 0 where
    pub before : (left : List Row) → Left left → IsArranged layout.table stored (map layout.encode done ++ left)
    pub valid : IsTrue (list_all layout.is_valid done)

  pub seen_none : (Left : List Row → Type 0) → ((left : List Row) → Left left → IsArranged layout.table stored left) → HasSeen Left []
  seen_none Left all = record { before = all; valid = refl }

  pub seen_one : (Left Rest : List Row → Type 0) (done : List V) (row : V) → HasSeen Left done → IsTrue (layout.is_valid row) → ((left : List Row) → Rest left → Left (layout.encode row ∷ left)) → HasSeen Rest (done ++ row ∷ [])
  seen_one Left Rest done row seen good hands = record {
    before = λ left are. subst (IsArranged layout.table stored) (with_one layout.encode done row left) (seen.before (layout.encode row ∷ left) (hands left are));
    valid = valid_more layout.is_valid done row seen.valid good;
  }

  pub seen_all : (Left : List Row → Type 0) (done : List V) → HasSeen Left done → Left [] → BeginsWith layout stored done []
  seen_all Left done seen none = record { arranged = seen.before [] none; valid = seen.valid }

  pub seen_some : (Left : List Row → Type 0) (done : List V) → HasSeen Left done → (left : List Row) × Left left → (later : List Row) × BeginsWith layout stored done later
  seen_some Left done seen (left, are) = (left, record { arranged = seen.before left are; valid = seen.valid })

  pub none_read : (later : List Row) × BeginsWith layout stored [] later
  none_read = let order = arranged layout.table stored in (order.0, record { arranged = order.1; valid = refl })

  -- and this was made of them
  pub record HasMade (Left : List Row → Type 0) (Ahead : Type 0) (Made : List V → Type 0) : Type 0 where
    pub done : List V
    pub seen : HasSeen Left done
    pub ahead : Ahead
    pub made : Made done

module _ {K V : Type 0} (layout : Layout K V) (bind : K → Row) (stored : List Row) where
  -- there are always some that are left
  unread_there : (after : Option K) (is_over : Bool) → (rows : List Row) × AreUnread layout bind stored after is_over rows
  unread_there after true = ([], refl)
  unread_there after false = arranged layout.table (filter (stands_behind layout bind after) stored)

  pub left_there : (ahead : List V) (after : Option K) (is_over : Bool) → (left : List Row) × AreAheadOf layout bind stored ahead after is_over left
  left_there ahead after is_over = let unread = unread_there after is_over in (map layout.encode ahead ++ unread.0, (unread.0, unread.1, refl))

  -- a row was handed out, or none is left
  pub row_hands : (ahead : List V) (after : Option K) (is_over : Bool) (found : Option V) (row : V) (Was : List Row → Type 0) → found ≡ Some row → HandsOutSo layout bind stored ahead after is_over found Was
      → (left : List Row) → AreAheadOf layout bind stored ahead after is_over left → Was (layout.encode row ∷ left)
  row_hands ahead after is_over found row Was is = subst (λ f. HandsOutSo layout bind stored ahead after is_over f Was) is

  pub none_hands : (ahead : List V) (after : Option K) (is_over : Bool) (found : Option V) (Was : List Row → Type 0) → found ≡ None → HandsOutSo layout bind stored ahead after is_over found Was → Was []
  none_hands ahead after is_over found Was is = subst (λ f. HandsOutSo layout bind stored ahead after is_over f Was) is

  pub made_more : (ahead : List V) (after : Option K) (is_over : Bool) (found : Option V) (row : V) (Was : List Row → Type 0) (Ahead Now : Type 0) (Made Makes : List V → Type 0) → found ≡ Some row
      → HasMade layout stored Was Ahead Made → (Ahead → IfSome found (λ r. IsTrue (layout.is_valid r)) × Now) → HandsOutSo layout bind stored ahead after is_over found Was → ((done : List V) → Made done → Makes (done ++ row ∷ []))
      → HasMade layout stored (AreAheadOf layout bind stored ahead after is_over) Now Makes
  made_more ahead after is_over found row Was Ahead Now Made Makes is it valid hands more =
      let good = valid_hands (λ r. IsTrue (layout.is_valid r)) Now found row is (valid it.ahead) in
      record {
        done = it.done ++ row ∷ [];
        seen = seen_one layout stored Was (AreAheadOf layout bind stored ahead after is_over) it.done row it.seen good.0 (row_hands ahead after is_over found row Was is hands);
        ahead = good.1;
        made = more it.done it.made;
      }

  pub made_all : (ahead : List V) (after : Option K) (is_over : Bool) (found : Option V) (Was : List Row → Type 0) (Ahead : Type 0) (Made : List V → Type 0) → found ≡ None → HasMade layout stored Was Ahead Made
      → HandsOutSo layout bind stored ahead after is_over found Was → (rows : List V) × BeginsWith layout stored rows [] × Made rows
  made_all ahead after is_over found Was Ahead Made is it hands = (it.done, seen_all layout stored Was it.done it.seen (none_hands ahead after is_over found Was is hands), it.made)
