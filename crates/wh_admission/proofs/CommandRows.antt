-- The rows that the command table has of accepted commands, and the kinds that their words name.
use Rattle.std.proofs.Common.{◌≡◌, ℕ, suc, ◌-◌, Bool, true, false, cond, List, [], ◌∷◌, ◌++◌, length, take, Option, Some, None, refl, sym, ap, subst, ◌∙◌, arith}
use Rattle.std.specs.Prelude.{bytes_eq, codes, option_map}
use Rattle.std.proofs.lemmas.Slice.Eq.{bytes_eq-Decides}
use Rattle.wh_policy.specs.Words.{dim_word, dim_of_word}
use Rattle.wh_policy.specs.declared.attribute.Dim.{Dim}
use Rattle.wh_policy.specs.declared.attribute.Dim.TheVariants.{Product, Store, Customer}
use Rattle.wh_batch.specs.BatchKind.{command_kind_word, command_kind_of_word, kind_of_word}
use Rattle.wh_batch.specs.declared.kind.BatchKind.TheVariants.{Dimension, Sales, Voids}
use Rattle.wh_batch.specs.declared.kind.CommandKind.TheVariants.{Batch, Migration, Upgrade}
use Rattle.wh_batch.specs.declared.kind.CommandKind.{CommandKind}
use Rattle.wh_history.specs.Accepted.{Accepted, Content, Governs, Describes, Sells, Upgrades, Withdraws, records_by, members_after, placeholders_by}
use Rattle.wh_history.specs.Tables as history
use Rattle.wh_history.proofs.Basics.{some_is}
use Rattle.wh_history.proofs.Trials.{get_middle}
use Rattle.wh_history.proofs.Lists.{take_front}
use Rattle.wh_model.specs.Defined.{command_at}
use Rattle.wh_rows.specs.declared.rows.CommandRow.{CommandRow}
use Rattle.wh_model.proofs.GrownCommands.{row_with, placed}

-- ---- the row of a command

take_one : {X : Type 0} (xs : List X) (x : X) (ys : List X) → take (suc (length xs)) (xs ++ x ∷ ys) ≡ xs ++ x ∷ []
take_one [] x ys = refl
take_one (y ∷ xs) x ys = ap (λ l. y ∷ l) (take_one xs x ys)

-- the row of a command that comes after others; what comes later says nothing of it
unfoldable pub row_of : List Accepted → Accepted → CommandRow
row_of commands a = record { number = suc (length commands); id = a.id; kind = a.kind; bytes = a.bytes; records = records_by a.content; placeholders = placeholders_by (commands ++ a ∷ []) (suc (length commands)) a.content }

module _ (commands : List Accepted) (a : Accepted) (more : List Accepted) where
  abbrev whole : List Accepted
  whole = commands ++ a ∷ more

  one_before : suc (length commands) - 1 ≡ length commands
  one_before = omega arith

  -- as many members were mentioned up to it, and before it, whatever comes later
  same_count : (content : Content) → placeholders_by whole (suc (length commands)) content ≡ placeholders_by (commands ++ a ∷ []) (suc (length commands)) content
  same_count (Governs policy) = refl
  same_count (Describes dim records) = refl
  same_count Upgrades = refl
  same_count (Withdraws lines) = refl
  same_count (Sells sales) =
      let upto : take (suc (length commands)) whole ≡ take (suc (length commands)) (commands ++ a ∷ []) = take_one commands a more ∙ sym (take_one commands a []) in
      let before : take (suc (length commands) - 1) whole ≡ take (suc (length commands) - 1) (commands ++ a ∷ []) = ap (λ n. take n whole) one_before ∙ take_front commands (a ∷ more) ∙ sym (take_front commands (a ∷ [])) ∙ ap (λ n. take n (commands ++ a ∷ [])) (sym one_before) in
      λ i. members_after (upto i) - members_after (before i)

  pub row_is : command_at whole (suc (length commands)) ≡ Some (row_of commands a)
  unfolding row_of
  row_is =
      ap (λ o. option_map (placed (suc (length commands))) (option_map (row_with whole (suc (length commands))) o)) (get_middle commands more a)
      ∙ ap (λ n. Some (record { number = suc (length commands); id = a.id; kind = a.kind; bytes = a.bytes; records = records_by a.content; placeholders = n })) (same_count a.content)

-- ---- the word of a kind

-- the word of a kind that a word is read as
find_dim : (word : List ℕ) (p s c : Bool) (dim : Dim) → bytes_eq word (codes "product") ≡ p → bytes_eq word (codes "store") ≡ s → bytes_eq word (codes "customer") ≡ c
    → cond p (Some Product) (cond s (Some Store) (cond c (Some Customer) None)) ≡ Some dim → word ≡ dim_word dim
find_dim word true s c dim is _ _ h = subst (λ d. word ≡ dim_word d) (some_is Product dim h) ((bytes_eq-Decides word (codes "product")).0 is)
find_dim word false true c dim _ is _ h = subst (λ d. word ≡ dim_word d) (some_is Store dim h) ((bytes_eq-Decides word (codes "store")).0 is)
find_dim word false false true dim _ _ is h = subst (λ d. word ≡ dim_word d) (some_is Customer dim h) ((bytes_eq-Decides word (codes "customer")).0 is)
find_dim word false false false dim _ _ _ h = absurd cc

pub word_is : (word : List ℕ) (kind : CommandKind) → command_kind_of_word word ≡ Some kind → word ≡ command_kind_word kind
word_is word kind h = first (bytes_eq word (codes "migrate")) refl h
  where
    dims : (o : Option Dim) → dim_of_word word ≡ o → option_map Batch (option_map Dimension o) ≡ Some kind → word ≡ command_kind_word kind
    dims None is back = absurd cc
    dims (Some dim) is back = find_dim word (bytes_eq word (codes "product")) (bytes_eq word (codes "store")) (bytes_eq word (codes "customer")) dim refl refl refl is ∙ ap command_kind_word (some_is (Batch (Dimension dim)) kind back)

    third : (v : Bool) → bytes_eq word (codes "void") ≡ v → option_map Batch (cond v (Some Voids) (option_map Dimension (dim_of_word word))) ≡ Some kind → word ≡ command_kind_word kind
    third true is back = (bytes_eq-Decides word (codes "void")).0 is ∙ ap command_kind_word (some_is (Batch Voids) kind back)
    third false is back = dims (dim_of_word word) refl back

    second : (s : Bool) → bytes_eq word (codes "sales") ≡ s → option_map Batch (cond s (Some Sales) (cond (bytes_eq word (codes "void")) (Some Voids) (option_map Dimension (dim_of_word word)))) ≡ Some kind → word ≡ command_kind_word kind
    second true is back = (bytes_eq-Decides word (codes "sales")).0 is ∙ ap command_kind_word (some_is (Batch Sales) kind back)
    second false is back = third (bytes_eq word (codes "void")) refl back

    upgrade : (u : Bool) → bytes_eq word (codes "upgrade") ≡ u → cond u (Some Upgrade) (option_map Batch (kind_of_word word)) ≡ Some kind → word ≡ command_kind_word kind
    upgrade true is back = (bytes_eq-Decides word (codes "upgrade")).0 is ∙ ap command_kind_word (some_is Upgrade kind back)
    upgrade false is back = second (bytes_eq word (codes "sales")) refl back

    first : (m : Bool) → bytes_eq word (codes "migrate") ≡ m → cond m (Some Migration) (cond (bytes_eq word (codes "upgrade")) (Some Upgrade) (option_map Batch (kind_of_word word))) ≡ Some kind → word ≡ command_kind_word kind
    first true is back = (bytes_eq-Decides word (codes "migrate")).0 is ∙ ap command_kind_word (some_is Migration kind back)
    first false is back = upgrade (bytes_eq word (codes "upgrade")) refl back
