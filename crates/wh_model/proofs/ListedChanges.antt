-- The rows of table change, in order of acceptance.
use Rattle.std.proofs.Common.{◌≡◌, ℕ, zero, suc, ◌+◌, ◌<◌, Bool, true, List, [], ◌∷◌, ◌++◌, length, Option, Some, None, refl, sym, ◌∙◌, ap, arith, Less, length-append}
use Rattle.std.specs.Prelude.{slice_get, option_map}
use Rattle.std.specs.Option.{option_and_then}
use Rattle.std.specs.List.{list_any, AllByRecursion}
use Rattle.std.specs.Ordering.{eq_by_cmp}
use Rattle.std.specs.Cmp.{eq_by_cmp_equiv}
use Rattle.std.specs.FinMap.{values, get, len}
use Rattle.std.proofs.lemmas.List.Folds.{list_any-append}
use Rattle.wh_policy.specs.declared.attribute.Dim.{Dim}
use Rattle.wh_policy.specs.declared.attribute.Dim.TheVariants.{Product, Store, Customer}
use Rattle.wh_policy.specs.declared.record.DimensionRecord.{DimensionRecord}
use Rattle.wh_history.specs.Keys.{at_place}
use Rattle.wh_history.specs.Accepted.{Accepted, Content, Governs, Describes, Sells, Upgrades, Withdraws, described, described_by}
use Rattle.wh_history.specs.Tables.{Limits, change_row_of, change_row_in, ChangeRow as Told}
use Rattle.wh_history.proofs.Basics.{some_is, or_true}
use Rattle.wh_history.proofs.Joins.{all_append, all_weaker}
use Rattle.wh_rows.specs.declared.rows.ChangeRow.{ChangeRow}
use Rattle.wh_rows.specs.declared.key.ChangeKey.{ChangeKey}
use Rattle.wh_rows.specs.Rows.{change_cmp}
use Rattle.wh_rows.specs.Tables.{Tables}
use Rattle.wh_rows.proofs.Orders.{change_cmp_total, change_cmp-IsAntisymmetric}
use Rattle.wh_model.specs.Defined.{AreOf, change_at}
use Rattle.wh_model.proofs.Listed.{Below, Ascends, values-listed, len-values, number_rises}
use Rattle.wh_model.proofs.FoundPlaces.{number_ties}

abbrev pub place_in : ℕ → ℕ → ChangeKey
place_in number place = record { command = number; place = place }

abbrev pub key_in : ChangeRow → ChangeKey
key_in r = record { command = r.command; place = r.place }

abbrev pub stored : ChangeKey → Told → ChangeRow
stored key c = record { command = key.command; place = key.place; dim = c.dim; durable = c.durable; day = c.day; anchor = c.anchor; values = c.texts }

-- ---- the order of the keys

command_rises : (k : ChangeKey) (number place : ℕ) → k.command < number → change_cmp k (place_in number place) ≡ Less
command_rises k number place less = rw (number_rises k.command number less) refl

place_rises : (k : ChangeKey) (number place : ℕ) → k.command ≡ number → k.place < place → change_cmp k (place_in number place) ≡ Less
place_rises k number place same less = rw (number_ties k.command number same, number_rises k.place place less) refl

-- a list of rows in order before another
ascends_append : (xs ys : List ChangeRow) → Ascends change_cmp key_in xs → Ascends change_cmp key_in ys → AllByRecursion (λ x. Below change_cmp key_in (key_in x) ys) xs → Ascends change_cmp key_in (xs ++ ys)
ascends_append [] ys up more before = more
ascends_append (x ∷ xs) ys up more before = (all_append (λ v. change_cmp (key_in x) (key_in v) ≡ Less) xs ys up.0 before.0, ascends_append xs ys up.1 more before.1)

-- from a place on stand these
abbrev Behind : {X : Type 0} → ℕ → List X → List X → Type 0
Behind from xs all = (i : ℕ) → at_place (from + i) all ≡ slice_get xs i

behind_next : {X : Type 0} (from : ℕ) (x : X) (xs all : List X) → Behind from (x ∷ xs) all → Behind (suc from) xs all
behind_next from x xs all behind i = let next : suc from + i ≡ from + suc i = omega arith in ap (λ n. at_place n all) next ∙ behind (suc i)

behind_first : {X : Type 0} (from : ℕ) (x : X) (xs all : List X) → Behind from (x ∷ xs) all → at_place from all ≡ Some x
behind_first from x xs all behind = let same : from ≡ from + 0 = omega arith in ap (λ n. at_place n all) same ∙ behind 0

behind_all : {X : Type 0} (all : List X) → Behind 1 all all
behind_all all i = let same : 1 + i ≡ suc i = omega arith in ap (λ n. at_place n all) same

get_at : {X : Type 0} (n : ℕ) (xs : List X) (x : X) → at_place n xs ≡ Some x → (i : ℕ) × (n ≡ 1 + i) × (slice_get xs i ≡ Some x)
get_at zero xs x at = absurd (cc)
get_at (suc n) xs x at = (n, omega arith, at)

module _ (commands : List Accepted) where
  abbrev pub made : ℕ → ℕ → Dim → DimensionRecord → ChangeRow
  made number place dim r = stored (place_in number place) (change_row_of commands dim r)

  -- the rows of records, of a command, and of commands from a number on
  abbrev pub record_rows : ℕ → ℕ → Dim → List DimensionRecord → List ChangeRow
  record_rows number place dim [] = []
  record_rows number place dim (r ∷ rs) = made number place dim r ∷ record_rows number (suc place) dim rs

  abbrev pub content_rows : ℕ → Content → List ChangeRow
  content_rows number (Governs policy) = []
  content_rows number (Describes dim records) = record_rows number 1 dim records
  content_rows number (Sells sales) = []
  content_rows number Upgrades = []
  content_rows number (Withdraws lines) = []

  abbrev pub change_rows : ℕ → List Accepted → List ChangeRow
  change_rows number [] = []
  change_rows number (c ∷ cs) = content_rows number c.content ++ change_rows (suc number) cs

  -- ---- they are in order

  all_records : (P : ChangeRow → Type 0) (number : ℕ) (dim : Dim) → ((place : ℕ) (r : DimensionRecord) → P (made number place dim r)) → (place : ℕ) (rs : List DimensionRecord) → AllByRecursion P (record_rows number place dim rs)
  all_records P number dim each place [] = tt
  all_records P number dim each place (r ∷ rs) = (each place r, all_records P number dim each (suc place) rs)

  all_content : (P : ChangeRow → Type 0) (number : ℕ) → ((place : ℕ) (dim : Dim) (r : DimensionRecord) → P (made number place dim r)) → (content : Content) → AllByRecursion P (content_rows number content)
  all_content P number each (Governs policy) = tt
  all_content P number each (Describes dim records) = all_records P number dim (λ place r. each place dim r) 1 records
  all_content P number each (Sells sales) = tt
  all_content P number each Upgrades = tt
  all_content P number each (Withdraws lines) = tt

  below_changes : (k : ChangeKey) (number : ℕ) (cs : List Accepted) → k.command < number → Below change_cmp key_in k (change_rows number cs)
  below_changes k number [] less = tt
  below_changes k number (c ∷ cs) less =
      all_append (λ v. change_cmp k (key_in v) ≡ Less) (content_rows number c.content) (change_rows (suc number) cs)
      (all_content (λ v. change_cmp k (key_in v) ≡ Less) number (λ place dim r. command_rises k number place less) c.content)
      (below_changes k (suc number) cs (omega arith))

  below_records : (k : ChangeKey) (number place : ℕ) (dim : Dim) (rs : List DimensionRecord) → k.command ≡ number → k.place < place → Below change_cmp key_in k (record_rows number place dim rs)
  below_records k number place dim [] same less = tt
  below_records k number place dim (r ∷ rs) same less = (place_rises k number place same less, below_records k number (suc place) dim rs same (omega arith))

  ascends_records : (number place : ℕ) (dim : Dim) (rs : List DimensionRecord) → Ascends change_cmp key_in (record_rows number place dim rs)
  ascends_records number place dim [] = tt
  ascends_records number place dim (r ∷ rs) = (below_records (place_in number place) number (suc place) dim rs refl (omega arith), ascends_records number (suc place) dim rs)

  ascends_content : (number : ℕ) (content : Content) → Ascends change_cmp key_in (content_rows number content)
  ascends_content number (Governs policy) = tt
  ascends_content number (Describes dim records) = ascends_records number 1 dim records
  ascends_content number (Sells sales) = tt
  ascends_content number Upgrades = tt
  ascends_content number (Withdraws lines) = tt

  ascends_changes : (number : ℕ) (cs : List Accepted) → Ascends change_cmp key_in (change_rows number cs)
  ascends_changes number [] = tt
  ascends_changes number (c ∷ cs) =
      ascends_append (content_rows number c.content) (change_rows (suc number) cs) (ascends_content number c.content) (ascends_changes (suc number) cs)
      (all_content (λ v. Below change_cmp key_in (key_in v) (change_rows (suc number) cs)) number (λ place dim r. below_changes (place_in number place) (suc number) cs (omega arith)) c.content)

  -- ---- each is in the table

  abbrev Stands : ChangeRow → Type 0
  Stands v = change_at commands (key_in v) ≡ Some v

  record_stands : (number place : ℕ) (c : Accepted) (dim : Dim) (records : List DimensionRecord) (r : DimensionRecord) → at_place number commands ≡ Some c → c.content ≡ Describes dim records → at_place place records ≡ Some r → Stands (made number place dim r)
  record_stands number place c dim records r at is there =
      ap (λ (o : Option Accepted). option_map (stored (place_in number place)) (option_and_then (λ (c : Accepted). change_row_in commands place c.content) o)) at
      ∙ ap (λ (content : Content). option_map (stored (place_in number place)) (change_row_in commands place content)) is
      ∙ ap (λ (o : Option DimensionRecord). option_map (stored (place_in number place)) (option_map (change_row_of commands dim) o)) there

  records_stand : (number : ℕ) (c : Accepted) (dim : Dim) (records : List DimensionRecord) → at_place number commands ≡ Some c → c.content ≡ Describes dim records → (place : ℕ) (rs : List DimensionRecord) → Behind place rs records → AllByRecursion Stands (record_rows number place dim rs)
  records_stand number c dim records at is place [] behind = tt
  records_stand number c dim records at is place (r ∷ rs) behind =
      (record_stands number place c dim records r at is (behind_first place r rs records behind), records_stand number c dim records at is (suc place) rs (behind_next place r rs records behind))

  content_stands : (number : ℕ) (c : Accepted) → at_place number commands ≡ Some c → (content : Content) → c.content ≡ content → AllByRecursion Stands (content_rows number content)
  content_stands number c at (Governs policy) is = tt
  content_stands number c at (Describes dim records) is = records_stand number c dim records at is 1 records (behind_all records)
  content_stands number c at (Sells sales) is = tt
  content_stands number c at Upgrades is = tt
  content_stands number c at (Withdraws lines) is = tt

  changes_stand : (number : ℕ) (cs : List Accepted) → Behind number cs commands → AllByRecursion Stands (change_rows number cs)
  changes_stand number [] behind = tt
  changes_stand number (c ∷ cs) behind =
      all_append Stands (content_rows number c.content) (change_rows (suc number) cs)
      (content_stands number c (behind_first number c cs commands behind) c.content refl)
      (changes_stand (suc number) cs (behind_next number c cs commands behind))

  -- ---- each of the table is among them

  among_records : (p : ChangeRow → Bool) (number : ℕ) (dim : Dim) (r : DimensionRecord) (place i : ℕ) (rs : List DimensionRecord) → slice_get rs i ≡ Some r → p (made number (place + i) dim r) ≡ true → list_any p (record_rows number place dim rs) ≡ true
  among_records p number dim r place i [] at passes = absurd (cc)
  among_records p number dim r place zero (q ∷ rs) at passes =
      let is : q ≡ r = some_is _ _ at in
      let same : place ≡ place + 0 = omega arith in
      let here : p (made number place dim q) ≡ true = ap (λ n. p (made number n dim q)) same ∙ ap (λ (r : DimensionRecord). p (made number (place + 0) dim r)) is ∙ passes in
      rw here refl
  among_records p number dim r place (suc i) (q ∷ rs) at passes =
      let next : suc place + i ≡ place + suc i = omega arith in
      rw (among_records p number dim r (suc place) i rs at (ap (λ n. p (made number n dim r)) next ∙ passes)) (or_true (p (made number place dim q)))

  among_changes : (p : ChangeRow → Bool) (place : ℕ) (dim : Dim) (records : List DimensionRecord) (r : DimensionRecord) (c : Accepted) (number i : ℕ) (cs : List Accepted) → slice_get cs i ≡ Some c → c.content ≡ Describes dim records → slice_get records place ≡ Some r
      → p (made (number + i) (1 + place) dim r) ≡ true → list_any p (change_rows number cs) ≡ true
  among_changes p place dim records r c number i [] at is there passes = absurd (cc)
  among_changes p place dim records r c number zero (d ∷ cs) at is there passes =
      let same : number ≡ number + 0 = omega arith in
      let content : d.content ≡ Describes dim records = ap (λ (c : Accepted). c.content) (some_is _ _ at) ∙ is in
      let here : list_any p (content_rows number d.content) ≡ true = ap (λ (content : Content). list_any p (content_rows number content)) content ∙ among_records p number dim r 1 place records there (ap (λ n. p (made n (1 + place) dim r)) same ∙ passes) in
      list_any-append p (content_rows number d.content) (change_rows (suc number) cs) ∙ rw here refl
  among_changes p place dim records r c number (suc i) (d ∷ cs) at is there passes =
      let next : suc number + i ≡ number + suc i = omega arith in
      let rest = among_changes p place dim records r c (suc number) i cs at is there (ap (λ n. p (made n (1 + place) dim r)) next ∙ passes) in
      list_any-append p (content_rows number d.content) (change_rows (suc number) cs) ∙ rw rest (or_true (list_any p (content_rows number d.content)))

  -- what a row of the table stands for
  record Source (k : ChangeKey) (v : ChangeRow) : Type 0 where
    command : Accepted
    dim : Dim
    records : List DimensionRecord
    told : DimensionRecord
    at : at_place k.command commands ≡ Some command
    content : command.content ≡ Describes dim records
    there : at_place k.place records ≡ Some told
    row : v ≡ made k.command k.place dim told

  source_record : (k : ChangeKey) (v : ChangeRow) (c : Accepted) (dim : Dim) (records : List DimensionRecord) → at_place k.command commands ≡ Some c → c.content ≡ Describes dim records → (o : Option DimensionRecord) → at_place k.place records ≡ o → option_map (stored k) (option_map (change_row_of commands dim) o) ≡ Some v → Source k v
  source_record k v c dim records at is None there h = absurd (cc)
  source_record k v c dim records at is (Some r) there h = record { command = c; dim = dim; records = records; told = r; at = at; content = is; there = there; row = sym (some_is _ _ h) }

  source_content : (k : ChangeKey) (v : ChangeRow) (c : Accepted) → at_place k.command commands ≡ Some c → (content : Content) → c.content ≡ content → option_map (stored k) (change_row_in commands k.place content) ≡ Some v → Source k v
  source_content k v c at (Governs policy) is h = absurd (cc)
  source_content k v c at (Describes dim records) is h = source_record k v c dim records at is (at_place k.place records) refl h
  source_content k v c at (Sells sales) is h = absurd (cc)
  source_content k v c at Upgrades is h = absurd (cc)
  source_content k v c at (Withdraws lines) is h = absurd (cc)

  source_command : (k : ChangeKey) (v : ChangeRow) (o : Option Accepted) → at_place k.command commands ≡ o → option_map (stored k) (option_and_then (λ (c : Accepted). change_row_in commands k.place c.content) o) ≡ Some v → Source k v
  source_command k v None at h = absurd (cc)
  source_command k v (Some c) at h = source_content k v c at c.content refl h

  source : (k : ChangeKey) (v : ChangeRow) → change_at commands k ≡ Some v → Source k v
  source k v is = source_command k v (at_place k.command commands) refl is

  key_listed : (k : ChangeKey) (v : ChangeRow) → change_at commands k ≡ Some v → list_any (λ w. eq_by_cmp change_cmp k (key_in w)) (change_rows 1 commands) ≡ true
  key_listed k v is =
      let from = source k v is in
      let number = get_at k.command commands from.command from.at in
      let place = get_at k.place from.records from.told from.there in
      let tie : eq_by_cmp change_cmp k (place_in (1 + number.0) (1 + place.0)) ≡ true =
      ap (λ n. eq_by_cmp change_cmp k (place_in n (1 + place.0))) (sym number.1) ∙ ap (λ n. eq_by_cmp change_cmp k (place_in k.command n)) (sym place.1) ∙ (eq_by_cmp_equiv change_cmp_total).refl k in
      among_changes (λ w. eq_by_cmp change_cmp k (key_in w)) place.0 from.dim from.records from.told from.command 1 number.0 commands number.2 from.content place.2 tie

  -- ---- how many there are

  length_records : (number place : ℕ) (dim : Dim) (rs : List DimensionRecord) → length (record_rows number place dim rs) ≡ length rs
  length_records number place dim [] = refl
  length_records number place dim (r ∷ rs) = ap suc (length_records number (suc place) dim rs)

  abbrev told_by : Content → ℕ
  told_by content = length (described_by Product content) + length (described_by Store content) + length (described_by Customer content)

  length_content : (number : ℕ) (content : Content) → length (content_rows number content) ≡ told_by content
  length_content number (Governs policy) = refl
  length_content number (Describes Product records) = length_records number 1 Product records ∙ omega arith
  length_content number (Describes Store records) = length_records number 1 Store records ∙ omega arith
  length_content number (Describes Customer records) = length_records number 1 Customer records ∙ omega arith
  length_content number (Sells sales) = refl
  length_content number Upgrades = refl
  length_content number (Withdraws lines) = refl

  pub length_changes : (number : ℕ) (cs : List Accepted) → length (change_rows number cs) ≡ length (described Product cs) + length (described Store cs) + length (described Customer cs)
  length_changes number [] = refl
  length_changes number (c ∷ cs) =
      let rest = length_changes (suc number) cs in
      let here = length_content number c.content in
      let whole = length-append (content_rows number c.content) (change_rows (suc number) cs) in
      let product = length-append (described_by Product c.content) (described Product cs) in
      let store = length-append (described_by Store c.content) (described Store cs) in
      let customer = length-append (described_by Customer c.content) (described Customer cs) in
      omega (arith, rest, here, whole, product, store, customer)

module _ (limits : Limits) (commands : List Accepted) (t : Tables) (are : AreOf limits commands t) where
  -- table change in order of acceptance
  pub changes_listed : values t.change ≡ change_rows commands 1 commands
  changes_listed =
      values-listed change_cmp change_cmp_total change_cmp-IsAntisymmetric key_in t.change (change_rows commands 1 commands)
      (all_weaker (Stands commands) (λ v. get t.change (key_in v) ≡ Some v) (λ v stands. are.change (key_in v) ∙ stands) (change_rows commands 1 commands) (changes_stand commands 1 commands (behind_all commands)))
      (λ k v here. key_listed commands k v (sym (are.change k) ∙ here))
      (ascends_changes commands 1 commands)

  pub changes_counted : len t.change ≡ length (described Product commands) + length (described Store commands) + length (described Customer commands)
  changes_counted = len-values change_cmp t.change ∙ ap (λ (rs : List ChangeRow). length rs) changes_listed ∙ length_changes commands 1 commands
