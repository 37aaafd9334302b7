-- What the members that sales mention give their facts.
use Rattle.std.proofs.Common.{◌≡◌, ℕ, zero, suc, ◌+◌, ◌<◌, true, false, cond, ◌||◌, List, [], ◌∷◌, ◌++◌, length, map, take, get_or, Option, Some, None, refl, sym, ◌∙◌, ap, arith}
use Rattle.std.specs.Prelude.{bytes_eq, filter_map, find, option_map, unwrap_or}
use Rattle.std.specs.List.{list_any, AllByRecursion, cons_option}
use Rattle.std.specs.Option.{option_and_then}
use Rattle.std.proofs.lemmas.List.{map-append}
use Rattle.std.proofs.lemmas.Slice.Eq.{bytes_eq-Decides}
use Rattle.wh_policy.specs.declared.attribute.AttributeType.{AttributeType}
use Rattle.wh_policy.specs.declared.attribute.Dim.{Dim}
use Rattle.wh_policy.specs.declared.attribute.Dim.TheVariants.{Product, Store, Customer}
use Rattle.wh_policy.specs.declared.record.SaleRecord.{SaleRecord}
use Rattle.wh_history.specs.Accepted.{Accepted, member_of, member_of_sale, types_in, profiles_of}
use Rattle.wh_history.specs.Dated.{at, dated}
use Rattle.wh_history.specs.Facts.{key_in, keys_on, of_customer}
use Rattle.wh_history.specs.Known.{KnowsEnough}
use Rattle.wh_history.specs.Profiles.{current_by, profile_number}
use Rattle.wh_history.specs.Rows.{rows}
use Rattle.wh_history.specs.Shapes.{Shape, RenderedMember, shape_after, rendered_in, shown}
use Rattle.wh_history.specs.Tables.{fact_of}
use Rattle.wh_history.specs.declared.dimension.RenderedRows.{RenderedRows}
use Rattle.wh_history.specs.declared.facts.Fact.{Fact}
use Rattle.wh_history.specs.declared.facts.MemberKeys.{MemberKeys}
use Rattle.wh_history.specs.declared.member.Member.{Member}
use Rattle.wh_history.specs.declared.rows.DimRow.{DimRow}
use Rattle.wh_history.proofs.Basics.{or_true, first_or}
use Rattle.wh_history.proofs.Joins.{all_weaker}
use Rattle.wh_history.proofs.Knowing.{day_known, rows_enough}
use Rattle.wh_history.proofs.Once.{among_distinct}
use Rattle.wh_plan.specs.SoldMembers.{rendered_named, no_keys, keys_among, keys_sold, fact_with, naturals_sold}
use Rattle.wh_plan.proofs.PlanNaturals.{next_taken}
use Rattle.wh_plan.proofs.PlanningMembers.{Among}
use Rattle.wh_model.proofs.QuietRows.{sold_to}

-- ---- members by their natural keys

-- what is found among rendered members is found among what they show
pub found_shown : (list : List RenderedRows) (natural : List ℕ) → option_map shown (find (λ m. bytes_eq m.member.now.natural natural) list) ≡ rendered_named (map shown list) natural
found_shown [] natural = refl
found_shown (m ∷ ms) natural =
    elim (bytes_eq m.member.now.natural natural) as (λ b. option_map shown (cond b (Some m) (find (λ m. bytes_eq m.member.now.natural natural) ms)) ≡ cond b (Some (shown m)) (rendered_named (map shown ms) natural)) [
      | true ↦ refl
      | false ↦ found_shown ms natural
    ]

-- ---- what a sale's member gives

module _ (shape : Shape) (list : List RenderedMember) (s : SaleRecord) where
  pub keys_there : (natural : List ℕ) (m : RenderedMember) → member_of_sale shape.dim s ≡ Some natural → rendered_named list natural ≡ Some m → keys_on shape m s.day ≡ keys_among shape list s
  keys_there natural m mentions there =
      let of = λ (o : Option RenderedMember). unwrap_or (option_map (λ m. keys_on shape m s.day) o) no_keys in
      sym (ap (λ o. of (option_and_then (rendered_named list) o)) mentions ∙ ap of there)

  pub keys_missing : (natural : List ℕ) → member_of_sale shape.dim s ≡ Some natural → rendered_named list natural ≡ None → no_keys ≡ keys_among shape list s
  keys_missing natural mentions there =
      let of = λ (o : Option RenderedMember). unwrap_or (option_map (λ m. keys_on shape m s.day) o) no_keys in
      sym (ap (λ o. of (option_and_then (rendered_named list) o)) mentions ∙ ap of there)

  pub keys_without : member_of_sale shape.dim s ≡ None → no_keys ≡ keys_among shape list s
  keys_without mentions = sym (ap (λ o. unwrap_or (option_map (λ m. keys_on shape m s.day) (option_and_then (rendered_named list) o)) no_keys) mentions)

-- ---- under commands

rendered_there : (dim : Dim) (commands : List Accepted) (shape : Shape) (n : List ℕ) (ns : List (List ℕ)) → Among ns n
    → rendered_named (map (rendered_in shape) (map (member_of dim commands) ns)) n ≡ Some (rendered_in shape (member_of dim commands n))
rendered_there dim commands shape n [] h = cc
rendered_there dim commands shape n (m ∷ ns) h =
    elim (bytes_eq m n) as (λ b. (bytes_eq m n ≡ b) → (b || list_any (λ m. bytes_eq m n) ns) ≡ true
    → first_or b (rendered_in shape (member_of dim commands m)) (rendered_named (map (rendered_in shape) (map (member_of dim commands) ns)) n) ≡ Some (rendered_in shape (member_of dim commands n))) [
      | true ↦ λ e _. ap (λ (m : List ℕ). Some (rendered_in shape (member_of dim commands m))) ((bytes_eq-Decides m n).0 e)
      | false ↦ λ e t. rendered_there dim commands shape n ns t
    ] refl h

-- a member that one of the sales mentions is among them
abbrev Mentions : Dim → List SaleRecord → SaleRecord → Type 0
Mentions dim sales s = (natural : List ℕ) → member_of_sale dim s ≡ Some natural → Among (filter_map (member_of_sale dim) sales) natural

behind_any : (n : List ℕ) (o : Option (List ℕ)) (ns : List (List ℕ)) → Among ns n → Among (cons_option o ns) n
behind_any n None ns h = h
behind_any n (Some m) ns h = rw h (or_true (bytes_eq m n))

each_mentions : (dim : Dim) (sales : List SaleRecord) → AllByRecursion (Mentions dim sales) sales
each_mentions dim [] = tt
each_mentions dim (s ∷ sales) = (
  λ natural is. rw (is, (bytes_eq-Decides natural natural).1 refl) refl,
  all_weaker (Mentions dim sales) (Mentions dim (s ∷ sales)) (λ q named natural is. behind_any natural (member_of_sale dim s) (filter_map (member_of_sale dim) sales) (named natural is)) sales (each_mentions dim sales),
)

module _ (dim : Dim) (commands : List Accepted) (sales : List SaleRecord) where
  abbrev list : List RenderedMember
  list = map (rendered_in (shape_after dim commands)) (map (member_of dim commands) (naturals_sold dim sales))

  one_keyed : (s : SaleRecord) → Mentions dim sales s → keys_among (shape_after dim commands) list s ≡ keys_sold dim commands s
  one_keyed s mentions =
      elim (member_of_sale dim s) as (λ o. (member_of_sale dim s ≡ o) → keys_among (shape_after dim commands) list s ≡ unwrap_or (option_map (λ natural. keys_on (shape_after dim commands) (rendered_in (shape_after dim commands) (member_of dim commands natural)) s.day) o) no_keys) [
        | None ↦ λ is. sym (keys_without (shape_after dim commands) list s is)
        | Some n ↦ λ is.
            let among : Among (naturals_sold dim sales) n = among_distinct bytes_eq bytes_eq-Decides n (filter_map (member_of_sale dim) sales) ∙ mentions n is in
            sym (keys_there (shape_after dim commands) list s n (rendered_in (shape_after dim commands) (member_of dim commands n)) is (rendered_there dim commands (shape_after dim commands) n (naturals_sold dim sales) among))
      ] refl

  each_keyed : (ss : List SaleRecord) → AllByRecursion (Mentions dim sales) ss → map (keys_among (shape_after dim commands) list) ss ≡ map (keys_sold dim commands) ss
  each_keyed [] all = refl
  each_keyed (s ∷ ss) all = ap (λ k. k ∷ map (keys_among (shape_after dim commands) list) ss) (one_keyed s all.0) ∙ ap (λ ks. keys_sold dim commands s ∷ ks) (each_keyed ss all.1)

  pub all_keyed : map (keys_among (shape_after dim commands) (map (rendered_in (shape_after dim commands)) (map (member_of dim commands) (naturals_sold dim sales)))) sales ≡ map (keys_sold dim commands) sales
  all_keyed = each_keyed sales (each_mentions dim sales)

-- ---- where enough is known of the members

module _ (dim : Dim) (kinds : List AttributeType) (number : List (List ℕ) → Option ℕ) (combinations : List (List (List ℕ))) where
  abbrev by : (List (List ℕ) → Option ℕ) → Shape
  by numbers = record { dim = dim; kinds = kinds; number = numbers }

  abbrev all : Shape
  all = record { dim = dim; kinds = kinds; number = profile_number combinations }

  profile_enough : (d : Dim) (m : Member) → KnowsEnough d kinds number combinations m → (day : ℕ) → of_customer d (current_by kinds number (at day (dated m.changes))) ≡ of_customer d (current_by kinds (profile_number combinations) (at day (dated m.changes)))
  profile_enough Product m enough day = refl
  profile_enough Store m enough day = refl
  profile_enough Customer m enough day = day_known kinds number combinations m enough day

  one_known : (m : Member) → KnowsEnough dim kinds number combinations m → (day : ℕ) → keys_on (by number) (rendered_in (by number) m) day ≡ keys_on all (rendered_in all m) day
  one_known m enough day =
      let give : List DimRow → ℕ → MemberKeys = λ rs n. record { key = key_in rs day; durable = m.durable; profile = n } in
      ap (λ rs. give rs (of_customer dim (current_by kinds number (at day (dated m.changes))))) (rows_enough kinds number combinations dim m enough)
      ∙ ap (give (rows kinds combinations m)) (profile_enough dim m enough day)

  found_known : (ms : List Member) → AllByRecursion (KnowsEnough dim kinds number combinations) ms → (n : List ℕ) (day : ℕ)
      → option_map (λ q. keys_on (by number) q day) (rendered_named (map (rendered_in (by number)) ms) n) ≡ option_map (λ q. keys_on all q day) (rendered_named (map (rendered_in all) ms) n)
  found_known [] enough n day = refl
  found_known (m ∷ ms) enough n day =
      elim (bytes_eq m.natural n) as (λ b. option_map (λ q. keys_on (by number) q day) (cond b (Some (rendered_in (by number) m)) (rendered_named (map (rendered_in (by number)) ms) n))
      ≡ option_map (λ q. keys_on all q day) (cond b (Some (rendered_in all m)) (rendered_named (map (rendered_in all) ms) n))) [
        | true ↦ ap Some (one_known m enough.0 day)
        | false ↦ found_known ms enough.1 n day
      ]

  sale_known : (ms : List Member) → AllByRecursion (KnowsEnough dim kinds number combinations) ms → (s : SaleRecord)
      → keys_among (by number) (map (rendered_in (by number)) ms) s ≡ keys_among all (map (rendered_in all) ms) s
  sale_known ms enough s =
      elim (member_of_sale dim s) as (λ o. unwrap_or (option_map (λ q. keys_on (by number) q s.day) (option_and_then (rendered_named (map (rendered_in (by number)) ms)) o)) no_keys
      ≡ unwrap_or (option_map (λ q. keys_on all q s.day) (option_and_then (rendered_named (map (rendered_in all) ms)) o)) no_keys) [
        | None ↦ refl
        | Some n ↦ ap (λ (o : Option MemberKeys). unwrap_or o no_keys) (found_known ms enough n s.day)
      ]

  pub sales_known : (ms : List Member) → AllByRecursion (KnowsEnough dim kinds number combinations) ms → (ss : List SaleRecord)
      → map (keys_among (record { dim = dim; kinds = kinds; number = number }) (map (rendered_in (record { dim = dim; kinds = kinds; number = number })) ms)) ss
      ≡ map (keys_among (record { dim = dim; kinds = kinds; number = profile_number combinations }) (map (rendered_in (record { dim = dim; kinds = kinds; number = profile_number combinations })) ms)) ss
  sales_known ms enough [] = refl
  sales_known ms enough (s ∷ ss) =
      ap (λ k. k ∷ map (keys_among (by number) (map (rendered_in (by number)) ms)) ss) (sale_known ms enough s)
      ∙ ap (λ ks. keys_among all (map (rendered_in all) ms) s ∷ ks) (sales_known ms enough ss)

-- for the keys that a call gives
pub keys_planned : (dim : Dim) (kinds : List AttributeType) (number : List (List ℕ) → Option ℕ) (members : List Member) (sales : List SaleRecord) (rendered : List RenderedMember) (keys : List MemberKeys)
    → keys ≡ map (keys_among (record { dim = dim; kinds = kinds; number = number }) rendered) sales → rendered ≡ map (rendered_in (record { dim = dim; kinds = kinds; number = number })) members
    → (commands : List Accepted) → members ≡ map (member_of dim commands) (naturals_sold dim sales) → kinds ≡ types_in dim commands
    → AllByRecursion (KnowsEnough dim kinds number (profiles_of commands)) members
    → keys ≡ map (keys_sold dim commands) sales
keys_planned dim kinds number members sales rendered keys made rendered_is commands members_are types enough =
    let numbers = profile_number (profiles_of commands) in
    let by : List AttributeType → (List (List ℕ) → Option ℕ) → Shape = λ ks numbers. record { dim = dim; kinds = ks; number = numbers } in
    made
    ∙ ap (λ ms. map (keys_among (by kinds number) ms) sales) rendered_is
    ∙ sales_known dim kinds number (profiles_of commands) members enough sales
    ∙ ap (λ ms. map (keys_among (by kinds numbers) (map (rendered_in (by kinds numbers)) ms)) sales) members_are
    ∙ ap (λ ks. map (keys_among (by ks numbers) (map (rendered_in (by ks numbers)) (map (member_of dim commands) (naturals_sold dim sales)))) sales) types
    ∙ all_keyed dim commands sales

get_mapped : {X Y : Type 0} (f : X → Y) (xs : List X) (i : ℕ) (x : X) (y : Y) → i < length xs → x ≡ get_or xs i x → get_or (map f xs) i y ≡ f x
get_mapped f [] i x y within is = absurd (omega arith)
get_mapped f (z ∷ xs) zero x y within is = ap f (sym is)
get_mapped f (z ∷ xs) (suc i) x y within is = get_mapped f xs i x y (omega arith) is

-- ---- the fact

pub fact_keyed : (commands : List Accepted) (s : SaleRecord) → fact_with s (keys_sold Product commands s) (keys_sold Store commands s) (keys_sold Customer commands s) ≡ fact_of commands s
fact_keyed commands s =
    let of = λ (natural : List ℕ). keys_on (shape_after Customer commands) (rendered_in (shape_after Customer commands) (member_of Customer commands natural)) s.day in
    elim s.customer as (λ o. fact_with s (keys_sold Product commands s) (keys_sold Store commands s) (unwrap_or (option_map of o) no_keys) ≡ sold_to commands s o) [
      | None ↦ refl
      | Some n ↦ refl
    ]

-- one fact more
pub facts_more : (commands : List Accepted) (sales : List SaleRecord) (i : ℕ) (s : SaleRecord) (products stores customers : List MemberKeys) (other : MemberKeys) (facts : List Fact) → i < length sales → s ≡ get_or sales i s
    → products ≡ map (keys_sold Product commands) sales → stores ≡ map (keys_sold Store commands) sales → customers ≡ map (keys_sold Customer commands) sales
    → facts ≡ map (fact_of commands) (take i sales) → (new : List Fact) → new ≡ facts ++ fact_with s (get_or products i other) (get_or stores i other) (get_or customers i other) ∷ [] → new ≡ map (fact_of commands) (take (i + 1) sales)
facts_more commands sales i s products stores customers other facts within is products_are stores_are customers_are so_far new made =
    let one : (dim : Dim) (keys : List MemberKeys) → keys ≡ map (keys_sold dim commands) sales → get_or keys i other ≡ keys_sold dim commands s = λ dim keys keys_are.
    ap (λ ks. get_or ks i other) keys_are ∙ get_mapped (keys_sold dim commands) sales i s other within is in
    made
    ∙ ap (λ k. facts ++ fact_with s k (get_or stores i other) (get_or customers i other) ∷ []) (one Product products products_are)
    ∙ ap (λ k. facts ++ fact_with s (keys_sold Product commands s) k (get_or customers i other) ∷ []) (one Store stores stores_are)
    ∙ ap (λ k. facts ++ fact_with s (keys_sold Product commands s) (keys_sold Store commands s) k ∷ []) (one Customer customers customers_are)
    ∙ ap (λ f. facts ++ f ∷ []) (fact_keyed commands s)
    ∙ ap (λ fs. fs ++ fact_of commands s ∷ []) so_far
    ∙ sym (ap (map (fact_of commands)) (next_taken sales i s within is) ∙ map-append (fact_of commands) (take i sales) (s ∷ []))
