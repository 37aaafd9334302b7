-- The facts of a warehouse under a policy that takes the place of another.
use Rattle.std.proofs.Common.{◌≡◌, ℕ, ◌<◌, true, List, [], ◌∷◌, ◌++◌, map, Option, Some, None, refl, sym, ◌∙◌, ap}
use Rattle.std.specs.Prelude.{◌≢◌, bytes_eq, find, filter, filter_map, option_map, unwrap_or}
use Rattle.std.specs.FinMap.{values}
use Rattle.std.specs.List.{cons_option}
use Rattle.std.specs.Option.{option_or, option_and_then, option_to_list}
use Rattle.std.proofs.lemmas.Slice.Eq.{bytes_eq-Decides}
use Rattle.wh_policy.specs.declared.attribute.Dim.{Dim}
use Rattle.wh_policy.specs.declared.attribute.Dim.TheVariants.{Product, Store, Customer}
use Rattle.wh_policy.specs.declared.record.SaleRecord.{SaleRecord}
use Rattle.wh_history.specs.Accepted.{Accepted, Content, Governs, Describes, Sells, Upgrades, Withdraws, Anchor, opening_of, member_of_sale, mentions, sold, withdrawn_by, withdrawn, standing, members, durable_key, member_of, types_in, profiles_of}
use Rattle.wh_history.specs.Facts.{key_in, keys_on, of_customer, rekeyed_to}
use Rattle.wh_history.specs.Keys.{at_place}
use Rattle.wh_history.specs.Dated.{at, dated}
use Rattle.wh_history.specs.Known.{number_in, all_numbered}
use Rattle.wh_history.specs.Profiles.{current_by, current_profile}
use Rattle.wh_history.specs.Rows.{rows}
use Rattle.wh_history.specs.Laws.{governs}
use Rattle.wh_history.specs.Shapes.{Shape, RenderedMember, shape_of, shape_after, rendered_in, shown}
use Rattle.wh_history.specs.Tables.{Limits, fact_of}
use Rattle.wh_history.specs.declared.dimension.RenderedRows.{RenderedRows}
use Rattle.wh_history.specs.declared.profiles.NumberedProfile.{NumberedProfile}
use Rattle.wh_history.specs.declared.facts.Fact.{Fact}
use Rattle.wh_history.specs.declared.facts.FactKeys.{FactKeys}
use Rattle.wh_history.specs.declared.facts.MemberKeys.{MemberKeys}
use Rattle.wh_history.specs.declared.member.Member.{Member}
use Rattle.wh_history.specs.declared.rows.DimRow.{DimRow}
use Rattle.wh_history.proofs.Joins.{all_weaker}
use Rattle.wh_history.proofs.Knowing.{number_all, day_known, all_changes_known}
use Rattle.wh_history.proofs.Places.{at_place-place, place-distinct_given}
use Rattle.wh_history.proofs.Standing.{stands_sold, standing-kept}
use Rattle.wh_rows.specs.Facts.{facts_of}
use Rattle.wh_rows.specs.Rows as row
use Rattle.wh_rows.specs.Tables.{Tables}
use Rattle.wh_rows.specs.declared.key.LineKey.{LineKey}
use Rattle.wh_model.specs.Defined.{AreOf, fact_at}
use Rattle.wh_plan.specs.BatchRows.{AreFacts, AreRekeyed, has_line}
use Rattle.wh_plan.specs.SoldMembers.{no_keys, keys_sold}
use Rattle.wh_migration.specs.Migrated.{all_members, Showing, showing, keys_given, keys_by, keys_anew, moved_anew, AreDimensionMembers, AreWarehouseMembers, AreShown, AreAllShown}
use Rattle.wh_migration.specs.declared.all_members.DimensionMembers.{DimensionMembers}
use Rattle.wh_migration.specs.declared.all_members.WarehouseMembers.{WarehouseMembers}
use Rattle.wh_migration.specs.declared.migrated.ShownDimension.{ShownDimension}
use Rattle.wh_migration.specs.declared.migrated.ShownDimensions.{ShownDimensions}
use Rattle.wh_model.proofs.Following.{Named, all_named}
use Rattle.wh_model.proofs.FoundPlaces.{at_place-map}
use Rattle.wh_model.proofs.GovernedLists.{sold_governed, durable_governed}
use Rattle.wh_model.proofs.GrownChanges.{natural_among}
use Rattle.wh_plan.proofs.GrownFacts.{own_line, Once, found_each}
use Rattle.wh_model.proofs.GrownKeys.{all_at}
use Rattle.wh_plan.proofs.MovedFacts.{facts_of_line}
use Rattle.wh_model.proofs.MovedKeys.{with_keys, moved_gives, moved_has, moved_is_other, at_found}
use Rattle.wh_model.proofs.QuietLists.{policy_quiet}
use Rattle.wh_model.proofs.WholeFacts.{on_line}
use Rattle.wh_plan.proofs.MovedLists.{find_by_filter, distinct_by_filter, filter_moves, moves_of_one}
use Rattle.wh_migration.proofs.AllRows.{row_shown}
use Rattle.wh_plan.proofs.SaleBatches.SalesKeys.{fact_keyed}

-- a command that gives a policy withdraws nothing
none_withdrawn : (content : Content) → governs content ≡ true → withdrawn_by content ≡ []
none_withdrawn (Governs policy) is = refl
none_withdrawn (Describes dim records) is = absurd cc
none_withdrawn (Sells sales) is = absurd cc
none_withdrawn Upgrades is = absurd cc
none_withdrawn (Withdraws lines) is = absurd cc

-- ---- facts that get the keys that a function gives them

module _ (limits : Limits) (commands : List Accepted) (c : Accepted) (t : Tables) (is : governs c.content ≡ true) (are : AreOf limits commands t)
    (keys : Fact → FactKeys) (gives : (number : ℕ) (s : SaleRecord) → at_place number (sold commands) ≡ Some s → with_keys (fact_of commands s) (keys (fact_of commands s)) ≡ fact_of (commands ++ c ∷ []) s) where
  abbrev after : List Accepted
  after = commands ++ c ∷ []

  abbrev move : Fact → Option Fact
  move f = rekeyed_to f (keys f)

  abbrev moves : List Fact
  moves = filter_map move (values (facts_of t))

  keeps_line : (key : LineKey) (f g : Fact) → move f ≡ Some g → has_line key g ≡ has_line key f
  keeps_line key f g some = ap (has_line key) (sym (moved_has f g (keys f) some))

  moves_of_line : (key : LineKey) → filter (has_line key) moves ≡ option_to_list (option_and_then move (fact_at commands key))
  moves_of_line key =
      filter_moves (has_line key) move (keeps_line key) (values (facts_of t))
      ∙ ap (filter_map move) (facts_of_line limits commands t are key)
      ∙ moves_of_one move (fact_at commands key)

  found_move : (key : LineKey) → find (has_line key) moves ≡ option_and_then move (fact_at commands key)
  found_move key = find_by_filter (has_line key) moves (option_and_then move (fact_at commands key)) (moves_of_line key)

  moves_once : Once moves
  moves_once = distinct_by_filter (λ f. has_line (row.fact.key f)) own_line moves (λ f. (option_and_then move (fact_at commands (row.fact.key f)), moves_of_line (row.fact.key f)))

  moves_lead : (key : LineKey) → option_or (find (has_line key) moves) (fact_at commands key) ≡ fact_at after key
  moves_lead key =
      ap (λ o. option_or o (fact_at commands key)) (found_move key)
      ∙ elim (find (on_line key) (standing commands)) as (λ o. (find (on_line key) (standing commands) ≡ o) → option_or (option_and_then move (option_map (fact_of commands) o)) (option_map (fact_of commands) o) ≡ option_map (fact_of after) o) [
        | None ↦ λ _. refl
        | Some s ↦ λ found. let there = at_found (on_line key) (sold commands) s (stands_sold (withdrawn commands) key.ticket key.line (sold commands) s found).0 in moved_gives (fact_of commands s) (keys (fact_of commands s)) ∙ ap Some (gives there.0 s there.1)
      ] refl
      ∙ sym (ap (λ ss. option_map (fact_of after) (find (on_line key) ss)) (standing-kept commands c (none_withdrawn c.content is) (policy_quiet c.content is).no_sale))

  moved_needed : (f : Fact) → find (has_line (row.fact.key f)) moves ≡ Some f → fact_at commands (row.fact.key f) ≢ Some f
  moved_needed f found there = moved_is_other f (keys f) (sym (ap (option_and_then move) there) ∙ sym (found_move (row.fact.key f)) ∙ found)

  moved_stood : (f : Fact) → find (has_line (row.fact.key f)) moves ≡ Some f → (old : Fact) × (fact_at commands (row.fact.key f) ≡ Some old) × (f ≡ record old { keys = f.keys })
  moved_stood f found = by_row (fact_at commands (row.fact.key f)) refl (sym (found_move (row.fact.key f)) ∙ found)
    where
      by_row : (o : Option Fact) → fact_at commands (row.fact.key f) ≡ o → option_and_then move o ≡ Some f → (old : Fact) × (fact_at commands (row.fact.key f) ≡ Some old) × (f ≡ with_keys old f.keys)
      by_row None at h = absurd cc
      by_row (Some old) at h = let same = moved_has old f (keys old) h in (old, at, sym same ∙ ap (λ (g : Fact). with_keys old g.keys) same)

  -- the facts that get other keys lead from the facts of the list to those of the list with the command
  pub moves_are : AreFacts (fact_at commands) (fact_at (commands ++ c ∷ [])) (filter_map (λ f. rekeyed_to f (keys f)) (values (facts_of t)))
  moves_are = record {
    lead = moves_lead;
    needed = all_weaker (λ f. find (has_line (row.fact.key f)) moves ≡ Some f) (λ f. fact_at commands (row.fact.key f) ≢ Some f) moved_needed moves (found_each moves moves_once);
    once = moves_once;
  }

  -- each of them is a fact that stood, with other keys
  pub moves_rekeyed : AreRekeyed (fact_at commands) (filter_map (λ f. rekeyed_to f (keys f)) (values (facts_of t)))
  moves_rekeyed = all_weaker (λ f. find (has_line (row.fact.key f)) moves ≡ Some f) (λ f. (old : Fact) × (fact_at commands (row.fact.key f) ≡ Some old) × (f ≡ record old { keys = f.keys })) moved_stood moves (found_each moves moves_once)

-- ---- the keys that all members give

module _ (dim : Dim) (commands : List Accepted) where
  abbrev known : List (List ℕ) → Option ℕ
  known = number_in (all_numbered (profiles_of commands))

  abbrev shape : Shape
  shape = record { dim = dim; kinds = types_in dim commands; number = known }

  abbrev shown_all : Showing
  shown_all = record { shape = shape; list = map (rendered_in shape) (all_members dim commands) }

  -- with the numbers of all profiles a member gives what it gives by all that was accepted
  profile_shown : (d : Dim) (m : Member) (day : ℕ) → of_customer d (current_by (types_in dim commands) known (at day (dated m.changes))) ≡ of_customer d (current_profile (types_in dim commands) (profiles_of commands) (at day (dated m.changes)))
  profile_shown Product m day = refl
  profile_shown Store m day = refl
  profile_shown Customer m day = day_known (types_in dim commands) known (profiles_of commands) m (all_changes_known (types_in dim commands) known (profiles_of commands) (number_all (profiles_of commands)) m.changes) day

  one_shown : (m : Member) (day : ℕ) → keys_on shape (rendered_in shape m) day ≡ keys_on (shape_after dim commands) (rendered_in (shape_after dim commands) m) day
  one_shown m day =
      let give : List DimRow → ℕ → MemberKeys = λ rs n. record { key = key_in rs day; durable = m.durable; profile = n } in
      ap (λ rs. give rs (of_customer dim (current_by (types_in dim commands) known (at day (dated m.changes))))) (row_shown dim (types_in dim commands) (profiles_of commands) m)
      ∙ ap (give (rows (types_in dim commands) (profiles_of commands) m)) (profile_shown dim m day)

  -- what a member that has a durable key gives a fact of a day
  given_by : (natural : List ℕ) (day : ℕ) → 0 < durable_key dim commands natural
      → keys_given shown_all (durable_key dim commands natural) day ≡ keys_on (shape_after dim commands) (rendered_in (shape_after dim commands) (member_of dim commands natural)) day
  given_by natural day given =
      let number = durable_key dim commands natural in
      let there = at_place-place bytes_eq bytes_eq-Decides natural (members dim commands) given in
      let placed : at_place number (map (rendered_in shape) (all_members dim commands)) ≡ Some (rendered_in shape (member_of dim commands natural)) =
      at_place-map (rendered_in shape) number (all_members dim commands)
      ∙ ap (option_map (rendered_in shape)) (at_place-map (member_of dim commands) number (members dim commands) ∙ ap (option_map (member_of dim commands)) there) in
      ap (λ o. unwrap_or (option_map (λ m. keys_on shape m day) o) no_keys) placed
      ∙ one_shown (member_of dim commands natural) day

  -- what a sale's member gives its fact
  given_sale : (number : ℕ) (s : SaleRecord) → at_place number (sold commands) ≡ Some s → (natural : List ℕ) → member_of_sale dim s ≡ Some natural → keys_given shown_all (durable_key dim commands natural) s.day ≡ keys_sold dim commands s
  given_sale number s there natural named =
      let given : 0 < durable_key dim commands natural =
      place-distinct_given bytes_eq bytes_eq-Decides natural (map (λ (a : Anchor). a.natural) (mentions dim commands))
      (natural_among (opening_of natural) (mentions dim commands) (all_at (Named commands) number (sold commands) s (all_named commands) there dim natural named)) in
      given_by natural s.day given
      ∙ sym (ap (λ o. unwrap_or (option_map (λ n. keys_on (shape_after dim commands) (rendered_in (shape_after dim commands) (member_of dim commands n)) s.day) o) no_keys) named)

  no_sale : (s : SaleRecord) → member_of_sale dim s ≡ None → keys_given shown_all 0 s.day ≡ keys_sold dim commands s
  no_sale s none = sym (ap (λ o. unwrap_or (option_map (λ n. keys_on (shape_after dim commands) (rendered_in (shape_after dim commands) (member_of dim commands n)) s.day) o) no_keys) none)

-- the keys of each sale's fact
abbrev pub keys_all : List Accepted → Fact → FactKeys
keys_all commands f = keys_by (keys_given (shown_all Store commands) f.store_durable f.day) (keys_given (shown_all Product commands) f.product_durable f.day) (keys_given (shown_all Customer commands) f.customer_durable f.day)

keys_of_sale : (commands : List Accepted) (number : ℕ) (s : SaleRecord) → at_place number (sold commands) ≡ Some s → keys_all commands (fact_of commands s) ≡ (fact_of commands s).keys
keys_of_sale commands number s there =
    let store = given_sale Store commands number s there s.store refl in
    let product = given_sale Product commands number s there s.product refl in
    let customer : keys_given (shown_all Customer commands) (fact_of commands s).customer_durable s.day ≡ keys_sold Customer commands s = elim s.customer as (λ o. (s.customer ≡ o) → keys_given (shown_all Customer commands) (unwrap_or (option_map (durable_key Customer commands) o) 0) s.day ≡ keys_sold Customer commands s) [
      | None ↦ λ none. no_sale Customer commands s none
      | Some natural ↦ λ named. given_sale Customer commands number s there natural named
    ] refl in
    rw (store, product, customer) (ap (λ (f : Fact). f.keys) (fact_keyed commands s))

-- ---- what is found at a durable key

pub given_at : (d : ShownDimension) (durable day : ℕ) (m : RenderedRows) → at_place durable d.members.items ≡ Some m → keys_on (shape_of d.dimension) (shown m) day ≡ keys_given (showing d) durable day
given_at d durable day m is = sym (ap (λ o. unwrap_or (option_map (λ r. keys_on (shape_of d.dimension) r day) o) no_keys) (at_place-map shown durable d.members.items ∙ ap (option_map shown) is))

pub none_at : (d : ShownDimension) (durable day : ℕ) → at_place durable d.members.items ≡ None → no_keys ≡ keys_given (showing d) durable day
none_at d durable day is = sym (ap (λ o. unwrap_or (option_map (λ r. keys_on (shape_of d.dimension) r day) o) no_keys) (at_place-map shown durable d.members.items ∙ ap (option_map shown) is))

-- ---- the facts of the list with a command that gives a policy

-- a fact with its durable keys by one list, and all else by another
abbrev fact_between : List Accepted → List Accepted → SaleRecord → Option (List ℕ) → Fact
fact_between durables others s customer = record {
  ticket = s.ticket;
  line = s.line;
  day = s.day;
  keys = (fact_of others s).keys;
  store_durable = durable_key Store durables s.store;
  product_durable = durable_key Product durables s.product;
  customer_durable = unwrap_or (option_map (durable_key Customer durables) customer) 0;
  quantity = s.quantity;
  amount = s.amount;
  cost = s.cost;
  discount = s.discount;
}

module _ (commands : List Accepted) (c : Accepted) (is : governs c.content ≡ true) where
  abbrev with_it : List Accepted
  with_it = commands ++ c ∷ []

  durables_stay : (s : SaleRecord) (o : Option (List ℕ)) → fact_between commands with_it s o ≡ fact_between with_it with_it s o
  durables_stay s None = rw (durable_governed commands c is Store s.store, durable_governed commands c is Product s.product) refl
  durables_stay s (Some natural) = rw (durable_governed commands c is Store s.store, durable_governed commands c is Product s.product, durable_governed commands c is Customer natural) refl

  -- by all members, shown anew, each fact gets its keys of the list with the command
  gives_keys : (number : ℕ) (s : SaleRecord) → at_place number (sold commands) ≡ Some s → with_keys (fact_of commands s) (keys_all with_it (fact_of commands s)) ≡ fact_of with_it s
  gives_keys number s there =
      let in_both : at_place number (sold with_it) ≡ Some s = ap (at_place number) (sold_governed commands c is) ∙ there in
      let keys : keys_all with_it (fact_of commands s) ≡ (fact_of with_it s).keys = same_keys_by s ∙ keys_of_sale with_it number s in_both in
      ap (with_keys (fact_of commands s)) keys ∙ durables_stay s s.customer
    where
      same_keys_by : (s : SaleRecord) → keys_all with_it (fact_of commands s) ≡ keys_all with_it (fact_of with_it s)
      same_keys_by s = ap (keys_all with_it) (ap (λ (f : Fact). record f { keys = (fact_of commands s).keys }) (durables_stay s s.customer))

  module _ (limits : Limits) (t : Tables) (are : AreOf limits commands t) where
    pub anew_facts : AreFacts (fact_at commands) (fact_at (commands ++ c ∷ [])) (filter_map (λ f. rekeyed_to f (keys_all (commands ++ c ∷ []) f)) (values (facts_of t)))
    anew_facts = moves_are limits commands c t is are (keys_all with_it) gives_keys

    pub anew_rekeyed : AreRekeyed (fact_at commands) (filter_map (λ f. rekeyed_to f (keys_all (commands ++ c ∷ []) f)) (values (facts_of t)))
    anew_rekeyed = moves_rekeyed limits commands c t is are (keys_all with_it) gives_keys

-- ---- what a call shows

shown_is : (dim : Dim) (commands : List Accepted) (read : DimensionMembers) (known : List NumberedProfile) (s : Showing) → AreDimensionMembers dim commands read → known ≡ all_numbered (profiles_of commands) → AreShown read known s → s ≡ shown_all dim commands
shown_is dim commands read known s member known_is are =
    let shape_is : s.shape ≡ shape dim commands = are.shape_is ∙ rw (member.dim_is, member.types_are, known_is) refl in
    let list_is : s.list ≡ map (rendered_in (shape dim commands)) (all_members dim commands) = are.list_is ∙ ap (λ sh. map (rendered_in sh) read.members.items) shape_is ∙ ap (map (rendered_in (shape dim commands))) member.members_are in
    let make : Shape → List RenderedMember → Showing = λ sh list. record { shape = sh; list = list } in
    let made : make s.shape s.list ≡ make (shape dim commands) (map (rendered_in (shape dim commands)) (all_members dim commands)) = rw (shape_is, list_is) refl in
    made

-- the keys by the dimensions that the code shows are those by all members
pub keys_shown : (commands : List Accepted) (read : WarehouseMembers) (known : List NumberedProfile) (d : ShownDimensions) → AreWarehouseMembers commands read → known ≡ all_numbered (profiles_of commands) → AreAllShown read known d → (f : Fact) → keys_anew d f ≡ keys_all commands f
keys_shown commands read known d members known_is are f =
    let stores = shown_is Store commands read.stores known (showing d.stores) members.stores known_is are.stores in
    let products = shown_is Product commands read.products known (showing d.products) members.products known_is are.products in
    let customers = shown_is Customer commands read.customers known (showing d.customers) members.customers known_is are.customers in
    ap (λ x. keys_by (keys_given x f.store_durable f.day) (keys_given (showing d.products) f.product_durable f.day) (keys_given (showing d.customers) f.customer_durable f.day)) stores
    ∙ ap (λ x. keys_by (keys_given (shown_all Store commands) f.store_durable f.day) (keys_given x f.product_durable f.day) (keys_given (showing d.customers) f.customer_durable f.day)) products
    ∙ ap (λ x. keys_by (keys_given (shown_all Store commands) f.store_durable f.day) (keys_given (shown_all Product commands) f.product_durable f.day) (keys_given x f.customer_durable f.day)) customers

-- so the facts that the code moves are those that get other keys
pub moved_shown : (commands : List Accepted) (d : ShownDimensions) → ((f : Fact) → keys_anew d f ≡ keys_all commands f) → (facts : List Fact) → moved_anew d facts ≡ filter_map (λ f. rekeyed_to f (keys_all commands f)) facts
moved_shown commands d same [] = refl
moved_shown commands d same (f ∷ fs) =
    ap (λ ks. cons_option (rekeyed_to f ks) (moved_anew d fs)) (same f) ∙ ap (cons_option (rekeyed_to f (keys_all commands f))) (moved_shown commands d same fs)
