-- The rows that a batch brings are the exact edits of the tables.
use Rattle.std.proofs.Common.{◌≡◌, ◌⊎◌, inl, inr, ℕ, suc, ◌-◌, ◌<◌, false, List, [], ◌∷◌, ◌++◌, length, map, None, refl, sym, ◌∙◌, ap, subst, arith}
use Rattle.std.specs.Prelude.{filter_map}
use Rattle.std.specs.Cmp.{nat_cmp_is}
use Rattle.std.specs.Cmp.Lexicographic.{nat_list_cmp_total}
use Rattle.std.specs.FinMap.{nat_cmp-IsAntisymmetric}
use Rattle.std.specs.List.{AllByRecursion}
use Rattle.std.specs.Option.{option_and_then}
use Rattle.std.specs.Ordering.{nat_cmp, ordering_then}
use Rattle.std.specs.declared.cmp.Ordering.TheVariants.{Less, Equal}
use Rattle.std.proofs.lemmas.Cmp.{nat_cmp_total}
use Rattle.wh_policy.specs.declared.attribute.Dim.{Dim}
use Rattle.wh_policy.specs.declared.attribute.Dim.TheVariants.{Product, Store, Customer}
use Rattle.wh_policy.specs.declared.format.Format.{Format}
use Rattle.wh_policy.specs.declared.format.Format.TheVariants.{One, Two}
use Rattle.wh_history.specs.Accepted.{Accepted, format_of, members, profiles_of, records_by, withdrawn_by}
use Rattle.wh_history.specs.Laws.{governs}
use Rattle.wh_history.specs.Tables.{Limits, dimension_row}
use Rattle.wh_history.specs.Plan.{IsRowPlan}
use Rattle.wh_history.specs.declared.plan.Edit.{Edit}
use Rattle.wh_history.specs.declared.plan.Edit.TheVariants.{Put}
use Rattle.wh_history.proofs.Joins.{all_append}
use Rattle.wh_history.proofs.Stays.{policy_last}
use Rattle.wh_rows.proofs.Orders.{member_cmp_total, member_cmp-IsAntisymmetric, change_cmp_total, change_cmp-IsAntisymmetric, line_cmp_total}
use Rattle.wh_rows.specs.Rows as row
use Rattle.wh_rows.specs.declared.rows.MemberRow.{MemberRow}
use Rattle.wh_rows.specs.declared.key.MemberKey.{MemberKey}
use Rattle.wh_model.specs.Defined.{meta_at, member_at, change_at, profile_at, calendar_at, day_at, void_at}
use Rattle.wh_plan.specs.BatchRows.{BatchRows, AreBatchRows, numbers_after, members_behind, new_members}
use Rattle.wh_plan.specs.Edits.{Edits, AreEdits, IsTablePlan, UpgradesTo, rows_of_dimension}
use Rattle.wh_plan.specs.FactEdits.{edits_in}
use Rattle.wh_model.proofs.Growing.{AmongKeys, among_front, among_back, among_mapped, among_range}
use Rattle.wh_plan.proofs.FactPlans.{plan_in_table}
use Rattle.wh_plan.proofs.Plans.{added_plan, grown_plan, one_plan, empty_plan, AboveKey, AscendKeys, keys_ascend, all_in_range}
use Rattle.wh_plan.proofs.OwnRow.{less, own_row_plan}
use Rattle.wh_model.proofs.GrownMembers.{member_keyed}
use Rattle.wh_model.proofs.GrownMembers as member
use Rattle.wh_model.proofs.GrownChanges.{change_keyed, changes_grow}
use Rattle.wh_model.proofs.GrownChanges as change
use Rattle.wh_model.proofs.GrownProfiles.{profile_keyed, profile_grows}
use Rattle.wh_model.proofs.GrownProfiles as profile
use Rattle.wh_model.proofs.StandingFacts.{void_at_kept}

-- where the format stays, so does meta
pub meta_stays : (before after : List Accepted) → format_of after ≡ format_of before → (limits : Limits) → IsTablePlan row.meta (meta_at (format_of before) limits) (meta_at (format_of after) limits) []
meta_stays before after stays limits = empty_plan row.meta nat_list_cmp_total (meta_at (format_of before) limits) (meta_at (format_of after) limits) (λ name. ap (λ (f : Format). meta_at f limits name) stays)

-- a command that withdraws nothing leaves the rows of withdrawn lines
pub voids_stay : (commands : List Accepted) (c : Accepted) → withdrawn_by c.content ≡ [] → IsTablePlan row.void (void_at commands) (void_at (commands ++ c ∷ [])) []
voids_stay commands c unvoided = empty_plan row.void line_cmp_total (void_at commands) (void_at (commands ++ c ∷ [])) (void_at_kept commands c unvoided)

-- ---- the keys of the members of three dimensions

abbrev Before : List MemberKey → MemberKey → Type 0
Before later k = AllByRecursion (λ l. row.member_cmp k l ≡ Less) later

abbrev AscendMembers : List MemberKey → Type 0
AscendMembers = AscendKeys row.member member_cmp_total

above_front : (low : MemberKey) (ls : List MemberKey) → AscendMembers ls → Before ls low → AboveKey row.member member_cmp_total low ls
above_front low [] up before = tt
above_front low (l ∷ ls) up before = (before.0, up)

above_joined : (low : MemberKey) (ks ls : List MemberKey) → AboveKey row.member member_cmp_total low ks → AscendMembers ls → Before ls low → AllByRecursion (Before ls) ks → AboveKey row.member member_cmp_total low (ks ++ ls)
above_joined low [] ls up later before all = above_front low ls later before
above_joined low (k ∷ ks) ls up later before all = (up.0, above_joined k ks ls up.1 later all.0 all.1)

ascend_joined : (ks ls : List MemberKey) → AscendMembers ks → AscendMembers ls → AllByRecursion (Before ls) ks → AscendMembers (ks ++ ls)
ascend_joined [] ls up later all = later
ascend_joined (k ∷ ks) ls up later all = above_joined k ks ls up later all.0 all.1

durables_rise : (dim : Dim) (n m : ℕ) → n < m → row.member_cmp (member.key_of dim n) (member.key_of dim m) ≡ Less
durables_rise Product n m h = less n m h
durables_rise Store n m h = less n m h
durables_rise Customer n m h = less n m h

module _ (commands : List Accepted) (c : Accepted) where
  abbrev after : List Accepted
  after = commands ++ c ∷ []

  in_one : (dim : Dim) → AscendMembers (members_behind commands after dim)
  in_one dim = keys_ascend row.member member_cmp_total member_cmp-IsAntisymmetric (member_at after) (member_keyed after) (member.key_of dim) (durables_rise dim) (suc (length (members dim commands))) (length (members dim after) - length (members dim commands))

  each_of : (dim : Dim) (P : MemberKey → Type 0) → ((n : ℕ) → length (members dim commands) < n → P (member.key_of dim n)) → AllByRecursion P (members_behind commands after dim)
  each_of dim P each = all_in_range row.member member_cmp_total member_cmp-IsAntisymmetric (member_at after) (member_keyed after) (member.key_of dim) (durables_rise dim) P (suc (length (members dim commands))) (length (members dim after) - length (members dim commands)) (λ n h. each n (omega arith))

  members_ascend : AscendMembers (new_members commands after)
  members_ascend =
      let products = members_behind commands after Product in
      let stores = members_behind commands after Store in
      let customers = members_behind commands after Customer in
      let two = ascend_joined products stores (in_one Product) (in_one Store) (each_of Product (Before stores) (λ n _. each_of Store (λ l. row.member_cmp (member.key_of Product n) l ≡ Less) (λ m _. refl))) in
      ascend_joined (products ++ stores) customers two (in_one Customer) (all_append (Before customers) products stores
      (each_of Product (Before customers) (λ n _. each_of Customer (λ l. row.member_cmp (member.key_of Product n) l ≡ Less) (λ m _. refl)))
      (each_of Store (Before customers) (λ n _. each_of Customer (λ l. row.member_cmp (member.key_of Store n) l ≡ Less) (λ m _. refl))))

  members_fresh : AllByRecursion (λ k. member_at commands k ≡ None) (new_members commands after)
  members_fresh =
      let none = λ (k : MemberKey). member_at commands k ≡ None in
      let of_one = λ (dim : Dim). each_of dim none (member.none_past dim commands c commands) in
      all_append none (members_behind commands after Product ++ members_behind commands after Store) (members_behind commands after Customer)
      (all_append none (members_behind commands after Product) (members_behind commands after Store) (of_one Product) (of_one Store)) (of_one Customer)

  behind_all : (dim : Dim) (key : MemberKey) → AmongKeys (λ k. k) key (members_behind commands after dim) → AmongKeys (λ k. k) key (new_members commands after)
  behind_all Product key among = among_front (λ k. k) key _ (members_behind commands after Customer) (among_front (λ k. k) key _ (members_behind commands after Store) among)
  behind_all Store key among = among_front (λ k. k) key _ (members_behind commands after Customer) (among_back (λ k. k) key (members_behind commands after Product) _ among)
  behind_all Customer key among = among_back (λ k. k) key (members_behind commands after Product ++ members_behind commands after Store) _ among

  -- a member's row stays, or is new
  member_kept : (key : MemberKey) → (member_at after key ≡ member_at commands key) ⊎ AmongKeys (λ k. k) key (new_members commands after)
  member_kept key =
      let low = length (members key.dim commands) in
      let high = length (members key.dim after) in
      elim (member.of_dimension key.dim commands c key.durable) [
        | inl kept ↦ inl kept.same
        | inr added ↦
            let above = added.above in
            let within = added.within in
            let among = among_range (member.key_of key.dim) key added.number (suc low) (high - low) added.is (omega arith) (omega arith) in
            inr (behind_all key.dim key (among_mapped (member.key_of key.dim) key (numbers_after low high) among))
      ]

  -- the edits of member put the rows of the new ones
  new_members_plan : IsTablePlan row.member (member_at commands) (member_at after) (map Put (filter_map (member_at after) (new_members commands after)))
  new_members_plan = added_plan row.member member_cmp_total member_cmp-IsAntisymmetric (member_at after) (member_keyed after) (member_at commands) (new_members commands after) members_ascend members_fresh member_kept

  pub members_are : (edits : List (Edit MemberRow MemberKey)) → IsTablePlan row.member (member_at commands) (member_at (commands ++ c ∷ [])) edits → edits ≡ map Put (filter_map (member_at (commands ++ c ∷ [])) (new_members commands (commands ++ c ∷ [])))
  members_are edits plan = one_plan row.member member_cmp_total (member_at commands) (member_at after) edits _ plan new_members_plan

  -- ---- the tables

  module _ (batch : governs c.content ≡ false) (unvoided : withdrawn_by c.content ≡ []) (brought : BatchRows) (are : AreBatchRows commands c brought) where
    member_plan : IsTablePlan row.member (member_at commands) (member_at after) (map Put brought.members)
    member_plan =
        subst (λ rows. IsTablePlan row.member (member_at commands) (member_at after) (map Put rows)) (sym are.members)
        new_members_plan

    change_plan : IsTablePlan row.change (change_at commands) (change_at after) (map Put brought.changes)
    change_plan =
        subst (λ rows. IsTablePlan row.change (change_at commands) (change_at after) (map Put rows)) (sym are.changes)
        (grown_plan row.change change_cmp_total change_cmp-IsAntisymmetric (change_at after) (change_keyed after) (change.key_of commands c) places_rise (change_at commands) 0 (records_by c.content)
        (λ n _. change.none_yet commands c n) (changes_grow commands c c.content refl))
      where
        places_rise : (n m : ℕ) → n < m → row.change_cmp (change.key_of commands c n) (change.key_of commands c m) ≡ Less
        places_rise n m h = ap (λ o. ordering_then o (nat_cmp n m)) (sym (nat_cmp_is (length after) (length after) Equal refl)) ∙ less n m h

    profile_plan : IsTablePlan row.profile (profile_at commands) (profile_at after) (map Put brought.profiles)
    profile_plan =
        subst (λ rows. IsTablePlan row.profile (profile_at commands) (profile_at after) (map Put rows)) (sym are.profiles)
        (grown_plan row.profile nat_cmp_total nat_cmp-IsAntisymmetric (profile_at after) (profile_keyed after) (λ n. n) less (profile_at commands) (suc (length (profiles_of commands))) (suc (length (profiles_of after)))
        (profile.none_past commands) (profile_grows commands c batch))

    calendar_plan : IsTablePlan row.calendar (calendar_at commands) (calendar_at after) []
    calendar_plan = empty_plan row.calendar nat_cmp_total (calendar_at commands) (calendar_at after) (λ day. ap (option_and_then (λ policy. day_at policy day)) (policy_last None commands c batch))

    pub brought_as_edits : (edits : Edits) (format : Format) → format ≡ format_of commands → format_of (commands ++ c ∷ []) ≡ format_of commands
        → edits.upgrades ≡ false → edits.meta ≡ [] → edits.commands ≡ Put brought.command ∷ [] → edits.members ≡ map Put brought.members → edits.changes ≡ map Put brought.changes
        → edits.products ≡ brought.products → edits.stores ≡ brought.stores → edits.customers ≡ brought.customers
        → edits.profiles ≡ map Put brought.profiles → edits.calendar ≡ [] → edits.facts ≡ edits_in One format brought.facts → edits.facts2 ≡ edits_in Two format brought.facts → edits.voids ≡ [] → AreEdits commands (commands ++ c ∷ []) edits
    brought_as_edits edits format same stays no_upgrade no_meta command_is members_are changes_are products_are stores_are customers_are profiles_are no_days facts_are facts2_are no_voids = record {
      upgrades = subst (λ b. UpgradesTo b (format_of commands) (format_of after)) (sym no_upgrade) stays;
      meta = λ limits. rw no_meta (meta_stays commands after stays limits);
      commands = rw command_is (own_row_plan commands c brought.command are.command);
      members = rw members_are member_plan;
      changes = rw changes_are change_plan;
      rows = of_dimension;
      profiles = rw profiles_are profile_plan;
      calendar = rw no_days calendar_plan;
      facts = rw facts_are (plan_in_table commands after One format brought.facts same stays are.facts);
      facts2 = rw facts2_are (plan_in_table commands after Two format brought.facts same stays are.facts);
      voids = rw no_voids (voids_stay commands c unvoided);
    }
      where
        of_dimension : (dim : Dim) → IsRowPlan (dimension_row commands dim) (dimension_row after dim) (rows_of_dimension dim edits)
        of_dimension Product = rw products_are (are.rows Product)
        of_dimension Store = rw stores_are (are.rows Store)
        of_dimension Customer = rw customers_are (are.rows Customer)
