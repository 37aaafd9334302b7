-- One table after the other, to a verdict.
use Rattle.std.proofs.Common.{◌≡◌, ◌+◌, ◌≤◌, ◌<◌, ℕ, zero, suc, Bool, true, false, cond, nat_eq, List, [], ◌∷◌, Some, None, Ok, Err, Result, refl, sym, ap, subst, ◌∙◌, arith}
use Rattle.std.specs.Prelude.{nat_lt, slice_index_or}
use Rattle.wh_policy.specs.declared.format.Format.{Format}
use Rattle.wh_history.specs.Accepted.{Accepted}
use Rattle.wh_history.specs.Tables.{Limits}
use Rattle.wh_model.specs.Defined.{meta_at}
use Rattle.wh_rows.specs.AtRest.{IsAtRest}
use Rattle.wh_rows.specs.Raw.{Stored, HasDamageIn}
use Rattle.wh_rows.specs.declared.table.Table.{Table}
use Rattle.wh_rows.specs.declared.table.Table.TheVariants.{Meta, Command, Member, Change, Product, Store, Customer, Profile, Calendar, Fact, Fact2, Void}
use Rattle.wh_sql.specs.declared.fault.ReadFault.{ReadFault}
use Rattle.wh_sql.specs.declared.fault.ReadFault.TheVariants.{Memory, Damaged, Store as Refuses}
use Rattle.wh_admission.specs.Checked.{AreRowsAt, IsDefined, SaysLimits, SaysCommands, table_place, IsFirstWrong}
use Rattle.wh_checking.specs.Judged.{IsJudged}
use Rattle.wh_checking.specs.declared.verdict.Verdict.{Verdict}
use Rattle.wh_checking.specs.declared.verdict.Verdict.TheVariants.{Clean, Wrong}
use Rattle.sqlite_trees.specs.declared.store.Store.{Ghosts}
use Rattle.wh_rows.specs.Rows as row
use Rattle.wh_sql.specs.Reads.{IsOfDamage}
use Rattle.wh_sql.specs.Answers.{state_of}
use Rattle.wh_sql.specs.declared.at_rest.Tables.{Tables}
use Rattle.wh_checking.proofs.Assembling.{damaged_first, none_before_meta, meta_wrong, meta_before_command, command_wrong, defined_before, table_wrong, all_clean}
use Rattle.wh_checking.specs.Meta.{AreLimitsSaid}
use Rattle.wh_checking.specs.Judging.{IsDefinedIn, IsOfDamageIn}
use Rattle.wh_checking.specs.Replica.{HoldsAll, TellsNone, IsReplicated}

-- ---- places

of_place : ℕ → Table
of_place n =
    cond (nat_eq n 0) Meta (cond (nat_eq n 1) Command (cond (nat_eq n 2) Member (cond (nat_eq n 3) Change (cond (nat_eq n 4) Product (cond (nat_eq n 5) Store (cond (nat_eq n 6) Customer (cond (nat_eq n 7) Profile (cond (nat_eq n 8) Calendar (cond (nat_eq n 9) Fact (cond (nat_eq n 10) Fact2 Void))))))))))

placed_back : (t : Table) → of_place (table_place t) ≡ t
unfolding of_place
placed_back Meta = refl
placed_back Command = refl
placed_back Member = refl
placed_back Change = refl
placed_back Product = refl
placed_back Store = refl
placed_back Customer = refl
placed_back Profile = refl
placed_back Calendar = refl
placed_back Fact = refl
placed_back Fact2 = refl
placed_back Void = refl

same_place : (a b : Table) → table_place a ≡ table_place b → a ≡ b
same_place a b same = sym (placed_back a) ∙ ap of_place same ∙ placed_back b

below_twelve : (t : Table) → table_place t < 12
below_twelve Meta = omega arith
below_twelve Command = omega arith
below_twelve Member = omega arith
below_twelve Change = omega arith
below_twelve Product = omega arith
below_twelve Store = omega arith
below_twelve Customer = omega arith
below_twelve Profile = omega arith
below_twelve Calendar = omega arith
below_twelve Fact = omega arith
below_twelve Fact2 = omega arith
below_twelve Void = omega arith

is_lt : (m n : ℕ) → nat_lt m n ≡ true → m < n
is_lt m n h = grind (arith, h)

not_lt : (m n : ℕ) → nat_lt m n ≡ false → n ≤ m
not_lt m n h = grind (arith, h)

-- the table at a place after meta and the commands
abbrev pub other_at : ℕ → Table
other_at i = slice_index_or (Member ∷ Change ∷ Product ∷ Store ∷ Customer ∷ Profile ∷ Calendar ∷ Fact ∷ Fact2 ∷ Void ∷ []) i Meta

pub placed : (i : ℕ) → i < 10 → table_place (other_at i) ≡ i + 2
placed zero less = refl
placed (suc zero) less = refl
placed (suc (suc zero)) less = refl
placed (suc (suc (suc zero))) less = refl
placed (suc (suc (suc (suc zero)))) less = refl
placed (suc (suc (suc (suc (suc zero))))) less = refl
placed (suc (suc (suc (suc (suc (suc zero)))))) less = refl
placed (suc (suc (suc (suc (suc (suc (suc zero))))))) less = refl
placed (suc (suc (suc (suc (suc (suc (suc (suc zero)))))))) less = refl
placed (suc (suc (suc (suc (suc (suc (suc (suc (suc zero))))))))) less = refl
placed (suc (suc (suc (suc (suc (suc (suc (suc (suc (suc i)))))))))) less = absurd (omega (arith, less))

-- the tables before a place, but for meta and the commands, are as they are defined
abbrev pub AreDefinedTo : Limits → List Accepted → Stored → ℕ → Type 0
AreDefinedTo limits commands stored place = (earlier : Table) → 2 ≤ table_place earlier → table_place earlier < place → IsDefined limits commands stored earlier

pub none_yet : (limits : Limits) (commands : List Accepted) (stored : Stored) → AreDefinedTo limits commands stored 2
none_yet limits commands stored earlier from to = absurd (omega (arith, from, to))

pub one_more : (limits : Limits) (commands : List Accepted) (stored : Stored) (place next : ℕ) (table : Table) → next ≡ suc place → table_place table ≡ place → AreDefinedTo limits commands stored place → IsDefined limits commands stored table → AreDefinedTo limits commands stored next
one_more limits commands stored place next table follows is before here earlier from to = go (nat_lt (table_place earlier) place) refl
  where
    go : (b : Bool) → nat_lt (table_place earlier) place ≡ b → IsDefined limits commands stored earlier
    go true less = before earlier from (is_lt (table_place earlier) place less)
    go false more =
        let least = not_lt (table_place earlier) place more in
        let at : table_place table ≡ table_place earlier = omega (arith, least, to, follows, is) in
        subst (IsDefined limits commands stored) (same_place table earlier at) here

module _ (limits : Limits) (commands : List Accepted) (stored : Stored) (said : SaysCommands stored limits commands) where
  with_first : (place : ℕ) → AreDefinedTo limits commands stored place → (earlier : Table) → table_place earlier < place → IsDefined limits commands stored earlier
  with_first place rest Meta less = subst (λ (f : Format). AreRowsAt row.meta (meta_at f limits) (stored.rows Meta)) said.formatted said.said.defined
  with_first place rest Command less = said.defined
  with_first place rest Member less = rest Member (omega arith) less
  with_first place rest Change less = rest Change (omega arith) less
  with_first place rest Product less = rest Product (omega arith) less
  with_first place rest Store less = rest Store (omega arith) less
  with_first place rest Customer less = rest Customer (omega arith) less
  with_first place rest Profile less = rest Profile (omega arith) less
  with_first place rest Calendar less = rest Calendar (omega arith) less
  with_first place rest Fact less = rest Fact (omega arith) less
  with_first place rest Fact2 less = rest Fact2 (omega arith) less
  with_first place rest Void less = rest Void (omega arith) less

  pub clean_judged : AreDefinedTo limits commands stored 12 → IsJudged stored (Ok Clean)
  clean_judged rest = all_clean stored limits said.said commands said (λ table. with_first 12 rest table (below_twelve table))

  module _ (table : Table) (rest : AreDefinedTo limits commands stored (table_place table)) where
    pub wrong_judged : IsDefinedIn limits commands stored table false → IsJudged stored (Ok (Wrong table))
    wrong_judged isnt = (table_wrong stored limits said.said commands said table (with_first (table_place table) rest) isnt.0, isnt.1)

    pub fault_judged : (fault : ReadFault) → IsOfDamageIn stored table fault → IsJudged stored (Err fault)
    fault_judged Memory is = tt
    fault_judged (Refuses why) is = tt
    fault_judged (Damaged which) is =
        let damage = is.1 in
        let wrong = damaged_first stored table (defined_before stored limits said.said commands said table (with_first (table_place table) rest)) damage in
        subst (λ t. IsFirstWrong stored t × HasDamageIn stored t) (sym is.0) (wrong, damage)

-- a second warehouse that was read holds what it held
pub still_holds : {M : Type 0} (g : Ghosts M) (limits : Limits) (commands : List Accepted) (before after : Tables M) (holds : HoldsAll g limits commands before) → IsAtRest (Some holds.1.tables) (state_of g after) → HoldsAll g limits commands after
still_holds g limits commands before after holds rests = (holds.0, record { tables = holds.1.tables; are = holds.1.are; rests = rests })

-- ---- meta and the commands

pub meta_fault : (stored : Stored) (fault : ReadFault) → IsOfDamage row.meta Meta (stored.rows Meta) fault → IsJudged stored (Err fault)
meta_fault stored Memory is = tt
meta_fault stored (Refuses why) is = tt
meta_fault stored (Damaged which) is = subst (λ t. IsFirstWrong stored t × HasDamageIn stored t) (sym is.0) (damaged_first stored Meta (none_before_meta stored) is.1, is.1)

pub meta_none : (stored : Stored) → AreLimitsSaid stored None → IsJudged stored (Ok (Wrong Meta))
meta_none stored none = (meta_wrong stored none.0, none.1)

module _ (stored : Stored) (limits : Limits) (meta : SaysLimits stored limits) where
  pub command_fault : (fault : ReadFault) → IsOfDamage row.command Command (stored.rows Command) fault → IsJudged stored (Err fault)
  command_fault Memory is = tt
  command_fault (Refuses why) is = tt
  command_fault (Damaged which) is = subst (λ t. IsFirstWrong stored t × HasDamageIn stored t) (sym is.0) (damaged_first stored Command (meta_before_command stored limits meta) is.1, is.1)

  pub command_none : TellsNone stored limits → IsJudged stored (Ok (Wrong Command))
  command_none none = (command_wrong stored limits meta none.0, none.1)

  pub rest_judged : {M : Type 0} (g : Ghosts M) (tables : Tables M) (result : Result Verdict ReadFault) → IsReplicated g stored limits (Some tables)
      → ((others : Limits) (commands : List Accepted) → HoldsAll g others commands tables → SaysCommands stored others commands → IsJudged stored result) → IsJudged stored result
  rest_judged g tables result is judged = judged limits is.0 is.4 (record { said = meta; formatted = is.1; admitted = is.2; defined = is.3 })
