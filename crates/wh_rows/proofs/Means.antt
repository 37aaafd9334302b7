-- Where a text has a meaning, and what a text that isn't understood does.
use Rattle.std.proofs.Common.{◌≡◌, ℕ, List, Bool, true, false, Result, Ok, refl, sym, ap, subst, ◌∙◌}
use Rattle.sqlite.specs.Order.{Row}
use Rattle.sqlite.specs.Tree.{Trees}
use Rattle.sqlite.specs.Schema.{Schema}
use Rattle.sqlite.specs.Listing.{understood}
use Rattle.sqlite.specs.State.{State, Executes, ExecutesIn, CommitsBy, Shown}
use Rattle.sqlite_resolve.specs.declared.compiled.Compiled.{Compiled}
use Rattle.sqlite_resolve.specs.declared.error.CompileError.{CompileError}
use Rattle.wh_policy.specs.declared.format.Format.{Format}
use Rattle.wh_policy.specs.declared.format.Format.TheVariants.{Two}
use Rattle.wh_rows.specs.declared.table.Table.{Table}
use Rattle.wh_rows.specs.declared.table.Table.TheVariants.{Meta, Command, Member, Change, Product, Store, Customer, Profile, Calendar, Fact, Fact2, Void}
use Rattle.wh_rows.specs.Names.{is_there}
use Rattle.wh_rows.specs.Meaning.{IsUnknown, Means}

-- the table is there, and the text means something; or it isn't, and the text isn't understood
pub means_or : {X It : Type 0} (read : Result Compiled CompileError) (is : Bool) → Means is It read → (is ≡ true → It → X) → (IsUnknown read → X) → X
means_or read true it f g = f refl it
means_or read false it f g = g it

-- a weaker meaning
pub means_weaker : {It Other : Type 0} (read : Result Compiled CompileError) (is : Bool) → (It → Other) → Means is It read → Means is Other read
means_weaker read true weaker it = weaker it
means_weaker read false weaker none = none

-- every table is there in the second format
pub there_in_second : (table : Table) → is_there table Two ≡ true
there_in_second Meta = refl
there_in_second Command = refl
there_in_second Member = refl
there_in_second Change = refl
there_in_second Product = refl
there_in_second Store = refl
there_in_second Customer = refl
there_in_second Profile = refl
there_in_second Calendar = refl
there_in_second Fact = refl
there_in_second Fact2 = refl
there_in_second Void = refl

pub in_second : (table : Table) (It : Format → Type 0) (read : Format → Result Compiled CompileError) → ((format : Format) → Means (is_there table format) (It format) (read format)) → It Two
in_second table It read means = subst (λ is. Means is (It Two) (read Two)) (there_in_second table) (means Two)

-- ---- what isn't understood

module _ (text : List ℕ) (params : Row) (old : State) (schema : Schema) (has : old.now.schema ≡ schema) (none : IsUnknown (understood schema text)) where
  no_statement : (c : Compiled) → understood old.now.schema text ≡ Ok c → ⊥
  no_statement c is = subst IsUnknown (sym (ap (λ s. understood s text) has) ∙ is) none

  -- it doesn't run
  pub never_runs : (new : State) (count : ℕ) → Executes text params old new (Ok count) → ⊥
  unfolding ExecutesIn
  never_runs new count ran = no_statement ran.0 ran.1.is

  -- it shows nothing
  pub never_shows : (new : State) (rows : List Row) → Shown text params old new rows → ⊥
  unfolding Shown
  never_shows new rows shown = no_statement shown.0 shown.1.is

  -- it commits nothing
  pub commits_nothing : (trees : Trees) → CommitsBy text params old trees → ⊥
  unfolding CommitsBy
  commits_nothing trees commits = no_statement commits.0 commits.1.is
