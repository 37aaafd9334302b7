-- What is stored says one list of commands at most, so which table is the first that isn't as it should be is one question.
use Rattle.std.proofs.Common.{◌≡◌, ℕ, ℤ, suc, List, [], ◌∷◌, ◌++◌, map, Option, Some, None, Result, Ok, refl, sym, ap, subst, ◌∙◌}
use Rattle.std.specs.Prelude.{slice_get, option_map, codes, pos}
use Rattle.wh_policy.specs.declared.attribute.Dim.TheVariants.{Product as Products, Store as Stores, Customer as Customers}
use Rattle.wh_policy.specs.declared.format.Format.{Format}
use Rattle.wh_policy.specs.declared.policy.Policy.{Policy}
use Rattle.wh_policy.specs.declared.fault.PolicyFault.{PolicyFault}
use Rattle.wh_policy.specs.Policy.{read_policy}
use Rattle.wh_batch.specs.BatchKind.{command_kind_word, command_kind_of_word}
use Rattle.wh_batch.specs.declared.kind.BatchKind.TheVariants.{Dimension, Sales, Voids}
use Rattle.wh_batch.specs.declared.kind.CommandKind.{CommandKind}
use Rattle.wh_batch.specs.declared.kind.CommandKind.TheVariants.{Batch, Migration, Upgrade}
use Rattle.wh_history.specs.Accepted.{Accepted, Content, records_by, placeholders_by, format_of}
use Rattle.wh_history.specs.Tables as history
use Rattle.wh_admission.specs.declared.command.Refusal.{Refusal}
use Rattle.wh_history.specs.Keys.{at_place}
use Rattle.wh_history.specs.Tables.{Limits, meta_value}
use Rattle.wh_history.proofs.Basics.{some_is}
use Rattle.wh_model.specs.Defined.{meta_at, command_at}
use Rattle.wh_rows.specs.declared.rows.MetaRow.{MetaRow}
use Rattle.wh_rows.specs.declared.rows.CommandRow.{CommandRow}
use Rattle.wh_rows.specs.declared.table.Table.{Table}
use Rattle.wh_rows.specs.declared.table.Table.TheVariants.{Meta, Command, Member, Change, Product, Store, Customer, Profile, Calendar, Fact, Fact2, Void}
use Rattle.wh_rows.specs.Raw.{Stored, HasDamageIn}
use Rattle.wh_rows.specs.Rows as row
use Rattle.wh_model.specs.Sound.{init_of}
use Rattle.wh_model.proofs.GrownCommands.{command_keyed}
use Rattle.wh_model.proofs.GrownKeys.{keyed_map}
use Rattle.wh_rows.proofs.Places as places
use Rattle.wh_admission.specs.Admission.{current_policy, content_of, AreAdmitted}
use Rattle.wh_admission.specs.Steps.{ComeAfter, AreStepped}
use Rattle.wh_admission.specs.Checked.{AreRowsAt, IsDefined, IsSoundStored, SaysCommands, IsAsCommanded, IsRight, SoundIsEachRight, DamageIsWrong, CommandsAreOne}
use Rattle.wh_admission.proofs.AdmittedSteps.{stepped}
use Rattle.wh_admission.proofs.StoredMaps.{same_function, undamaged}

-- ---- limits

pub meta_keyed : (format : Format) (limits : Limits) (name : List ℕ) (v : MetaRow) → meta_at format limits name ≡ Some v → row.meta.key v ≡ name
meta_keyed format limits name v is = keyed_map row.meta.key name (λ (value : ℕ). record { name = name; value = pos value }) (λ _. refl) (meta_value format limits name) v is

number_of : Option MetaRow → ℤ
number_of None = pos 0
number_of (Some r) = r.value

natural_of : ℤ → ℕ
natural_of (pos n) = n
natural_of _ = 0

same_numbers : (m n : ℕ) → pos m ≡ pos n → m ≡ n
unfolding natural_of
same_numbers m n is = ap natural_of is

pub limits_are_one : (stored : Stored) (format : Format) (limits others : Limits) → AreRowsAt row.meta (meta_at format limits) (stored.rows Meta) → AreRowsAt row.meta (meta_at format others) (stored.rows Meta) → limits ≡ others
unfolding number_of
limits_are_one stored format limits others first second =
    let same = same_function row.meta places.meta.total (stored.rows Meta) places.meta.once (meta_at format limits) (meta_at format others) first second (meta_keyed format limits) (meta_keyed format others) in
    let commands : limits.commands ≡ others.commands = same_numbers _ _ (ap number_of (same (codes "commands_max"))) in
    let changes : limits.changes ≡ others.changes = same_numbers _ _ (ap number_of (same (codes "changes_max"))) in
    let facts : limits.facts ≡ others.facts = same_numbers _ _ (ap number_of (same (codes "facts_max"))) in
    λ i. record { commands = commands i; changes = changes i; facts = facts i }

-- ---- commands

abbrev pub header : Accepted → List (List ℕ)
header a = a.id ∷ a.kind ∷ a.bytes ∷ []

header_of : Option CommandRow → Option (List (List ℕ))
header_of None = None
header_of (Some r) = Some (r.id ∷ r.kind ∷ r.bytes ∷ [])

header_at : (commands : List Accepted) (number : ℕ) → header_of (command_at commands number) ≡ option_map header (at_place number commands)
unfolding header_of
header_at commands number = go (at_place number commands)
  where
    go : (o : Option Accepted) → header_of (option_map (λ (c : history.CommandRow). record { number = number; id = c.id; kind = c.kind; bytes = c.bytes; records = c.records; placeholders = c.placeholders })
        (option_map (λ (c : Accepted). record { id = c.id; kind = c.kind; bytes = c.bytes; records = records_by c.content; placeholders = placeholders_by commands number c.content }) o)) ≡ option_map header o
    go None = refl
    go (Some a) = refl

-- lists that have the same at each place are the same
lists_same : {X Y : Type 0} (f : X → Y) (xs ys : List X) → ((n : ℕ) → option_map f (slice_get xs n) ≡ option_map f (slice_get ys n)) → map f xs ≡ map f ys
lists_same f [] [] each = refl
lists_same f [] (y ∷ ys) each = absurd (let first = each 0 in cc)
lists_same f (x ∷ xs) [] each = absurd (let first = each 0 in cc)
lists_same f (x ∷ xs) (y ∷ ys) each =
    let first : f x ≡ f y = some_is (f x) (f y) (each 0) in
    let rest = lists_same f xs ys (λ n. each (suc n)) in
    λ i. first i ∷ rest i

pub kind_again : (kind : CommandKind) → command_kind_of_word (command_kind_word kind) ≡ Some kind
kind_again (Batch (Dimension Products)) = refl
kind_again (Batch (Dimension Stores)) = refl
kind_again (Batch (Dimension Customers)) = refl
kind_again (Batch Sales) = refl
kind_again (Batch Voids) = refl
kind_again Migration = refl
kind_again Upgrade = refl

pub same_kind : (kind other : CommandKind) → command_kind_word kind ≡ command_kind_word other → kind ≡ other
same_kind kind other is = some_is kind other (sym (kind_again kind) ∙ ap command_kind_of_word is ∙ kind_again other)

-- what is read as two contents is read as one
pub ok_is : (x y : Content) → ◌≡◌ {A = Result Content Refusal} (Ok x) (Ok y) → x ≡ y
ok_is x y h = cc

policy_is : (x y : Policy) → ◌≡◌ {A = Result Policy PolicyFault} (Ok x) (Ok y) → x ≡ y
policy_is x y h = cc

record SameParts (a b : Accepted) : Type 0 where
  id : a.id ≡ b.id
  kind : a.kind ≡ b.kind
  bytes : a.bytes ≡ b.bytes

parts_of : (a b : Accepted) → header a ≡ header b → SameParts a b
parts_of a b same = record { id = cc; kind = cc; bytes = cc }

same_command : (a b : Accepted) → SameParts a b → a.content ≡ b.content → a ≡ b
same_command a b same content = λ i. record { id = same.id i; kind = same.kind i; bytes = same.bytes i; content = content i }

-- what comes after some commands is told by ids, kinds and bytes
same_after : (limits : Limits) (before later others : List Accepted) → ComeAfter limits before later → ComeAfter limits before others → map header later ≡ map header others → later ≡ others
same_after limits before [] [] come more same = refl
same_after limits before [] (b ∷ others) come more same = absurd cc
same_after limits before (a ∷ later) [] come more same = absurd cc
same_after limits before (a ∷ later) (b ∷ others) come more same =
    let parts = parts_of a b cc in
    let kind : come.0.kind ≡ more.0.kind = same_kind come.0.kind more.0.kind (sym come.0.kind_is ∙ parts.kind ∙ more.0.kind_is) in
    let content : a.content ≡ b.content = ok_is a.content b.content (sym come.0.read ∙ (λ i. content_of (kind i) (format_of before) (current_policy before) (parts.bytes i)) ∙ more.0.read) in
    let one = same_command a b parts content in
    let rest = same_after limits (before ++ a ∷ []) later others come.1 (subst (λ (x : Accepted). ComeAfter limits (before ++ x ∷ []) others) (sym one) more.1) cc in
    λ i. one i ∷ rest i

both_begin : (a b : Accepted) (later others : List Accepted) → map header (a ∷ later) ≡ map header (b ∷ others) → SameParts a b × (map header later ≡ map header others)
both_begin a b later others same = (parts_of a b cc, cc)

by_steps : (limits : Limits) (commands told : List Accepted) → AreStepped limits commands → AreStepped limits told → map header commands ≡ map header told → commands ≡ told
by_steps limits commands told one two same =
    let first = init_of one.policy one.bytes in
    let second = init_of two.policy two.bytes in
    let parts = both_begin first second one.later two.later (sym (ap (map header) one.begins) ∙ same ∙ ap (map header) two.begins) in
    let policy : one.policy ≡ two.policy = policy_is one.policy two.policy (sym one.written ∙ ap read_policy parts.0.bytes ∙ two.written) in
    let making : first ≡ second = λ i. init_of (policy i) (parts.0.bytes i) in
    let later = same_after limits (first ∷ []) one.later two.later one.come (subst (λ (m : Accepted). ComeAfter limits (m ∷ []) two.later) (sym making) two.come) parts.1 in
    one.begins ∙ (λ i. making i ∷ later i) ∙ sym two.begins

-- two admitted lists of the same ids, kinds and bytes are one
pub told_by_headers : (limits : Limits) (commands told : List Accepted) → AreAdmitted limits commands → AreAdmitted limits told → map header commands ≡ map header told → commands ≡ told
told_by_headers limits commands told it other same = by_steps limits commands told (stepped limits commands it) (stepped limits told other) same

pub commands_told : (stored : Stored) (limits : Limits) (commands told : List Accepted) → AreAdmitted limits commands → AreAdmitted limits told → AreRowsAt row.command (command_at commands) (stored.rows Command) → AreRowsAt row.command (command_at told) (stored.rows Command) → commands ≡ told
commands_told stored limits commands told it other first second =
    let same = same_function row.command places.command.total (stored.rows Command) places.command.once (command_at commands) (command_at told) first second (command_keyed commands) (command_keyed told) in
    told_by_headers limits commands told it other (lists_same header commands told (λ n. sym (header_at commands (suc n)) ∙ ap header_of (same (suc n)) ∙ header_at told (suc n)))

pub commands_are_one : CommandsAreOne
commands_are_one stored limits others commands told first second =
    let same = limits_are_one stored stored.format limits others first.said.defined second.said.defined in
    (same, commands_told stored limits commands told first.admitted (subst (λ l. AreAdmitted l told) (sym same) second.admitted) first.defined second.defined)

-- ---- sound is each right

as_commanded : (stored : Stored) (table : Table) (limits : Limits) (commands : List Accepted) → SaysCommands stored limits commands → IsDefined limits commands stored table → IsAsCommanded stored table
as_commanded stored table limits commands said defined = record { limits = limits; commands = commands; said = said; defined = defined }

-- a table that is as it should be is what these commands define
pub defined_by : (stored : Stored) (table : Table) (limits : Limits) (commands : List Accepted) → SaysCommands stored limits commands → IsAsCommanded stored table → IsDefined limits commands stored table
defined_by stored table limits commands said right =
    let same = commands_are_one stored right.limits limits right.commands commands right.said said in
    subst (λ l. IsDefined l commands stored table) same.0 (subst (λ c. IsDefined right.limits c stored table) same.1 right.defined)

pub right_from : (stored : Stored) (limits : Limits) (commands : List Accepted) → SaysCommands stored limits commands → (table : Table) → IsDefined limits commands stored table → IsRight stored table
right_from stored limits commands said Meta defined = (limits, said.said)
right_from stored limits commands said Command defined = (limits, commands, said)
right_from stored limits commands said Member defined = as_commanded stored Member limits commands said defined
right_from stored limits commands said Change defined = as_commanded stored Change limits commands said defined
right_from stored limits commands said Product defined = as_commanded stored Product limits commands said defined
right_from stored limits commands said Store defined = as_commanded stored Store limits commands said defined
right_from stored limits commands said Customer defined = as_commanded stored Customer limits commands said defined
right_from stored limits commands said Profile defined = as_commanded stored Profile limits commands said defined
right_from stored limits commands said Calendar defined = as_commanded stored Calendar limits commands said defined
right_from stored limits commands said Fact defined = as_commanded stored Fact limits commands said defined
right_from stored limits commands said Fact2 defined = as_commanded stored Fact2 limits commands said defined
right_from stored limits commands said Void defined = as_commanded stored Void limits commands said defined

pub defined_from : (stored : Stored) (limits : Limits) (commands : List Accepted) → SaysCommands stored limits commands → (table : Table) → IsRight stored table → IsDefined limits commands stored table
defined_from stored limits commands said Meta right = subst (λ (f : Format). AreRowsAt row.meta (meta_at f limits) (stored.rows Meta)) said.formatted said.said.defined
defined_from stored limits commands said Command right = said.defined
defined_from stored limits commands said Member right = defined_by stored Member limits commands said right
defined_from stored limits commands said Change right = defined_by stored Change limits commands said right
defined_from stored limits commands said Product right = defined_by stored Product limits commands said right
defined_from stored limits commands said Store right = defined_by stored Store limits commands said right
defined_from stored limits commands said Customer right = defined_by stored Customer limits commands said right
defined_from stored limits commands said Profile right = defined_by stored Profile limits commands said right
defined_from stored limits commands said Calendar right = defined_by stored Calendar limits commands said right
defined_from stored limits commands said Fact right = defined_by stored Fact limits commands said right
defined_from stored limits commands said Fact2 right = defined_by stored Fact2 limits commands said right
defined_from stored limits commands said Void right = defined_by stored Void limits commands said right

says_of_sound : (stored : Stored) (it : IsSoundStored stored) → SaysCommands stored it.limits it.commands
says_of_sound stored it = record {
  said = record { good = it.admitted.limited; defined = subst (λ (f : Format). AreRowsAt row.meta (meta_at f it.limits) (stored.rows Meta)) (sym it.formatted) (it.each Meta) };
  formatted = it.formatted;
  admitted = it.admitted;
  defined = it.each Command;
}

pub sound_is_each_right : SoundIsEachRight
sound_is_each_right stored = (
  λ it table. right_from stored it.limits it.commands (says_of_sound stored it) table (it.each table),
  λ right.
      let (limits, commands, said) = right Command in
      record { limits = limits; commands = commands; admitted = said.admitted; formatted = said.formatted; each = λ table. defined_from stored limits commands said table (right table) },
)

-- ---- damage

undamaged_in : (stored : Stored) (table : Table) (limits : Limits) (commands : List Accepted) → IsDefined limits commands stored table → ¬ HasDamageIn stored table
undamaged_in stored Meta limits commands are = undamaged row.meta places.meta.total (stored.rows Meta) _ are
undamaged_in stored Command limits commands are = undamaged row.command places.command.total (stored.rows Command) (command_at commands) are
undamaged_in stored Member limits commands are = undamaged row.member places.member.total (stored.rows Member) _ are
undamaged_in stored Change limits commands are = undamaged row.change places.change.total (stored.rows Change) _ are
undamaged_in stored Product limits commands are = undamaged row.product places.product.total (stored.rows Product) _ are
undamaged_in stored Store limits commands are = undamaged row.store places.store.total (stored.rows Store) _ are
undamaged_in stored Customer limits commands are = undamaged row.customer places.customer.total (stored.rows Customer) _ are
undamaged_in stored Profile limits commands are = undamaged row.profile places.profile.total (stored.rows Profile) _ are
undamaged_in stored Calendar limits commands are = undamaged row.calendar places.calendar.total (stored.rows Calendar) _ are
undamaged_in stored Fact limits commands are = undamaged row.fact places.fact.total (stored.rows Fact) _ are
undamaged_in stored Fact2 limits commands are = undamaged row.fact2 places.fact2.total (stored.rows Fact2) _ are
undamaged_in stored Void limits commands are = undamaged row.void places.void.total (stored.rows Void) _ are

commanded_undamaged : (stored : Stored) (table : Table) → IsAsCommanded stored table → ¬ HasDamageIn stored table
commanded_undamaged stored table right = undamaged_in stored table right.limits right.commands right.defined

pub damage_is_wrong : DamageIsWrong
damage_is_wrong stored Meta damage right = undamaged row.meta places.meta.total (stored.rows Meta) _ right.1.defined damage
damage_is_wrong stored Command damage right = undamaged row.command places.command.total (stored.rows Command) (command_at right.1) right.2.defined damage
damage_is_wrong stored Member damage right = commanded_undamaged stored Member right damage
damage_is_wrong stored Change damage right = commanded_undamaged stored Change right damage
damage_is_wrong stored Product damage right = commanded_undamaged stored Product right damage
damage_is_wrong stored Store damage right = commanded_undamaged stored Store right damage
damage_is_wrong stored Customer damage right = commanded_undamaged stored Customer right damage
damage_is_wrong stored Profile damage right = commanded_undamaged stored Profile right damage
damage_is_wrong stored Calendar damage right = commanded_undamaged stored Calendar right damage
damage_is_wrong stored Fact damage right = commanded_undamaged stored Fact right damage
damage_is_wrong stored Fact2 damage right = commanded_undamaged stored Fact2 right damage
damage_is_wrong stored Void damage right = commanded_undamaged stored Void right damage
