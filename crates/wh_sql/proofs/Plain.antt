-- A text that is no write with RETURNING by one schema is none by any.
use Rattle.std.proofs.Common.{◌≡◌, ◌≢◌, ℕ, List, Bool, true, false, Option, None, Some, IsSome, Ok, Err, length, refl, sym, ap, subst, ◌∙◌}
use Rattle.std.specs.Prelude.{if◌then◌else◌, ◌==◌}
use Rattle.sqlite_ast.specs.declared.Shown.{Shown}
use Rattle.sqlite_ast.specs.declared.Statement.{Statement}
use Rattle.sqlite_ast.specs.declared.Statement.TheVariants as written
use Rattle.sqlite_schema.specs.declared.command.Command.{Command}
use Rattle.sqlite_schema.specs.declared.command.Returning.{Returning}
use Rattle.sqlite_schema.specs.declared.schema.Schema.{Schema}
use Rattle.sqlite_resolve.specs.Body.{table_at}
use Rattle.sqlite_resolve.specs.Given.{returned}
use Rattle.sqlite_resolve.specs.Compile.{target, source_of, first, shows, returning, meaning, planned, with_command, compiled}
use Rattle.sqlite_resolve.specs.Lowering.{Checked, and_then}
use Rattle.sqlite_resolve.specs.declared.compiled.Compiled.{Compiled}
use Rattle.sqlite_resolve.specs.declared.error.CompileError.TheVariants.{NoSuchTable}
use Rattle.sqlite.specs.Given.{IsPlain, Returns}
use Rattle.sqlite.specs.Listing.{understood, reads_listing, listing_schema, if_select, is_select}

-- ---- a statement

passed_on : {A B : Type 0} (made : Checked A) (next : A → Checked (Option B)) → ((a : A) → next a ≢ Ok None) → and_then made next ≢ Ok None
passed_on (Ok a) next never none = never a none
passed_on (Err e) next never none = absurd cc

some_is : {A : Type 0} (made : Checked (Option A)) (a : A) → made ≡ Ok (Some a) → made ≢ Ok None
some_is made a is none = absurd cc

if_none : {A : Type 0} (is : Bool) (made other : Checked (Option A)) → made ≢ Ok None → (if is then Ok None else made) ≡ Ok None → (if is then Ok None else other) ≡ Ok None
if_none true made other never none = refl
if_none false made other never none = absurd (never none)

-- what a statement with RETURNING shows of each row
abbrev row_shown : Schema → ℕ → List ℕ → List Shown → Checked (Option Returning)
row_shown schema base name shown =
    and_then (target schema name) (λ at. and_then (table_at schema at) (λ table. and_then (returned schema table base shown) (λ r. and_then (source_of schema (length r.0) r.1) (λ s. Ok (Some (record { names = r.0; row = s }))))))

some_shown : (schema : Schema) (base : ℕ) (name : List ℕ) (shown : List Shown) → row_shown schema base name shown ≢ Ok None
some_shown schema base name shown =
    passed_on (target schema name) _ (λ at. passed_on (table_at schema at) _ (λ table. passed_on (returned schema table base shown) _ (λ r. passed_on (source_of schema (length r.0) r.1) _ (λ s. some_is _ (record { names = r.0; row = s }) refl))))

none_shown : (s t : Schema) (a b : ℕ) (name : List ℕ) (shown : List Shown) → shows s a name shown ≡ Ok None → shows t b name shown ≡ Ok None
unfolding shows
none_shown s t a b name shown = if_none (length shown == 0) (row_shown s a name shown) (row_shown t b name shown) (some_shown s a name shown)

none_returned : (s t : Schema) (a b : ℕ) (statement : Statement) → returning s a statement ≡ Ok None → returning t b statement ≡ Ok None
unfolding returning
none_returned s t a b (written.Insert how name columns rows clauses shown) none = none_shown s t a b name shown none
none_returned s t a b (written.Update name sets test shown) none = none_shown s t a b name shown none
none_returned s t a b (written.Delete name test shown) none = none_shown s t a b name shown none
none_returned s t a b _ none = refl

-- ---- what is compiled of it

module _ (compile : List (List ℕ) × (Command × Option Returning) → Compiled) (keeps : (plan : List (List ℕ) × (Command × Option Returning)) → (compile plan).returning ≡ plan.1.1) (formats : List (List ℕ)) where
  abbrev compiled_of : Checked (Option Returning) → Checked Command → Checked Compiled
  compiled_of shown command = and_then (and_then (and_then shown (λ s. and_then command (λ c. Ok (c, s)))) (λ found. Ok (formats, found))) (λ plan. Ok (compile plan))

  shows_none : (shown : Checked (Option Returning)) (command : Checked Command) → IsPlain (compiled_of shown command) → shown ≡ Ok None
  shows_none (Ok s) (Ok c) plain = ap Ok (sym (keeps (formats, (c, s))) ∙ plain.0)
  shows_none (Ok s) (Err e) plain = absurd plain
  shows_none (Err e) command plain = absurd plain

  returns_none : (shown : Checked (Option Returning)) (command : Checked Command) → shown ≡ Ok None → ¬ Returns (compiled_of shown command)
  returns_none (Ok None) (Ok c) none some = absurd (let it = subst (λ (s : Option Returning). IsSome s) (keeps (formats, (c, None))) some in cc)
  returns_none (Ok (Some s)) command none some = absurd cc
  returns_none (Ok None) (Err e) none some = some
  returns_none (Err e) command none some = some

compiled_plain : (s t : Schema) (text : List ℕ) → IsPlain (compiled s text) → ¬ Returns (compiled t text)
unfolding compiled planned meaning
compiled_plain s t text = elim (first text) as (λ r. IsPlain (and_then r (λ p. and_then (planned s p) (λ plan. Ok (with_command p plan)))) → ¬ Returns (and_then r (λ p. and_then (planned t p) (λ plan. Ok (with_command p plan))))) [
  | Ok p ↦ λ plain. returns_none (with_command p) (λ plan. refl) _ _ _ (none_returned s t _ _ p.statement (shows_none (with_command p) (λ plan. refl) _ _ _ plain))
  | Err e ↦ λ plain. absurd plain
]

-- ---- what is understood of a text

plain_select : (r : Checked Compiled) → IsPlain (if_select r) → IsPlain r
plain_select (Ok c) = elim (is_select c.command) as (λ b. IsPlain (if b then Ok c else Err NoSuchTable) → IsPlain (Ok c)) [ true ↦ λ plain. plain | false ↦ λ plain. absurd plain ]
plain_select (Err e) = λ plain. plain

returns_select : (r : Checked Compiled) → Returns (if_select r) → Returns r
returns_select (Ok c) = elim (is_select c.command) as (λ b. Returns (if b then Ok c else Err NoSuchTable) → IsSome c.returning) [ true ↦ λ some. some | false ↦ λ some. absurd some ]
returns_select (Err e) = λ some. some

plain_by : (s : Schema) (text : List ℕ) → IsPlain (understood s text) → (by : Schema) × IsPlain (compiled by text)
unfolding understood
plain_by s text = elim (reads_listing s text) as (λ b. IsPlain (if b then if_select (compiled listing_schema text) else compiled s text) → (by : Schema) × IsPlain (compiled by text)) [
  | true ↦ λ plain. (listing_schema, plain_select _ plain)
  | false ↦ λ plain. (s, plain)
]

returns_by : (s : Schema) (text : List ℕ) → Returns (understood s text) → (by : Schema) × Returns (compiled by text)
unfolding understood
returns_by s text = elim (reads_listing s text) as (λ b. Returns (if b then if_select (compiled listing_schema text) else compiled s text) → (by : Schema) × Returns (compiled by text)) [
  | true ↦ λ some. (listing_schema, returns_select _ some)
  | false ↦ λ some. (s, some)
]

pub plain_returns_nothing : (schema : Schema) (text : List ℕ) → IsPlain (understood schema text) → (other : Schema) → ¬ Returns (understood other text)
plain_returns_nothing schema text plain other some =
    let one = plain_by schema text plain in
    let two = returns_by other text some in
    compiled_plain one.0 two.0 text one.1 two.1
