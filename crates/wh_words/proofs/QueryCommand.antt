-- What clap makes of the words of a query, which has any number of columns and conditions.
use Rattle.std.proofs.Common.{◌≡◌, [], ◌∷◌, ◌++◌, List, Bool, refl, subst, true, false, codes, Some, None, append_assoc}
use Rattle.std.specs.List.{list_all}
use Rattle.clap.specs.Words.{Row, Shape, Text, new_rule}
use Rattle.clap.specs.Walk.{Walk, finished, idle, option, positional, reading_by}
use Rattle.clap.specs.declared.builder.value_parser.ValueParser.TheVariants.{Bool as Truth}
use Rattle.clap.specs.declared.parser.matches.ValueSource.TheVariants.{CommandLine as ByCommandLine}
use Rattle.wh_words.specs.CommandLine.{Slice, condition_words, extra_words, given_to, is_operand, is_taken, has_some, table_words}
use Rattle.wh_words.specs.Given.{given_by}
use Rattle.wh_words.specs.Task.{Columns, asks_of, query_command}
use Rattle.wh_words.proofs.CommandWords.{IsRead, read_by}
use Rattle.wh_words.proofs.Program.{IsFound, commands_on_literals, leaf}
use Rattle.wh_words.proofs.Reading.{Goes, Steps, end_fault, goes_nowhere, goes_on, operands_go, start, takes}
use Rattle.wh_history.proofs.Basics.{both_true}
use Rattle.wh_rows.proofs.ColumnLemmas.{both}

-- ---- the walk over the words of a query

abbrev query_leaf : Shape
query_leaf = leaf query_command

pub query_found : IsFound query_command
unfolding commands_on_literals
query_found = refl

-- what was given for an argument, if anything was
abbrev row : Text → List Text → Row
row id values = record { id = id; values = values; count = None; source = Some ByCommandLine; reading = reading_by (new_rule id) }

abbrev given : Text → List Text → List Row
given id [] = []
given id (v ∷ vs) = row id (v ∷ vs) ∷ []

-- `--table` was given
abbrev table_row : Row
table_row = record (row (codes "TABLE") (codes "true" ∷ [])) { reading = reading_by (record (new_rule (codes "TABLE")) { parser = Some Truth }) }

module _ (f d t : Text) where
  abbrev base : List Row
  base = row (codes "FILE") (f ∷ []) ∷ row (codes "FROM") (d ∷ []) ∷ row (codes "TO") (t ∷ []) ∷ []

  -- after a column, with those before it
  abbrev by_state : List Text → Text → Walk
  by_state bs b = record {
    held = record { rows = base ++ given (codes "BY") bs; pending = Some (codes "BY", b ∷ []); skip = 0 };
    waiting = positional;
    position = 4;
    is_trailing = false;
    stopped = None;
  }

  -- after a condition, with those before it
  abbrev where_state : List Text → List Text → Text → Walk
  where_state bs ws w = record {
    held = record { rows = base ++ row (codes "BY") bs ∷ given (codes "WHERE") ws; pending = Some (codes "WHERE", w ∷ []); skip = 0 };
    waiting = idle;
    position = 4;
    is_trailing = false;
    stopped = None;
  }

  -- after `--where`
  abbrev asked_state : List Text → List Text → Walk
  asked_state bs ws = record {
    held = record { rows = base ++ row (codes "BY") bs ∷ given (codes "WHERE") ws; pending = Some (codes "WHERE", []); skip = 0 };
    waiting = option (codes "WHERE");
    position = 4;
    is_trailing = false;
    stopped = None;
  }

  -- after `--table`
  abbrev table_state : List Text → List Text → Walk
  table_state bs ws = record {
    held = record { rows = base ++ row (codes "BY") bs ∷ (given (codes "WHERE") ws ++ table_row ∷ []); pending = None; skip = 0 };
    waiting = idle;
    position = 4;
    is_trailing = false;
    stopped = None;
  }

  one_column : (bs : List Text) (b x : Text) → is_operand x ≡ true → Steps query_leaf (by_state bs b) x (by_state (bs ++ b ∷ []) x)
  unfolding commands_on_literals
  one_column [] b x is = takes query_leaf (by_state [] b) x is refl refl refl
  one_column (c ∷ bs) b x is = takes query_leaf (by_state (c ∷ bs) b) x is refl refl refl

  first_where : (bs : List Text) (b : Text) → Steps query_leaf (by_state bs b) (codes "--where") (asked_state (bs ++ b ∷ []) [])
  unfolding commands_on_literals
  first_where [] b = record { walks = refl; passes = refl }
  first_where (c ∷ bs) b = record { walks = refl; passes = refl }

  next_where : (bs ws : List Text) (w : Text) → Steps query_leaf (where_state bs ws w) (codes "--where") (asked_state bs (ws ++ w ∷ []))
  unfolding commands_on_literals
  next_where bs [] w = record { walks = refl; passes = refl }
  next_where bs (v ∷ ws) w = record { walks = refl; passes = refl }

  one_condition : (bs ws : List Text) (w : Text) → is_operand w ≡ true → Steps query_leaf (asked_state bs ws) w (where_state bs ws w)
  unfolding commands_on_literals
  one_condition bs [] w is = takes query_leaf (asked_state bs []) w is refl refl refl
  one_condition bs (v ∷ ws) w is = takes query_leaf (asked_state bs (v ∷ ws)) w is refl refl refl

  table_first : (bs : List Text) (b : Text) → Steps query_leaf (by_state bs b) (codes "--table") (table_state (bs ++ b ∷ []) [])
  unfolding commands_on_literals
  table_first [] b = record { walks = refl; passes = refl }
  table_first (c ∷ bs) b = record { walks = refl; passes = refl }

  table_next : (bs ws : List Text) (w : Text) → Steps query_leaf (where_state bs ws w) (codes "--table") (table_state bs (ws ++ w ∷ []))
  unfolding commands_on_literals
  table_next bs [] w = record { walks = refl; passes = refl }
  table_next bs (v ∷ ws) w = record { walks = refl; passes = refl }

  -- nothing is wrong at the end, and the query is this
  pub record Ends (end : Walk) (columns conditions : List Text) (as_table : Bool) : Type 0 where
    settles : end_fault query_leaf end ≡ []
    asks : asks_of query_command (given_by (finished query_leaf.rules end.held)) ≡ asks_of query_command (given_to query_command (f ∷ d ∷ t ∷ []) (Slice columns conditions as_table))

  by_ends : (bs : List Text) (b : Text) → Ends (by_state bs b) (bs ++ b ∷ []) [] false
  unfolding commands_on_literals
  by_ends [] b = record { settles = refl; asks = refl }
  by_ends (c ∷ bs) b = record { settles = refl; asks = refl }

  where_ends : (bs ws : List Text) (w : Text) → Ends (where_state bs ws w) bs (ws ++ w ∷ []) false
  unfolding commands_on_literals
  where_ends bs [] w = record { settles = refl; asks = refl }
  where_ends bs (v ∷ ws) w = record { settles = refl; asks = refl }

  table_ends : (bs ws : List Text) → Ends (table_state bs ws) bs ws true
  unfolding commands_on_literals
  table_ends bs [] = record { settles = refl; asks = refl }
  table_ends bs (v ∷ ws) = record { settles = refl; asks = refl }

  -- the walk over words ends so
  pub record Reads (from : Walk) (words columns conditions : List Text) (as_table : Bool) : Type 0 where
    end : Walk
    goes : Goes query_leaf from words end
    ends : Ends end columns conditions as_table

  reads_on : (s u : Walk) (word : Text) (words columns conditions : List Text) (as_table : Bool) → Steps query_leaf s word u → Reads u words columns conditions as_table → Reads s (word ∷ words) columns conditions as_table
  reads_on s u word words columns conditions as_table step reads = record { end = reads.end; goes = goes_on query_leaf s u reads.end word words step reads.goes; ends = reads.ends }

  table_read : (bs ws : List Text) → Reads (table_state bs ws) [] bs ws true
  table_read bs ws = record { end = table_state bs ws; goes = goes_nowhere query_leaf (table_state bs ws); ends = table_ends bs ws }

  conditions_read : (bs ws : List Text) (w : Text) (more : List Text) (as_table : Bool) → list_all is_operand more ≡ true → Reads (where_state bs ws w) (condition_words more ++ table_words as_table) bs (ws ++ w ∷ more) as_table
  conditions_read bs ws w [] false is = record { end = where_state bs ws w; goes = goes_nowhere query_leaf (where_state bs ws w); ends = where_ends bs ws w }
  conditions_read bs ws w [] true is = reads_on _ _ _ _ _ _ _ (table_next bs ws w) (table_read bs (ws ++ w ∷ []))
  conditions_read bs ws w (x ∷ more) as_table is =
      let x-is = both_true (is_operand x) _ is in
      reads_on _ _ _ _ _ _ _ (next_where bs ws w) (reads_on _ _ _ _ _ _ _ (one_condition bs (ws ++ w ∷ []) x x-is.0)
      (subst (λ (found : List Text). Reads (where_state bs (ws ++ w ∷ []) x) (condition_words more ++ table_words as_table) bs found as_table) (append_assoc ws (w ∷ []) (x ∷ more)) (conditions_read bs (ws ++ w ∷ []) x more as_table x-is.1)))

  columns_read : (bs : List Text) (b : Text) (more conditions : List Text) (as_table : Bool) → list_all is_operand more ≡ true → list_all is_operand conditions ≡ true
      → Reads (by_state bs b) (more ++ (condition_words conditions ++ table_words as_table)) (bs ++ b ∷ more) conditions as_table
  columns_read bs b [] [] false is others = record { end = by_state bs b; goes = goes_nowhere query_leaf (by_state bs b); ends = by_ends bs b }
  columns_read bs b [] [] true is others = reads_on _ _ _ _ _ _ _ (table_first bs b) (table_read (bs ++ b ∷ []) [])
  columns_read bs b [] (w ∷ ws) as_table is others =
      let w-is = both_true (is_operand w) _ others in
      reads_on _ _ _ _ _ _ _ (first_where bs b) (reads_on _ _ _ _ _ _ _ (one_condition (bs ++ b ∷ []) [] w w-is.0) (conditions_read (bs ++ b ∷ []) [] w ws as_table w-is.1))
  columns_read bs b (x ∷ more) conditions as_table is others =
      let x-is = both_true (is_operand x) _ is in
      reads_on _ _ _ _ _ _ _ (one_column bs b x x-is.0)
      (subst (λ (found : List Text). Reads (by_state (bs ++ b ∷ []) x) (more ++ (condition_words conditions ++ table_words as_table)) found conditions as_table) (append_assoc bs (b ∷ []) (x ∷ more)) (columns_read (bs ++ b ∷ []) x more conditions as_table x-is.1 others))

-- the words of a query are read as its columns and conditions, the first column behind three operands
query_read : (f d t b : Text) (more conditions : List Text) (as_table : Bool) → list_all is_operand (f ∷ d ∷ t ∷ b ∷ []) ≡ true → list_all is_operand more ≡ true → list_all is_operand conditions ≡ true
    → IsRead (codes "query" ∷ f ∷ d ∷ t ∷ b ∷ (more ++ (condition_words conditions ++ table_words as_table))) (asks_of query_command (given_to query_command (f ∷ d ∷ t ∷ []) (Slice (b ∷ more) conditions as_table)))
unfolding commands_on_literals
query_read f d t b more conditions as_table first are others =
    let words = more ++ (condition_words conditions ++ table_words as_table) in
    let reads = columns_read f d t [] b more conditions as_table are others in
    read_by query_command query_found (f ∷ d ∷ t ∷ b ∷ words) reads.end (given_to query_command (f ∷ d ∷ t ∷ []) (Slice (b ∷ more) conditions as_table))
    (operands_go query_leaf start reads.end (f ∷ d ∷ t ∷ b ∷ []) words first refl refl reads.goes) reads.ends.settles reads.ends.asks

pub query_is_read : (f d t : Text) (columns conditions : List Text) (as_table : Bool) → list_all is_operand (f ∷ d ∷ t ∷ []) ≡ true → is_taken Columns (Slice columns conditions as_table) ≡ true
    → IsRead (codes "query" ∷ f ∷ d ∷ t ∷ extra_words (Slice columns conditions as_table)) (asks_of query_command (given_to query_command (f ∷ d ∷ t ∷ []) (Slice columns conditions as_table)))
query_is_read f d t columns conditions as_table first is =
    let some = both_true (has_some columns) _ is in
    let are = both_true (list_all is_operand columns) _ some.1 in
    by columns some.0 are.0 are.1
  where
    by : (columns : List Text) → has_some columns ≡ true → list_all is_operand columns ≡ true → list_all is_operand conditions ≡ true
        → IsRead (codes "query" ∷ f ∷ d ∷ t ∷ extra_words (Slice columns conditions as_table)) (asks_of query_command (given_to query_command (f ∷ d ∷ t ∷ []) (Slice columns conditions as_table)))
    by [] some are others = absurd (cc some)
    by (b ∷ more) some are others =
        let f-is = both_true (is_operand f) _ first in
        let d-is = both_true (is_operand d) _ f-is.1 in
        let t-is = both_true (is_operand t) _ d-is.1 in
        let b-is = both_true (is_operand b) _ are in
        query_read f d t b more conditions as_table (both f-is.0 (both d-is.0 (both t-is.0 (both b-is.0 refl)))) b-is.1 others
