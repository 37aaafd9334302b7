-- What is shown of each command, and what follows: its words are read, and other words without an option ask for nothing.
use Rattle.std.proofs.Common.{◌≡◌, ◌∙◌, ◌⊎◌, inl, inr, append-nil, append_assoc, refl, sym, subst, ap, true, false, Bool, ◌&&◌, List, [], ◌∷◌, ◌++◌, Option, Some, None}
use Rattle.std.specs.Prelude.{⊤, IfOk, bytes_eq, cond, find}
use Rattle.std.specs.List.{list_all}
use Rattle.std.specs.Option.{option_map_or}
use Rattle.std.proofs.lemmas.Slice.Eq.{bytes_eq-Decides}
use Rattle.clap.specs.Words.{Kinds, Text, first_of}
use Rattle.clap.specs.Walk.{Walk, idle, settled_rows}
use Rattle.clap.specs.declared.error.kind.ErrorKind.TheVariants.{MissingRequiredArgument, UnknownArgument}
use Rattle.wh_policy.specs.declared.attribute.Dim.{Dim}
use Rattle.wh_words.specs.Asked.{asked_by, faults_in}
use Rattle.wh_words.specs.CommandLine.{CommandLine, Extra, Bare, Under, With, Slice, Says, are_given, extra_words, given_to, is_operand, is_taken, program_app}
use Rattle.wh_words.specs.Given.{Given}
use Rattle.wh_words.specs.Task.{Task, Trial, Asks, Alone, OfFile, Beside, Nothing, Policy, Optional, Columns, Command, FILE, asks_of}
use Rattle.wh_words.proofs.CommandFaults.{not_asked}
use Rattle.wh_words.proofs.CommandWords.{IsRead, end_of, goes_by, operands_read, outcome}
use Rattle.wh_words.proofs.FirstOperand.{is_first_or_other}
use Rattle.wh_words.proofs.Program.{IsFound, bare, leaf, meets, top_faultless}
use Rattle.wh_words.proofs.Reading.{end_fault, fault_is, flows, level_is, level_strays, operands_fault, start, took}
use Rattle.wh_history.proofs.Basics.{both_true}
use Rattle.wh_rows.proofs.ColumnLemmas.{both}

-- ---- what is shown of each

-- where a file was read, and nothing else
abbrev pub behind_file : (file : Text) → Walk
behind_file file = record { held = record { rows = []; pending = Some (FILE, file ∷ []); skip = 0 }; waiting = idle; position = 2; is_trailing = false; stopped = None }

abbrev pub IsTrial : Task → Type 0
IsTrial task = (dim : Dim) × (path : Text) × (policy : Option Text) × (task ≡ Trial dim path policy)

module _ (c : Command) where
  -- what operands come to: whether none of them ends the options, what is wrong with one, and what is wrong with them all
  abbrev pub standing : List Text → Bool × Kinds × Kinds
  standing xs = (flows (leaf c) start xs, operands_fault (leaf c) start xs, end_fault (leaf c) (end_of (leaf c) xs))

  abbrev pub Lacks : List Text → Type 0
  Lacks xs = standing xs ≡ (true, [], MissingRequiredArgument ∷ [])

  abbrev pub passage : List Text → Bool × Kinds
  passage xs = (flows (leaf c) start xs, operands_fault (leaf c) start xs)

  abbrev pub Strays : List Text → Type 0
  Strays xs = passage xs ≡ (true, UnknownArgument ∷ [])

  -- the words are these operands, with what is beside them
  abbrev pub Takes : (words operands : List Text) → Extra → Type 0
  Takes words operands extra = outcome c words ≡ (true, [], [], asks_of c (given_to c operands extra))

  -- what the operands and then these words are read as
  abbrev pub Reads : (operands : List Text) → Extra → Type 0
  Reads operands extra = list_all is_operand operands ≡ true → is_taken c.beside extra ≡ true → IsRead (c.name ∷ (operands ++ extra_words extra)) (asks_of c (given_to c operands extra))

  -- behind the operands that it can't do without
  abbrev pub Ends : Beside → List Text → Type 0
  Ends Nothing seen = Takes seen seen Bare × ((x : Text) → Strays (seen ++ x ∷ []))
  Ends Policy seen = Takes seen seen Bare × ((x : Text) → Strays (seen ++ x ∷ [])) × ((policy : Text) → Reads seen (Under policy))
  Ends (Optional name) seen = Takes seen seen Bare × ((x : Text) → Takes (seen ++ x ∷ []) seen (With x) × ((y : Text) → Strays ((seen ++ x ∷ []) ++ y ∷ [])))
  Ends Columns seen = Lacks seen × ((columns conditions : List Text) (as_table : Bool) → Reads seen (Slice columns conditions as_table))

  -- behind these, of which those of the names are left
  abbrev pub Behind : (names seen : List Text) → Type 0
  Behind [] seen = Ends c.beside seen
  Behind (name ∷ names) seen = Lacks seen × ((x : Text) → Behind names (seen ++ x ∷ []))

  -- what is read of a first operand
  abbrev pub first_operand : Text → Bool × Option Text × Walk
  first_operand file = (list_all (is_first_or_other FILE) (leaf c).rules, first_of FILE (settled_rows (leaf c).rules (Some (FILE, file ∷ [])) []), took (leaf c) start file)

  -- it asks for a trial, or for what is to be done with the file that is its first operand
  abbrev pub About : Asks → Type 0
  About (Alone asks) = (given : Given) → IfOk (asks given) IsTrial
  About (OfFile asks) = (file : Text) → first_operand file ≡ (true, Some file, behind_file file)

pub record Known (c : Command) : Type 0 where
  pub found : IsFound c
  pub behind : Behind c c.operands []
  pub about : About c c.asks

-- ---- lists of words

all_after : (seen : List Text) (w : Text) → list_all is_operand seen ≡ true → is_operand w ≡ true → list_all is_operand (seen ++ w ∷ []) ≡ true
all_after [] w are is = both is refl
all_after (x ∷ seen) w are is = let parts = both_true (is_operand x) _ are in both parts.0 (all_after seen w parts.1 is)

firsts_of : (xs more : List Text) → list_all is_operand (xs ++ more) ≡ true → list_all is_operand xs ≡ true
firsts_of [] more are = refl
firsts_of (x ∷ xs) more are = let here = both_true (is_operand x) _ are in both here.0 (firsts_of xs more here.1)

lasts_of : (xs more : List Text) → list_all is_operand (xs ++ more) ≡ true → list_all is_operand more ≡ true
lasts_of [] more are = are
lasts_of (x ∷ xs) more are = lasts_of xs more (both_true (is_operand x) _ are).1

-- the words are those of a command, or they ask for nothing
abbrev pub Fits : List Text → Type 0
Fits words = ((line : CommandLine) × Says words line) ⊎ (asked_by words ≡ None)

module _ (c : Command) (known : Known c) where
  -- ---- the words of the command

  at_end : (names seen words : List Text) → Behind c names seen → are_given names words ≡ true → list_all is_operand seen ≡ true → Ends c c.beside (seen ++ words) × (list_all is_operand (seen ++ words) ≡ true)
  at_end [] seen [] ends given are = subst (λ (xs : List Text). Ends c c.beside xs × (list_all is_operand xs ≡ true)) (sym (append-nil seen)) (ends, are)
  at_end [] seen (w ∷ words) ends given are = cc
  at_end (name ∷ names) seen [] behind given are = cc
  at_end (name ∷ names) seen (w ∷ words) behind given are =
      let here = both_true (is_operand w) _ given in
      subst (λ (xs : List Text). Ends c c.beside xs × (list_all is_operand xs ≡ true)) (append_assoc seen (w ∷ []) words) (at_end names (seen ++ w ∷ []) words (behind.1 w) here.1 (all_after seen w are here.0))

  bare_read : (seen : List Text) → Takes c seen seen Bare → list_all is_operand seen ≡ true → IsRead (c.name ∷ (seen ++ [])) (asks_of c (given_to c seen Bare))
  bare_read seen takes are = subst (λ (xs : List Text). IsRead (c.name ∷ xs) (asks_of c (given_to c seen Bare))) (sym (append-nil seen)) (operands_read c known.found seen (given_to c seen Bare) are takes)

  ends_read : (b : Beside) → c.beside ≡ b → (seen : List Text) (extra : Extra) → Ends c b seen → list_all is_operand seen ≡ true → is_taken b extra ≡ true → IsRead (c.name ∷ (seen ++ extra_words extra)) (asks_of c (given_to c seen extra))
  ends_read Nothing at seen Bare ends are is = bare_read seen ends.0 are
  ends_read Policy at seen Bare ends are is = bare_read seen ends.0 are
  ends_read Policy at seen (Under policy) ends are is = ends.2 policy are (ap (λ (b : Beside). is_taken b (Under policy)) at ∙ is)
  ends_read (Optional name) at seen Bare ends are is = bare_read seen ends.0 are
  ends_read (Optional name) at seen (With word) ends are is = operands_read c known.found (seen ++ word ∷ []) (given_to c seen (With word)) (all_after seen word are is) (ends.1 word).0
  ends_read Columns at seen (Slice columns conditions as_table) ends are is = ends.1 columns conditions as_table are (ap (λ (b : Beside). is_taken b (Slice columns conditions as_table)) at ∙ is)
  ends_read Nothing at seen (Under policy) ends are is = cc
  ends_read Nothing at seen (With word) ends are is = cc
  ends_read Nothing at seen (Slice columns conditions as_table) ends are is = cc
  ends_read Policy at seen (With word) ends are is = cc
  ends_read Policy at seen (Slice columns conditions as_table) ends are is = cc
  ends_read (Optional name) at seen (Under policy) ends are is = cc
  ends_read (Optional name) at seen (Slice columns conditions as_table) ends are is = cc
  ends_read Columns at seen Bare ends are is = cc
  ends_read Columns at seen (Under policy) ends are is = cc
  ends_read Columns at seen (With word) ends are is = cc

  pub is_read : (operands : List Text) (extra : Extra) → (are_given c.operands operands && is_taken c.beside extra) ≡ true → IsRead (c.name ∷ (operands ++ extra_words extra)) (asks_of c (given_to c operands extra))
  is_read operands extra is =
      let parts = both_true (are_given c.operands operands) _ is in
      let ends = at_end c.operands [] operands known.behind parts.0 refl in
      ends_read c.beside refl operands extra ends.0 ends.1 parts.1

  -- ---- other words without an option

  says : (operands : List Text) (extra : Extra) → are_given c.operands operands ≡ true → is_taken c.beside extra ≡ true → Fits (c.name ∷ (operands ++ extra_words extra))
  says operands extra given is = inl (
    record { name = c.name; operands = operands; extra = extra },
    record {
      words_are = refl;
      operands = ap (λ (o : Option Command). option_map_or (λ (d : Command). are_given d.operands operands && is_taken d.beside extra) o false) (ap (λ o. o.3) known.found) ∙ both given is;
    },
  )

  lacks : (xs : List Text) → list_all is_operand xs ≡ true → Lacks c xs → Fits (c.name ∷ xs)
  unfolding faults_in
  lacks xs are is = inr (not_asked (c.name ∷ xs) MissingRequiredArgument []
      (fault_is program_app c.name xs (leaf c) (meets c known.found) bare top_faultless ∙ level_is (leaf c) xs (end_of (leaf c) xs) (goes_by (leaf c) xs are (ap (λ o. o.0) is) (ap (λ o. o.1) is)) ∙ ap (λ o. o.2) is))

  strays : (xs more : List Text) → list_all is_operand (xs ++ more) ≡ true → Strays c xs → Fits (c.name ∷ (xs ++ more))
  unfolding faults_in
  strays xs more are is = inr (not_asked (c.name ∷ (xs ++ more)) UnknownArgument []
      (fault_is program_app c.name (xs ++ more) (leaf c) (meets c known.found) bare top_faultless ∙ level_strays (leaf c) xs more UnknownArgument [] (firsts_of xs more are) (ap (λ o. o.0) is) (ap (λ o. o.1) is)))

  -- where a word was met that has no place
  strays_at : (seen : List Text) (x : Text) (more : List Text) → list_all is_operand (seen ++ x ∷ more) ≡ true → Strays c (seen ++ x ∷ []) → Fits (c.name ∷ (seen ++ x ∷ more))
  strays_at seen x more are is =
      let same = append_assoc seen (x ∷ []) more in
      subst (λ (xs : List Text). Fits (c.name ∷ xs)) same (strays (seen ++ x ∷ []) more (subst (λ (xs : List Text). list_all is_operand xs ≡ true) (sym same) are) is)

  ends_fit : (b : Beside) → c.beside ≡ b → (seen rest : List Text) → Ends c b seen → are_given c.operands seen ≡ true → list_all is_operand (seen ++ rest) ≡ true → Fits (c.name ∷ (seen ++ rest))
  ends_fit Nothing at seen [] ends given are = says seen Bare given (ap (λ (b : Beside). is_taken b Bare) at)
  ends_fit Nothing at seen (x ∷ more) ends given are = strays_at seen x more are (ends.1 x)
  ends_fit Policy at seen [] ends given are = says seen Bare given (ap (λ (b : Beside). is_taken b Bare) at)
  ends_fit Policy at seen (x ∷ more) ends given are = strays_at seen x more are (ends.1 x)
  ends_fit (Optional name) at seen [] ends given are = says seen Bare given (ap (λ (b : Beside). is_taken b Bare) at)
  ends_fit (Optional name) at seen (x ∷ []) ends given are =
      says seen (With x) given (ap (λ (b : Beside). is_taken b (With x)) at ∙ (both_true (is_operand x) _ (lasts_of seen (x ∷ []) are)).0)
  ends_fit (Optional name) at seen (x ∷ y ∷ more) ends given are =
      let same = append_assoc seen (x ∷ []) (y ∷ more) in
      subst (λ (xs : List Text). Fits (c.name ∷ xs)) same (strays_at (seen ++ x ∷ []) y more (subst (λ (xs : List Text). list_all is_operand xs ≡ true) (sym same) are) ((ends.1 x).1 y))
  ends_fit Columns at seen [] ends given are =
      subst (λ (xs : List Text). Fits (c.name ∷ xs)) (sym (append-nil seen)) (lacks seen (firsts_of seen [] are) ends.0)
  ends_fit Columns at seen (x ∷ more) ends given are =
      subst (λ (xs : List Text). Fits (c.name ∷ (seen ++ xs))) (append-nil (x ∷ more))
      (says seen (Slice (x ∷ more) [] false) given (ap (λ (b : Beside). is_taken b (Slice (x ∷ more) [] false)) at ∙ both refl (both (lasts_of seen (x ∷ more) are) refl)))

  fit_from : (names seen rest : List Text) → Behind c names seen → ((words : List Text) → are_given names words ≡ true → are_given c.operands (seen ++ words) ≡ true) → list_all is_operand (seen ++ rest) ≡ true → Fits (c.name ∷ (seen ++ rest))
  fit_from [] seen rest ends all are = ends_fit c.beside refl seen rest ends (subst (λ (xs : List Text). are_given c.operands xs ≡ true) (append-nil seen) (all [] refl)) are
  fit_from (name ∷ names) seen [] behind all are = subst (λ (xs : List Text). Fits (c.name ∷ xs)) (sym (append-nil seen)) (lacks seen (firsts_of seen [] are) behind.0)
  fit_from (name ∷ names) seen (x ∷ rest) behind all are =
      let is = (both_true (is_operand x) _ (lasts_of seen (x ∷ rest) are)).0 in
      subst (λ (xs : List Text). Fits (c.name ∷ xs)) (append_assoc seen (x ∷ []) rest)
      (fit_from names (seen ++ x ∷ []) rest (behind.1 x)
      (λ words given. subst (λ (xs : List Text). are_given c.operands xs ≡ true) (sym (append_assoc seen (x ∷ []) words)) (all (x ∷ words) (both is given)))
      (subst (λ (xs : List Text). list_all is_operand xs ≡ true) (sym (append_assoc seen (x ∷ []) rest)) are))

  pub fits_behind : (rest : List Text) → list_all is_operand rest ≡ true → Fits (c.name ∷ rest)
  fits_behind rest are = fit_from c.operands [] rest known.behind (λ words given. given) are

-- ---- all commands

abbrev pub AllKnown : List Command → Type 0
AllKnown [] = ⊤
AllKnown (c ∷ commands) = Known c × AllKnown commands

pub known_among : (name : Text) (c : Command) (commands : List Command) → AllKnown commands → find (λ (d : Command). bytes_eq name d.name) commands ≡ Some c → (name ≡ c.name) × Known c
known_among name c [] all is = cc
known_among name c (d ∷ commands) all is = by (bytes_eq name d.name) refl is (known_among name c commands all.1)
  where
    by : (b : Bool) → bytes_eq name d.name ≡ b → cond b (Some d) (find (λ (e : Command). bytes_eq name e.name) commands) ≡ Some c → (find (λ (e : Command). bytes_eq name e.name) commands ≡ Some c → (name ≡ c.name) × Known c)
        → (name ≡ c.name) × Known c
    by true same is later = let it : d ≡ c = cc in subst (λ (e : Command). (name ≡ e.name) × Known e) it ((bytes_eq-Decides name d.name).0 same, all.0)
    by false other is later = later is
