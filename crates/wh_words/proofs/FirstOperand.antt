-- What clap reads of the first operand behind a command's name stays, whatever words follow.
use Rattle.std.proofs.Common.{◌≡◌, ◌∙◌, ◌⊎◌, ◌<◌, ◌==◌, ◌+◌, ◌&&◌, ◌≢◌, inl, inr, refl, sym, ap, subst, arith, ℕ, suc, zero, Bool, cond, true, false, not, List, [], ◌∷◌, ◌++◌, Option, Some, None, length, drop}
use Rattle.std.specs.Prelude.{⊤, bytes_eq, encode_utf8, find, fold, is_some, min, nat_lt, slice_get}
use Rattle.std.specs.List.{list_all}
use Rattle.std.specs.Option.{option_and_then, option_map_or}
use Rattle.std.specs.Str.{chars}
use Rattle.std.proofs.lemmas.Bool.{eqb-true}
use Rattle.std.proofs.lemmas.Slice.Eq.{bytes_eq-Decides}
use Rattle.clap.proofs.SimpleLemmas.{is_nil}
use Rattle.clap.specs.Words.{Row, Rule, Text, first_of}
use Rattle.clap.specs.Lexer.{long_of, short_of, usize_max}
use Rattle.clap.specs.Walk.{Held, Outcome, Step, Waiting, Walk, action_of, after_flag, after_step, arg_by_id, arg_by_index, arg_by_long, arg_by_short, at_row, attached_value, bundle, bundle_met, bundle_step, counted, default_rows, done, finished, flag_met, is_pending, most_values, pending_count, subcommand_met, takes_several, has_row, idle, is_empty, is_multiple, long_met, long_or_other, count_of, more_values, new_count, next, option, option_met, option_word, plain, plain_word, positional, positional_held, pushed, reacted, reading_by, refused, settled, settled_rows, short_met, short_or_plain, started, subcommand, subcommand_or_other, takes_values, to_positional, trailing, used, used_as, used_by_id, value, values_or_missing, waits, walked, walked_from, with_count, with_default, with_values, without, word_met}
use Rattle.clap.specs.declared.builder.action.ArgAction.{ArgAction}
use Rattle.clap.specs.declared.builder.action.ArgAction.TheVariants.{Set, Append, SetTrue, SetFalse, Count, Help, HelpShort, HelpLong, Version}
use Rattle.clap.specs.declared.builder.value_parser.Reading.{Reading}
use Rattle.clap.specs.declared.parser.matches.ValueSource.{ValueSource}
use Rattle.clap.specs.declared.parser.matches.ValueSource.TheVariants.{CommandLine, DefaultValue}

-- ---- searches

some_is : {X : Type 0} (x y : X) → Some x ≡ Some y → x ≡ y
some_is x y h = cc

both_true : (a b : Bool) → (a && b) ≡ true → (a ≡ true) × (b ≡ true)
both_true true b h = (refl, h)
both_true false b h = cc

no_true : (b : Bool) → b ≡ false → b ≡ true → ⊥
no_true b f t = cc

-- what is found passes, and has what all have
find_passes : {X : Type 0} (p : X → Bool) (x : X) (xs : List X) → find p xs ≡ Some x → p x ≡ true
find_passes p x [] h = cc
find_passes p x (y ∷ ys) h = by (p y) refl h (find_passes p x ys)
  where
    by : (b : Bool) → p y ≡ b → cond b (Some y) (find p ys) ≡ Some x → (find p ys ≡ Some x → p x ≡ true) → p x ≡ true
    by true passes is later = ap p (sym (some_is y x is)) ∙ passes
    by false fails is later = later is

find_among : {X : Type 0} (p q : X → Bool) (x : X) (xs : List X) → list_all q xs ≡ true → find p xs ≡ Some x → q x ≡ true
find_among p q x [] all h = cc
find_among p q x (y ∷ ys) all h = by (p y) h (find_among p q x ys (both_true (q y) _ all).1)
  where
    by : (b : Bool) → cond b (Some y) (find p ys) ≡ Some x → (find p ys ≡ Some x → q x ≡ true) → q x ≡ true
    by true is later = ap q (sym (some_is y x is)) ∙ (both_true (q y) _ all).0
    by false is later = later is

-- ---- the rows of another argument

module _ (id : Text) where
  abbrev is_its : Row → Bool
  is_its r = bytes_eq r.id id

  module _ (other : Text) (apart : bytes_eq other id ≡ false) where
    -- a row of the other argument is none of this one
    row_apart : (r : Row) → bytes_eq r.id other ≡ true → is_its r ≡ false
    row_apart r is = ap (λ (t : Text). bytes_eq t id) ((bytes_eq-Decides r.id other).0 is) ∙ apart

    at_row_apart : (change : Row → List Row) (missing rows : List Row) → ((r : Row) (rest : List Row) → is_its r ≡ false → find is_its (change r ++ rest) ≡ find is_its rest) → find is_its missing ≡ None
        → find is_its (at_row other change missing rows) ≡ find is_its rows
    at_row_apart change missing [] changed none = none
    at_row_apart change missing (r ∷ rs) changed none = by (bytes_eq r.id other) refl (at_row_apart change missing rs changed none)
      where
        by : (b : Bool) → bytes_eq r.id other ≡ b → find is_its (at_row other change missing rs) ≡ find is_its rs → find is_its (cond b (change r ++ rs) (r ∷ at_row other change missing rs)) ≡ find is_its (r ∷ rs)
        by true is later =
            let its = row_apart r is in
            changed r rs its ∙ ap (λ (b : Bool). cond b (Some r) (find is_its rs)) (sym its)
        by false is later = ap (λ (f : Option Row). cond (is_its r) (Some r) f) later

    one_apart : (r : Row) (rest : List Row) → is_its r ≡ false → find is_its (r ∷ rest) ≡ find is_its rest
    one_apart r rest is = ap (λ (b : Bool). cond b (Some r) (find is_its rest)) is

    without_apart : (rows : List Row) → find is_its (without other rows) ≡ find is_its rows
    without_apart rows = at_row_apart (λ _. []) [] rows (λ r rest is. refl) refl

    values_apart : (how : Reading) (s : ValueSource) (values : List Text) (rows : List Row) → find is_its (with_values other how s values rows) ≡ find is_its rows
    values_apart how s values rows = at_row_apart (more_values s values) _ rows (λ r rest is. one_apart _ rest is) (one_apart _ [] apart)

    count_apart : (how : Reading) (s : ValueSource) (n : ℕ) (rows : List Row) → find is_its (with_count other how s n rows) ≡ find is_its rows
    count_apart how s n rows = at_row_apart (new_count s n) _ rows (λ r rest is. one_apart _ rest is) (one_apart _ [] apart)

    counted_apart : (how : Reading) (values : List Text) (rows : List Row) → find is_its (counted other how values rows) ≡ find is_its rows
    counted_apart how [] rows = count_apart how CommandLine (min (count_of other rows + 1) 255) (without other rows) ∙ without_apart rows
    counted_apart how (v ∷ vs) rows = values_apart how CommandLine (v ∷ vs) (without other rows) ∙ without_apart rows

    used_as_apart : (x : ArgAction) (how : Reading) (values : List Text) (rows : List Row) → find is_its (used_as x other how values rows) ≡ find is_its rows
    used_as_apart Set how values rows = values_apart how CommandLine values (without other rows) ∙ without_apart rows
    used_as_apart SetTrue how values rows = values_apart how CommandLine values (without other rows) ∙ without_apart rows
    used_as_apart SetFalse how values rows = values_apart how CommandLine values (without other rows) ∙ without_apart rows
    used_as_apart Append how values rows = values_apart how CommandLine values rows
    used_as_apart Count how values rows = counted_apart how values rows
    used_as_apart Help how values rows = refl
    used_as_apart HelpShort how values rows = refl
    used_as_apart HelpLong how values rows = refl
    used_as_apart Version how values rows = refl

  -- a use of another argument leaves what is first of this one
  used_apart : (a : Rule) (values : List Text) (rows : List Row) → bytes_eq a.id id ≡ false → first_of id (used a values rows) ≡ first_of id rows
  used_apart a values rows apart = ap (option_and_then (λ (r : Row). slice_get r.values 0)) (used_as_apart a.id apart (action_of a) (reading_by a) (values_or_missing a values) rows)

  defaults_apart : (a : Rule) (rows : List Row) → bytes_eq a.id id ≡ false → first_of id (default_rows a.id (reading_by a) a.defaults rows) ≡ first_of id rows
  defaults_apart a rows apart = by a.defaults
    where
      by : (defaults : List Text) → first_of id (default_rows a.id (reading_by a) defaults rows) ≡ first_of id rows
      by [] = refl
      by (v ∷ vs) = ap (option_and_then (λ (r : Row). slice_get r.values 0)) (values_apart a.id apart (reading_by a) DefaultValue (v ∷ vs) rows)

-- ---- the walk

-- an argument of this id is the first positional, with no default
abbrev pub is_first_or_other : (id : Text) → Rule → Bool
is_first_or_other id a = cond (bytes_eq a.id id) (option_map_or (λ k. k == 1) a.index false && is_empty a.defaults) true

-- So it is in a command, and a name was read for it.
module _ (c : List Rule) (id name : Text) where
  abbrev IsAnother : Option (Text × List Text) → Type 0
  IsAnother p = option_map_or (λ q. bytes_eq q.0 id) p false ≡ false

  -- the name is pending, and nothing else is there yet; or it has its row, and what is pending is another's
  abbrev pub IsKept : Held → Type 0
  IsKept h = ((h.rows ≡ []) × (h.pending ≡ Some (id, name ∷ []))) ⊎ (IsAnother h.pending × (first_of id h.rows ≡ Some name))

  -- one is followed by another, and what is pending is another's once it is
  abbrev Leads : Held → Held → Type 0
  Leads h after = IsKept after × (IsAnother h.pending → IsAnother after.pending)

  abbrev IsFlagged : Held → Held → Outcome → Type 0
  IsFlagged h after (waits i) = Leads h after × (bytes_eq i id ≡ false) × IsAnother after.pending
  IsFlagged h after outcome = Leads h after

  abbrev pub Waits : Waiting → Held → Type 0
  Waits (option i) h = (bytes_eq i id ≡ false) × IsAnother h.pending
  Waits waiting h = ⊤

  abbrev IsStepped : Waiting → Held → Step → Type 0
  IsStepped waiting h (next later) = IsKept h × Waits later h
  IsStepped waiting h (trailing position) = IsKept h × (1 < position) × Waits waiting h
  IsStepped waiting h (subcommand found) = ⊥
  IsStepped waiting h value = IsKept h × Waits waiting h

  -- the walk is behind the first operand
  pub record IsBehind (w : Walk) : Type 0 where
    pub held : IsKept w.held
    pub waits_so : Waits w.waiting w.held
    pub later : 1 < w.position
    pub goes : w.stopped ≡ None

  module _ (firsts : list_all (is_first_or_other id) c ≡ true) (settles : first_of id (settled_rows c (Some (id, name ∷ [])) []) ≡ Some name) where
    -- an argument that has no position, or a later one, is another
    without_position : (a : Rule) → is_first_or_other id a ≡ true → option_map_or (λ k. k == 1) a.index false ≡ false → bytes_eq a.id id ≡ false
    without_position a is none = by (bytes_eq a.id id) is
      where
        by : (b : Bool) → cond b (option_map_or (λ k. k == 1) a.index false && is_empty a.defaults) true ≡ true → b ≡ false
        by true is = absurd (no_true _ none (both_true _ _ is).0)
        by false is = refl

    not_first : (index : Option ℕ) → not (is_some index) ≡ true → option_map_or (λ k. k == 1) index false ≡ false
    not_first None is = refl
    not_first (Some k) is = cc

    long_apart : (n : Text) (a : Rule) → arg_by_long c n ≡ Some a → bytes_eq a.id id ≡ false
    long_apart n a found = without_position a (find_among _ (is_first_or_other id) a c firsts found) (not_first a.index (both_true (not (is_some a.index)) _ (find_passes _ a c found)).0)

    short_apart : (x : ℕ) (a : Rule) → arg_by_short c x ≡ Some a → bytes_eq a.id id ≡ false
    short_apart x a found = without_position a (find_among _ (is_first_or_other id) a c firsts found) (not_first a.index (both_true (not (is_some a.index)) _ (find_passes _ a c found)).0)

    later_index : (index : Option ℕ) (position : ℕ) → 1 < position → option_map_or (λ k. k == position) index false ≡ true → option_map_or (λ k. k == 1) index false ≡ false
    later_index None position later is = refl
    later_index (Some k) position later is =
        let same : k ≡ position = eqb-true k position is in
        by (k == 1) refl (omega (arith, same, later))
      where
        by : (b : Bool) → (k == 1) ≡ b → k ≢ 1 → (k == 1) ≡ false
        by true e other = absurd (other (eqb-true k 1 e))
        by false e other = e

    index_apart : (position : ℕ) (a : Rule) → 1 < position → arg_by_index c position ≡ Some a → bytes_eq a.id id ≡ false
    index_apart position a later found = without_position a (find_among _ (is_first_or_other id) a c firsts found) (later_index a.index position later (find_passes _ a c found))

    id_apart : (i : Text) (a : Rule) → bytes_eq i id ≡ false → arg_by_id c i ≡ Some a → bytes_eq a.id id ≡ false
    id_apart i a apart found = ap (λ (t : Text). bytes_eq t id) ((bytes_eq-Decides a.id i).0 (find_passes _ a c found)) ∙ apart

    -- ---- what is pending is used

    used_here : (found : Option Rule) (values : List Text) (rows : List Row) → ((a : Rule) → found ≡ Some a → bytes_eq a.id id ≡ false) → first_of id (used_by_id found values rows) ≡ first_of id rows
    used_here None values rows apart = refl
    used_here (Some a) values rows apart = used_apart id a values rows (apart a refl)

    settle_another : (p : Option (Text × List Text)) (rows : List Row) → IsAnother p → first_of id (settled_rows c p rows) ≡ first_of id rows
    settle_another None rows another = refl
    settle_another (Some q) rows another = used_here (arg_by_id c q.0) q.1 rows (λ a found. id_apart q.0 a another found)

    settle_keeps : (h : Held) → IsKept h → first_of id (settled_rows c h.pending h.rows) ≡ Some name
    settle_keeps h (inl (none, pends)) =
        ap (λ (p : Option (Text × List Text)). first_of id (settled_rows c p h.rows)) pends ∙ ap (λ (rows : List Row). first_of id (settled_rows c (Some (id, name ∷ [])) rows)) none ∙ settles
    settle_keeps h (inr (another, has)) = settle_another h.pending h.rows another ∙ has

    react_keeps : (a : Rule) (values : List Text) (h : Held) → bytes_eq a.id id ≡ false → IsKept h → IsKept (reacted c a values h)
    react_keeps a values h apart kept = inr (refl, used_apart id a values (settled_rows c h.pending h.rows) apart ∙ settle_keeps h kept)

    -- ---- a flag

    option_flagged : (a : Rule) (v : Option Text) (h : Held) → bytes_eq a.id id ≡ false → IsKept h → IsFlagged h (option_met c a v h).0 (option_met c a v h).1
    option_flagged a (Some v) h apart kept = (react_keeps a (v ∷ []) h apart kept, (λ another. refl))
    option_flagged a None h apart kept = ((inr (apart, settle_keeps h kept), (λ another. apart)), apart, apart)

    flag_flagged : (a : Rule) (v : Option Text) (h : Held) → bytes_eq a.id id ≡ false → IsKept h → IsFlagged h (flag_met c a v h).0 (flag_met c a v h).1
    flag_flagged a (Some v) h apart kept = (kept, (λ another. another))
    flag_flagged a None h apart kept = (react_keeps a [] h apart kept, (λ another. refl))

    either_flagged : (h : Held) (b : Bool) (one two : Held × Outcome) → IsFlagged h one.0 one.1 → IsFlagged h two.0 two.1 → IsFlagged h (cond b one two).0 (cond b one two).1
    either_flagged h true one two first second = first
    either_flagged h false one two first second = second

    long_flagged : (found : Option Rule) (v : Option Text) (h : Held) → ((a : Rule) → found ≡ Some a → bytes_eq a.id id ≡ false) → IsKept h → IsFlagged h (long_met c found v h).0 (long_met c found v h).1
    long_flagged None v h apart kept = (kept, (λ another. another))
    long_flagged (Some a) v h apart kept =
        either_flagged h (takes_values a) (option_met c a v h) (flag_met c a v h) (option_flagged a v h (apart a refl) kept) (flag_flagged a v h (apart a refl) kept)

    -- one that leads on from another
    flagged_from : (h mid after : Held) (o : Outcome) → (IsAnother h.pending → IsAnother mid.pending) → IsFlagged mid after o → IsFlagged h after o
    flagged_from h mid after done leads (kept, later) = (kept, (λ another. later (leads another)))
    flagged_from h mid after plain leads (kept, later) = (kept, (λ another. later (leads another)))
    flagged_from h mid after refused leads (kept, later) = (kept, (λ another. later (leads another)))
    flagged_from h mid after (waits i) leads ((kept, later), apart, still) = ((kept, (λ another. later (leads another))), apart, still)

    short_flagged : (found : Option Rule) (rest : Text) (h : Held) (go : Held → Held × Outcome) → ((a : Rule) → found ≡ Some a → bytes_eq a.id id ≡ false) → IsKept h
        → ((mid : Held) → IsKept mid → IsFlagged mid (go mid).0 (go mid).1) → IsFlagged h (short_met c found rest h go).0 (short_met c found rest h go).1
    short_flagged None rest h go apart kept later = (kept, (λ another. another))
    short_flagged (Some a) rest h go apart kept later =
        either_flagged h (takes_values a) (option_met c a (attached_value rest) h) (go (reacted c a [] h)) (option_flagged a (attached_value rest) h (apart a refl) kept)
        (flagged_from h (reacted c a [] h) (go (reacted c a [] h)).0 (go (reacted c a [] h)).1 (λ another. refl) (later (reacted c a [] h) (react_keeps a [] h (apart a refl) kept)))

    step_flagged : (first : Option ℕ) (flags : Text) (skip : ℕ) (so_far : Outcome) (h : Held) (go : Text → ℕ → Outcome → Held → Held × Outcome) → IsKept h → IsFlagged h h so_far
        → ((rest : Text) (left : ℕ) (o : Outcome) (mid : Held) → IsKept mid → IsFlagged mid mid o → IsFlagged mid (go rest left o mid).0 (go rest left o mid).1)
        → IsFlagged h (bundle_step c first flags skip so_far h go).0 (bundle_step c first flags skip so_far h go).1
    step_flagged None flags skip so_far h go kept is later = is
    step_flagged (Some x) flags zero so_far h go kept is later =
        short_flagged (arg_by_short c x) (drop (length (encode_utf8 x)) flags) h (go (drop (length (encode_utf8 x)) flags) 0 done) (λ a found. short_apart x a found) kept
        (λ mid so. later (drop (length (encode_utf8 x)) flags) 0 done mid so (so, (λ another. another)))
    step_flagged (Some x) flags (suc skip) so_far h go kept is later = later (drop (length (encode_utf8 x)) flags) skip so_far h kept is

    bundle_flagged : (k : ℕ) (flags : Text) (skip : ℕ) (so_far : Outcome) (h : Held) → IsKept h → IsFlagged h h so_far → IsFlagged h (bundle_met c k flags skip so_far h).0 (bundle_met c k flags skip so_far h).1
    unfolding bundle_met
    bundle_flagged zero flags skip so_far h kept is = is
    bundle_flagged (suc k) flags skip so_far h kept is = step_flagged (slice_get (chars flags) 0) flags skip so_far h (bundle_met c k) kept is (bundle_flagged k)

    -- ---- a word

    itself : bytes_eq id id ≡ true
    itself = (bytes_eq-Decides id id).1 refl

    has_row_of : (h : Held) → IsKept h → IsAnother h.pending → first_of id h.rows ≡ Some name
    has_row_of h (inl (none, pends)) another = absurd (no_true _ another (ap (λ (p : Option (Text × List Text)). option_map_or (λ q. bytes_eq q.0 id) p false) pends ∙ itself))
    has_row_of h (inr (apart, has)) another = has

    started_apart : (i : Text) (p : Option (Text × List Text)) → IsAnother p → bytes_eq i id ≡ false → bytes_eq (started i p).0 id ≡ false
    started_apart i None another apart = apart
    started_apart i (Some q) another apart = another

    either_waits : (b : Bool) (i : Text) (h : Held) → Waits (option i) h → Waits (cond b (option i) idle) h
    either_waits true i h is = is
    either_waits false i h is = tt

    option_stepped : (found : Option Rule) (i word : Text) (h : Held) (waiting : Waiting) → IsKept h → Waits (option i) h → IsStepped waiting (option_word found i word h).0 (next (option_word found i word h).1)
    option_stepped None i word h waiting kept is = (kept, is)
    option_stepped (Some a) i word h waiting kept (apart, another) =
        let still = started_apart i h.pending another apart in
        (inr (still, has_row_of h kept another), either_waits (nat_lt (pending_count a (pushed i word h).pending) (most_values a)) i (pushed i word h) (apart, still))

    plain_stepped : (waiting : Waiting) (word : Text) (h : Held) → IsKept h → Waits waiting h → IsStepped waiting (plain_word c waiting word h).0 (plain_word c waiting word h).1
    plain_stepped idle word h kept is = (kept, is)
    plain_stepped positional word h kept is = (kept, is)
    plain_stepped (option i) word h kept is = option_stepped (arg_by_id c i) i word h (option i) kept is

    waits_on : (waiting : Waiting) (h after : Held) → (IsAnother h.pending → IsAnother after.pending) → Waits waiting h → Waits waiting after
    waits_on idle h after leads is = tt
    waits_on positional h after leads is = tt
    waits_on (option i) h after leads (apart, another) = (apart, leads another)

    flag_stepped : (waiting : Waiting) (word : Text) (h after : Held) (o : Outcome) → IsFlagged h after o → Waits waiting h → IsStepped waiting (after_flag c waiting word after o).0 (after_flag c waiting word after o).1
    flag_stepped waiting word h after done (kept, leads) is = (kept, tt)
    flag_stepped waiting word h after (waits i) ((kept, leads), apart, still) is = (kept, (apart, still))
    flag_stepped waiting word h after plain (kept, leads) is = plain_stepped waiting word after kept (waits_on waiting h after leads is)
    flag_stepped waiting word h after refused (kept, leads) is = plain_stepped waiting word after kept (waits_on waiting h after leads is)

    short_stepped : (flags : Option Text) (waiting : Waiting) (word : Text) (h : Held) → IsKept h → Waits waiting h → IsStepped waiting (short_or_plain c waiting word flags h).0 (short_or_plain c waiting word flags h).1
    short_stepped None waiting word h kept is = plain_stepped waiting word h kept is
    short_stepped (Some flags) waiting word h kept is =
        flag_stepped waiting word (record h { skip = 0 }) (bundle c flags h).0 (bundle c flags h).1 (bundle_flagged (length flags) flags h.skip plain (record h { skip = 0 }) kept (kept, (λ another. another))) (waits_on waiting h (record h { skip = 0 }) (λ another. another) is)

    other_stepped : (long : Option (Text × Option Text)) (waiting : Waiting) (word : Text) (h : Held) → IsKept h → Waits waiting h → IsStepped waiting (long_or_other c waiting word long h).0 (long_or_other c waiting word long h).1
    other_stepped None waiting word h kept is = short_stepped (short_of word) waiting word h kept is
    other_stepped (Some p) waiting word h kept is =
        flag_stepped waiting word h (long_met c (arg_by_long c p.0) p.1 h).0 (long_met c (arg_by_long c p.0) p.1 h).1 (long_flagged (arg_by_long c p.0) p.1 h (λ a found. long_apart p.0 a found) kept) is

    either_stepped : (b : Bool) (waiting : Waiting) (one two : Held × Step) → IsStepped waiting one.0 one.1 → IsStepped waiting two.0 two.1 → IsStepped waiting (cond b one two).0 (cond b one two).1
    either_stepped true waiting one two first second = first
    either_stepped false waiting one two first second = second

    none_met : (waiting : Waiting) (word : Text) → subcommand_met [] waiting word ≡ None
    none_met idle word = refl
    none_met positional word = refl
    none_met (option i) word = refl

    word_stepped : (is_trailing : Bool) (waiting : Waiting) (position : ℕ) (word : Text) (h : Held) → 1 < position → IsKept h → Waits waiting h
        → IsStepped waiting (word_met c [] is_trailing waiting position word h).0 (word_met c [] is_trailing waiting position word h).1
    word_stepped true waiting position word h later kept is = (kept, is)
    word_stepped false waiting position word h later kept is = subst (λ (met : Option Text). IsStepped waiting (subcommand_or_other c met waiting position word h).0 (subcommand_or_other c met waiting position word h).1) (sym (none_met waiting word))
        (either_stepped (bytes_eq word (45 ∷ 45 ∷ [])) waiting (h, trailing position) (long_or_other c waiting word (long_of word) h) (kept, later, is) (other_stepped (long_of word) waiting word h kept is))

    -- ---- a step

    pushed_keeps : (a : Rule) (word : Text) (h : Held) → bytes_eq a.id id ≡ false → IsKept h → is_pending a h.pending ≡ true → IsKept (pushed a.id word h)
    pushed_keeps a word h apart kept pends = by h.pending refl
      where
        by : (p : Option (Text × List Text)) → h.pending ≡ p → IsKept (pushed a.id word h)
        by None is = absurd (no_true _ (ap (is_pending a) is) pends)
        by (Some q) is =
            let same = (bytes_eq-Decides q.0 a.id).0 (sym (ap (is_pending a) is) ∙ pends) in
            let other : bytes_eq q.0 id ≡ false = ap (λ (t : Text). bytes_eq t id) same ∙ apart in
            let another : IsAnother h.pending = ap (λ (p : Option (Text × List Text)). option_map_or (λ r. bytes_eq r.0 id) p false) is ∙ other in
            inr (started_apart a.id h.pending another apart, has_row_of h kept another)

    placed_keeps : (a : Rule) (word : Text) (h : Held) → bytes_eq a.id id ≡ false → IsKept h → IsKept (positional_held c a word h)
    placed_keeps a word h apart kept = by (is_pending a h.pending && takes_several a) refl
      where
        by : (b : Bool) → (is_pending a h.pending && takes_several a) ≡ b → IsKept (pushed a.id word (cond b h (settled c h)))
        by true is = pushed_keeps a word h apart kept (both_true (is_pending a h.pending) _ is).0
        by false is = inr (apart, settle_keeps h kept)

    free_waits : (b : Bool) (h : Held) → Waits (cond b positional idle) h
    free_waits true h = tt
    free_waits false h = tt

    later_position : (b : Bool) (position : ℕ) → 1 < position → 1 < cond b position (min (position + 1) usize_max)
    later_position true position later = later
    later_position false position later = omega (arith, later)

    positional_behind : (found : Option Rule) (word : Text) (w : Walk) (h : Held) → ((a : Rule) → found ≡ Some a → bytes_eq a.id id ≡ false) → IsBehind w → IsKept h → Waits w.waiting h → IsBehind (to_positional c found word w h)
    positional_behind None word w h apart behind kept is = record { held = kept; waits_so = is; later = behind.later; goes = behind.goes }
    positional_behind (Some a) word w h apart behind kept is = record {
      held = placed_keeps a word h (apart a refl) kept;
      waits_so = free_waits (is_multiple a) (positional_held c a word h);
      later = later_position (is_multiple a) w.position behind.later;
      goes = refl;
    }

    step_behind : (word : Text) (w : Walk) (h : Held) (step : Step) → IsBehind w → IsStepped w.waiting h step → IsBehind (after_step c word w h step)
    step_behind word w h (next waiting) behind (kept, is) = record { held = kept; waits_so = is; later = behind.later; goes = behind.goes }
    step_behind word w h (trailing position) behind (kept, later, is) = record { held = kept; waits_so = is; later = later; goes = behind.goes }
    step_behind word w h (subcommand found) behind is = absurd is
    step_behind word w h value behind (kept, is) = positional_behind (arg_by_index c w.position) word w h (λ a found. index_apart w.position a behind.later found) behind kept is

    walked_behind : (w : Walk) (word : Text) → IsBehind w → IsBehind (walked c [] w word)
    unfolding walked
    walked_behind w word behind = subst (λ (stop : Option (Text × List Text)). IsBehind (walked_from c [] stop w word)) (sym behind.goes)
        (step_behind word w (word_met c [] w.is_trailing w.waiting w.position word w.held).0 (word_met c [] w.is_trailing w.waiting w.position word w.held).1 behind
        (word_stepped w.is_trailing w.waiting w.position word w.held behind.later behind.held behind.waits_so))

    all_behind : (w : Walk) (words : List Text) → IsBehind w → IsBehind (fold (walked c []) w words)
    all_behind w [] behind = behind
    all_behind w (word ∷ words) behind = all_behind (walked c [] w word) words (walked_behind w word behind)

    -- ---- the end

    default_keeps : (rows : List Row) (a : Rule) → is_first_or_other id a ≡ true → first_of id (with_default rows a) ≡ first_of id rows
    default_keeps rows a is = by (has_row a.id rows) (bytes_eq a.id id) refl is
      where
        by : (b its : Bool) → bytes_eq a.id id ≡ its → cond its (option_map_or (λ k. k == 1) a.index false && is_empty a.defaults) true ≡ true → first_of id (cond b rows (default_rows a.id (reading_by a) a.defaults rows)) ≡ first_of id rows
        by true its e is = refl
        by false true e is = ap (λ (defaults : List Text). first_of id (default_rows a.id (reading_by a) defaults rows)) (is_nil a.defaults (both_true (option_map_or (λ k. k == 1) a.index false) _ is).1)
        by false false e is = defaults_apart id a rows e

    defaults_keep : (rules : List Rule) (rows : List Row) → list_all (is_first_or_other id) rules ≡ true → first_of id (fold with_default rows rules) ≡ first_of id rows
    defaults_keep [] rows are = refl
    defaults_keep (a ∷ rules) rows are = let parts = both_true (is_first_or_other id a) _ are in defaults_keep rules (with_default rows a) parts.1 ∙ default_keeps rows a parts.0

    -- whatever words follow, the first operand is what is read
    pub first_stays : (w : Walk) (words : List Text) → IsBehind w → first_of id (finished c (fold (walked c []) w words).held) ≡ Some name
    first_stays w words behind =
        let end = fold (walked c []) w words in
        defaults_keep c (settled_rows c end.held.pending end.held.rows) firsts ∙ settle_keeps end.held (all_behind w words behind).held
