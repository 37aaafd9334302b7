-- Lines that are answered one after the other.
use Rattle.std.proofs.Common.{◌≡◌, ◌∙◌, ◌⊎◌, inl, inr, refl, sym, ap, subst, arith, ℕ, List, [], ◌∷◌, ◌++◌, Option, Some, None, append_assoc, append-nil, map}
use Rattle.std.specs.Prelude.{max, string_bytes}
use Rattle.std.specs.declared.alloc.Global.{Global}
use Rattle.std.specs.declared.string.String.{String}
use Rattle.std.specs.declared.vec.Vec.{Vec}
use Rattle.std.proofs.Math.Nat.{zero-max}
use Rattle.wh_program.specs.Inputs.{Files, Refusals}
use Rattle.wh_program.specs.Tasks.{Stores}
use Rattle.wh_program.specs.Answer.{failed, wrong_words}
use Rattle.wh_program.specs.Run.{Prints, out_of_memory}
use Rattle.wh_words.specs.Line.{Meaning, Passed, NoCommand, Words, IsRead, line_limit, meaning_of}
use Rattle.wh_words.specs.declared.line.Line.TheVariants as line
use Rattle.wh_session.specs.Line.{IsNext, with_file}
use Rattle.wh_session.specs.Session.{AllGo, Fails, Goes, IsAnswered, LosesInput, OnlyPrints, RunsWords, Session, Stops, no_command_text, no_input_line}
use Rattle.wh_session.proofs.LineLemmas.{meaning_so}

module _ {H : Type 0} (holds : H → Files) (refuses : H → Refusals) (stores : H → Stores) (shut : H → List ℕ → Type 0) (file : List ℕ) where
  -- one line behind the others
  pub and_one : (lines : List (List ℕ)) (l : List ℕ) (before mid after : H) (old out new : Option (List ℕ)) (status code : ℕ)
      → AllGo holds refuses stores shut file lines before mid old out status → Goes holds refuses stores shut file (meaning_of l) mid after out new code
      → AllGo holds refuses stores shut file (lines ++ l ∷ []) before after old new (max status code)
  and_one [] l before mid after old out new status code went goes =
      let same : mid ≡ before = went.0 in
      let kept : out ≡ old = went.1 in
      let none : status ≡ 0 = went.2 in (
        after,
        new,
        code,
        0,
        subst (λ (o : Option (List ℕ)). Goes holds refuses stores shut file (meaning_of l) before after o new code) kept (subst (λ (h : H). Goes holds refuses stores shut file (meaning_of l) h after out new code) same goes),
        (refl, refl, refl),
        omega (arith, none),
      )
  and_one (first ∷ lines) l before mid after old out new status code went goes =
      let next = and_one lines l went.0 mid after went.1 out new went.3 code went.5 goes in
      (went.0, went.1, went.2, max went.3 code, went.4, next, omega (arith, went.6))

  pub one_line : (l : List ℕ) (before after : H) (old new : Option (List ℕ)) (code : ℕ)
      → AllGo holds refuses stores shut file (l ∷ []) before after old new code → Goes holds refuses stores shut file (meaning_of l) before after old new code
  one_line l before after old new code went =
      let rest = went.5 in
      let is : went.2 ≡ code = omega (arith, went.6, rest.2) in
      subst (λ (c : ℕ). Goes holds refuses stores shut file (meaning_of l) before after old new c) is
      (subst (λ (o : Option (List ℕ)). Goes holds refuses stores shut file (meaning_of l) before after old o went.2) (sym rest.1)
      (subst (λ (h : H). Goes holds refuses stores shut file (meaning_of l) before h old went.1 went.2) (sym rest.0) went.4))

  pub parted : (first others : List (List ℕ)) (before after : H) (old new : Option (List ℕ)) (code : ℕ)
      → AllGo holds refuses stores shut file (first ++ others) before after old new code
      → (mid : H) × (out : Option (List ℕ)) × (status rest : ℕ) × AllGo holds refuses stores shut file first before mid old out status × AllGo holds refuses stores shut file others mid after out new rest × (code ≡ max status rest)
  parted [] others before after old new code went = (before, old, 0, code, (refl, refl, refl), went, sym (zero-max code))
  parted (l ∷ first) others before after old new code went =
      let later = parted first others went.0 after went.1 new went.3 went.5 in
      (later.0, later.1, max went.2 later.2, later.3, (went.0, went.1, went.2, later.2, went.4, later.4, refl), later.5, omega (arith, went.6, later.6))

  -- ---- a line

  pub unread : (meaning : Meaning) (before after : H) (old new : Option (List ℕ)) (code : ℕ) → IsRead meaning line.NoCommand
      → OnlyPrints holds refuses stores shut (wrong_words no_command_text) before after old new code → IsAnswered holds refuses stores shut file meaning before after old new code
  unread Passed before after old new code is prints = absurd is
  unread NoCommand before after old new code is prints = inl prints
  unread (Words words) before after old new code is prints = inl (inr (is, prints))

  pub reads_words : (meaning : Meaning) (texts : Vec (String Global) Global) (before after : H) (old new : Option (List ℕ)) (code : ℕ) → IsRead meaning (line.Words texts)
      → RunsWords holds refuses stores shut (with_file file (map string_bytes texts.items)) before after old new code ⊎ OnlyPrints holds refuses stores shut out_of_memory before after old new code
      → IsAnswered holds refuses stores shut file meaning before after old new code
  reads_words Passed texts before after old new code is answers = absurd is
  reads_words NoCommand texts before after old new code is answers = absurd is
  reads_words (Words words) texts before after old new code is (inl runs) = inl (inl (subst (λ (them : List (List ℕ)). RunsWords holds refuses stores shut (with_file file them) before after old new code) is runs))
  reads_words (Words words) texts before after old new code is (inr prints) = inr prints

  -- ---- the lines of a console

  -- the first of these lines were answered, and the console has the others
  pub record IsSoFar (lines : List (List ℕ)) (before now : H) (old out : Option (List ℕ)) (code : ℕ) (hears : Option (List (List ℕ))) : Type 0 where
    pub first : List (List ℕ)
    pub left : List (List ℕ)
    pub parts : lines ≡ first ++ left
    pub hears_is : hears ≡ Some left
    pub went : AllGo holds refuses stores shut file first before now old out code

  pub none_so_far : (lines : List (List ℕ)) (before : H) (old : Option (List ℕ)) (hears : Option (List (List ℕ))) → hears ≡ Some lines → IsSoFar lines before before old old 0 hears
  none_so_far lines before old hears is = record { first = []; left = lines; parts = refl; hears_is = is; went = (refl, refl, refl) }

  pub one_more : (lines : List (List ℕ)) (before mid after : H) (old out new : Option (List ℕ)) (code status : ℕ) (hears later : Option (List (List ℕ))) (read : List ℕ)
      → IsSoFar lines before mid old out code hears → ((left : List (List ℕ)) → hears ≡ Some left → IsNext line_limit left (Some read) later)
      → Goes holds refuses stores shut file (meaning_of read) mid after out new status → IsSoFar lines before after old new (max code status) later
  one_more lines before mid after old out new code status hears later read s next goes =
      let n = next s.left s.hears_is in
      let means : meaning_of read ≡ meaning_of n.0 = ap meaning_of n.3 ∙ meaning_so n.0 in
      record {
        first = s.first ++ n.0 ∷ [];
        left = n.1;
        parts = s.parts ∙ ap (λ (left : List (List ℕ)). s.first ++ left) n.2 ∙ sym (append_assoc s.first (n.0 ∷ []) n.1);
        hears_is = n.4;
        went = and_one s.first n.0 before mid after old out new code status s.went (subst (λ (m : Meaning). Goes holds refuses stores shut file m mid after out new status) means goes);
      }

  pub all_gone : (lines : List (List ℕ)) (before now : H) (old out : Option (List ℕ)) (code : ℕ) (hears later : Option (List (List ℕ)))
      → IsSoFar lines before now old out code hears → ((left : List (List ℕ)) → hears ≡ Some left → IsNext line_limit left None later) → Session holds refuses stores shut file lines before now old out code
  all_gone lines before now old out code hears later s next =
      let n = next s.left s.hears_is in
      let whole : lines ≡ s.first = s.parts ∙ ap (λ (left : List (List ℕ)). s.first ++ left) n.0 ∙ append-nil s.first in
      inl (subst (λ (them : List (List ℕ)). AllGo holds refuses stores shut file them before now old out code) (sym whole) s.went)

  pub stopped : (lines : List (List ℕ)) (before mid after : H) (old out new : Option (List ℕ)) (code : ℕ) (hears later : Option (List (List ℕ))) (read : List ℕ)
      → IsSoFar lines before mid old out code hears → ((left : List (List ℕ)) → hears ≡ Some left → IsNext line_limit left (Some read) later)
      → Stops holds refuses stores shut file (meaning_of read) mid after out new → Session holds refuses stores shut file lines before after old new (max code 3)
  stopped lines before mid after old out new code hears later read s next stops =
      let n = next s.left s.hears_is in
      let means : meaning_of read ≡ meaning_of n.0 = ap meaning_of n.3 ∙ meaning_so n.0 in
      inr (record {
        first = s.first;
        left = n.0 ∷ n.1;
        parts = s.parts ∙ ap (λ (left : List (List ℕ)). s.first ++ left) n.2;
        mid = mid;
        out = out;
        status = code;
        went = s.went;
        fails = inr (subst (λ (m : Meaning). Stops holds refuses stores shut file m mid after out new) means stops);
        code_is = refl;
      })

  pub loses : (now : H) (old new : Option (List ℕ)) → Prints old new 3 (failed no_input_line) ⊎ Prints old new 3 out_of_memory → LosesInput holds refuses stores shut now now old new
  loses now old new (inl shown) = inl (refl, shown)
  loses now old new (inr shown) = inr (refl, shown)

  fails_before : (left : List (List ℕ)) (before after : H) (old new : Option (List ℕ)) → LosesInput holds refuses stores shut before after old new → Fails holds refuses stores shut file left before after old new
  fails_before [] before after old new loses = loses
  fails_before (l ∷ left) before after old new loses = inl loses

  pub input_lost : (lines : List (List ℕ)) (before now : H) (old out new : Option (List ℕ)) (code : ℕ) (hears : Option (List (List ℕ)))
      → IsSoFar lines before now old out code hears → LosesInput holds refuses stores shut now now out new → Session holds refuses stores shut file lines before now old new (max code 3)
  input_lost lines before now old out new code hears s loses = inr (record {
    first = s.first;
    left = s.left;
    parts = s.parts;
    mid = now;
    out = out;
    status = code;
    went = s.went;
    fails = fails_before s.left now now out new loses;
    code_is = refl;
  })
