-- What is made of a range of days, and what is known of a request that was given.
use Rattle.std.proofs.Common.{◌≡◌, ℕ, Bool, true, false, List, Option, Some, None, Result, Ok, Err, refl, sym, ◌∙◌, ap}
use Rattle.std.specs.Prelude.{not, nat_lt, ok_or}
use Rattle.wh_day.specs.Reading.{◌>>=◌, unless_fault}
use Rattle.wh_day.specs.Day.{read_day}
use Rattle.wh_policy.specs.declared.policy.Policy.{Policy}
use Rattle.wh_report.specs.Asked.{Asked}
use Rattle.wh_report.specs.Request.{days_make, range_makes, read_request, no_reading, subject_reads, has_reading}
use Rattle.wh_report.specs.Subject.{subject_in}
use Rattle.wh_batch.specs.declared.mode.Mode.{Mode}
use Rattle.wh_report.specs.declared.subject.Subject.{Subject}
use Rattle.wh_report.specs.declared.request.RequestFault.{RequestFault}
use Rattle.wh_report.specs.declared.request.RequestFault.TheVariants.{NoAttribute, BadRange}

-- one thing that days make, by way of another
pub made_by_way : {A B : Type 0} (from to : Option ℕ) (make : ℕ → ℕ → A) (other : ℕ → ℕ → B) (turn : A → B) → ((first last : ℕ) → turn (make first last) ≡ other first last) → (days_make from to make >>= λ made. Ok (turn made)) ≡ days_make from to other
made_by_way None to make other turn is = refl
made_by_way (Some first) None make other turn is = refl
made_by_way (Some first) (Some last) make other turn is =
    elim (not (nat_lt last first)) as (λ b. (unless_fault b BadRange (Ok (make first last)) >>= λ made. Ok (turn made)) ≡ unless_fault b BadRange (Ok (other first last))) [ true ↦ ap Ok (is first last) | false ↦ refl ]

abbrev pub range_in : List ℕ → List ℕ → Result (ℕ × ℕ) RequestFault
range_in from to = range_makes from to (λ first last. (first, last))

-- there is a range
pub range_there : {A : Type 0} (from to : List ℕ) (days : ℕ × ℕ) (make : ℕ → ℕ → A) → Ok days ≡ range_in from to → range_makes from to make ≡ Ok (make days.0 days.1)
range_there from to days make is =
    sym (made_by_way (read_day from) (read_day to) (λ first last. (first, last)) make (λ d. make d.0 d.1) (λ first last. refl)) ∙ ap (λ r. r >>= λ d. Ok (make d.0 d.1)) (sym is)

-- or none
pub range_wanting : {A : Type 0} (from to : List ℕ) (make : ℕ → ℕ → A) → Err BadRange ≡ range_in from to → range_makes from to make ≡ Err BadRange
range_wanting from to make is =
    sym (made_by_way (read_day from) (read_day to) (λ first last. (first, last)) make (λ d. make d.0 d.1) (λ first last. refl)) ∙ ap (λ r. r >>= λ d. Ok (make d.0 d.1)) (sym is)

-- ---- what was made

pub given_is : {A : Type 0} (x y : A) → ◌≡◌ {A = Result A RequestFault} (Ok x) (Ok y) → x ≡ y
given_is x y e = cc

past_test : {A : Type 0} (holds : Bool) (why : RequestFault) (read : Result A RequestFault) (given : A) → unless_fault holds why read ≡ Ok given → (holds ≡ true) × (read ≡ Ok given)
past_test true why read given is = (refl, is)
past_test false why read given is = absurd (cc)

pub days_made : {A : Type 0} (from to : Option ℕ) (make : ℕ → ℕ → A) (made : A) → days_make from to make ≡ Ok made → (first : ℕ) × (last : ℕ) × (made ≡ make first last)
days_made None to make made is = absurd (cc)
days_made (Some first) None make made is = absurd (cc)
days_made (Some first) (Some last) make made is =
    (first, last, sym (given_is (make first last) made (past_test (not (nat_lt last first)) BadRange (Ok (make first last)) made is).1))

-- a request that was given has a reading, and the words, the mode and the days that it was made of
pub record IsGiven (policy : Policy) (words : List ℕ) (mode : Mode) (from to : List ℕ) (r : Asked) : Type 0 where
  pub words_are : r.words ≡ words
  pub mode_is : r.mode ≡ mode
  pub reads : has_reading policy r ≡ true
  pub range : ◌≡◌ {A = Result (ℕ × ℕ) RequestFault} (Ok (r.from, r.to)) (range_in from to)

abbrev asked : List ℕ → Mode → ℕ → ℕ → Asked
asked words mode first last = record { words = words; mode = mode; from = first; to = last }

past_subject : (mode : Mode) (found : Option Subject) (read : Result Asked RequestFault) (r : Asked) → (ok_or found NoAttribute >>= λ subject. unless_fault (subject_reads mode (Some subject)) (no_reading subject mode) read) ≡ Ok r → (subject_reads mode found ≡ true) × (read ≡ Ok r)
past_subject mode None read r is = absurd (cc)
past_subject mode (Some subject) read r is = past_test (subject_reads mode (Some subject)) (no_reading subject mode) read r is

pub given : (policy : Policy) (words : List ℕ) (mode : Mode) (from to : List ℕ) (r : Asked) → read_request policy words mode from to ≡ Ok r → IsGiven policy words mode from to r
unfolding read_request
given policy words mode from to r is =
    let past = past_subject mode (subject_in policy words) (range_makes from to (asked words mode)) r is in
    let made = days_made (read_day from) (read_day to) (asked words mode) r past.1 in
    let same : r ≡ asked words mode made.0 made.1 = made.2 in
    record {
      words_are = ap (λ (q : Asked). q.words) same;
      mode_is = ap (λ (q : Asked). q.mode) same;
      reads = ap (has_reading policy) same ∙ past.0;
      range = sym (ap (λ o. o >>= λ (q : Asked). Ok (q.from, q.to)) past.1) ∙ made_by_way (read_day from) (read_day to) (asked words mode) (λ first last. (first, last)) (λ (q : Asked). (q.from, q.to)) (λ first last. refl);
    }
