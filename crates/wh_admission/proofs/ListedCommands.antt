-- The rows of the command table in their order.
use Rattle.std.proofs.Common.{◌⊎◌, inl, inr, ◌≡◌, ℕ, zero, suc, ◌<◌, ◌≤◌, true, false, cond, List, [], ◌∷◌, ◌++◌, length, map, Option, Some, None, refl, sym, ap, subst, ◌∙◌, arith, append_assoc, append-nil, Less}
use Rattle.std.specs.Prelude.{option_map}
use Rattle.std.specs.FinMap.{find, nat_cmp-IsAntisymmetric}
use Rattle.std.specs.Cmp.{eq_by_cmp_equiv, nat_cmp_is}
use Rattle.std.proofs.lemmas.Cmp.{nat_cmp_total}
use Rattle.std.proofs.lemmas.Bool.{cases_lt}
use Rattle.std.specs.List.{AllByRecursion}
use Rattle.std.specs.Ordering.{eq_by_cmp, is_eq, nat_cmp}
use Rattle.wh_history.specs.Tables.{Limits}
use Rattle.wh_admission.specs.Admission.{AreAdmitted}
use Rattle.wh_admission.specs.Steps.{IsBegunWith}
use Rattle.wh_admission.proofs.AdmittedSteps.{parted}
use Rattle.wh_admission.proofs.CheckedTables.{header, told_by_headers}
use Rattle.std.proofs.lemmas.List.{length-append}
use Rattle.wh_history.specs.Accepted.{Accepted}
use Rattle.wh_model.specs.Defined.{command_at}
use Rattle.wh_rows.specs.Rows as row
use Rattle.wh_rows.specs.declared.rows.CommandRow.{CommandRow}
use Rattle.wh_model.proofs.GrownKeys.{at_past}
use Rattle.wh_model.proofs.Listed.{keyed, Ascends, equal_is}
use Rattle.wh_model.proofs.GrownCommands.{row_with, placed}
use Rattle.wh_admission.proofs.CommandRows.{row_of, row_is}

-- the rows of commands that come after others, in the order of their numbers
unfoldable pub rows_in : List Accepted → List Accepted → List CommandRow
rows_in before [] = []
rows_in before (a ∷ later) = row_of before a ∷ rows_in (before ++ a ∷ []) later

pub rows_last : (before later : List Accepted) (a : Accepted) → rows_in before (later ++ a ∷ []) ≡ rows_in before later ++ row_of (before ++ later) a ∷ []
unfolding rows_in
rows_last before [] a = ap (λ list. row_of list a ∷ []) (sym (append-nil before))
rows_last before (b ∷ later) a = ap (λ rows. row_of before b ∷ rows) (rows_last (before ++ b ∷ []) later a ∙ ap (λ list. rows_in (before ++ b ∷ []) later ++ row_of list a ∷ []) (append_assoc before (b ∷ []) later))

number_is : (before : List Accepted) (a : Accepted) → (row_of before a).number ≡ suc (length before)
unfolding row_of
number_is before a = refl

-- under a number behind those before stands the row of its command
found_in : (before later : List Accepted) (k : ℕ) → length before < k → find nat_cmp k (keyed row.command.key (rows_in before later)) ≡ command_at (before ++ later) k
unfolding rows_in
found_in before [] k behind =
    sym (ap (λ list. command_at list k) (append-nil before) ∙ ap (λ o. option_map (placed k) (option_map (row_with before k) o)) (at_past k before behind))
found_in before (a ∷ later) k behind = go (cases_lt (suc (length before)) k) (λ further. found_in (before ++ a ∷ []) later k further)
  where
    rest : Option CommandRow
    rest = find nat_cmp k (keyed row.command.key (rows_in (before ++ a ∷ []) later))

    here : k ≡ suc (length before) → cond (eq_by_cmp nat_cmp k (row_of before a).number) (Some (row_of before a)) rest ≡ command_at (before ++ a ∷ later) k
    here is =
        let tied : eq_by_cmp nat_cmp k (row_of before a).number ≡ true = ap (λ n. eq_by_cmp nat_cmp n (row_of before a).number) (is ∙ sym (number_is before a)) ∙ (eq_by_cmp_equiv nat_cmp_total).refl (row_of before a).number in
        ap (λ b. cond b (Some (row_of before a)) rest) tied ∙ sym (row_is before a later) ∙ ap (command_at (before ++ a ∷ later)) (sym is)

    there : suc (length before) < k → rest ≡ command_at ((before ++ a ∷ []) ++ later) k → cond (eq_by_cmp nat_cmp k (row_of before a).number) (Some (row_of before a)) rest ≡ command_at (before ++ a ∷ later) k
    there beyond more =
        elim (eq_by_cmp nat_cmp k (row_of before a).number) as (λ b. eq_by_cmp nat_cmp k (row_of before a).number ≡ b → cond b (Some (row_of before a)) rest ≡ command_at (before ++ a ∷ later) k) [
          | true ↦ λ tie. let same : k ≡ suc (length before) = nat_cmp-IsAntisymmetric k (row_of before a).number (equal_is _ tie) ∙ number_is before a in absurd (omega (arith, same, beyond))
          | false ↦ λ _. more ∙ ap (λ list. command_at list k) (append_assoc before (a ∷ []) later)
        ] refl

    go : ((suc (length before) < k) ⊎ (k ≤ suc (length before))) → (length (before ++ a ∷ []) < k → rest ≡ command_at ((before ++ a ∷ []) ++ later) k) → cond (eq_by_cmp nat_cmp k (row_of before a).number) (Some (row_of before a)) rest ≡ command_at (before ++ a ∷ later) k
    go (inl beyond) more = there beyond (more (let long = length-append before (a ∷ []) in omega (arith, beyond, long)))
    go (inr upto) more = here (omega (arith, upto, behind))

-- the numbers rise
all_behind : (n : ℕ) (before later : List Accepted) → n ≤ length before → AllByRecursion (λ (r : CommandRow). nat_cmp n r.number ≡ Less) (rows_in before later)
unfolding rows_in
all_behind n before [] upto = tt
all_behind n before (a ∷ later) upto =
    (less_cmp n (row_of before a).number (let is = number_is before a in omega (arith, upto, is)), all_behind n (before ++ a ∷ []) later (let long = length-append before (a ∷ []) in omega (arith, upto, long)))
  where
    less_cmp : (m k : ℕ) → m < k → nat_cmp m k ≡ Less
    less_cmp m k less = sym (nat_cmp_is m k Less less)

pub rows_rise : (before later : List Accepted) → Ascends nat_cmp row.command.key (rows_in before later)
unfolding rows_in
rows_rise before [] = tt
rows_rise before (a ∷ later) = (
  subst (λ n. AllByRecursion (λ (r : CommandRow). nat_cmp n r.number ≡ Less) (rows_in (before ++ a ∷ []) later)) (sym (number_is before a)) (all_behind (suc (length before)) (before ++ a ∷ []) later (let long = length-append before (a ∷ []) in omega (arith, long))),
  rows_rise (before ++ a ∷ []) later,
)

-- ---- all rows of a list

-- under each number stands the row of its command
pub all_found : (commands : List Accepted) (k : ℕ) → find nat_cmp k (keyed row.command.key (rows_in [] commands)) ≡ command_at commands k
all_found commands zero = none_at_zero (rows_in [] commands) (all_behind 0 [] commands (omega arith))
  where
    none_at_zero : (rows : List CommandRow) → AllByRecursion (λ (r : CommandRow). nat_cmp 0 r.number ≡ Less) rows → find nat_cmp 0 (keyed row.command.key rows) ≡ None
    none_at_zero [] below = refl
    none_at_zero (r ∷ rows) below = ap (λ o. cond (is_eq o) (Some r) (find nat_cmp 0 (keyed row.command.key rows))) below.0 ∙ none_at_zero rows below.1
all_found commands (suc n) = found_in [] commands (suc n) (omega arith)

pub rows_join : (before first second : List Accepted) → rows_in before (first ++ second) ≡ rows_in before first ++ rows_in (before ++ first) second
unfolding rows_in
rows_join before [] second = ap (λ list. rows_in list second) (sym (append-nil before))
rows_join before (a ∷ first) second = ap (λ rows. row_of before a ∷ rows) (rows_join (before ++ a ∷ []) first second ∙ ap (λ list. rows_in (before ++ a ∷ []) first ++ rows_in list second) (append_assoc before (a ∷ []) first))

-- rows tell ids, kinds and bytes
abbrev row_header : CommandRow → List (List ℕ)
row_header r = r.id ∷ r.kind ∷ r.bytes ∷ []

headers_told : (before later : List Accepted) → map row_header (rows_in before later) ≡ map header later
unfolding rows_in row_of
headers_told before [] = refl
headers_told before (a ∷ later) = ap (λ l. header a ∷ l) (headers_told (before ++ a ∷ []) later)

tails : {X : Type 0} (x y : X) (xs ys : List X) → x ∷ xs ≡ y ∷ ys → (x ≡ y) × (xs ≡ ys)
tails x y xs ys same = (cc, cc)

-- a list whose rows begin with those of another and one row more
pub record Continues (first list : List Accepted) (rows : List CommandRow) (next : CommandRow) : Type 0 where
  pub front : List Accepted
  pub command : Accepted
  pub rest : List Accepted
  pub is : list ≡ front ++ command ∷ rest
  pub rows_are : rows ≡ rows_in first front
  pub row_is : next ≡ row_of (first ++ front) command

pub continues : (first list : List Accepted) (rows more : List CommandRow) (next : CommandRow) → rows ++ next ∷ more ≡ rows_in first list → Continues first list rows next
unfolding rows_in
continues first [] [] more next same = absurd cc
continues first [] (r ∷ rows) more next same = absurd cc
continues first (a ∷ list) [] more next same =
    record { front = []; command = a; rest = list; is = refl; rows_are = refl; row_is = (tails next (row_of first a) more (rows_in (first ++ a ∷ []) list) same).0 ∙ ap (λ l. row_of l a) (sym (append-nil first)) }
continues first (a ∷ list) (r ∷ rows) more next same =
    let parts = tails r (row_of first a) (rows ++ next ∷ more) (rows_in (first ++ a ∷ []) list) same in
    let it = continues (first ++ a ∷ []) list rows more next parts.1 in
    record {
      front = a ∷ it.front;
      command = it.command;
      rest = it.rest;
      is = ap (λ l. a ∷ l) it.is;
      rows_are = λ i. parts.0 i ∷ it.rows_are i;
      row_is = it.row_is ∙ ap (λ l. row_of l it.command) (append_assoc first (a ∷ []) it.front);
    }

-- where a list was admitted whose rows begin with those of these commands and one row more, that row is the one of a command that comes next
pub record IsNextTold (limits : Limits) (commands : List Accepted) (next : CommandRow) : Type 0 where
  pub command : Accepted
  pub rest : List Accepted
  pub admitted : AreAdmitted limits (commands ++ command ∷ rest)
  pub row_is : command_at (commands ++ command ∷ rest) (suc (length commands)) ≡ Some next

same_front : (limits : Limits) (commands front : List Accepted) (a : Accepted) (rest : List Accepted) → IsBegunWith limits commands → AreAdmitted limits (front ++ a ∷ rest) → map header commands ≡ map header front → commands ≡ front
same_front limits [] [] a rest begun admitted same = refl
same_front limits [] (c ∷ front) a rest begun admitted same = absurd cc
same_front limits (b ∷ commands) [] a rest begun admitted same = absurd cc
same_front limits (b ∷ commands) (c ∷ front) a rest begun admitted same = told_by_headers limits (b ∷ commands) (c ∷ front) begun (parted limits c front (a ∷ rest) admitted).admitted same

pub next_told : (limits : Limits) (commands list : List Accepted) (more : List CommandRow) (next : CommandRow) → IsBegunWith limits commands → AreAdmitted limits list → rows_in [] commands ++ next ∷ more ≡ rows_in [] list → IsNextTold limits commands next
next_told limits commands list more next begun admitted same =
    let it = continues [] list (rows_in [] commands) more next same in
    let whole : AreAdmitted limits (it.front ++ it.command ∷ it.rest) = subst (AreAdmitted limits) it.is admitted in
    let headers : map header commands ≡ map header it.front = sym (headers_told [] commands) ∙ ap (map row_header) it.rows_are ∙ headers_told [] it.front in
    let front : commands ≡ it.front = same_front limits commands it.front it.command it.rest begun whole headers in
    record {
      command = it.command;
      rest = it.rest;
      admitted = subst (λ l. AreAdmitted limits (l ++ it.command ∷ it.rest)) (sym front) whole;
      row_is = row_is commands it.command it.rest ∙ ap Some (sym (it.row_is ∙ ap (λ l. row_of l it.command) (sym front)));
    }
