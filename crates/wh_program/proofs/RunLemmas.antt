-- What goes out of a run, and how it ends.
use Rattle.std.proofs.Common.{◌≡◌, ◌≢◌, ◌∙◌, inl, inr, ℕ, ◌+◌, List, ◌∷◌, ◌++◌, length, take, append_assoc, Option, Some, None, Err, refl, subst, sym, ap, arith}
use Rattle.std.specs.Io.KnownBytes.{Appends}
use Rattle.std.specs.declared.alloc.AllocError.{AllocError}
use Rattle.std.proofs.KnownBytes.{Appends-trans}
use Rattle.std.proofs.Math.Seq.{take-append-add, take-append_seam}
use Rattle.std.proofs.lemmas.List.{length-append}
use Rattle.wh_program.specs.Answer.{Printed, status_code, write_line}
use Rattle.wh_program.specs.Inputs.{Files, Refusals}
use Rattle.wh_program.specs.Readings.{SaysWriteFailed, answer_after}
use Rattle.wh_program.specs.Run.{GoesOut, IsCutOff, Prints}
use Rattle.wh_words.specs.Task.{Task, Trial, Over, Init, Load, Migrate, Upgrade, Deliver, Plan, Explain, ExplainInit, Records, Query, Report, Reports, Queries, Dump, Views, Check, Status, Session}
use Rattle.wh_program.specs.Standing.{Rests}
use Rattle.wh_program.specs.Tasks.{Stores, Runs, SparesOthers, WhenShut}
use Rattle.wh_program.specs.Warehouse.{Shown, PrintsAnswer, printed}
use Rattle.wh_program.specs.declared.lines.answer.Status.{Status as Ending}
use Rattle.wh_program.specs.declared.lines.answer.Status.TheVariants.{Done, Refused, Failed}

-- no command ends as wrong words do
pub is_no_usage : (s : Ending) → status_code s ≢ 4
is_no_usage Done = λ e. absurd (omega arith)
is_no_usage Refused = λ e. absurd (omega arith)
is_no_usage Failed = λ e. absurd (omega arith)

-- by how much of it an answer is printed
pub parted : (old new : Option (List ℕ)) (code : ℕ) (a : Printed) → Prints old new code a → (cut : Option ℕ) × GoesOut cut old new code a
parted old new code a (inl whole) = (None, whole)
parted old new code a (inr (kept, cut)) = (Some kept, cut)

-- one that is the answer wherever it is cut off
pub printed_so : (answers : Option ℕ → Shown → Type 0) (old new : Option (List ℕ)) (code : ℕ) (shown : Shown) → ((cut : Option ℕ) → answers cut shown) → Prints old new code (printed shown) → PrintsAnswer answers old new code
printed_so answers old new code shown are prints = let out = parted old new code (printed shown) prints in (out.0, shown, are out.0, out.1)

-- an answer that is cut off after a part of it
pub cut-answer_after : (old mid new : Option (List ℕ)) (code kept : ℕ) (part : List ℕ) (a : Printed) → Appends old mid part → IsCutOff kept mid new code a → IsCutOff (length part + kept) old new code (answer_after part a)
cut-answer_after old mid new code kept part a went cut =
    let line = take cut.shown write_line in
    let same : part ++ (take kept a.text ++ line) ≡ take (length part + kept) (part ++ a.text) ++ line =
    sym (append_assoc part (take kept a.text) line) ∙ ap (λ (t : List ℕ). t ++ line) (sym (take-append-add part a.text kept)) in
    record {
      shown = cut.shown;
      cut = omega (arith, length-append part a.text, cut.cut);
      status = cut.status;
      text = subst (Appends old new) same (Appends-trans old mid new part (take kept a.text ++ line) went cut.text);
    }

-- what is printed after a part of it
pub prints-answer_after : (old mid new : Option (List ℕ)) (code : ℕ) (part : List ℕ) (a : Printed) → Appends old mid part → Prints mid new code a → Prints old new code (answer_after part a)
prints-answer_after old mid new code part a went (inl whole) = inl (record { status = whole.status; text = Appends-trans old mid new part a.text went whole.text })
prints-answer_after old mid new code part a went (inr (kept, cut)) = inr (length part + kept, cut-answer_after old mid new code kept part a went cut)

-- the writer failed after a part of an answer that wants at least a byte
pub prints-cut : (old mid new : Option (List ℕ)) (code : ℕ) (a : Printed) (part : List ℕ) (byte : ℕ) (rest : List ℕ) → a.text ≡ part ++ byte ∷ rest → Appends old mid part → SaysWriteFailed mid new code → Prints old new code a
prints-cut old mid new code a part byte rest whole went (failed, (shown, said)) =
    let line = take shown write_line in
    let same : part ++ line ≡ take (length part) a.text ++ line = ap (λ (t : List ℕ). t ++ line) (sym (ap (take (length part)) whole ∙ take-append_seam part (byte ∷ rest))) in
    let longer : length a.text ≡ length part + length (byte ∷ rest) = ap length whole ∙ length-append part (byte ∷ rest) in
    inr (
      length part,
      record {
        shown = shown;
        cut = omega arith;
        status = failed;
        text = subst (Appends old new) same (Appends-trans old mid new part line went said);
      },
    )

-- nothing was done
pub spares_all : (before : Stores) (file : Option (List ℕ)) → SparesOthers before before file
spares_all before None = λ other standing stood. stood
spares_all before (Some file) = λ other standing apart stood. stood

pub shut_all : (shut : List ℕ → Type 0) (file : Option (List ℕ)) (says : List ℕ → Type 0) → ((name : List ℕ) → says name) → WhenShut shut file says
shut_all shut None says all = tt
shut_all shut (Some name) says all = λ is. all name

-- memory ran out before anything was done
pub not_run : (holds : Files) (refuses : Refusals) (before : Stores) (same : Type 0) (prints : Shown → Type 0) (goes_out : Option ℕ → Shown → Type 0) (e : AllocError) (task : Task)
    → same → prints (Err e) → (cut : Option ℕ) × goes_out cut (Err e) → Runs holds refuses before before same prints goes_out task
not_run holds refuses before same prints goes_out e (Trial dim path policy) is p went = (is, (Err e, tt, p))
not_run holds refuses before same prints goes_out e (Over file (Init policy)) is p went = ((λ content stood. (Err e, inr (record { same = stood; tells = tt }), p)), (Err e, inr (is, tt), p))
not_run holds refuses before same prints goes_out e (Over file (Load kind id path)) is p went = λ content stood. (Err e, inr (record { same = stood; tells = tt }), p)
not_run holds refuses before same prints goes_out e (Over file (Migrate id policy)) is p went = λ content stood. (Err e, inr (record { same = stood; tells = tt }), p)
not_run holds refuses before same prints goes_out e (Over file (Upgrade id)) is p went = λ content stood. (Err e, inr (record { same = stood; tells = tt }), p)
not_run holds refuses before same prints goes_out e (Over file (Deliver manifest)) is p went = λ content stood. (went.0, Err e, inr (record { same = stood; tells = tt }), went.1)
not_run holds refuses before same prints goes_out e (Over file (Plan kind id path)) is p went = λ content stood. (Err e, inr (record { same = stood; tells = tt }), p)
not_run holds refuses before same prints goes_out e (Over file (Explain kind None)) is p went = λ content stood. (Err e, inr (record { same = stood; tells = tt }), p)
not_run holds refuses before same prints goes_out e (Over file (Explain kind (Some path))) is p went = λ content stood. (Err e, inr (record { same = stood; tells = tt }), p)
not_run holds refuses before same prints goes_out e (Over file (ExplainInit policy)) is p went = (is, (Err e, tt, p))
not_run holds refuses before same prints goes_out e (Over file (Report words)) is p went = λ content stood. (Err e, inr (record { same = stood; tells = tt }), p)
not_run holds refuses before same prints goes_out e (Over file (Records dim from)) is p went = λ content stood. (Err e, inr (record { same = stood; tells = tt }), p)
not_run holds refuses before same prints goes_out e (Over file (Query words)) is p went = λ content stood. (Err e, inr (record { same = stood; tells = tt }), p)
not_run holds refuses before same prints goes_out e (Over file (Reports list)) is p went = λ content stood. (Err e, inr (record { same = stood; tells = tt }), p)
not_run holds refuses before same prints goes_out e (Over file (Queries list)) is p went = λ content stood. (Err e, inr (record { same = stood; tells = tt }), p)
not_run holds refuses before same prints goes_out e (Over file (Dump table)) is p went = ((λ content of_commands stood. (Err e, inr (record { same = stood; tells = tt }), p)), (λ content stood. (Rests content, inl refl, stood)))
not_run holds refuses before same prints goes_out e (Over file Views) is p went = λ content stood. (Err e, inr (record { same = stood; tells = tt }), p)
not_run holds refuses before same prints goes_out e (Over file Check) is p went = λ content stood. (Err e, inr (record { same = stood; tells = tt }), p)
not_run holds refuses before same prints goes_out e (Over file Status) is p went = λ content stood. (Err e, inr (record { same = stood; tells = tt }), p)
not_run holds refuses before same prints goes_out e (Over file Session) is p went = (is, (Err e, tt, p))
