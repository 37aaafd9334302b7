-- Lines that are gathered, and go out a part at a time.
use Rattle.std.proofs.Common.{◌≡◌, ◌≢◌, ℕ, List, [], ◌∷◌, ◌++◌, map, Option, Some, Result, Ok, Err, IfOk, refl, sym, ap, ◌∙◌, subst, append_assoc, append-nil, arith, length, drop, ◌<◌, ◌+◌}
use Rattle.std.specs.Prelude.{OnOk, IfErr}
use Rattle.std.specs.Io.KnownBytes.{Appends, Keeps}
use Rattle.std.specs.List.{concat}
use Rattle.std.specs.declared.alloc.Global.{Global}
use Rattle.std.specs.declared.vec.Vec.{Vec}
use Rattle.std.proofs.KnownBytes.{Appends-nil}
use Rattle.std.proofs.lemmas.List.{map-append, drop_at, length-append}
use Rattle.std.proofs.lemmas.List.Folds.{concat-append}
use Rattle.csv.specs.Writing.{writer_under, writer_pending, writer_setup, fields_written, has_written, text_written}
use Rattle.csv.specs.declared.writer.Writer.{Writer}
use Rattle.wh_rows.specs.Holds.{Layout}
use Rattle.wh_rows.specs.declared.table.Table.{Table}
use Rattle.sqlite.specs.Order.{Row}
use Rattle.wh_engine.specs.Faults.{NamesTable}
use Rattle.wh_engine.specs.declared.fault.Fault.{Fault}
use Rattle.wh_engine.specs.declared.fault.Fault.TheVariants as faults
use Rattle.wh_report.specs.Dumped.{BeginsWith, AreReadOf}
use Rattle.wh_report.specs.Output.{IsOutBut, IsCut, IsOutWhole, IsOutBefore, AreOut, IsOutInLines, IsOfNoTable, IsOfDump, of_warehouse}
use Rattle.wh_report.specs.CsvBuffer.{AreMade, Gathers, IsOutOrGathered}
use Rattle.wh_report.specs.declared.output.ReportFault.{ReportFault}
use Rattle.wh_report.specs.declared.output.ReportFault.TheVariants.{Write, Warehouse, Unwritten, Inconsistent}
use Rattle.wh_report.specs.declared.csv_buffer.CsvBuffer.{CsvBuffer}
use Rattle.wh_report.proofs.Outputs.{none_out, longer, joined, sent, cut_then, cut_before}
use Rattle.wh_history.proofs.Basics.{some_is}

-- what a call says where it is answered, further on
pub on_ok : {X E P Q : Type 0} (result : Result X E) → (P → Q) → OnOk result P → OnOk result Q
on_ok (Ok x) further says = further says
on_ok (Err e) further says = says

pub if_ok : {X E : Type 0} {P Q : X → Type 0} (result : Result X E) → ((x : X) → P x → Q x) → IfOk result P → IfOk result Q
if_ok (Ok x) further says = further x says
if_ok (Err e) further says = says

-- ---- making a line

abbrev holds : Vec ℕ Global → Option (List ℕ)
holds vec = Some vec.items

-- what was written stands underneath after a flush
pub flushed : (m n : Writer (Vec ℕ Global)) (text : List ℕ) → Keeps (text_written holds m) (text_written holds n) → writer_pending n ≡ [] → fields_written n ≡ fields_written m → has_written n ≡ has_written m → writer_setup n ≡ writer_setup m
    → AreMade m text → AreMade n text × ((writer_under n).items ≡ text)
flushed m n text kept none fields shown setup made =
    let same : (writer_under n).items ++ writer_pending n ≡ text = kept ∙ some_is _ _ made.held in (
      record { held = ap Some same; none_begun = fields ∙ made.none_begun; none_shown = shown ∙ made.none_shown; as_csv = setup ∙ made.as_csv },
      sym (append-nil (writer_under n).items) ∙ ap (λ b. (writer_under n).items ++ b) (sym none) ∙ same,
    )

-- of what was made that is added which isn't there yet
pub caught : (lines made line : List ℕ) (n : ℕ) → n ≡ length lines → made ≡ lines ++ line → lines ++ drop n made ≡ made
caught lines made line n long is = ap (λ m. lines ++ drop n m) is ∙ ap (λ l. lines ++ l) (drop_at lines line n (sym long)) ∙ sym is

pub not_short : (lines made line : List ℕ) → length made < length lines → made ≡ lines ++ line → ⊥
not_short lines made line short is = let long : length made ≡ length lines + length line = ap length is ∙ length-append lines line in omega (arith, short, long)

-- ---- one part

-- before a fault of the warehouse is told, as that
pub told_fault : (fault : Fault) (told : ReportFault) (a b : Option (List ℕ)) (text : List ℕ) → IsOutBefore fault told a b text → of_warehouse {A = Unit {0}} (Err told) ≡ Err fault
told_fault fault (Warehouse why) a b text (is, went) = ap Err is
told_fault fault (Unwritten why) a b text (is, cut) = ap Err is
told_fault fault Write a b text none = absurd none
told_fault fault (Inconsistent table) a b text none = absurd none

pub told_dump : (fault : Fault) (told : ReportFault) (a b : Option (List ℕ)) (text : List ℕ) → IsOutBefore fault told a b text → IsOfDump told
told_dump fault (Warehouse why) a b text out = tt
told_dump fault (Unwritten why) a b text out = tt
told_dump fault Write a b text none = absurd none
told_dump fault (Inconsistent table) a b text none = absurd none

pub told_memory : (told : ReportFault) (a b : Option (List ℕ)) (text : List ℕ) → IsOutBefore faults.Memory told a b text → IsOfNoTable told
told_memory (Warehouse why) a b text (is, went) = subst (λ (f : Fault). IsOfNoTable (Warehouse f)) (sym is) tt
told_memory (Unwritten why) a b text (is, cut) = subst (λ (f : Fault). IsOfNoTable (Unwritten f)) (sym is) tt
told_memory Write a b text none = absurd none
told_memory (Inconsistent table) a b text none = absurd none

-- memory ran out for a line, and those before went out
pub line_lost : (part : CsvBuffer) (told : ReportFault) (a b : Option (List ℕ)) (lines line : List ℕ) → IsOutBefore faults.Memory told a b lines → IsOutOrGathered (Err told) part a b lines line
line_lost part (Warehouse why) a b lines line (is, went) = went
line_lost part (Unwritten why) a b lines line (is, cut) = cut
line_lost part Write a b lines line none = absurd none
line_lost part (Inconsistent table) a b lines line none = absurd none

whole_out : (a b : Option (List ℕ)) (text : List ℕ) → Appends a b text → IsOutBut [] a b text
whole_out a b text went = record { part = text; whole = sym (append-nil text); went = went }

-- all went out, and none is gathered
pub gone : (part : CsvBuffer) (a b : Option (List ℕ)) (lines line : List ℕ) (result : Result (Unit {0}) ReportFault) → OnOk result (Gathers part []) → IsOutWhole result a b (lines ++ line) → IsOutOrGathered result part a b lines line
gone part a b lines line (Ok done) anew out = ([], anew, whole_out a b (lines ++ line) out)
gone part a b lines line (Err Write) anew out = out
gone part a b lines line (Err (Warehouse fault)) anew none = absurd none
gone part a b lines line (Err (Unwritten fault)) anew none = absurd none
gone part a b lines line (Err (Inconsistent table)) anew none = absurd none

-- ---- a line a row

module _ {R : Type 0} (header : List ℕ) (line : R → List ℕ) where
  abbrev pub lines_of : List R → List (List ℕ)
  lines_of rows = header ∷ map line rows

  abbrev pub text_of : List R → List ℕ
  text_of rows = concat (lines_of rows)

  lines_more : (done more : List R) → lines_of (done ++ more) ≡ lines_of done ++ map line more
  lines_more done more = ap (λ ls. header ∷ ls) (map-append line done more)

  text_more : (done more : List R) → text_of (done ++ more) ≡ text_of done ++ concat (map line more)
  text_more done more = ap concat (lines_more done more) ∙ concat-append (lines_of done) (map line more)

  pub text_row : (done : List R) (row : R) → text_of (done ++ row ∷ []) ≡ text_of done ++ line row
  text_row done row = text_more done (row ∷ []) ∙ ap (λ t. text_of done ++ t) (append-nil (line row))

  -- of the lines of these rows all went out but what is gathered
  pub record IsGoing (part : CsvBuffer) (old new : Option (List ℕ)) (done : List R) : Type 0 where
    pub rest : List ℕ
    pub gathered : Gathers part rest
    pub out : IsOutBut rest old new (text_of done)

  pub begun : (part : CsvBuffer) (a : Option (List ℕ)) → Gathers part header → IsGoing part a a []
  begun part a gathered = record { rest = header; gathered = gathered; out = subst (λ t. IsOutBut header a a t) (sym (append-nil header)) (none_out a header) }

  pub row_added : (p q : CsvBuffer) (a b c : Option (List ℕ)) (done : List R) (row : R) (x : Unit {0}) (before : IsGoing p a b done) → IsOutOrGathered (Ok x) q b c before.rest (line row) → IsGoing q a c (done ++ row ∷ [])
  row_added p q a b c done row x before now = record {
    rest = now.0;
    gathered = now.1;
    out = subst (IsOutBut now.0 a c) (sym (text_row done row)) (joined a b c (text_of done ++ line row) (before.rest ++ line row) now.0 (longer a b (text_of done) before.rest (line row) before.out) now.2);
  }

  -- the writer failed before the end of these lines
  cut_in : (a b : Option (List ℕ)) (done more : List R) → IsCut a b (text_of done) → IsCut a b (text_of (done ++ more))
  cut_in a b done more cut = subst (IsCut a b) (sym (text_more done more)) (cut_before a b (text_of done) (concat (map line more)) cut)

  -- these lines are out
  out_to : (a b : Option (List ℕ)) (done more : List R) → Appends a b (text_of done) → AreOut (lines_of done) (lines_of (done ++ more)) a b
  out_to a b done more went = record { left = map line more; whole = lines_more done more; went = went }

  pub row_not_added : (p q : CsvBuffer) (a b c : Option (List ℕ)) (done : List R) (row : R) (more : List R) (fault : ReportFault) (before : IsGoing p a b done) → IsOfNoTable fault → IsOutOrGathered (Err fault) q b c before.rest (line row)
      → IsOutInLines (Err fault) a c (lines_of (done ++ row ∷ more))
  row_not_added p q a b c done row more Write before kind out =
      subst (λ rows. IsCut a c (text_of rows)) (append_assoc done (row ∷ []) more)
      (cut_in a c (done ++ row ∷ []) more (subst (IsCut a c) (sym (text_row done row)) (cut_then a b c (text_of done ++ line row) (before.rest ++ line row) (longer a b (text_of done) before.rest (line row) before.out) out)))
  row_not_added p q a b c done row more (Unwritten why) before kind out = cut_in a c done (row ∷ more) (cut_then a b c (text_of done) before.rest before.out out)
  row_not_added p q a b c done row more (Warehouse faults.Memory) before kind out = (lines_of done, out_to a c done (row ∷ more) (sent a b c (text_of done) before.rest before.out out))
  row_not_added p q a b c done row more (Warehouse (faults.Refused why)) before kind out = absurd kind
  row_not_added p q a b c done row more (Warehouse (faults.Damaged table)) before kind out = absurd kind
  row_not_added p q a b c done row more (Warehouse (faults.Store cause)) before kind out = absurd kind
  row_not_added p q a b c done row more (Warehouse faults.Reopen) before kind out = absurd kind
  row_not_added p q a b c done row more (Inconsistent table) before kind out = absurd kind

  -- lines went out before a fault
  whole_lines : (a b : Option (List ℕ)) (done more : List R) (why : Fault) → why ≢ faults.Reopen → Appends a b (text_of done) → IsOutInLines (Err (Warehouse why)) a b (lines_of (done ++ more))
  whole_lines a b done more faults.Memory other went = (lines_of done, out_to a b done more went)
  whole_lines a b done more faults.Reopen other went = absurd (other refl)
  whole_lines a b done more (faults.Refused why) other went = (header, map line done, out_to a b done more went)
  whole_lines a b done more (faults.Damaged table) other went = (header, map line done, out_to a b done more went)
  whole_lines a b done more (faults.Store cause) other went = (header, map line done, out_to a b done more went)

  pub stopped : (part : CsvBuffer) (a b c : Option (List ℕ)) (done more : List R) (fault : Fault) (told : ReportFault) (before : IsGoing part a b done) → fault ≢ faults.Reopen → IsOutBefore fault told b c before.rest
      → IsOutInLines (Err told) a c (lines_of (done ++ more))
  stopped part a b c done more fault (Warehouse why) before other (is, went) = whole_lines a c done more why (subst (λ (f : Fault). f ≢ faults.Reopen) (sym is) other) (sent a b c (text_of done) before.rest before.out went)
  stopped part a b c done more fault (Unwritten why) before other (is, cut) = cut_in a c done more (cut_then a b c (text_of done) before.rest before.out cut)
  stopped part a b c done more fault Write before other none = absurd none
  stopped part a b c done more fault (Inconsistent table) before other none = absurd none

  -- the last part goes out
  pub last_out : (part : CsvBuffer) (a b c : Option (List ℕ)) (done : List R) (result : Result (Unit {0}) ReportFault) (before : IsGoing part a b done) → IsOutWhole result b c before.rest → IsOutInLines result a c (lines_of done)
  last_out part a b c done (Ok x) before out = sent a b c (text_of done) before.rest before.out out
  last_out part a b c done (Err Write) before out = cut_then a b c (text_of done) before.rest before.out out
  last_out part a b c done (Err (Warehouse fault)) before none = absurd none
  last_out part a b c done (Err (Unwritten fault)) before none = absurd none
  last_out part a b c done (Err (Inconsistent table)) before none = absurd none

  -- the same of equal rows
  pub lines_for : (result : Result (Unit {0}) ReportFault) (a b : Option (List ℕ)) (rows others : List R) → rows ≡ others → IsOutInLines result a b (lines_of rows) → IsOutInLines result a b (lines_of others)
  lines_for result a b rows others same = subst (λ vs. IsOutInLines result a b (lines_of vs)) same

  -- These rows were handed out; and what is said of them, where their table was at rest, and where it was stored.
  pub record HasGone (Typed Stored : List R → Type 0) (part : CsvBuffer) (old new : Option (List ℕ)) : Type 0 where
    pub done : List R
    pub going : IsGoing part old new done
    pub typed : Typed done
    pub stored : Stored done

  -- nothing is out yet
  pub no_line : (a : Option (List ℕ)) (rows : List R) → IsOutInLines (Err (Warehouse faults.Memory)) a a (lines_of rows)
  no_line a rows = ([], record { left = lines_of rows; whole = refl; went = Appends-nil a })

-- of all rows some were handed out, and one more is
pub one_more : {R : Type 0} (done left rest all : List R) (row : R) → left ≡ row ∷ rest → done ++ left ≡ all → (done ++ row ∷ []) ++ rest ≡ all
one_more done left rest all row is whole = append_assoc done (row ∷ []) rest ∙ ap (λ rows. done ++ rows) (sym is) ∙ whole

-- ---- which table is named

pub names_none : (name : Table) (fault : ReportFault) → IsOfNoTable fault → IfErr (of_warehouse {A = Unit {0}} (Err fault)) (NamesTable name)
names_none name Write kind = tt
names_none name (Warehouse faults.Memory) kind = tt
names_none name (Warehouse (faults.Refused why)) kind = absurd kind
names_none name (Warehouse (faults.Damaged table)) kind = absurd kind
names_none name (Warehouse (faults.Store cause)) kind = absurd kind
names_none name (Warehouse faults.Reopen) kind = absurd kind
names_none name (Unwritten faults.Memory) kind = tt
names_none name (Unwritten (faults.Refused why)) kind = absurd kind
names_none name (Unwritten (faults.Damaged table)) kind = absurd kind
names_none name (Unwritten (faults.Store cause)) kind = absurd kind
names_none name (Unwritten faults.Reopen) kind = absurd kind
names_none name (Inconsistent table) kind = absurd kind

pub named_none : (name : Table) (result : Result (Unit {0}) ReportFault) → IfErr result IsOfNoTable → IfErr (of_warehouse result) (NamesTable name)
named_none name (Ok done) kinds = tt
named_none name (Err fault) kinds = names_none name fault kinds

pub named_before : (name : Table) (fault : Fault) (told : ReportFault) (a b : Option (List ℕ)) (text : List ℕ) → IsOutBefore fault told a b text → NamesTable name fault → IfErr (of_warehouse {A = Unit {0}} (Err told)) (NamesTable name)
named_before name fault told a b text out named = subst (λ (r : Result (Unit {0}) Fault). IfErr r (NamesTable name)) (sym (told_fault fault told a b text out)) named

pub read_to_end : {K R : Type 0} (layout : Layout K R) (stored : List Row) (rows : List R) (result : Result (Unit {0}) ReportFault) → BeginsWith layout stored rows [] → AreReadOf layout stored result rows
read_to_end layout stored rows (Ok done) all = all
read_to_end layout stored rows (Err fault) all = ([], all)
