-- What a call that writes a text to a writer puts out, where the writer tells its bytes.
use Rattle.std.specs.Prelude.{◌≡◌, ℕ, List, ◌∷◌, ◌++◌, Option, Result, Ok, Err, ⊤}
use Rattle.std.specs.Io.KnownBytes.{Appends}
use Rattle.std.specs.List.{concat}
use Rattle.std.specs.declared.alloc.Global.{Global}
use Rattle.std.specs.declared.vec.Vec.{Vec}
use Rattle.wh_engine.specs.declared.fault.Fault.{Fault}
use Rattle.wh_engine.specs.declared.fault.Fault.TheVariants.{Memory, Reopen}
use Rattle.wh_report.specs.declared.output.ReportFault.{ReportFault}
use Rattle.wh_report.specs.declared.output.ReportFault.TheVariants.{Write, Warehouse, Unwritten, Inconsistent}

-- of a text all went out but this rest of it
pub record IsOutBut (rest : List ℕ) (old new : Option (List ℕ)) (text : List ℕ) : Type 0 where
  pub part : List ℕ
  pub whole : text ≡ part ++ rest
  pub went : Appends old new part

-- a beginning of it went out that wants at least a byte
abbrev pub IsCut : Option (List ℕ) → Option (List ℕ) → List ℕ → Type 0
IsCut old new text = (byte : ℕ) × (rest : List ℕ) × IsOutBut (byte ∷ rest) old new text

-- the text went out, or the writer failed
abbrev pub IsOutWhole : Result (Unit {0}) ReportFault → Option (List ℕ) → Option (List ℕ) → List ℕ → Type 0
IsOutWhole (Ok done) old new text = Appends old new text
IsOutWhole (Err Write) old new text = IsCut old new text
IsOutWhole (Err fault) old new text = ⊥

-- a text that was worked out goes out; where there is none, nothing does, and its fault is the answer
abbrev pub GoesOut : Result (Vec ℕ Global) ReportFault → Result (Unit {0}) ReportFault → Option (List ℕ) → Option (List ℕ) → Type 0
GoesOut (Ok text) result old new = IsOutWhole result old new text.items
GoesOut (Err fault) result old new = (result ≡ Err fault) × (new ≡ old)

-- what is due was worked out, and went out
pub record IsWorkedOut (IsDue : Result (Vec ℕ Global) ReportFault → Type 0) (result : Result (Unit {0}) ReportFault) (old new : Option (List ℕ)) : Type 0 where
  pub worked : Result (Vec ℕ Global) ReportFault
  pub due : IsDue worked
  pub out : GoesOut worked result old new

-- it went out before a fault of the warehouse was answered, or the writer failed as well
abbrev pub IsOutBefore : Fault → ReportFault → Option (List ℕ) → Option (List ℕ) → List ℕ → Type 0
IsOutBefore fault (Warehouse why) old new text = (why ≡ fault) × Appends old new text
IsOutBefore fault (Unwritten why) old new text = (why ≡ fault) × IsCut old new text
IsOutBefore fault Write old new text = ⊥
IsOutBefore fault (Inconsistent table) old new text = ⊥

-- of these lines the first went out, and no piece of another
pub record AreOut (out lines : List (List ℕ)) (old new : Option (List ℕ)) : Type 0 where
  pub left : List (List ℕ)
  pub whole : lines ≡ out ++ left
  pub went : Appends old new (concat out)

-- All lines went out; or a beginning that wants at least a byte, where the writer failed. After a fault of the warehouse whole lines did, the first at least;
-- or none, where memory ran out for that, or the engine had to be opened again.
abbrev pub IsOutInLines : Result (Unit {0}) ReportFault → Option (List ℕ) → Option (List ℕ) → List (List ℕ) → Type 0
IsOutInLines (Ok done) old new lines = Appends old new (concat lines)
IsOutInLines (Err Write) old new lines = IsCut old new (concat lines)
IsOutInLines (Err (Unwritten fault)) old new lines = IsCut old new (concat lines)
IsOutInLines (Err (Warehouse Memory)) old new lines = (out : List (List ℕ)) × AreOut out lines old new
IsOutInLines (Err (Warehouse Reopen)) old new lines = new ≡ old
IsOutInLines (Err (Warehouse fault)) old new lines = (first : List ℕ) × (more : List (List ℕ)) × AreOut (first ∷ more) lines old new
IsOutInLines (Err (Inconsistent table)) old new lines = ⊥

-- the fault isn't the database's: the writer failed, or memory ran out
abbrev pub IsOfNoTable : ReportFault → Type 0
IsOfNoTable Write = ⊤
IsOfNoTable (Warehouse Memory) = ⊤
IsOfNoTable (Warehouse fault) = ⊥
IsOfNoTable (Unwritten Memory) = ⊤
IsOfNoTable (Unwritten fault) = ⊥
IsOfNoTable (Inconsistent table) = ⊥

-- the writer failed, or the warehouse can't be read: no table lacks a row
abbrev pub IsOfDump : ReportFault → Type 0
IsOfDump Write = ⊤
IsOfDump (Warehouse fault) = ⊤
IsOfDump (Unwritten fault) = ⊤
IsOfDump (Inconsistent table) = ⊥

-- no writer failed
abbrev pub IsOfTables : ReportFault → Type 0
IsOfTables Write = ⊥
IsOfTables (Warehouse fault) = ⊤
IsOfTables (Unwritten fault) = ⊥
IsOfTables (Inconsistent table) = ⊤

-- the writer failed, or the warehouse can't be read or lacks a row: each alone
abbrev pub IsOfReport : ReportFault → Type 0
IsOfReport Write = ⊤
IsOfReport (Warehouse fault) = ⊤
IsOfReport (Unwritten fault) = ⊥
IsOfReport (Inconsistent table) = ⊤

-- the answer as that of the warehouse, which answered where the writer alone failed or its tables don't fit together
abbrev pub of_warehouse : {A : Type 0} → Result A ReportFault → Result (Unit {0}) Fault
of_warehouse (Ok done) = Ok tt
of_warehouse (Err Write) = Ok tt
of_warehouse (Err (Warehouse fault)) = Err fault
of_warehouse (Err (Unwritten fault)) = Err fault
of_warehouse (Err (Inconsistent table)) = Ok tt
