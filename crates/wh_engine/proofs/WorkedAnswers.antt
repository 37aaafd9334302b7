-- The answers to commands, at values that were worked out by hand.
use Rattle.std.proofs.Common.{◌≡◌, ℕ, true, false, ◌++◌, List, [], ◌∷◌, codes, None, Ok, Err, refl}
use Rattle.std.specs.Prelude.{pos}
use Rattle.std.specs.Str.{is_utf8, chars}
use lib.Utf8.{encode}
use Rattle.wh_policy.specs.Policy.{trial_policy}
use Rattle.wh_policy.specs.declared.attribute.Dim.TheVariants.{Product, Store}
use Rattle.wh_policy.specs.declared.record.SaleRecord.{SaleRecord}
use Rattle.wh_batch.specs.declared.kind.BatchKind.{BatchKind}
use Rattle.wh_batch.specs.declared.kind.BatchKind.TheVariants.{Dimension, Sales, Voids}
use Rattle.wh_batch.specs.declared.fault.FaultKind.TheVariants.{NotInFormat, WrongHeader}
use Rattle.wh_batch.specs.Batch.{at}
use Rattle.wh_batch.proofs.OnLiterals.{batch_on_literals}
use Rattle.wh_history.specs.Accepted.{Accepted, Governs, Describes, Sells, Upgrades, Withdraws}
use Rattle.wh_history.specs.Tables.{Limits}
use Rattle.wh_admission.specs.Admission.{answer, accepted_after}
use Rattle.wh_engine.specs.Delivered.{answers_to}
use Rattle.wh_engine.specs.Nights.{after_night, before_any}
use Rattle.wh_admission.specs.declared.command.Command.{Command}
use Rattle.wh_batch.specs.declared.kind.CommandKind.TheVariants.{Batch, Upgrade}
use Rattle.wh_admission.specs.declared.command.Receipt.{Receipt}
use Rattle.wh_admission.specs.declared.command.Reply.TheVariants.{Accepted as Accepts, Already}
use Rattle.wh_admission.specs.declared.command.Refusal.TheVariants.{BadId, Reused, Batch as BadBatch, Upgraded, LineThere, NoLine, Full}
use Rattle.wh_admission.specs.declared.command.Limit.TheVariants.{Commands, Changes}

abbrev limits : ℕ → ℕ → ℕ → Limits
limits commands changes facts = record { commands = commands; changes = changes; facts = facts }

abbrev sent : List ℕ → BatchKind → List ℕ → Command
sent id kind bytes = record { id = id; kind = Batch kind; bytes = bytes }

-- a receipt with these numbers
abbrev pub receipt : ℕ → ℕ → ℕ → Receipt
receipt number records placeholders = record { number = number; records = records; placeholders = placeholders }

-- a making, and then a batch of a header alone
abbrev making : List Accepted
making = record { id = codes "init"; kind = codes "init"; bytes = codes "policy"; content = Governs trial_policy } ∷ []

abbrev header : List ℕ
header = codes "id,day,description,brand"

abbrev p0 : Command
p0 = sent (codes "p0") (Dimension Product) header

abbrev with_p0 : List Accepted
with_p0 = making ++ record { id = codes "p0"; kind = codes "product"; bytes = header; content = Describes Product [] } ∷ []

accepts : answer (limits 9 9 9) making p0 ≡ Ok (Accepts (receipt 2 0 0))
unfolding batch_on_literals
accepts = refl

kept : accepted_after (limits 9 9 9) making p0 ≡ with_p0
unfolding batch_on_literals
kept = refl

comes_again : answer (limits 9 9 9) with_p0 p0 ≡ Ok (Already (receipt 2 0 0))
comes_again = refl

-- also where the warehouse is full
comes_again_when_full : answer (limits 2 9 9) with_p0 p0 ≡ Ok (Already (receipt 2 0 0))
comes_again_when_full = refl

other_bytes : answer (limits 9 9 9) with_p0 (sent (codes "p0") (Dimension Product) (header ++ 10 ∷ [])) ≡ Err Reused
other_bytes = refl

other_kind : answer (limits 9 9 9) with_p0 (sent (codes "p0") (Dimension Store) header) ≡ Err Reused
other_kind = refl

id_of_the_making : answer (limits 9 9 9) making (sent (codes "init") (Dimension Product) header) ≡ Err Reused
id_of_the_making = refl

blank_in_the_id : answer (limits 9 9 9) making (sent (codes "a b") (Dimension Product) header) ≡ Err BadId
blank_in_the_id = refl

no_id : answer (limits 9 9 9) making (sent [] (Dimension Product) header) ≡ Err BadId
no_id = refl

no_bytes : answer (limits 9 9 9) making (sent (codes "p00") (Dimension Product) []) ≡ Err (BadBatch (at 0 WrongHeader))
unfolding batch_on_literals
no_bytes = refl

full_of_commands : answer (limits 2 9 9) with_p0 (sent (codes "p1") (Dimension Product) header) ≡ Err (Full Commands)
unfolding batch_on_literals
full_of_commands = refl

-- a batch that isn't one is refused for that, full or not
fault_first : answer (limits 2 9 9) with_p0 (sent (codes "p1") (Dimension Product) []) ≡ Err (BadBatch (at 0 WrongHeader))
unfolding batch_on_literals
fault_first = refl

-- two records of a product where one change is left
abbrev one_change : List Accepted
one_change = making ++ record { id = codes "p1"; kind = codes "product"; bytes = []; content = Describes Product (record { natural = codes "P1"; day = 20240110; values = codes "Cola 1l" ∷ codes "Acme" ∷ [] } ∷ []) } ∷ []

abbrev two_records : List ℕ
two_records = header ++ 10 ∷ codes "P2,2024-02-01,Cola 1l,Bolt" ++ 10 ∷ codes "P2,2024-02-02,Cola 1l,Bolt"

full_of_changes : answer (limits 9 2 9) one_change (sent (codes "p2") (Dimension Product) two_records) ≡ Err (Full Changes)
unfolding batch_on_literals is_utf8 chars encode
full_of_changes = refl

room_for_two : answer (limits 9 3 9) one_change (sent (codes "p2") (Dimension Product) two_records) ≡ Ok (Accepts (receipt 3 2 0))
unfolding batch_on_literals is_utf8 chars encode
room_for_two = refl

-- a sale of a product and a store that nothing described, and the same line again
abbrev sale : SaleRecord
sale = record { ticket = codes "T1"; line = 1; day = 20240205; store = codes "S1"; product = codes "P1"; customer = None; quantity = pos 2; amount = pos 500; cost = pos 320; discount = 0 }

abbrev sale_bytes : List ℕ
sale_bytes = codes "ticket,line,day,store,product,customer,quantity,amount,cost" ++ 10 ∷ codes "T1,1,2024-02-05,S1,P1,,2,5.00,3.20"

two_placeholders : answer (limits 9 9 9) making (sent (codes "s1") Sales sale_bytes) ≡ Ok (Accepts (receipt 2 1 2))
unfolding batch_on_literals
two_placeholders = refl

line_there : answer (limits 9 9 9) (making ++ record { id = codes "s1"; kind = codes "sales"; bytes = sale_bytes; content = Sells (sale ∷ []) } ∷ []) (sent (codes "s2") Sales sale_bytes) ≡ Err (LineThere 1)
unfolding batch_on_literals
line_there = refl

-- ---- an upgrade, whose bytes are not kept, and another one

abbrev upgrade : List ℕ → List ℕ → Command
upgrade id bytes = record { id = id; kind = Upgrade; bytes = bytes }

abbrev upgraded : List Accepted
upgraded = making ++ record { id = codes "u1"; kind = codes "upgrade"; bytes = []; content = Upgrades } ∷ []

upgrade_accepted : answer (limits 9 9 9) making (upgrade (codes "u1") (codes "now")) ≡ Ok (Accepts (receipt 2 0 0))
upgrade_accepted = refl

upgrade_kept : accepted_after (limits 9 9 9) making (upgrade (codes "u1") (codes "now")) ≡ upgraded
upgrade_kept = refl

upgrade_again : answer (limits 9 9 9) upgraded (upgrade (codes "u1") []) ≡ Ok (Already (receipt 2 0 0))
upgrade_again = refl

second_upgrade : answer (limits 9 9 9) upgraded (upgrade (codes "u2") []) ≡ Err Upgraded
second_upgrade = refl

no_room_for_an_upgrade : answer (limits 2 9 9) upgraded (upgrade (codes "u2") []) ≡ Err (Full Commands)
no_room_for_an_upgrade = refl

-- ---- voids: none in the first format, of a line that stands once, of one that was never sold; and a voided line is not sold again

abbrev void_bytes : List ℕ
void_bytes = codes "ticket,line" ++ 10 ∷ codes "T1,1"

abbrev sold_once : List Accepted
sold_once = upgraded ++ record { id = codes "s1"; kind = codes "sales"; bytes = sale_bytes; content = Sells (sale ∷ []) } ∷ []

abbrev voided : List Accepted
voided = sold_once ++ record { id = codes "v1"; kind = codes "void"; bytes = void_bytes; content = Withdraws (record { ticket = codes "T1"; line = 1 } ∷ []) } ∷ []

abbrev sale_again : List ℕ
sale_again = codes "ticket,line,day,store,product,customer,quantity,amount,cost,discount" ++ 10 ∷ codes "T1,1,2024-02-05,S1,P1,,2,5.00,3.20,0"

void_in_the_first : answer (limits 9 9 9) making (sent (codes "v1") Voids []) ≡ Err (BadBatch (record { kind = NotInFormat; number = 0 }))
unfolding batch_on_literals
void_in_the_first = refl

void_accepted : answer (limits 9 9 9) sold_once (sent (codes "v1") Voids void_bytes) ≡ Ok (Accepts (receipt 4 1 0))
unfolding batch_on_literals
void_accepted = refl

void_at_the_limit : answer (limits 9 9 1) sold_once (sent (codes "v1") Voids void_bytes) ≡ Ok (Accepts (receipt 4 1 0))
unfolding batch_on_literals
void_at_the_limit = refl

void_of_no_line : answer (limits 9 9 9) upgraded (sent (codes "v1") Voids void_bytes) ≡ Err (NoLine 1)
unfolding batch_on_literals
void_of_no_line = refl

voided_again : answer (limits 9 9 9) voided (sent (codes "v2") Voids void_bytes) ≡ Err (NoLine 1)
unfolding batch_on_literals
voided_again = refl

void_comes_again : answer (limits 9 9 9) voided (sent (codes "v1") Voids void_bytes) ≡ Ok (Already (receipt 4 1 0))
unfolding batch_on_literals
void_comes_again = refl

voided_line_there : answer (limits 9 9 9) voided (sent (codes "s2") Sales sale_again) ≡ Err (LineThere 1)
unfolding batch_on_literals
voided_line_there = refl

-- ---- a delivery: p0, a command without an id, and p0 again

abbrev three : List Command
three = p0 ∷ sent [] (Dimension Product) header ∷ p0 ∷ []

each_answered : answers_to (limits 9 9 9) making three ≡ Ok (Accepts (receipt 2 0 0)) ∷ Err BadId ∷ Ok (Already (receipt 2 0 0)) ∷ []
unfolding batch_on_literals
each_answered = refl

-- a night that acknowledges nothing and leaves p0; then two commands are acknowledged; then one from the list's start
first_night : after_night (limits 9 9 9) three (before_any making) (record { from_start = false; acknowledged = 0; left_next = true }) ≡ record { acknowledged = 0; found = with_p0 }
unfolding batch_on_literals
first_night = refl

second_night : after_night (limits 9 9 9) three (record { acknowledged = 0; found = with_p0 }) (record { from_start = false; acknowledged = 2; left_next = false }) ≡ record { acknowledged = 2; found = with_p0 }
second_night = refl

third_night : after_night (limits 9 9 9) three (record { acknowledged = 2; found = with_p0 }) (record { from_start = true; acknowledged = 1; left_next = false }) ≡ record { acknowledged = 2; found = with_p0 }
third_night = refl
