-- The text of plans and of deliveries, by computation. Of a row its key alone is looked at.
use Rattle.std.proofs.Common.{◌≡◌, ℕ, List, [], ◌∷◌, true, false, Some, None, Ok, Err, refl}
use Rattle.std.specs.Prelude.{codes, pos, Result}
use Rattle.std.specs.Fmt.{digits}
use Rattle.wh_policy.specs.declared.attribute.Dim.{Dim}
use Rattle.wh_policy.specs.declared.attribute.Dim.TheVariants.{Product, Customer}
use Rattle.wh_day.specs.declared.calendar.DateRow.{DateRow}
use Rattle.wh_batch.specs.declared.kind.CommandKind.TheVariants.{Migration}
use Rattle.wh_admission.specs.declared.command.Command.{Command}
use Rattle.wh_admission.specs.declared.command.Refusal.{Refusal}
use Rattle.wh_admission.specs.declared.command.Refusal.TheVariants.{BadId, Upgraded, NameTaken}
use Rattle.wh_admission.specs.declared.command.Reply.{Reply}
use Rattle.wh_admission.specs.declared.command.Reply.TheVariants.{Accepted, Already}
use Rattle.wh_engine.specs.declared.fault.Fault.TheVariants.{Memory, Store}
use Rattle.wh_rows.specs.declared.cause.Cause.TheVariants.{Disk}
use Rattle.wh_history.specs.declared.plan.Edit.TheVariants.{Put, Remove}
use Rattle.wh_history.specs.declared.rows.DimRow.{DimRow}
use Rattle.wh_history.specs.declared.facts.Fact.{Fact}
use Rattle.wh_history.specs.declared.facts.FactKeys.{FactKeys}
use Rattle.wh_rows.specs.declared.rows.CommandRow.{CommandRow}
use Rattle.wh_rows.specs.declared.rows.MemberRow.{MemberRow}
use Rattle.wh_rows.specs.declared.rows.ChangeRow.{ChangeRow}
use Rattle.wh_rows.specs.declared.rows.ProfileRow.{ProfileRow}
use Rattle.wh_plan.specs.Edits.{Edits, no_edits}
use Rattle.wh_plan.specs.declared.edits.FactEdit.TheVariants.{Row, Rekey}
use Rattle.wh_program.specs.Answer.{Printed, done, refused, failed}
use Rattle.wh_program.specs.Delivery.{delivery_answer, manifest_line}
use Rattle.wh_program.specs.Lists.{answers_until, whole_answer}
use Rattle.wh_program.specs.ReportLists.{listed_answer}
use Rattle.wh_history.specs.Accepted.{Accepted as AcceptedCommand}
use Rattle.wh_program.specs.PlanText.{plan_text}
use Rattle.wh_program.specs.Reply.{refused_line}
use Rattle.wh_engine.proofs.WorkedAnswers.{receipt}

abbrev command : ℕ → CommandRow
command number = record { number = number; id = []; kind = []; bytes = []; records = 1; placeholders = 0 }

abbrev member : Dim → ℕ → MemberRow
member dim durable = record { dim = dim; durable = durable; natural = []; opening = 0 }

abbrev change : ℕ → ℕ → ChangeRow
change command place = record { command = command; place = place; dim = Product; durable = 1; day = 20240101; anchor = 0; values = [] }

abbrev dim_row : ℕ → DimRow
dim_row surrogate = record { surrogate = surrogate; durable = 1; natural = []; from_day = 19000101; to_day = 99991231; is_current = false; a = []; b = []; profile_now = 0 }

abbrev profile : ℕ → ProfileRow
profile number = record { number = number; values = [] }

abbrev date : ℕ → DateRow
date key = record {
  date_key = key;
  iso = [];
  year = pos 0;
  quarter = pos 0;
  month = pos 0;
  day = pos 0;
  day_of_year = pos 0;
  weekday = pos 0;
  weekday_name = [];
  weekend = false;
  holiday = [];
}

abbrev keys : FactKeys
keys = record { store_key = 1; product_key = 4; customer_key = 0; profile = 0 }

abbrev fact : List ℕ → ℕ → Fact
fact ticket line = record {
  ticket = ticket;
  line = line;
  day = 20240101;
  keys = keys;
  store_durable = 1;
  product_durable = 1;
  customer_durable = 0;
  quantity = pos 1;
  amount = pos 1;
  cost = pos 1;
  discount = 0;
}

-- a late record of a product: one row takes the place of another, a third one is split, and a sale gets other keys
abbrev late_record : Edits
late_record = record no_edits {
  commands = Put (command 6) ∷ [];
  changes = Put (change 6 1) ∷ [];
  products = Put (dim_row 1) ∷ Remove 3 ∷ Put (dim_row 4) ∷ [];
  facts = Rekey (record { ticket = codes "T1"; line = 1 }) keys ∷ [];
}

text_of_a_late_record : plan_text late_record ≡ codes "put command 6\nput change 6 1\nput product 1\nremove product 3\nput product 4\nrekey fact T1 1\nedits 6\n"
unfolding digits
text_of_a_late_record = refl

-- a batch of sales that mentions a product and a customer first
abbrev first_sale : Edits
first_sale = record no_edits {
  commands = Put (command 12) ∷ [];
  members = Put (member Product 2) ∷ Put (member Customer 1) ∷ [];
  products = Put (dim_row 9) ∷ [];
  customers = Put (dim_row 1) ∷ [];
  facts = Row (Put (fact (codes "T2") 1)) ∷ [];
}

text_of_a_first_sale : plan_text first_sale ≡ codes "put command 12\nput member 1 2\nput member 3 1\nput product 9\nput customer 1\nput fact T2 1\nedits 6\n"
unfolding digits
text_of_a_first_sale = refl

-- the tables that the two have no edit of, and removals
abbrev other_tables : Edits
other_tables = record no_edits {
  stores = Put (dim_row 10) ∷ [];
  profiles = Put (profile 2) ∷ Remove 3 ∷ [];
  calendar = Remove 20231231 ∷ Put (date 20240229) ∷ [];
  facts = Row (Remove (record { ticket = codes "T-1"; line = 9999 })) ∷ [];
}

text_of_other_tables : plan_text other_tables ≡ codes "put store 10\nput profile 2\nremove profile 3\nremove calendar 20231231\nput calendar 20240229\nremove fact T-1 9999\nedits 6\n"
unfolding digits
text_of_other_tables = refl

-- an upgrade of a warehouse with one fact, which goes from the one table to the other
abbrev upgrade : Edits
upgrade = record no_edits {
  upgrades = true;
  meta = Put (record { name = codes "format"; value = pos 2 }) ∷ [];
  commands = Put (command 9) ∷ [];
  facts = Row (Remove (record { ticket = codes "T1"; line = 1 })) ∷ [];
  facts2 = Row (Put (fact (codes "T1") 1)) ∷ [];
}

text_of_an_upgrade : plan_text upgrade ≡ codes "put meta format\nput command 9\nremove fact T1 1\nput fact2 T1 1\nedits 4\n"
unfolding digits
text_of_an_upgrade = refl

-- a late record, and a new sale, in the second format
abbrev second_format : Edits
second_format = record no_edits {
  commands = Put (command 10) ∷ [];
  facts2 = Rekey (record { ticket = codes "T1"; line = 1 }) keys ∷ Row (Put (fact (codes "T3") 2)) ∷ [];
}

text_of_the_second_format : plan_text second_format ≡ codes "put command 10\nrekey fact2 T1 1\nput fact2 T3 2\nedits 3\n"
unfolding digits
text_of_the_second_format = refl

-- an upgrade that is refused
line_of_an_upgrade_again : refused_line Upgraded ≡ codes "refused: E6 format, 2\n"
line_of_an_upgrade_again = refl

line_of_a_taken_name : refused_line NameTaken ≡ codes "refused: E11 not empty\n"
line_of_a_taken_name = refl

-- a batch that was accepted before
text_of_none : plan_text no_edits ≡ codes "edits 0\n"
unfolding digits
text_of_none = refl

-- a delivery of four commands; of a command its id alone is looked at
abbrev sent : List ℕ → Command
sent id = record { id = id; kind = Migration; bytes = [] }

abbrev night : List Command
night = sent (codes "p1") ∷ sent (codes "s1") ∷ sent (codes "s1") ∷ sent (codes "bad id") ∷ []

abbrev answers : List (Result Reply Refusal)
answers = Ok (Accepted (receipt 2 1 0)) ∷ Ok (Accepted (receipt 3 2 1)) ∷ Ok (Already (receipt 3 2 1)) ∷ Err BadId ∷ []

text_of_a_delivery : delivery_answer night answers None
    ≡ refused (codes "accepted 2 p1: 1 records, 0 placeholders\naccepted 3 s1: 2 records, 1 placeholders\nalready 3 s1: 2 records, 1 placeholders\nrefused: E1 bad id\n")
unfolding digits
text_of_a_delivery = refl

-- one that stopped after its first command, whatever was refused
text_of_a_stop : delivery_answer night (Err BadId ∷ []) (Some (Store Disk)) ≡ failed (codes "refused: E1 bad id\nfailed: E9 store, disk\n")
unfolding digits
text_of_a_stop = refl

text_of_no_memory : delivery_answer night [] (Some Memory) ≡ failed (codes "failed: E8 memory\n")
unfolding digits
text_of_no_memory = refl

text_of_no_command : delivery_answer [] [] None ≡ done []
text_of_no_command = refl

line_of_a_bad_manifest : manifest_line (record { number = 12 }) ≡ codes "refused: M1 bad manifest, record 12\n"
unfolding digits
line_of_a_bad_manifest = refl

-- ---- lists of reports and queries

-- an empty line between two, and the status of what was refused
text_of_reports : whole_answer (done (codes "report a\n") ∷ refused (codes "refused: G1 no attribute\n") ∷ done (codes "report b\n") ∷ []) ≡ refused (codes "report a\n\nrefused: G1 no attribute\n\nreport b\n")
text_of_reports = refl

text_of_stopped_reports : whole_answer (refused (codes "refused: G3 bad range\n") ∷ failed (codes "failed: E7 damaged, product\n") ∷ []) ≡ failed (codes "refused: G3 bad range\n\nfailed: E7 damaged, product\n")
text_of_stopped_reports = refl

text_of_one_report : whole_answer (done (codes "report a\n") ∷ []) ≡ done (codes "report a\n")
text_of_one_report = refl

text_of_no_reports : whole_answer [] ≡ done []
text_of_no_reports = refl

-- a mode that is none is refused in its place, whatever the commands
no_such_mode : (commands : List AcceptedCommand) → listed_answer (record { attribute = codes "date.month"; mode = codes "once"; from = []; to = [] }) commands ≡ refused (codes "error: MODE is 'once', and none of was, is and prior\n")
no_such_mode commands = refl

-- a fault stops a list in the place of the question behind the first one
stopped_in_its_place : (commands : List AcceptedCommand) (first second : List AcceptedCommand → Printed) → answers_until commands (first ∷ second ∷ second ∷ []) 1 (Err Memory) ≡ first commands ∷ failed (codes "failed: E8 memory\n") ∷ []
stopped_in_its_place commands first second = refl
