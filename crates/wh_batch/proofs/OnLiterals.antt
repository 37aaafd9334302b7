-- What an answer unfolds to compute the definitions of this crate on literals.
use Rattle.std.specs.Prelude.{⊤}
use Rattle.csv.proofs.OnLiterals.{csv_on_literals}
use Rattle.csv.specs.Records.{field_at}
use Rattle.wh_day.specs.Day.{is_day, read_day}
use Rattle.wh_day.specs.Value.{none_text, is_plain, read_value}
use Rattle.wh_batch.specs.Batch.{next_record, records_after, below_header, batch_of}
use Rattle.wh_batch.specs.Faults.{faults_after, faults_below_header, faults_of, faults_of_kind}
use Rattle.wh_batch.specs.Fields.{key_of, customer_of, day_of, effective_day_of, value_of, values_of}
use Rattle.wh_batch.specs.Layouts.{dimension_record, dimension_records, undiscounted, discount_in, sale_record, sale_records, void_record, void_records, records_of}
use Rattle.wh_batch.specs.Entries.{entries_from, list_of}
use Rattle.wh_batch.specs.Manifest.{entry_of}
use Rattle.wh_batch.specs.ReportList.{listed_report}
use Rattle.wh_batch.specs.Numbers.{read_digits, read_fraction, read_hundredths, read_line, read_quantity, read_amount}

unfoldable pub batch_on_literals : ⊤
unfolding csv_on_literals field_at is_day read_day none_text is_plain read_value next_record records_after below_header batch_of faults_after faults_below_header faults_of faults_of_kind key_of customer_of day_of effective_day_of value_of values_of dimension_record dimension_records undiscounted discount_in sale_record sale_records void_record void_records records_of entry_of entries_from list_of listed_report read_digits read_fraction read_hundredths read_line read_quantity read_amount
batch_on_literals = tt
