-- A command that came before, as any stored rows tell it.
use Rattle.std.specs.Prelude.{◌≡◌, ℕ, IsTrue, Result}
use Rattle.sqlite_rules.specs.Lists.{Has}
use Rattle.wh_batch.specs.BatchKind.{command_kind_word}
use Rattle.wh_rows.specs.Raw.{Stored}
use Rattle.wh_rows.specs.Rows as layout
use Rattle.wh_rows.specs.declared.rows.CommandRow.{CommandRow}
use Rattle.wh_rows.specs.declared.table.Table.TheVariants as table
use Rattle.wh_admission.specs.Admission.{kept_bytes, receipt_again}
use Rattle.wh_admission.specs.declared.command.Command.{Command}
use Rattle.wh_admission.specs.declared.command.Receipt.{Receipt}
use Rattle.wh_admission.specs.declared.command.Refusal.{Refusal}

-- the row of a command that holds so many records and is the first to mention no member that it sells
abbrev pub row_of_command : Command → ℕ → ℕ → CommandRow
row_of_command c number records = record { number = number; id = c.id; kind = command_kind_word c.kind; bytes = kept_bytes c.kind c.bytes; records = records; placeholders = 0 }

-- the receipt that was kept for a command whose id is that of this row
abbrev pub receipt_of_known : CommandRow → Command → Result Receipt Refusal
receipt_of_known row c = receipt_again row.kind row.bytes c (record { number = row.number; records = row.records; placeholders = row.placeholders })

-- A row is stored among the commands that isn't damaged and has this id, kind and bytes, and the receipt is that row's.
pub record IsKept (stored : Stored) (c : Command) (receipt : Receipt) : Type 0 where
  pub row : CommandRow
  pub valid : IsTrue (layout.command.is_valid row)
  pub stands : Has (stored.rows table.Command) (layout.command.encode row)
  pub id : row.id ≡ c.id
  pub kind : row.kind ≡ command_kind_word c.kind
  pub bytes : row.bytes ≡ kept_bytes c.kind c.bytes
  pub receipt_is : receipt ≡ record { number = row.number; records = row.records; placeholders = row.placeholders }
