use Rattle.wh_rows.specs.Rows.{encode_command, is_command}
use Rattle.wh_rows.specs.Stored.{read_command}
use Rattle.wh_rows.proofs.Exact.{read_ok, read_err, command_sound, command_complete}
use Rattle.wh_rows.proofs.tables.CommandStoredTable.read.Goals as goal

pub returns-clause-ok : goal.returns-clause-ok
returns-clause-ok c = read_ok read_command encode_command is_command command_sound command_complete c.args.row.now c.read_command.result c.read_command.ensures

pub returns-clause-err : goal.returns-clause-err
returns-clause-err c = read_err read_command encode_command is_command command_sound command_complete c.args.row.now c.read_command.result c.read_command.ensures
