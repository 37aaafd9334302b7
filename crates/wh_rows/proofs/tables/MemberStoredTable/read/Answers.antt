use Rattle.wh_rows.specs.Rows.{encode_member, is_member}
use Rattle.wh_rows.specs.Stored.{read_member}
use Rattle.wh_rows.proofs.Exact.{read_ok, read_err, member_sound, member_complete}
use Rattle.wh_rows.proofs.tables.MemberStoredTable.read.Goals as goal

pub returns-clause-ok : goal.returns-clause-ok
returns-clause-ok c = read_ok read_member encode_member is_member member_sound member_complete c.args.row.now c.read_member.result c.read_member.ensures

pub returns-clause-err : goal.returns-clause-err
returns-clause-err c = read_err read_member encode_member is_member member_sound member_complete c.args.row.now c.read_member.result c.read_member.ensures
