use Rattle.wh_rows.specs.Rows.{encode_profile, is_profile}
use Rattle.wh_rows.specs.Stored.{read_profile}
use Rattle.wh_rows.proofs.Exact.{read_ok, read_err, profile_sound, profile_complete}
use Rattle.wh_rows.proofs.tables.ProfileStoredTable.read.Goals as goal

pub returns-clause-ok : goal.returns-clause-ok
returns-clause-ok c = read_ok read_profile encode_profile is_profile profile_sound profile_complete c.args.row.now c.read_profile.result c.read_profile.ensures

pub returns-clause-err : goal.returns-clause-err
returns-clause-err c = read_err read_profile encode_profile is_profile profile_sound profile_complete c.args.row.now c.read_profile.result c.read_profile.ensures
