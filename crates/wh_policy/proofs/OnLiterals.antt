-- What a lemma unfolds to compute this crate's definitions on a literal.
use Rattle.std.specs.Prelude.{⊤}
use Rattle.wh_day.proofs.OnLiterals.{day_on_literals}
use Rattle.wh_policy.specs.Attributes.{name_of, kind_of, attribute_of, attributes_of}
use Rattle.wh_policy.specs.Document.{document_of, required, tables_in, tables_of, each_after}
use Rattle.wh_policy.specs.Holidays.{day_of, title_of, holiday_of, holidays_of}
use Rattle.wh_policy.specs.Names.{slot_from}
use Rattle.wh_policy.specs.Policy.{policy_of_table, read_policy}
use Rattle.wh_policy.specs.Years.{years_of}

unfoldable pub policy_on_literals : ⊤
unfolding day_on_literals name_of kind_of attribute_of attributes_of document_of required tables_in tables_of each_after day_of title_of holiday_of holidays_of slot_from policy_of_table read_policy years_of
policy_on_literals = tt
