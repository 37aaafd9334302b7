-- From what is found of one table after the other to a verdict.
use Rattle.std.proofs.Common.{◌≡◌, ◌<◌, List, subst, arith}
use Rattle.wh_history.specs.Accepted.{Accepted, format_of}
use Rattle.wh_history.specs.Tables.{Limits}
use Rattle.wh_model.specs.Defined.{command_at}
use Rattle.wh_rows.specs.Raw.{Stored, HasDamageIn}
use Rattle.wh_rows.specs.Rows as row
use Rattle.wh_rows.specs.declared.table.Table.{Table}
use Rattle.wh_rows.specs.declared.table.Table.TheVariants.{Meta, Command, Member, Change, Product, Store, Customer, Profile, Calendar, Fact, Fact2, Void}
use Rattle.wh_admission.specs.Admission.{AreAdmitted}
use Rattle.wh_admission.specs.Checked.{AreRowsAt, IsDefined, IsSoundStored, SaysLimits, SaysCommands, table_place, AreRightBefore, IsFirstWrong}
use Rattle.wh_admission.proofs.CheckedTables.{limits_are_one, right_from, defined_from, damage_is_wrong}

module _ (stored : Stored) where
  -- a damaged row in a table before which all are as they should be
  pub damaged_first : (table : Table) → AreRightBefore stored table → HasDamageIn stored table → IsFirstWrong stored table
  damaged_first table before damage = record { before = before; wrong = damage_is_wrong stored table damage }

  pub none_before_meta : AreRightBefore stored Meta
  none_before_meta earlier less = absurd (omega (arith, less))

  -- meta says no limits
  pub meta_wrong : ((limits : Limits) → ¬ SaysLimits stored limits) → IsFirstWrong stored Meta
  meta_wrong none = record { before = none_before_meta; wrong = λ right. none right.0 right.1 }

  module _ (limits : Limits) (meta : SaysLimits stored limits) where
    pub meta_before_command : AreRightBefore stored Command
    meta_before_command Meta less = (limits, meta)
    meta_before_command Command less = absurd (omega (arith, less))
    meta_before_command Member less = absurd (omega (arith, less))
    meta_before_command Change less = absurd (omega (arith, less))
    meta_before_command Product less = absurd (omega (arith, less))
    meta_before_command Store less = absurd (omega (arith, less))
    meta_before_command Customer less = absurd (omega (arith, less))
    meta_before_command Profile less = absurd (omega (arith, less))
    meta_before_command Calendar less = absurd (omega (arith, less))
    meta_before_command Fact less = absurd (omega (arith, less))
    meta_before_command Fact2 less = absurd (omega (arith, less))
    meta_before_command Void less = absurd (omega (arith, less))

    -- the command table tells no list that was admitted under these limits and makes this format
    pub command_wrong : ((commands : List Accepted) → stored.format ≡ format_of commands → AreAdmitted limits commands → ¬ AreRowsAt row.command (command_at commands) (stored.rows Command)) → IsFirstWrong stored Command
    command_wrong none = record {
      before = meta_before_command;
      wrong = λ right.
          let (others, commands, said) = right in
          let same = limits_are_one stored stored.format others limits said.said.defined meta.defined in
          none commands said.formatted (subst (λ l. AreAdmitted l commands) same said.admitted) said.defined;
    }

    module _ (commands : List Accepted) (said : SaysCommands stored limits commands) where
      -- what is defined up to a table is right
      pub defined_before : (table : Table) → ((earlier : Table) → table_place earlier < table_place table → IsDefined limits commands stored earlier) → AreRightBefore stored table
      defined_before table defined earlier less = right_from stored limits commands said earlier (defined earlier less)

      pub table_wrong : (table : Table) → ((earlier : Table) → table_place earlier < table_place table → IsDefined limits commands stored earlier) → ¬ IsDefined limits commands stored table → IsFirstWrong stored table
      table_wrong table defined other = record { before = defined_before table defined; wrong = λ right. other (defined_from stored limits commands said table right) }

      pub all_clean : ((table : Table) → IsDefined limits commands stored table) → IsSoundStored stored
      all_clean defined = record { limits = limits; commands = commands; admitted = said.admitted; formatted = said.formatted; each = defined }
