-- What was read of a command, as the accepted commands have it.
use Rattle.wh_history.specs.Accepted.{Content, Governs, Describes, Sells, Upgrades, Withdraws}
use Rattle.wh_admission.specs.declared.content.Content.{Content as Read}
use Rattle.wh_admission.specs.declared.content.Content.TheVariants as read

abbrev pub says : Read → Content
says (read.Governs policy) = Governs policy
says (read.Describes dim records) = Describes dim records
says (read.Sells sales) = Sells sales
says read.Upgrades = Upgrades
says (read.Withdraws lines) = Withdraws lines
