pub mod AllMembers
pub mod AllRows
pub mod AnewFacts
mod ScannedFacts
mod ScannedRecords
pub mod NumberedPlans
pub mod PlanCalendar
pub mod MigrationPlans
pub mod FoundCombinations
pub mod PlanRenumbered
pub mod UpgradePlans
