pub mod Inside
pub mod Putting
pub mod Reading
mod Plain
mod Giving
pub mod RowByRow
pub mod Sparing
pub mod InTurn
pub mod Tallying
pub mod LinkedTallying
mod Creating
pub mod Worked
pub mod BoundRows
pub mod Picking
mod Transactions
pub mod Looping
mod InParts
mod FormatFacts
mod Refusals
