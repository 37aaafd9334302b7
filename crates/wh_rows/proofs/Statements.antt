-- What texts of each form do to one table.
pub mod Puts
pub mod Removes
pub mod Clears
pub mod Selects
