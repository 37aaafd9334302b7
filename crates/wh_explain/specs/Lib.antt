pub mod Added
pub mod Views
