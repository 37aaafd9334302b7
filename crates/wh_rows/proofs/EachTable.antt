-- What the texts of each table mean.
mod Dimensions
pub mod Metas
pub mod Commands
pub mod Members
pub mod Changes
pub mod Products
pub mod Stores
pub mod Customers
pub mod Profiles
pub mod Calendars
pub mod Facts
pub mod Facts2
pub mod Voids
