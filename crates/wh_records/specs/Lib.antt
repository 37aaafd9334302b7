pub mod Carried
pub mod Texts
pub mod Parts
pub mod Filled
pub mod Laws
pub mod Sent
