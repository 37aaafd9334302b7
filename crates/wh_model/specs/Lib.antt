pub mod Defined
pub mod Sound
pub mod Laws
