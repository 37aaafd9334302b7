pub mod Named
pub mod Memory
