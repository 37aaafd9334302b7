pub mod NamedLemmas
pub mod MemoryLemmas
