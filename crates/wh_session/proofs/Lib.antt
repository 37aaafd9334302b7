pub mod LineLemmas
pub mod OutputLemmas
pub mod SessionLemmas
pub mod LineFiles
pub mod KeepLemmas
pub mod SendingLemmas
