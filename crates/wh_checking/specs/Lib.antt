pub mod Alike
pub mod Compared
pub mod Meta
pub mod Judged
pub mod Checked
pub mod Judging
pub mod Replica
