pub mod Admission
pub mod Said
pub mod Answers
pub mod Steps
pub mod Checked
pub mod Sound
pub mod Repeated
