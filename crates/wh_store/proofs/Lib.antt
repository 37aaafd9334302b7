mod Refusals
mod Reopened
pub mod Opened
pub mod Scanning
pub mod ScanningStored
pub mod InMemory
pub mod Faithful
pub mod Absent
mod FormatFaults
