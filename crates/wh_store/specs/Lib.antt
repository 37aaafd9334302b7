pub mod Meta
pub mod Opening
pub mod InFiles
pub mod Raw
pub mod Faithful
pub mod Scan
