pub mod Migration
pub mod Migrated
