pub mod Work
pub mod Library
pub mod Deleted
pub mod Secrets
pub mod Lines
