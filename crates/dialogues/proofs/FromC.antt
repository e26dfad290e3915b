pub mod Steps
pub mod Lines
pub mod Cuts
pub mod Secrets
