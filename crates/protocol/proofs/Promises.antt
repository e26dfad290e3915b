pub mod Words
pub mod Packets
pub mod Refusals
pub mod Commands
pub mod Lines
pub mod Secrets
