pub mod Full
pub mod Handed
