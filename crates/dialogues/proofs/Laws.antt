pub mod Growth
pub mod Drain
pub mod History
pub mod Entries
