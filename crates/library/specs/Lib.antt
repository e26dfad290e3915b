pub mod Lent
pub mod Search
