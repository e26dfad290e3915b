pub mod Words
pub mod Told
pub mod Records
pub mod OneResult
pub mod Variants
