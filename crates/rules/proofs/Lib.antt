pub mod Sizes
pub mod Marks
pub mod Transfers
pub mod Gates
pub mod OneResult
