pub mod Lent
pub mod Gaps
pub mod Salvage
pub mod Compare
