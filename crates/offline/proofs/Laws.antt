pub mod Gaps
pub mod Salvage
pub mod Vacant
