pub mod Refusals
pub mod Compares
pub mod Equal
pub mod Exchanged
pub mod Prints
pub mod Lines
