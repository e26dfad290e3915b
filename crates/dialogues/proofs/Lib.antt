pub mod Laws
pub mod Library
pub mod Lines
pub mod Downloads
pub mod Secrets
pub mod FromC
pub mod Examples
