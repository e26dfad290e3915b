pub mod Refusals
pub mod Salvages
pub mod Again
pub mod StaysLegal
pub mod Unnoticed
pub mod Upgrade
