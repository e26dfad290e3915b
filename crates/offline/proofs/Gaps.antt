pub mod Refusals
pub mod Closes
pub mod StaysLegal
pub mod Again
pub mod Deleting
