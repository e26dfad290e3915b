pub mod Bench
pub mod Offer
pub mod Start
pub mod Talk
