pub mod Laying
pub mod Limits
