pub mod History
pub mod Caller
pub mod Doors
pub mod Bench
