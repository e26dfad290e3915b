pub mod Buffers
pub mod Answers
pub mod Memory
pub mod Calls
pub mod Parameters
pub mod Search
