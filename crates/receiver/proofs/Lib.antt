pub mod Calls
pub mod Cells
