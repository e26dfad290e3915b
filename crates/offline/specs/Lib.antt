pub mod Lengths
pub mod CloseGaps
pub mod Salvage
pub mod Compare
pub mod Print
pub mod Records
pub mod Life
pub mod Turns
