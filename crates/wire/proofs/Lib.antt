pub mod Picks
pub mod Sums
pub mod Starts
pub mod Packets
