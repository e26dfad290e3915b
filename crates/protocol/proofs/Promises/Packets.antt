pub mod Packets
pub mod ReadBack
pub mod Finding
pub mod ZeroUsed
pub mod Silent
