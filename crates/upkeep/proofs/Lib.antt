pub mod Gathering
pub mod FirstBits
pub mod Closing
pub mod Blank
pub mod Salvaging
pub mod Comparing
