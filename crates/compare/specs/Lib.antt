pub mod Print
pub mod Reading
