pub mod Settings
pub mod Commands
pub mod Transfer
