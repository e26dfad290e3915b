pub mod ReceiverExample
pub mod Met
pub mod Examples
pub mod Bench
