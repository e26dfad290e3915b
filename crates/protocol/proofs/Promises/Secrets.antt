pub mod Lock
