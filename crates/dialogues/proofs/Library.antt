pub mod Seen
pub mod ValidCount
pub mod Moved
pub mod Untouched
pub mod BroughtOver
pub mod DeletedFinger
pub mod Faithful
pub mod SizeCode
