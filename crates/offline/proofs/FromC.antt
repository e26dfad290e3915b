pub mod Closing
pub mod Salvaging
pub mod Turns
pub mod Secrets
pub mod Contents
