pub mod Download
pub mod FirstDownload
pub mod LongData
pub mod LongLimits
