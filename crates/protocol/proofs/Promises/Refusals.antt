pub mod LegalMeans
pub mod Refused
pub mod StaysLegal
pub mod Marks
pub mod ReplyFits
pub mod Thousand
