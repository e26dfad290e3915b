pub mod Cuts
pub mod Caller
pub mod ComesToRest
pub mod ReceiverCalls
pub mod InPieces
