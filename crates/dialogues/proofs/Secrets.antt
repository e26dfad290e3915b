pub mod ReceiverLock
