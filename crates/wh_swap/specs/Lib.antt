pub mod DeviceCalls
pub mod MemorySwaps
pub mod SlotParts
pub mod Written
