-- Pages in memory, the opening, the refusals. Assumes nothing.
pub mod Bytes
pub mod Opening
pub mod Refusal
pub mod Register
pub mod Unknown
pub mod Words
