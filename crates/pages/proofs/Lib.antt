-- The lemmas by subject; the crates above import the laws of registers from here. Assumes nothing.
pub mod Made
pub mod Openings
pub mod Reading
pub mod Registers
pub mod Swapped
pub mod Writing
