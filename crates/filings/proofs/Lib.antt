-- The lemmas by subject; the crates above import the laws from here. Assumes nothing.
pub mod Keeping
pub mod Limits
pub mod Touches
