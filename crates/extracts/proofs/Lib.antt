-- The lemmas by subject. Assumes nothing.
pub mod Making
pub mod Naming
pub mod Pending
