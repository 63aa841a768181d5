-- The lemmas by subject. Assumes nothing.
pub mod Locals
pub mod Areas
pub mod Entries
pub mod Example
pub mod Fates
pub mod Opening
pub mod Pages
pub mod Passed
pub mod Ranks
pub mod Reasons
pub mod Run
pub mod Sound
pub mod Stays
