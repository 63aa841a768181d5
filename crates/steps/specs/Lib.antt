-- The laws of entering one filing. Assumes nothing.
pub mod Acting
pub mod Areas
pub mod Entries
pub mod Example
pub mod Laws
pub mod Opening
pub mod Pages
pub mod Ranks
pub mod Reasons
pub mod Run
pub mod Sound
