-- The lemmas by subject. Assumes nothing.
pub mod InTurn
pub mod Ends
pub mod Read
pub mod Reading
pub mod Cuts
pub mod Written
