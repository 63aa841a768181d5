-- The lemmas; crates above take the laws from Rank.
pub mod Steps
pub mod Alike
pub mod First
pub mod Numbers
pub mod Rank
pub mod Taken
pub mod Tests
