-- The lemmas by subject; the crates above take what is promised from Promises.
pub mod Admits
pub mod Listing
pub mod Promises
pub mod Ways
pub mod Working
