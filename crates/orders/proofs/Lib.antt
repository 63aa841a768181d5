-- The lemmas by subject, each for any acts that are local; the crates above take them at filings.
pub mod Accepted
pub mod Decided
pub mod Exchanges
pub mod History
pub mod Kept
pub mod Lawfuls
pub mod Places
pub mod Reached
pub mod Rule
pub mod Turns
