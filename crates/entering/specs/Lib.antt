-- What entering a filing makes of the pages, and what comes of it. Assumes nothing.
pub mod Acts
pub mod Entering
pub mod Outcome
