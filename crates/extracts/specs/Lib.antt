-- What an extract says, its text, and what it is worth. Assumes nothing.
pub mod Drawing
pub mod Error
pub mod Existing
pub mod Open
pub mod Text
