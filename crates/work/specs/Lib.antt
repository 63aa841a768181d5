-- The registry's state and memory, what each call makes of them, and what is promised. Assumes nothing.
pub mod Asking
pub mod Calls
pub mod Listed
pub mod Marks
pub mod Promises
pub mod State
