-- The file, its faults, and the checker of an order of work. Assumes nothing.
pub mod Checker
pub mod Error
pub mod File
pub mod Laws
