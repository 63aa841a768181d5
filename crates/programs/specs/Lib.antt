-- What the programs print of a number of the order. Assumes nothing.
pub mod Line
