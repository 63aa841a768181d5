-- The definitions that the contracts cite, and the laws. Assumes nothing.
pub mod Laws
pub mod Order
pub mod Rank
pub mod Sheet
