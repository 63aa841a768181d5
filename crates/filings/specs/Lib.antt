-- The definitions that the contracts cite, and the laws. Assumes nothing.
pub mod Keeping
pub mod Kind
pub mod Laws
pub mod Reading
pub mod Touches
