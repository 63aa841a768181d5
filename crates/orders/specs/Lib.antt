-- Acts on a register, orders of work, the clerks' desk, and the laws. Assumes nothing.
pub mod Desk
pub mod Laws
pub mod Orders
pub mod Steps
