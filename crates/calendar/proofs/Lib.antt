pub mod Counting
pub mod Following
pub mod Order
pub mod Same
