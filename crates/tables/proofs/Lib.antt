pub mod Replayed
pub mod Walked
