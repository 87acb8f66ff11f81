pub mod Beginnings
pub mod Frames
pub mod Hearing
pub mod Laws
pub mod Pieces
