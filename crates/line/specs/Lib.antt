pub mod Frame
pub mod Laws
pub mod Lines
pub mod Rule
pub mod Steps
