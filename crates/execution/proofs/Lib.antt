pub mod Another
pub mod Doing
pub mod Every
pub mod Objecting
pub mod Puts
