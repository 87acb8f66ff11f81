pub mod Covering
pub mod Grounds
pub mod Events
pub mod Standing
pub mod Meant
