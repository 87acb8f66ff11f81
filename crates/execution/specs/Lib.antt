pub mod Deeds
pub mod Naming
pub mod Objections
