pub mod Back
pub mod Entries
pub mod Fields
pub mod Hex
pub mod Messages
pub mod Outcome
pub mod Printing
pub mod Reading
