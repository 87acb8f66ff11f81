pub mod Containing
pub mod Coverings
pub mod Deciding
pub mod Grounding
pub mod Lowest
pub mod Meanings
pub mod Searching
