pub mod Ending
pub mod Initials
pub mod Knowing
pub mod Passing
pub mod Tying
