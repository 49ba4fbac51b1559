pub mod Integers
pub mod Forms
pub mod Decided
pub mod Sound
pub mod Steps
