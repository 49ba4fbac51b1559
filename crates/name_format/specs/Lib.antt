pub mod Faults
pub mod Manners
pub mod Numbered
pub mod Steps
