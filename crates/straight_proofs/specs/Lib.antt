pub mod Asked
pub mod Floors
pub mod Lookup
pub mod Remainders
pub mod Remembered
pub mod Straight
pub mod Subjects
