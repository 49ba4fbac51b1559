pub mod Unmet
