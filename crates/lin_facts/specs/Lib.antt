pub mod Follows
pub mod Rows
