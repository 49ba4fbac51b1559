pub mod ByteLists
mod Found
mod Numbered
pub mod Within
