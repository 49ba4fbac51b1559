pub mod Covered
pub mod Given
