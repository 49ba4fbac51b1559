pub mod Moving
pub mod Ordering
pub mod Passing
pub mod Placing
pub mod Reaching
pub mod Reading
pub mod Remaining
pub mod Spelling
