pub mod Faults
pub mod FileNames
pub mod Grammar
pub mod Items
pub mod Keys
pub mod Lines
pub mod Meaning
pub mod Reading
