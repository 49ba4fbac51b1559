pub mod Defining
pub mod Names
pub mod Numbers
pub mod Opening
pub mod Sound
pub mod TypeTarget
