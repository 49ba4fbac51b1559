pub mod ByteTexts
mod Confined
mod FineEffects
mod Formed
pub mod FormattedBytes
mod Giving
mod Kept
pub mod NameByName
mod Opened
mod Permuted
pub mod Placed
pub mod Replacing
pub mod Stepping
