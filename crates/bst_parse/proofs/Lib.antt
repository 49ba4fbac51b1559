mod BothWays
mod Columns
mod Completed
mod Counted
mod FaultsStand
mod Held
mod Kept
mod Lexed
pub mod Lists
mod Lowered
mod PlacesHold
mod Rules
mod SoFar
mod SoundSteps
mod SoundStyle
