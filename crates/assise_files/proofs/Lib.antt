mod Common
pub mod Shared
mod AlwaysLegal
mod LostTree
mod LostWalk
mod MadeAgain
mod QuietRounds
mod Links
