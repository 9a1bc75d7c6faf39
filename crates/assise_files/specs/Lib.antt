pub mod CutKinds
pub mod FilesSeen
pub mod LostChanges
pub mod LostSearch
pub mod Redo
