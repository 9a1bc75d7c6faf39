mod Common
pub mod Shared
mod GrantSound
mod AskSound
mod ReleaseSound
mod CallsOnInode
mod CallsOnLevels
mod Lawful
mod HolderLists
