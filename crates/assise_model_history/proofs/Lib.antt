mod Common
pub mod Shared
mod OneEntryMore
mod Synced
mod EntriesPossible
mod Eventful
