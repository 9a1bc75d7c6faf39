mod Common
pub mod Shared
mod Entries
mod Walk
mod Order
mod EntryRemoved
mod NamesAscend
mod Limits
mod TreePlaced
mod CallLimits
mod CallOrder
mod EntryAdded
mod TreePrinted
mod Placed
mod FirstEntry
mod LastEntry
mod Traversed
mod SameTrees
