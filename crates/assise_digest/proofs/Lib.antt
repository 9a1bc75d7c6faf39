mod Common
pub mod Shared
mod KeptInodes
mod MovedInodes
mod ReceivedLogs
mod RegroupedKept
mod RegionLogs
mod DigestKeepsReads
mod InodesUnderRecords
mod RebuiltInodes
mod Forests
mod Pieces
mod Listed
mod Grouped
mod CoalescedLogs
mod RegroupedLogs
mod DirectoryGrowth
mod PostorderTrees
