mod Common
mod Left
mod Delivered
mod Unlost
mod Synced
mod Readers
mod Stopped
