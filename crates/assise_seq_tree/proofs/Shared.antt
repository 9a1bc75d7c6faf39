-- The lemmas that other crates import.
pub mod TreePut
pub mod Sets
pub mod Moves
pub mod BytesOverwritten
pub mod Paths
pub mod BytesRead
pub mod Writes
pub mod FileResized
pub mod Calls
pub mod Checks
pub mod MovedTreeRoom
pub mod Renamed
