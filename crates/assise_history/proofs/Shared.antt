-- The lemmas that other crates import.
pub mod TestedElements
pub mod Runs
pub mod Lost
pub mod Legality
pub mod ClientCounts
pub mod OneMore
pub mod LivesOneMore
pub mod SummaryAgrees
pub mod Replies
