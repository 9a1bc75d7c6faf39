pub mod Traces
pub mod Entered
pub mod Lost
pub mod Numbered
pub mod State
