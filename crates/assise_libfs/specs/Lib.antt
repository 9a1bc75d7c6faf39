pub mod Lives
pub mod Calling
pub mod Opening
pub mod Clients
pub mod InTurns
pub mod MadeCalls
