mod Common
pub mod Shared
mod Acked
mod Busy
mod CarriedFrames
mod Faithful
mod LastNode
mod RoundSteps
mod VainTries
