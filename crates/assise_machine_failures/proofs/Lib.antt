mod Common
pub mod Shared
mod DroppedCopies
mod ComingBack
mod RefillHappens
mod Codes
mod Settled
mod TakenIn
mod CutOff
mod Cuts
mod FilledFrom
mod KeptPlaces
mod Listed
mod LostCopies
mod FailSettled
mod Failed
mod FailedFull
mod FailedAgain
