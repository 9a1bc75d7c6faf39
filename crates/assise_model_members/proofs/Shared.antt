-- The lemmas that other crates import.
pub mod NodeStandings
pub mod NodesFail
pub mod NodeChanged
pub mod DigestNoted
pub mod JoinKeeps
pub mod StaleInodes
pub mod StepsPossible
