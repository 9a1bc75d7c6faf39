-- The lemmas that other crates import.
pub mod EventTraces
pub mod SyncKeeps
pub mod DsyncKeeps
pub mod Regroupable
pub mod LeaseSteps
pub mod CallKeeps
pub mod Raised
pub mod Rejoined
pub mod StartKeeps
pub mod EachEvent
pub mod Whatever
pub mod Failable
pub mod Faultless
pub mod Answerable
pub mod LackAnswerable
pub mod Digestible
