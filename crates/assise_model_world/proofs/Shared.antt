-- The lemmas that other crates import.
pub mod Logs
pub mod WorldObserved
pub mod QuietSteps
pub mod ClientsStaying
pub mod Views
pub mod RegionAlone
pub mod AreasAgree
pub mod DeliveryKeeps
pub mod DropKeeps
pub mod DigestKeeps
pub mod FailureKeeps
pub mod Replicated
pub mod CallKeeps
pub mod CoalescedTail
pub mod RegroupKeeps
pub mod StepLists
pub mod Possible
