mod Common
pub mod Shared
mod Rights
mod ClientOwners
mod StepsKeepRule
mod Stages
