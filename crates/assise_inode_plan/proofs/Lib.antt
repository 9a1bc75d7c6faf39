mod Common
pub mod Shared
mod WalkRest
mod WalkEnds
mod WalkTwice
mod QuietPlans
mod FileChanging
mod CreatePlans
mod RemovePlans
mod RenamePlans
mod SamePlaces
mod Exact
mod WholeStepPlan
mod FirstVisit
