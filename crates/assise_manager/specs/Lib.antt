pub mod Standings
pub mod Membership
pub mod NodeLevels
pub mod Changes
pub mod Seen
pub mod Whole
pub mod MemberCalls
