mod Common
mod Changes
