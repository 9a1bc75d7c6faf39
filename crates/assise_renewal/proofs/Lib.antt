mod Common
mod Led
mod Added
mod SameTree
mod OneClient
mod AllReplicated
