mod Common
mod DeskTraces
mod DeskSteps
mod PathFaults
mod TextPages
mod TwoPieces
mod Losses
