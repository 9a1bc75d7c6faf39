-- The lemmas that other crates import.
pub mod PassAdds
pub mod LedStates
