-- The text of a setup, what Write gives back, and its promise.
pub mod SetupText
pub mod Write
pub mod Writing
