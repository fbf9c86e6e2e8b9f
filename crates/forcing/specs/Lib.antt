-- Clauses and settings under values of which some are free, and what the functions over them promise.
pub mod Holding
pub mod Selectors
pub mod Values
pub mod Rules
pub mod Standings
