-- The definitions that every contract cites: clauses and truth, setups with their ways out and clashes, the search of an ask,
-- the refusals, and what Ask, List, Turn and Mark give back.
pub mod Limits
pub mod Clauses
pub mod Setups
pub mod Tests
pub mod Settling
pub mod Search
pub mod Searching
pub mod Meaning
pub mod Refusals
pub mod Written
pub mod Ask
pub mod GivenOut
pub mod List
pub mod Turn
pub mod Mark
-- the byte checks, and what they leave known
pub mod Code
