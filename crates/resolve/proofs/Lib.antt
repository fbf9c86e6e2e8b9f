-- The laws behind the program's function.

-- how many places Read has filled
pub mod Filled
-- from what Read, List and Turn answer to the lines
pub mod Answering
-- List, then Turn
pub mod Turned
-- what the promise means
pub mod Meaning
-- no second output
pub mod Only
