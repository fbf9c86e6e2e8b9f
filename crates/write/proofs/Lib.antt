-- The laws behind Write, and what its promise says.

-- the lines of a buffer's clauses
mod ClauseLines
-- Write's refusals
pub mod Refusing
-- no second result, and programs that the promise rejects
pub mod Promise
-- reading what was written
pub mod RoundTrip
