-- The laws behind the marks, and what Mark's promise says.

-- the two tests that a letter waits for
mod Tests
-- the marks written one by one
mod Writing
-- no second result, what each answer says, and programs that the promise rejects
pub mod Promise
