-- The laws behind Read, and what its promise says.

-- the fold over a text's lines
mod Following
-- a pass over the text
mod Passing
-- what the filling pass copies
mod Filling
-- from the two passes to Read's answer
pub mod Answers
-- which texts are read, no second result, and programs that the promise rejects
pub mod Promise
