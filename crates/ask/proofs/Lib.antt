-- The laws that the functions' proofs cite, and the theorems about an ask.

-- places of no variable change nothing
mod Padding
-- the refusals, in their order
mod Refusing
-- from what the search tells to what an ask gives back
mod Answering
-- what the promise says of each answer, and that it allows no second result
pub mod Promise
-- programs that the promise rejects
pub mod Rejected
