-- The laws behind Turn, and what its promise says.

-- a set put in its place
mod Placing
-- the branches of the search
mod Branches
-- the sets found as they grow
mod Growth
-- how a branch parts in two
mod Splitting
-- where the search begins and ends
mod Ends
-- no second result, what each answer says, and turning twice
pub mod Promise
