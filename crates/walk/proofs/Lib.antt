-- The laws of the walk.

-- a node's branch as an interval of numbers
mod Nodes
-- what the question's two answers say of a branch
mod Replies
-- the ways out below a bound, and more of them
mod WaysBelow
-- from a node to the two below it
mod NodeSteps
-- sets written over places
pub mod Overwriting
-- what each end of the walk leaves in the places
mod Walks
-- the walk at the root
pub mod Root
