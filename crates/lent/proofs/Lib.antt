-- The laws behind the check of a list.

-- a list taken apart from its front, as the check goes through it
pub mod Fronts
