-- The most variables, and what a negated literal adds.
pub mod Numbers
-- where values stand
pub mod Code
