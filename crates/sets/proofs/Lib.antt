-- The laws of sets of settings and of lists of them, and the proofs of the functions.

-- the algebra of sets, digit by digit, with no width
pub mod Digits
-- sets of one setting at the most
pub mod Single
-- the tests that compute mean their propositions
pub mod Tests
-- lists of sets: uniqueness, existence, growth at the end
pub mod Lists
-- the smallest sets of a family, and the family on the other side
pub mod Dual
-- turning a list, once and twice
pub mod Turning
-- what each mark means
pub mod Marks
