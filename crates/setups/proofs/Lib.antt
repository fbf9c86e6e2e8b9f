-- The laws that later crates cite.

-- the tests that compute mean their propositions: Meetable, WayOut and Clash are decided
pub mod Tests
-- clauses and truth: what passes depends only on the literals that occur
pub mod Truth
-- demand 3 over a setup: ways out and clashes
pub mod Duality
-- every order of settling steps ends alike
pub mod Settling
-- what a scan decides
pub mod Scanning
-- the computing search is the search of document 01, and its count is well defined
pub mod Visits
-- the search finds the first model, or there is none
pub mod Models
-- what the tests of a byte say, and the literals of a buffer
pub mod LiteralLaws
-- the byte checks: the first place that offends, and what the refusals say of it
pub mod CheckLaws
-- a refusal is known by its number
pub mod Refusals
-- what is judged of a setup's clauses
pub mod JudgeLaws
-- what a job's result says of the sets that it gives out
pub mod GivenOut
