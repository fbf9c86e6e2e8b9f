-- The laws that the functions' proofs cite.

-- what is told under a budget
mod Telling
-- settling and visits
mod VisitLaws
