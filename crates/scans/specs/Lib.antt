-- What a scan promises, over that of setups/specs/Searching.antt.
pub mod Scans
-- the clauses of the parts that it is given
pub mod Parts
