-- The lines that are put out.
pub mod Lines
-- how the code names their kinds
pub mod Code
