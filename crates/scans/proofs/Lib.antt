-- The laws that the functions' proofs cite.

-- a scan, byte by byte and part by part
mod ScanLaws
-- the literals of readable buffers
pub mod Literals
