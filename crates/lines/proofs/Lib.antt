-- The laws of the lines.

-- the lines, stored one after the other
pub mod Stored
