-- The laws of lines and frames.

-- lines and the frames in them
pub mod Lines
-- lines, stored
pub mod Stored
