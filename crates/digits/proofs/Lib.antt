-- The laws of digits.

-- a digit's value and back, and bytes as digits
pub mod Hexadecimal
-- runs of stores
pub mod Stores
