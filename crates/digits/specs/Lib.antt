-- What a byte and a number are in hexadecimal digits.
pub mod Digits
