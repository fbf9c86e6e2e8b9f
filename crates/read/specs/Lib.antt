-- What a good text is, what Read gives back, and its promise.
pub mod Texts
pub mod Read
pub mod Reading
-- a pass over a text, in numbers
pub mod Code
