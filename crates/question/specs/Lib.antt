-- What the question under List asks and answers, and what its parts promise one another.
pub mod Question
pub mod Seeking
