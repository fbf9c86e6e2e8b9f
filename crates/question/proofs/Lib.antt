-- The laws behind the question's functions.
mod TestLaws
mod Rounds
mod SeekLaws
mod Bridge
mod Answers
