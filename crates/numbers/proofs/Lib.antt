-- The laws that every crate leans on.

-- one place more, read or filled
pub mod Places
-- tests and decisions
pub mod Deciding
