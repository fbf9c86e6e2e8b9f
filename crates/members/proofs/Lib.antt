-- The laws behind what the taken settings do to the members.

-- the lowest setting of a set
mod Lowest
-- members, hit and unhit
mod Members
