-- a literal's place among the values, and values of which none is free
pub mod SlotLaws
