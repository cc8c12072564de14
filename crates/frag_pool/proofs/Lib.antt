-- lists read at a place, and their rests
pub mod Lists
-- the rule after one view changed, or a pass more was made
pub mod Views
-- each step keeps the rule
pub mod Steps
-- the ways of a helper to the benches
pub mod Thieves
