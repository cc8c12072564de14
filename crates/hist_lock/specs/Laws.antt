-- What only this crate's own clauses name.

-- the rule of the table: what holds of its words, its slot and all passes between any two steps
pub mod Rule
-- what each step tells the pass that takes it
pub mod Steps
