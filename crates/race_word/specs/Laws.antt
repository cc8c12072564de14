-- the rule of the table: what holds of its word and all runners between any two steps
pub mod Rule
-- what each step tells the runner that takes it
pub mod Steps
