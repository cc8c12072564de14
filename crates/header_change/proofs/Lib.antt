-- calls one after another, and what a crash may leave at each moment of them
pub mod Moments
-- the slots of a pair, and what writes leave of them
pub mod Slots
-- the headers that are there in the end
mod Headers
-- from the steps of a call to what it promises
pub mod Steps
