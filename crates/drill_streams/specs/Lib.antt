-- the requests of a drill, their bytes and what they write
pub mod Drill
-- the replies to them, and the events that they leave
pub mod Done
