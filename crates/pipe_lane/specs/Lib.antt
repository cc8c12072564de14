-- what was taken of a client's bytes
pub mod Heard
-- requests that were taken and aren't carried out yet
pub mod Queue
-- lanes, and what became of a lane's request
pub mod Lanes
