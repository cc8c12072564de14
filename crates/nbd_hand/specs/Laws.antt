-- bytes taken of a source
pub mod Taken
-- what was written of a reply
pub mod Sent
-- what a handshake did so far
pub mod Onward
-- the data of options 6 and 7, part by part
pub mod Parts
