-- bytes taken of a source and given to a sink, part by part
pub mod Streams
-- the data of an option, part by part
pub mod Parts
-- a reply whose parts were added one after another
pub mod Joined
-- what a handshake did, part by part
pub mod Meant
-- how bytes start that begin with an option
pub mod Steps
-- what one option did
pub mod OneOption
-- what was taken of an option, its head and its data
pub mod HeadAndData
-- the greeting, the flags, and one option after another
pub mod OptionByOption
