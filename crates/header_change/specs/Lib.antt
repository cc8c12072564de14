-- the two slots of a header and its backup
pub mod Pair
-- a container with headers written anew
pub mod Changed
-- what a crash in the middle of a call may leave
pub mod Moments
