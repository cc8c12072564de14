-- the head of a request, and a reply
pub mod Wire
-- what a head asks for
pub mod Classes
-- the requests of a client's bytes
pub mod Frames
-- what requests leave in a history, and their replies
pub mod Replies
