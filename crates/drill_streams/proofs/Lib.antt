-- the requests of a client, one after the other
pub mod OneByOne
-- which requests the wire takes
pub mod Plain
-- the requests of a client's bytes
pub mod Framed
-- a word of the stream
pub mod Drawn
-- a sum, request by request
pub mod Added
-- the bytes of a client, request by request
pub mod Sent
-- replies that are left to read
pub mod Replied
-- what done requests leave
pub mod Left
-- the range of a client's writes
pub mod Within
-- the data of a write, sector by sector
pub mod Counting
