-- bytes taken of a source and given to a sink, part by part
pub mod Streams
-- a session, request by request
pub mod RequestByRequest
-- how bytes start, by what was taken of a source
pub mod Starts
-- whether what was taken of a source is a head
pub mod NoHead
-- a request from its head and its payload
pub mod HeadAndPayload
-- what a call of the volume leaves
pub mod CallLeaves
-- what follows from what a head asks
pub mod Asked
-- what a request did
pub mod Acted
-- the buffer of a read
pub mod DataInPlace
-- a session over a pass
pub mod CallByCall
