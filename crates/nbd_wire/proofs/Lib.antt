-- the requests of bytes: the first, and then those of the rest
pub mod FirstAndRest
-- the answers to the first request, and then to the others
pub mod AnsweredOnward
-- bytes after others
pub mod After
