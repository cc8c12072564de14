-- facts of two images that may be unknown
pub mod Known
-- the opening state stands for itself and no entry
pub mod Opening
-- marks of different failures: one more, and a later count
pub mod OneMoreMark
-- an event that changes no write and no byte
pub mod QuietStep
-- a flush
pub mod Flushed
-- ranges of sectors and their units
pub mod Apart
-- elements of lists
pub mod Elements
-- admission
pub mod Admitted
-- the book and the pending writes
pub mod Booked
-- a write to the container, unit by unit
pub mod Rewritten
-- a pending write replaced in its place
pub mod Replaced
-- a fragment is stored, or its write failed
pub mod Deposited
-- what is stored of a fragment deciphers to it
pub mod SealedUnits
-- a pending write is found by its name
pub mod Found
-- a stored fragment after another was stored
pub mod StoredAfter
-- the part of a write's data that a fragment has
pub mod CutFragment
-- the state of a fragment by what a deposit returns
pub mod StateByAnswer
-- one pending write among the others
pub mod OpenWrite
-- the name and the marks of a write that ends
pub mod EndedMarks
-- a write ends
pub mod Closed
-- the fields of a core after a write has ended
pub mod Released
-- a fetch
pub mod Fetched
-- the first pending write of a name
pub mod Named
-- a request that passes the volume's end
pub mod PastTheEnd
-- a fragment in its place
pub mod WrittenFragment
