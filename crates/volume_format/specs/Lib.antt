-- the random stream
pub mod Stream
-- a formatted container
pub mod Formatted
-- a container with a new hidden volume
pub mod Hidden
-- what opens a new volume
pub mod Opens
-- definitions that only private contracts cite
pub mod Laws
