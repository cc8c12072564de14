-- what a history leaves in one unit, and in the units of clients that write apart
pub mod Apart
-- a volume that was served to the clients of a drill, from its opening to its end
pub mod Ending
-- data units that were copied and deciphered
pub mod Units
-- the header that was opened, and the digest of what the clients left
pub mod Whole
-- the container, and the header that opens it
pub mod Header
