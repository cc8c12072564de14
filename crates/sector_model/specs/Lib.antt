-- what a volume holds: an array of data units, and ranges of its sectors
pub mod Array
-- what a history says of the volume: open writes, contents, whether it is frozen or flushed
pub mod History
-- which histories are legal
pub mod Legal
-- the marks of failed calls
pub mod Marks
-- a plain volume, and the history that it stands for
pub mod Plain
-- small histories, which show what the definitions say
pub mod Laws
