-- the command lines
pub mod Line
-- the command line of a command
pub mod Meaning
-- the limits of its values
pub mod Ranges
-- what private contracts cite
pub mod Laws
