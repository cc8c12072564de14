-- the end of a walk over the arguments
mod Ends
