-- a client whose requests were all done
pub mod Ended
