-- the random stream, drawn in parts
pub mod Draws
-- bytes written over a list
pub mod Writes
-- the fill, part by part
mod Parts
-- the image of a formatted container
pub mod Images
-- opening a new volume
pub mod Opening
-- from what each step makes to what the image is
pub mod Making
-- the image with a hidden volume
pub mod HiddenImages
