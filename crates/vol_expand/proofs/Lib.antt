-- parts of an image that stay
pub mod Parts
-- the fill, and bytes written one after another
pub mod Filling
-- the image with its new headers
pub mod Headers
-- the fields of a grown volume
pub mod Growing
-- what a crash may leave at each moment
pub mod Moments
-- the array of a volume that begins with the old one's bytes
pub mod Arrays
-- what then opens
pub mod Opening
