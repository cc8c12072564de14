-- What ghost items and private contracts cite.

-- the laws of a cipher of stretches
pub mod Lawful
-- the layers of an algorithm one by one
pub mod Layers
-- the first tweaks of units, one list for each layer
pub mod FirstTweaks
