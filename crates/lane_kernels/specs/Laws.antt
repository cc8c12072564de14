-- What private contracts cite.

-- eight states side by side
pub mod Lanes
