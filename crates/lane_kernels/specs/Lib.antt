-- Serpent under its round keys
pub mod SerpentRounds
-- eight states side by side, of which private contracts speak
pub mod Laws
