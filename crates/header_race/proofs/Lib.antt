-- the derivations of a kind, slot by slot
mod Entrants
-- the first element that passes a test, in lists that are joined
mod Firsts
-- what the outcomes of a race say together
mod Settling
-- the first derivation that wins gives the first valid candidate
mod Opening
-- what one derived key tells
mod Trying
