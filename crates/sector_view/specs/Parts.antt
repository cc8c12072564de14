-- A buffer that is handed out part by part: what is left of it, as a loan of the buffer's own end, and
-- which part comes next.
use Rattle.std.specs.Prelude.{ℕ, List}
use Rattle.std.specs.Borrow.{MutBor}
use Rattle.sector_view.specs.declared.parts.Parts.{Parts}

-- what is left
abbrev pub rest_of : Parts → MutBor (List ℕ)
rest_of parts = parts.rest

-- the index of the next part, the number of its first unit, and the bytes of a whole part
abbrev pub next_index : Parts → ℕ
next_index parts = parts.index

abbrev pub next_unit : Parts → ℕ
next_unit parts = parts.unit

abbrev pub piece_of : Parts → ℕ
piece_of parts = parts.piece
