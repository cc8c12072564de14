-- What the content of a file is as a secret.
use Rattle.std.specs.Prelude.{ℕ, Bool, ◌≤◌, ◌-◌, List, [], ◌∷◌, length, take, if◌then◌else◌}
use Rattle.std.specs.List.{ends_with}
use Rattle.std.specs.Str.{IsUtf8}
use Rattle.std.specs.Prelude.{eqb}

abbrev pub ends_by : List ℕ → List ℕ → Bool
ends_by content end = ends_with eqb content end

-- the content without one line end, LF or CR LF, at its end
abbrev pub without_line_end : List ℕ → List ℕ
without_line_end content =
    if ends_by content (13 ∷ 10 ∷ []) then take (length content - 2) content
    else (if ends_by content (10 ∷ []) then take (length content - 1) content else content)

-- a password that an argument can have: 1 to 128 bytes of UTF-8
pub record IsPasswordText (text : List ℕ) : Type 0 where
  pub least : 1 ≤ length text
  pub most : length text ≤ 128
  pub utf8 : IsUtf8 text
