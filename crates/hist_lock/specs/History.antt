-- Histories: lists of entries, oldest first. `number` says under which caller's number an entry is.
--
-- StartsWith log seen       seen is a prefix of log
-- entries number n es       the entries of es under the number n, in order
-- HasOf number ns es e      e is an entry of es under one of the numbers ns
use Rattle.std.specs.Prelude.{◌≡◌, ℕ, ◌==◌, ◌<◌, List, ◌++◌, filter, length, Contains}

abbrev pub StartsWith : {E : Type 0} → List E → List E → Type 0
StartsWith {E} log seen = (rest : List E) × (log ≡ seen ++ rest)

abbrev pub entries : {E : Type 0} → (E → ℕ) → ℕ → List E → List E
entries number n es = filter (λ e. number e == n) es

-- For each of the numbers ns, both lists have the same entries under it.
abbrev pub SameUnder : {E : Type 0} → (E → ℕ) → List ℕ → List E → List E → Type 0
SameUnder number ns es fs = (n : ℕ) → Contains ns n → entries number n es ≡ entries number n fs
