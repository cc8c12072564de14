-- What contracts know of the bytes of stores, sources and sinks. Those over memory have known contents. A file's are
-- unknown: they are None, and a clause on bytes says nothing.
--
-- Both old new P          P holds of the contents before and after if they are known; known contents stay known
-- written at xs old       old with the bytes xs written at the offset `at`
-- SameOutside at n        only the n bytes from the offset `at` on may differ
-- resized n old           the first n bytes of old, and zeros after its end
-- Grows old new xs        xs were added at the end
-- GrowsByFront old new xs  a prefix of xs was added at the end
-- Shrinks old new xs      xs were taken from the start
use Rattle.std.specs.Prelude.{◌≡◌, ℕ, ◌+◌, ◌-◌, List, ◌++◌, length, take, drop, replicate, Option, Some, None, ⊤}

abbrev pub Both : {A : Type 0} → Option A → Option A → (A → A → Type 0) → Type 0
Both None new P = ⊤
Both (Some a) None P = ⊥
Both (Some a) (Some b) P = P a b

abbrev pub written : ℕ → List ℕ → List ℕ → List ℕ
written at xs old = take at old ++ (xs ++ drop (at + length xs) old)

pub record SameOutside (at n : ℕ) (old new : List ℕ) : Type 0 where
  pub as_long : length new ≡ length old
  pub before : take at new ≡ take at old
  pub after : drop (at + n) new ≡ drop (at + n) old

abbrev pub resized : ℕ → List ℕ → List ℕ
resized n old = take n old ++ replicate (n - length old) 0

abbrev pub Grows : Option (List ℕ) → Option (List ℕ) → List ℕ → Type 0
Grows old new xs = Both old new (λ a b. b ≡ a ++ xs)

abbrev pub GrowsByFront : Option (List ℕ) → Option (List ℕ) → List ℕ → Type 0
GrowsByFront old new xs = (n : ℕ) × Grows old new (take n xs)

abbrev pub Shrinks : Option (List ℕ) → Option (List ℕ) → List ℕ → Type 0
Shrinks old new xs = Both old new (λ a b. a ≡ xs ++ b)
