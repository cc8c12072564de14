-- The requests of a client in waves, which are carried out one after another; the requests of one wave may be carried out
-- at the same time. A flush is a wave by itself, and so is a malformed request. Any other wave takes reads and writes, in
-- order, while it has fewer than `depth` and the next one has no sector in common with one that is in it.
--
-- ask f                   what the request of a frame asks
-- is_transfer a           it is a read or a write
-- shares a b              two requests that ask a and b have a sector in common
-- joins depth as a        a request that asks a is taken into a wave whose requests ask as
-- waves_after wave fs     the waves if `wave` is what the first one has so far, and the requests fs are left
-- waves fs                the waves of the requests fs
-- joined ws               the requests of waves, one wave after another
-- IsWave wave             it has 1 to `depth` requests, and if there are several, these are reads and writes of which no two
--                         have a sector in common
-- AreWaves fs ws          they are such waves of the requests fs
use Rattle.std.specs.Prelude.{◌≡◌, ◌<◌, ◌≤◌, ℕ, ◌+◌, All, AllPairs, ◌&&◌, nat_lt, max, min, not, Bool, true, false, if◌then◌else◌, List, [], ◌∷◌, ◌++◌, length, map}
use Rattle.nbd_wire.specs.Classes.{asked}
use Rattle.nbd_wire.specs.Frames.{Frame}
use Rattle.nbd_wire.specs.declared.ask.Ask.{Ask}
use Rattle.nbd_wire.specs.declared.ask.Ask.TheVariants.{Read, Write}

abbrev pub is_transfer : Ask → Bool
is_transfer (Read first count) = true
is_transfer (Write first count fua) = true
is_transfer other = false

abbrev pub first_of : Ask → ℕ
first_of (Read first count) = first
first_of (Write first count fua) = first
first_of other = 0

abbrev pub count_of : Ask → ℕ
count_of (Read first count) = count
count_of (Write first count fua) = count
count_of other = 0

abbrev pub shares : Ask → Ask → Bool
shares a b = nat_lt (max (first_of a) (first_of b)) (min (first_of a + count_of a) (first_of b + count_of b))

-- it may be carried out beside each of these
abbrev pub is_apart : Ask → List Ask → Bool
is_apart a [] = true
is_apart a (b ∷ bs) = (is_transfer b && not (shares b a)) && is_apart a bs

abbrev pub joins : ℕ → List Ask → Ask → Bool
joins depth wave a = (is_transfer a && nat_lt (length wave) depth) && is_apart a wave

abbrev pub ask : ℕ → Frame → Ask
ask sector f = asked sector f.request

module _ (sector depth : ℕ) where
  abbrev pub joins_wave : List Frame → Frame → Bool
  joins_wave wave f = joins depth (map (ask sector) wave) (ask sector f)

  abbrev pub waves_after : List Frame → List Frame → List (List Frame)
  waves_after wave [] = wave ∷ []
  waves_after wave (f ∷ fs) =
      if joins_wave wave f then waves_after (wave ++ f ∷ []) fs else wave ∷ waves_after (f ∷ []) fs

  abbrev pub waves : List Frame → List (List Frame)
  waves [] = []
  waves (f ∷ fs) = waves_after (f ∷ []) fs

abbrev pub joined : List (List Frame) → List Frame
joined [] = []
joined (wave ∷ ws) = wave ++ joined ws

module _ (sector depth : ℕ) where
  -- what each wave is
  pub record IsWave (wave : List Frame) : Type 0 where
    pub some : 0 < length wave
    pub few : length wave ≤ depth
    pub apart : AllPairs (λ f g. shares (ask sector f) (ask sector g) ≡ false) wave
    pub alone : 1 < length wave → All (λ f. is_transfer (ask sector f) ≡ true) wave

  -- what waves of the requests fs are
  pub record AreWaves (fs : List Frame) (ws : List (List Frame)) : Type 0 where
    pub all : joined ws ≡ fs
    pub each : All IsWave ws
