-- Bytes taken of a source.
--
-- Passes n k stop            k of n bytes were taken: all of them, or fewer if the source stopped
-- end_of stop                how a handshake ends then
-- Skips left later n stop    bytes were skipped, up to n. If the source ended, they are all that was left.
-- Takes left later n P       n bytes were taken, of which P holds
-- Stops left later n stop    the source stopped before n bytes were taken
use Rattle.std.specs.Prelude.{◌≡◌, ◌<◌, ℕ, List, length, Option, Some, None, IfSome}
use Rattle.vc_outside.specs.Told.{Shrinks}
use Rattle.nbd_hand.specs.declared.end.HandEnd.{HandEnd}
use Rattle.nbd_hand.specs.declared.end.HandEnd.TheVariants.{Cut, ReadFault}
use Rattle.nbd_hand.specs.declared.input.Stop.{Stop}
use Rattle.nbd_hand.specs.declared.input.Stop.TheVariants.{Ended, Failed}

abbrev pub Passes : ℕ → ℕ → Option Stop → Type 0
Passes n k None = k ≡ n
Passes n k (Some stop) = k < n

pub record Skips (left later : Option (List ℕ)) (n : ℕ) (stop : Option Stop) : Type 0 where
  pub bytes : List ℕ
  pub given : Shrinks left later bytes
  pub count : Passes n (length bytes) stop
  pub ended : stop ≡ Some Ended → IfSome left (λ xs. xs ≡ bytes)

abbrev pub end_of : Stop → HandEnd
end_of Ended = Cut
end_of Failed = ReadFault

pub record Takes (left later : Option (List ℕ)) (n : ℕ) (P : List ℕ → Type 0) : Type 0 where
  pub bytes : List ℕ
  pub given : Shrinks left later bytes
  pub size : length bytes ≡ n
  pub holds : P bytes

pub record Stops (left later : Option (List ℕ)) (n : ℕ) (stop : Stop) : Type 0 where
  pub bytes : List ℕ
  pub given : Shrinks left later bytes
  pub few : length bytes < n
  pub ended : stop ≡ Ended → IfSome left (λ xs. xs ≡ bytes)
