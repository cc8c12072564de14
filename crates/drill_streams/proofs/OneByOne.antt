-- The twelve requests of a client, one after the other.
--
-- left n c k       the requests of client c from request k on
-- Each P fs        P holds of each request of a list
use Rattle.std.proofs.Common.{◌≡◌, ◌<◌, ◌≤◌, ℕ, zero, suc, ◌+◌, ◌-◌, List, [], ◌∷◌, refl, ap, ◌∙◌, arith}
use Rattle.std.specs.Prelude.{⊤}
use Rattle.nbd_wire.specs.Frames.{Frame}
use Rattle.drill_streams.specs.Drill.{frame_of, requests_from, total, word}

abbrev pub left : ℕ → ℕ → ℕ → List Frame
left n c k = requests_from n c k (12 - k)

abbrev pub Each : (Frame → Type 0) → List Frame → Type 0
Each P [] = ⊤
Each P (f ∷ fs) = P f × Each P fs

module _ (n c : ℕ) where
  more : (k m : ℕ) → requests_from n c k (suc m) ≡ frame_of c k (word n c k) ∷ requests_from n c (suc k) m
  unfolding requests_from
  more k m = refl

  -- request k, and those after it
  pub left_next : (k : ℕ) → k < 12 → left n c k ≡ frame_of c k (word n c k) ∷ left n c (k + 1)
  left_next k below =
      let count : 12 - k ≡ suc (12 - (k + 1)) = omega (arith, below) in
      let place : suc k ≡ k + 1 = omega arith in
      ap (requests_from n c k) count ∙ more k (12 - (k + 1))
      ∙ ap (λ (i : ℕ). frame_of c k (word n c k) ∷ requests_from n c i (12 - (k + 1))) place

  pub left_none : left n c 12 ≡ []
  unfolding requests_from
  left_none = refl

  -- what holds of each of the twelve requests
  pub each_request : (P : Frame → Type 0) (k m : ℕ) → k + m ≤ 12 → ((r : ℕ) → r < 12 → P (frame_of c r (word n c r)))
      → Each P (requests_from n c k m)
  unfolding requests_from
  each_request P k zero fits holds = tt
  each_request P k (suc m) fits holds = (
    holds k (omega (arith, fits)),
    each_request P (suc k) m (omega (arith, fits)) holds,
  )

pub total-cons : (counts : Frame → ℕ) (f : Frame) (fs : List Frame) → total counts (f ∷ fs) ≡ counts f + total counts fs
unfolding total
total-cons counts f fs = refl

pub total-nil : (counts : Frame → ℕ) → total counts [] ≡ 0
unfolding total
total-nil counts = refl
