-- A sum over requests, added up request by request.
use Rattle.std.proofs.Common.{◌≡◌, ◌<◌, ℕ, ◌+◌, ap, ◌∙◌, arith}
use Rattle.nbd_wire.specs.Frames.{Frame}
use Rattle.drill_streams.specs.Drill.{frame_of, total, word}
use Rattle.drill_streams.proofs.OneByOne.{left, left_next, left_none, total-cons, total-nil}

module _ (counts : Frame → ℕ) (n c k so_far all : ℕ) (known : so_far + total counts (left n c k) ≡ all) where
  pub added : (one : ℕ) → k < 12 → one ≡ counts (frame_of c k (word n c k)) → so_far + one + total counts (left n c (k + 1)) ≡ all
  added one below is =
      let split : total counts (left n c k) ≡ counts (frame_of c k (word n c k)) + total counts (left n c (k + 1))
      = ap (total counts) (left_next n c k below) ∙ total-cons counts (frame_of c k (word n c k)) (left n c (k + 1)) in
      omega (arith, known, split, is)

  pub added_all : k ≡ 12 → so_far ≡ all
  added_all is =
      let none : total counts (left n c k) ≡ 0 = ap (λ (i : ℕ). total counts (left n c i)) is ∙ ap (total counts) (left_none n c) ∙ total-nil counts in
      omega (arith, known, none)
