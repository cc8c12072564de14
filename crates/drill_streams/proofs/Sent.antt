-- The bytes of a client, added request by request.
use Rattle.std.proofs.Common.{◌≡◌, ◌<◌, ℕ, ◌+◌, List, [], ◌∷◌, ◌++◌, append_assoc, refl, sym, ap, ◌∙◌}
use Rattle.std.proofs.lemmas.List.{append-nil}
use Rattle.nbd_wire.specs.Frames.{Frame}
use Rattle.drill_streams.specs.Drill.{bytes_of, frame_of, sent, word}
use Rattle.drill_streams.proofs.OneByOne.{left, left_next, left_none}

sent_cons : (f : Frame) (fs : List Frame) → sent (f ∷ fs) ≡ bytes_of f ++ sent fs
unfolding sent
sent_cons f fs = refl

sent_nil : sent [] ≡ []
unfolding sent
sent_nil = refl

module _ (n c k : ℕ) (bytes all : List ℕ) (known : bytes ++ sent (left n c k) ≡ all) where
  pub sent_next : k < 12 → (more : List ℕ) → more ≡ bytes ++ bytes_of (frame_of c k (word n c k)) → more ++ sent (left n c (k + 1)) ≡ all
  sent_next below more is =
      let f : Frame = frame_of c k (word n c k) in
      let split : sent (left n c k) ≡ bytes_of f ++ sent (left n c (k + 1)) = ap sent (left_next n c k below) ∙ sent_cons f (left n c (k + 1)) in
      ap (λ (xs : List ℕ). xs ++ sent (left n c (k + 1))) is
      ∙ append_assoc bytes (bytes_of f) (sent (left n c (k + 1)))
      ∙ ap (λ (xs : List ℕ). bytes ++ xs) (sym split) ∙ known

  pub sent_all : k ≡ 12 → bytes ≡ all
  sent_all is =
      let none : sent (left n c k) ≡ [] = ap (λ (i : ℕ). sent (left n c i)) is ∙ ap sent (left_none n c) ∙ sent_nil in
      sym (append-nil bytes) ∙ ap (λ (xs : List ℕ). bytes ++ xs) (sym none) ∙ known
