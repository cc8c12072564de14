-- Replies that are left to read, after those to the first k requests.
use Rattle.std.proofs.Common.{◌≡◌, ◌<◌, ℕ, ◌+◌, ◌==◌, Bool, true, false, List, [], ◌∷◌, length, drop, refl, arith, sym, ap, ◌∙◌, subst}
use Rattle.std.proofs.lemmas.Bool.{ne_eqb}
use Rattle.std.specs.Prelude.{◌↔◌, IsTrue}
use Rattle.nbd_wire.specs.Frames.{Frame}
use Rattle.nbd_wire.specs.declared.request.Request.{Request}
use Rattle.drill_streams.specs.Done.{AreDone, BeginDone, data_length}
use Rattle.drill_streams.specs.Drill.{frame_of, request_of, word}
use Rattle.drill_streams.proofs.OneByOne.{left, left_next, left_none}

done_cons : (f : Frame) (fs : List Frame) (bytes : List ℕ)
    → AreDone (f ∷ fs) bytes ↔ (BeginDone f.request bytes × AreDone fs (drop (16 + data_length f.request) bytes))
unfolding AreDone
done_cons f fs bytes = (λ done. done, λ done. done)

done_nil : (bytes : List ℕ) → AreDone [] bytes ↔ (bytes ≡ [])
unfolding AreDone
done_nil bytes = (λ done. done, λ done. done)

module _ (n c k : ℕ) (below : k < 12) (q : Request) (is : q ≡ request_of c k (word n c k)) (bytes : List ℕ) where
  opened : AreDone (left n c k) bytes → AreDone (frame_of c k (word n c k) ∷ left n c (k + 1)) bytes
  opened done = subst (λ (fs : List Frame). AreDone fs bytes) (left_next n c k below) done

  pub not_begun : ¬ BeginDone q bytes → ¬ AreDone (left n c k) bytes
  not_begun none done =
      none (subst (λ (r : Request). BeginDone r bytes) (sym is)
      ((done_cons (frame_of c k (word n c k)) (left n c (k + 1)) bytes).0 (opened done)).0)

  module _ (rest : List ℕ) (said : BeginDone q bytes) (after : rest ≡ drop (16 + data_length q) bytes) where
    rest_is : rest ≡ drop (16 + data_length (request_of c k (word n c k))) bytes
    rest_is = after ∙ ap (λ (r : Request). drop (16 + data_length r) bytes) is

    pub done_next : AreDone (left n c k) bytes ↔ AreDone (left n c (k + 1)) rest
    done_next = (
      λ done. subst (AreDone (left n c (k + 1))) (sym rest_is)
          ((done_cons (frame_of c k (word n c k)) (left n c (k + 1)) bytes).0 (opened done)).1,
      λ done. subst (λ (fs : List Frame). AreDone fs bytes) (sym (left_next n c k below))
          ((done_cons (frame_of c k (word n c k)) (left n c (k + 1)) bytes).1
          (subst (λ (r : Request). BeginDone r bytes) is said, subst (AreDone (left n c (k + 1))) rest_is done)),
    )

pub done_end : (n c : ℕ) (bytes : List ℕ) → AreDone (left n c 12) bytes ↔ (bytes ≡ [])
done_end n c bytes = (
  λ done. (done_nil bytes).0 (subst (λ (fs : List Frame). AreDone fs bytes) (left_none n c) done),
  λ none. subst (λ (fs : List Frame). AreDone fs bytes) (sym (left_none n c)) ((done_nil bytes).1 none),
)

pub both_ways : {A B C : Type 0} → A ↔ B → B ↔ C → A ↔ C
both_ways ab bc = (λ a. bc.0 (ab.0 a), λ c. ab.1 (bc.1 c))

pub other_way : {A B : Type 0} → A ↔ B → B ↔ A
other_way ab = (ab.1, ab.0)

pub done_over : (n c k : ℕ) (bytes : List ℕ) → k ≡ 12 → AreDone (left n c k) bytes ↔ (bytes ≡ [])
done_over n c k bytes is = subst (λ (i : ℕ). AreDone (left n c i) bytes ↔ (bytes ≡ [])) (sym is) (done_end n c bytes)

pub never : false ≡ true → ⊥
never h = cc

pub empty_is : (b : Bool) (xs : List ℕ) → b ≡ (length xs == 0) → IsTrue b ↔ (xs ≡ [])
empty_is b [] is = (λ _. refl, λ _. is)
empty_is b (x ∷ xs) is = (
  λ yes. absurd (never (sym (is ∙ ne_eqb (length (x ∷ xs)) 0 (λ none. omega (arith, none))) ∙ yes)),
  λ none. absurd (omega (arith, ap length none)),
)
