-- Moves of lanes that are the same in each plane move the bytes of each block.
use Rattle.std.proofs.Common.{◌≡◌, ◌<◌, ◌+◌, ◌-◌, ◌*◌, ◌%◌, length, sym, List, [], ◌∷◌, ℕ, refl, lit<}
use Rattle.vc_base.specs.Bits.{of_bits}
use Rattle.vc_base.specs.Bytes.{IsBytes}
use Rattle.aes_core.specs.Aes.{at, shift_rows, inverse_shift_rows}
use Rattle.aes_core.specs.Laws.Planes.{plane, ArePlanes, InEachBlock, row_below, two_rows_below}
use Rattle.aes_core.specs.Laws.Planes.{by_rows, lane, lanes_left, lanes_right, lanes_up, lanes_up_two}
use Rattle.aes_core.specs.Laws.States.{is_state, of_state}
use Rattle.aes_core.proofs.OnPlanes.{below_eight}

abbrev pub each_plane : (List ℕ → List ℕ) → List (List ℕ) → List (List ℕ)
each_plane f x =
    f (plane x 0) ∷ f (plane x 1) ∷ f (plane x 2) ∷ f (plane x 3)
    ∷ f (plane x 4) ∷ f (plane x 5) ∷ f (plane x 6) ∷ f (plane x 7) ∷ []

kept : (f : List ℕ → List ℕ) (x : List (List ℕ)) → ((s : List ℕ) → IsBytes 16 s → IsBytes 16 (f s)) → ArePlanes x
    → ArePlanes (each_plane f x)
kept f x keeps planes =
    let one : (i : ℕ) → i < 8 → IsBytes 16 (f (plane x i)) = λ i below. keeps (plane x i) (planes.each i below) in
    record {
      each = below_eight (λ i. IsBytes 16 (plane (each_plane f x) i))
          (one 0 (lit< tt)) (one 1 (lit< tt)) (one 2 (lit< tt)) (one 3 (lit< tt))
          (one 4 (lit< tt)) (one 5 (lit< tt)) (one 6 (lit< tt)) (one 7 (lit< tt));
    }

lanes_left_bytes : (p : List ℕ) → IsBytes 16 p → IsBytes 16 (lanes_left p)
unfolding lanes_left
lanes_left_bytes p is = is_state (λ r c. lane p c ((r + c) % 4)) (λ r c. is.each (4 * c + (r + c) % 4))

pub shift_rows_each : (x : List (List ℕ)) → ArePlanes x → InEachBlock shift_rows x (each_plane lanes_left x)
unfolding shift_rows lanes_left of_bits
shift_rows_each x planes = record { planes = kept lanes_left x lanes_left_bytes planes; each = λ k below. refl }

lanes_right_bytes : (p : List ℕ) → IsBytes 16 p → IsBytes 16 (lanes_right p)
unfolding lanes_right
lanes_right_bytes p is = is_state (λ r c. lane p c ((r + 4 - c) % 4)) (λ r c. is.each (4 * c + (r + 4 - c) % 4))

pub inverse_shift_rows_each : (x : List (List ℕ)) → ArePlanes x → InEachBlock inverse_shift_rows x (each_plane lanes_right x)
unfolding inverse_shift_rows lanes_right of_bits
inverse_shift_rows_each x planes = record { planes = kept lanes_right x lanes_right_bytes planes; each = λ k below. refl }

lanes_up_bytes : (p : List ℕ) → IsBytes 16 p → IsBytes 16 (lanes_up p)
unfolding lanes_up
lanes_up_bytes p is = is_state (λ r c. lane p ((c + 1) % 4) r) (λ r c. is.each (4 * ((c + 1) % 4) + r))

pub row_below_each : (x : List (List ℕ)) → ArePlanes x → InEachBlock row_below x (each_plane lanes_up x)
unfolding row_below lanes_up of_bits
row_below_each x planes = record { planes = kept lanes_up x lanes_up_bytes planes; each = λ k below. refl }

lanes_up_two_bytes : (p : List ℕ) → IsBytes 16 p → IsBytes 16 (lanes_up_two p)
unfolding lanes_up_two
lanes_up_two_bytes p is = is_state (λ r c. lane p ((c + 2) % 4) r) (λ r c. is.each (4 * ((c + 2) % 4) + r))

pub two_rows_below_each : (x : List (List ℕ)) → ArePlanes x → InEachBlock two_rows_below x (each_plane lanes_up_two x)
unfolding two_rows_below lanes_up_two of_bits
two_rows_below_each x planes = record { planes = kept lanes_up_two x lanes_up_two_bytes planes; each = λ k below. refl }

-- ---- states row by row

pub turned_bytes : (s : List ℕ) → IsBytes 16 s → IsBytes 16 (by_rows s)
unfolding by_rows
turned_bytes s is = is_state (λ r c. at s c r) (λ r c. is.each (c + 4 * r))

pub turned_twice : (s : List ℕ) → length s ≡ 16 → by_rows (by_rows s) ≡ s
unfolding by_rows
turned_twice s long = sym (of_state s long)

pub turned_planes : (x : List (List ℕ)) → ArePlanes x → ArePlanes (each_plane by_rows x)
turned_planes x planes = kept by_rows x turned_bytes planes

pub turned_each : (x : List (List ℕ)) (k : ℕ) → k < 8 → plane (each_plane by_rows x) k ≡ by_rows (plane x k)
turned_each x = below_eight (λ k. plane (each_plane by_rows x) k ≡ by_rows (plane x k)) refl refl refl refl refl refl refl refl
