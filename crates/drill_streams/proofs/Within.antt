-- The writes of a client are whole sectors of its own range.
use Rattle.std.proofs.Common.{ℕ, zero, suc, ◌*◌, ◌/◌, Bool, true, false, List, [], ◌∷◌, All, arith}
use Rattle.std.proofs.lemmas.List.Elements.{All-append, All-nil}
use Rattle.nbd_wire.specs.Frames.{Frame}
use Rattle.drill_streams.specs.Done.{IsWriteIn}
use Rattle.drill_streams.specs.Drill.{data_of, first_of, is_read, requests, writes_in, writes_of, written_by}
use Rattle.drill_streams.proofs.OneByOne.{Each, each_request}
use Rattle.drill_streams.proofs.Plain.{frame_by, length-data}

one : {X : Type 0} (P : X → Type 0) (x : X) → P x → All P (x ∷ [])
one P x holds zero d inside = holds
one P x holds (suc k) d inside = absurd (omega (arith, inside))

module _ (c r w : ℕ) where
  in_range : IsWriteIn c (record { first = 512 * first_of c w / 512; bytes = data_of w })
  in_range = record {
    whole = omega (arith, length-data w);
    some = omega (arith, length-data w);
    from = omega arith;
    below = omega (arith, length-data w);
  }

  by_kind : (b : Bool) → All (IsWriteIn c) (written_by (frame_by c r w b))
  by_kind true = All-nil (IsWriteIn c)
  by_kind false = one (IsWriteIn c) (record { first = 512 * first_of c w / 512; bytes = data_of w }) in_range

all_in : (c : ℕ) (fs : List Frame) → Each (λ f. All (IsWriteIn c) (written_by f)) fs → All (IsWriteIn c) (writes_in fs)
unfolding writes_in
all_in c [] each = All-nil (IsWriteIn c)
all_in c (f ∷ fs) each = All-append (IsWriteIn c) (written_by f) (writes_in fs) each.0 (all_in c fs each.1)

-- the result
pub writes_within : (n c : ℕ) → All (IsWriteIn c) (writes_of n c)
writes_within n c =
    all_in c (requests n c) (each_request n c (λ f. All (IsWriteIn c) (written_by f)) 0 12 (omega arith) (λ r index. by_kind c r _ (is_read r _)))
