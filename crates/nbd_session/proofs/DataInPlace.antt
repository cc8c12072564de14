-- The buffer of a read: 16 bytes for the reply, and then the data.
use Rattle.std.proofs.Common.{◌≡◌, ◌≤◌, ℕ, ◌+◌, ◌-◌, List, [], ◌++◌, length, length-append, take, drop, refl, ap, ◌∙◌, arith}
use Rattle.std.proofs.lemmas.List.{append-nil, drop_all, drop_at, length-drop, length-take, length-take-le}
use borrow.Rule.Slice.PartMut.{put_mid}
use Rattle.nbd_wire.specs.declared.reply.Outcome.{Outcome}
use Rattle.nbd_wire.specs.declared.reply.Outcome.TheVariants as outcome
use Rattle.nbd_session.specs.Outcomes.{data_of}

-- the part for the data
pub length-data : (n : ℕ) (buf : List ℕ) → length buf ≡ 16 + n → length (take (length buf - 16) (drop 16 buf)) ≡ n
length-data n buf size = omega (arith, size, length-take (length buf - 16) (drop 16 buf), length-drop 16 buf)

module _ (buf bytes : List ℕ) (room : 16 ≤ length buf) where
  -- the data are there after the read
  pub data_put : drop 16 (put_mid 16 (length buf - 16) buf bytes) ≡ bytes
  data_put =
      drop_at (take 16 buf) (bytes ++ drop (length buf - 16) (drop 16 buf)) 16 (length-take-le 16 buf room)
      ∙ ap (λ (p : List ℕ). bytes ++ p) (drop_all (length buf - 16) (drop 16 buf) (omega (arith, length-drop 16 buf)))
      ∙ append-nil bytes

  pub room_put : 16 ≤ length (put_mid 16 (length buf - 16) buf bytes)
  room_put = omega (arith, length-append (take 16 buf) (bytes ++ drop (length buf - 16) (drop 16 buf)), length-take-le 16 buf room)

-- only a read that was done has data
pub no_data : (o : Outcome) (bytes : List ℕ) → ¬ (o ≡ outcome.Done) → data_of o bytes ≡ []
no_data outcome.Done bytes isnt = absurd (isnt refl)
no_data outcome.ReadBeyond bytes isnt = refl
no_data outcome.WriteBeyond bytes isnt = refl
no_data outcome.Denied bytes isnt = refl
no_data outcome.Frozen bytes isnt = refl
no_data outcome.Fault bytes isnt = refl
no_data outcome.NoMemory bytes isnt = refl
no_data outcome.Malformed bytes isnt = refl
