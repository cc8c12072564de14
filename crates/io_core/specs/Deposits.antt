-- What a deposit does to the pending writes and to the container.
--
-- IsDeposited .. old new   fragment `index` of request `number` of `caller` was waiting, and is in this state now
-- deposit_of state         the answer
-- fragment_data w index    the data of a fragment: 512 data units, the last one has what is left
-- fragment_unit g w index  the container's unit from which on it is stored
-- fragment_sealed s w index   its data, enciphered for these units
-- IsWritten s w index      between two images: the fragment was stored, enciphered
-- SameButFragment g w index   only the bytes of the fragment may differ
use Rattle.std.specs.Prelude.{◌≡◌, ℕ, ◌+◌, ◌*◌, ◌/◌, List, ◌∷◌, ◌++◌, Some, length, slice_get, slice_set}
use Rattle.vc_base.specs.Bytes.{in_pieces, piece}
use Rattle.vc_layout.specs.declared.geometry.Geometry.{Geometry}
use Rattle.vc_outside.specs.Told.{SameOutside, written}
use Rattle.cipher_base.specs.declared.unit.UnitCipher.{Ghosts as CipherGhosts}
use Rattle.frag_plan.specs.Fragments.{fragment}
use Rattle.frag_plan.specs.Request.{Request}
use Rattle.sector_model.specs.Array.{units_of}
use Rattle.sector_model.specs.History.{HasName}
use Rattle.io_core.specs.State.{State, write_of}
use Rattle.io_core.specs.declared.answers.Deposit.{Deposit}
use Rattle.io_core.specs.declared.answers.Deposit.TheVariants as deposit
use Rattle.io_core.specs.declared.part.PartState.{PartState}
use Rattle.io_core.specs.declared.part.PartState.TheVariants.{Waiting, Stored, Spoilt}
use Rattle.io_core.specs.declared.prepared.Prepared.{Prepared}

pub record IsDeposited (caller number index : ℕ) (state : PartState) (old new : List Prepared) : Type 0 where
  pub below : List Prepared
  pub above : List Prepared
  pub before : Prepared
  pub after : Prepared
  pub was : old ≡ below ++ before ∷ above
  pub now : new ≡ below ++ after ∷ above
  pub name : HasName caller number (write_of before)
  pub same : write_of after ≡ write_of before
  pub waited : slice_get before.parts.items index ≡ Some Waiting
  pub parts : after.parts.items ≡ slice_set before.parts.items index state

abbrev pub deposit_of : PartState → Deposit
deposit_of Waiting = deposit.Stored
deposit_of Stored = deposit.Stored
deposit_of (Spoilt mark) = deposit.Spoilt mark

abbrev pub fragment_data : Prepared → ℕ → List ℕ
fragment_data w index = piece (512 * 512) index w.bytes.items

-- the container's units that a write covers
abbrev pub request_of : Geometry → Prepared → Request
request_of g w = record { first = g.start / 512 + g.sector / 512 * w.first; count = units_of w.bytes.items }

abbrev pub fragment_unit : Geometry → Prepared → ℕ → ℕ
fragment_unit g w index = (fragment (request_of g w) index).first

abbrev pub SameButFragment : Geometry → Prepared → ℕ → List ℕ → List ℕ → Type 0
SameButFragment g w index old new = SameOutside (512 * fragment_unit g w index) (length (fragment_data w index)) old new

module _ {S C : Type 0} (cipher : CipherGhosts C) where
  abbrev pub fragment_sealed : State S C → Prepared → ℕ → List ℕ
  fragment_sealed s w index =
      in_pieces 512 (λ i u. cipher.enciphered s.cipher (fragment_unit s.geometry w index + i) u) (fragment_data w index)

  abbrev pub IsWritten : State S C → Prepared → ℕ → List ℕ → List ℕ → Type 0
  IsWritten s w index old new = new ≡ written (512 * fragment_unit s.geometry w index) (fragment_sealed s w index) old
