-- The state of a fragment by what a deposit returns, and the deposit at the place of the pending write.
use Rattle.std.proofs.Common.{◌≡◌, ◌≢◌, ◌<◌, ℕ, List, Some, get_or, set, length, refl, sym, ap, subst, ◌∙◌}
use Rattle.std.specs.Prelude.{slice_get}
use Rattle.sector_model.specs.History.{HasName}
use Rattle.sector_model.specs.declared.entry.FaultMark.{FaultMark}
use Rattle.io_core.specs.Deposits.{deposit_of, IsDeposited}
use Rattle.io_core.specs.Laws.Marked.{IsMarked}
use Rattle.io_core.specs.Laws.Sealed.{IsOutcome}
use Rattle.io_core.specs.State.{write_of}
use Rattle.io_core.specs.declared.answers.Deposit.TheVariants as deposit
use Rattle.io_core.specs.declared.part.PartState.{PartState}
use Rattle.io_core.specs.declared.part.PartState.TheVariants.{Waiting, Stored, Spoilt}
use Rattle.io_core.specs.declared.prepared.Prepared.{Prepared}
use Rattle.io_core.proofs.Found.{marked_is_replaced}
use Rattle.io_core.proofs.Replaced.{IsReplaced}

pub was_stored : (before now : ℕ) (x : PartState) → IsOutcome before now x → deposit_of x ≡ deposit.Stored → x ≡ Stored
was_stored before now Waiting outcome is = absurd outcome
was_stored before now Stored outcome is = refl
was_stored before now (Spoilt m) outcome is = cc

pub was_spoilt : (before now : ℕ) (x : PartState) (mark : FaultMark) → IsOutcome before now x → deposit_of x ≡ deposit.Spoilt mark
    → (x ≡ Spoilt mark) × (mark ≡ record { before = before; after = now })
was_spoilt before now Waiting mark outcome is = absurd outcome
was_spoilt before now Stored mark outcome is = cc
was_spoilt before now (Spoilt m) mark outcome is =
    let same : m ≡ mark = cc in
    (ap Spoilt same, sym same ∙ outcome.0)

pub not_stray : (x : PartState) → deposit_of x ≢ deposit.Stray
not_stray Waiting is = cc
not_stray Stored is = cc
not_stray (Spoilt m) is = cc

module _ (at index : ℕ) (x : PartState) (d : Prepared) (old new : List Prepared) (within : at < length old)
    (read : d ≡ get_or old at d) (m : IsMarked at index x d old new) where
  pub replaced_at : IsReplaced d m.write old new
  replaced_at = subst (λ (p : Prepared). IsReplaced p m.write old new) (sym read) (marked_is_replaced at index x d old new within m)

  pub same_at : write_of m.write ≡ write_of d
  same_at = m.same ∙ ap write_of (sym read)

  pub parts_at : m.write.parts.items ≡ set d.parts.items index x
  parts_at = m.parts ∙ ap (λ (p : Prepared). set p.parts.items index x) (sym read)

  pub is_deposited : (caller number : ℕ) → HasName caller number (write_of d) → slice_get d.parts.items index ≡ Some Waiting
      → IsDeposited caller number index x old new
  is_deposited caller number name waited =
      let r : IsReplaced d m.write old new = replaced_at in
      record {
        below = r.below;
        above = r.above;
        before = d;
        after = m.write;
        was = r.was;
        now = r.now;
        name = name;
        same = same_at;
        waited = waited;
        parts = parts_at;
      }
