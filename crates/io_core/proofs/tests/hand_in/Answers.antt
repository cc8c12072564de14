use Rattle.std.proofs.Common.{◌≡◌, ◌/◌, ◌∷◌, List, length, refl, sym, subst, arith, lit<}
use Rattle.std.specs.List.{Any, Contains}
use Rattle.vc_base.proofs.Pieces.{in_pieces_identity}
use Rattle.sector_model.specs.History.{HasName, Write}
use Rattle.sector_model.specs.declared.entry.FaultMark.{FaultMark}
use Rattle.io_core.specs.Deposits.{IsDeposited}
use Rattle.io_core.specs.State.{write_of}
use Rattle.io_core.specs.declared.answers.Deposit.{Deposit}
use Rattle.io_core.specs.declared.answers.Deposit.TheVariants as deposit
use Rattle.io_core.specs.declared.part.PartState.{PartState}
use Rattle.io_core.specs.declared.prepared.Prepared.{Prepared}
use Rattle.io_core.proofs.Elements.{element_right, first_element}
use Rattle.io_core.proofs.tests.hand_in.Goals as goal

pub deposit-requires : goal.deposit-requires
deposit-requires g c =
    record { sealed = sym (in_pieces_identity 512 (length c.args.handed.now / 512) c.args.handed.now (lit< tt) (omega (arith, c.requires))) }

-- the write is pending after a deposit
still_there : (index : _) (x : PartState) (old new : List Prepared) → IsDeposited 1 0 index x old new → Any (λ p. HasName 1 0 (write_of p)) new
still_there index x old new d =
    let c : Contains new d.after = subst (λ l. Contains l d.after) (sym d.now) (element_right d.below (d.after ∷ d.above) d.after (first_element d.after d.above)) in
    (c.0, d.after, c.1, c.2, subst (λ (w : Write). HasName 1 0 w) (sym d.same) d.name)

by_answer : (r : Deposit) (A B : Type 0) → (r ≡ deposit.Stray → A → B) → (r ≡ deposit.Stored → B) → ((m : FaultMark) → r ≡ deposit.Spoilt m → B) → A → B
by_answer deposit.Stored A B stray stored spoilt a = stored refl
by_answer (deposit.Spoilt m) A B stray stored spoilt a = spoilt m refl
by_answer deposit.Stray A B stray stored spoilt a = stray refl a

pub returns : goal.returns
returns g c =
    by_answer c.deposit.result _ _
    (λ is any. subst (λ s. Any (λ p. HasName 1 0 (write_of p)) s.pending) (sym (c.deposit.ensures.stray_changes_nothing is)) any)
    (λ is. still_there _ _ _ _ (c.deposit.ensures.stored is))
    (λ m is. still_there _ _ _ _ (c.deposit.ensures.spoilt m is).0)
