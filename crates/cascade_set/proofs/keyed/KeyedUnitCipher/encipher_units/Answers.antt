use Rattle.std.proofs.Common.{◌≡◌, ◌+◌, ◌-◌, ◌*◌, ◌/◌, ◌%◌, ℕ, List, length, refl, sym, subst, rules, arith}
use Rattle.cipher_base.proofs.Loops.{starts, goes_on, ends}
use Rattle.cascade_set.proofs.Groups.{Ready, ready_anew, ready_next}
use Rattle.cascade_set.specs.contracts.stretch.AnyLayerStretch.TheImpl.{ghosts}
use Rattle.cascade_set.proofs.keyed.KeyedUnitCipher.encipher_units.Goals as goal
use Rattle.cascade_set.proofs.keyed.KeyedUnitCipher.encipher_units.Goals.{then-i-eq0, else-i-eq0}

pub loop-i-init : goal.loop-i-init
loop-i-init c = record { ready = λ h. absurd (omega arith); done = starts _ _ _ _ refl }

pub loop-i-preserved : goal.loop-i-preserved
loop-i-preserved c =
    let self = c.args.self.now in
    let first = c.args.first in
    let count = length c.args.units.now / 512 in
    let i = c.loop-i.i in
    let x : ℕ → List ℕ = ghosts.first_tweak self.first in
    let y : ℕ → List ℕ = ghosts.first_tweak self.second in
    let z : ℕ → List ℕ = ghosts.first_tweak self.third in
    let ready : Ready x y z first count i c.if-i-eq0.tweaks
    = elim c.if-i-eq0.branch [
      | then-i-eq0 w ↦
          subst (Ready x y z first count i) (sym w.tweaks-is)
          (ready_anew x y z first count i w.min.result w.first_tweaks-tweaks.result w.if-i-eq0.true
          (search rules) w.first_tweaks-tweaks.ensures)
      | else-i-eq0 w ↦
          subst (Ready x y z first count i) (sym w.tweaks-is) (c.loop-i.invariant.ready (omega arith))
    ] in
    let whole : length c.encipher.new.stretch ≡ 512 = search rules in
    record {
      ready = λ h. ready_next x y z first count i c.if-i-eq0.tweaks ready h;
      done = goes_on 512 i (512 * i) (512 * i + 512 - 512 * i)
          (λ i u. ghosts.enciphered self.third (first + i)
          (ghosts.enciphered self.second (first + i) (ghosts.enciphered self.first (first + i) u)))
          c.args.units.now c.loop-i.units c.encipher.new.stretch c.loop-i.invariant.done refl (omega arith) (omega arith)
          (c.encipher.ensures (first + i) (ready.at i c.loop-i-test.true refl)) whole;
    }

pub returns : goal.returns
returns c = ends 512 c.loop-i.i _ _ _ c.loop-i.invariant.done (omega arith) c.loop-i-test.false (omega arith) c.requires.whole
