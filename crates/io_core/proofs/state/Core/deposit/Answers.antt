use Rattle.std.proofs.Common.{rules, ◌≡◌, ◌<◌, ◌⊎◌, ℕ, ◌+◌, ◌*◌, ◌/◌, ◌-◌, List, Option, Some, get_or, set, length, take, drop, refl, sym, ap, subst, ◌∙◌, arith}
use Rattle.std.specs.Prelude.{slice_get, IfSome}
use Rattle.std.specs.List.{Any}
use Rattle.sector_model.specs.History.{HasName}
use Rattle.io_core.specs.Laws.Marked.{IsMarked}
use Rattle.io_core.specs.State.{State, write_of}
use Rattle.io_core.specs.declared.part.PartState.TheVariants.{Waiting}
use Rattle.io_core.specs.declared.prepared.Prepared.{Prepared}
use Rattle.vc_outside.specs.Told.{Both, SameOutside}
use Rattle.io_core.specs.Laws.Sealed.{Deciphers}
use Rattle.vc_layout.specs.declared.geometry.Geometry.{Geometry}
use Rattle.vc_outside.specs.Crash.{Outcomes}
use Rattle.io_core.specs.Deposits.{fragment_data, fragment_unit, IsDeposited, IsWritten, SameButFragment}
use Rattle.io_core.specs.Named.{named}
use Rattle.io_core.specs.Sound.{Sound}
use Rattle.io_core.specs.State.{IsPlaced}
use Rattle.io_core.specs.declared.part.PartState.{PartState}
use Rattle.io_core.specs.declared.part.PartState.TheVariants.{Stored, Spoilt}
use Rattle.io_core.proofs.StateByAnswer.{is_deposited, not_stray, parts_at, replaced_at, same_at, was_spoilt, was_stored}
use Rattle.io_core.proofs.CutFragment.{cut, cut_piece, IsCut}
use Rattle.io_core.proofs.Deposited.{sound_deposit}
use Rattle.io_core.proofs.Named.{found, IsFound}
use Rattle.io_core.proofs.Replaced.{IsReplaced}
use Rattle.io_core.proofs.StoredAfter.{images_after}
use Rattle.io_core.proofs.Found.{core_deposited, marked_is_replaced, the_found}
use Rattle.io_core.proofs.WrittenFragment.{crash_here, elsewhere_here, written_here}
use Rattle.io_core.proofs.state.Core.deposit.Goals as goal

pub returns-then-not-is_waiting-clause-stray : goal.returns-then-not-is_waiting-clause-stray
returns-then-not-is_waiting-clause-stray g c =
    let ps : List Prepared = c.self.inside.pending.items in
    let d : Prepared = c.index-write.result.now in
    let within : c.in-Some.at < length ps = subst (λ (l : List Prepared). c.in-Some.at < length l) c.deref.ensures.value c.in-Some.ensures.bound in
    let here : HasName c.args.caller c.args.number (write_of (get_or ps c.in-Some.at d))
    = subst (λ (l : List Prepared). HasName c.args.caller c.args.number (write_of (get_or l c.in-Some.at d))) c.deref.ensures.value (c.in-Some.ensures.found d) in (
      λ _ any.
          let inside : Any (λ p. HasName c.args.caller c.args.number (write_of p) × (slice_get p.parts.items c.args.index ≡ Some Waiting)) ps
          = subst (λ (s : State _ _). Any (λ p. HasName c.args.caller c.args.number (write_of p) × (slice_get p.parts.items c.args.index ≡ Some Waiting)) s.pending) (sym c.self.view_is) any in
          let waits : slice_get (get_or ps c.in-Some.at d).parts.items c.args.index ≡ Some Waiting
          = the_found c.args.caller c.args.number ps c.self.invariant.names (λ p. slice_get p.parts.items c.args.index ≡ Some Waiting) c.in-Some.at d within here inside in
          search rules,
      λ _. refl,
    )

pub invariant_of-self : goal.invariant_of-self
invariant_of-self g c =
    let ps : List Prepared = c.self.inside.pending.items in
    let d : Prepared = c.index-write.result.now in
    let within : c.in-Some.at < length ps = subst (λ (l : List Prepared). c.in-Some.at < length l) c.deref.ensures.value c.in-Some.ensures.bound in
    let m : IsMarked c.in-Some.at c.args.index c.store_fragment-state.result d ps c.set_part.new.pending.items = c.set_part.ensures.marked d in
    core_deposited (g.S.Store.size c.self.inside.disk) (g.S.Store.size c.store_fragment-state.new.disk) c.self.inside.geometry c.self.inside.guard.range
    c.self.inside.book c.self.inside.pending c.set_part.new.pending c.self.inside.capacity c.self.inside.room _ (get_or ps c.in-Some.at d) m.write
    c.self.invariant c.store_fragment-state.ensures.size
    (marked_is_replaced c.in-Some.at c.args.index c.store_fragment-state.result d ps c.set_part.new.pending.items within m)
    m.same c.set_part.ensures.capacity refl

pub returns-clause-stray : goal.returns-clause-stray
returns-clause-stray g c =
    let ps : List Prepared = c.self.inside.pending.items in
    let d : Prepared = c.index-write.result.now in
    let within : c.in-Some.at < length ps = subst (λ (l : List Prepared). c.in-Some.at < length l) c.deref.ensures.value c.in-Some.ensures.bound in
    let here : HasName c.args.caller c.args.number (write_of (get_or ps c.in-Some.at d))
    = subst (λ (l : List Prepared). HasName c.args.caller c.args.number (write_of (get_or l c.in-Some.at d))) c.deref.ensures.value (c.in-Some.ensures.found d) in
    let waits : slice_get d.parts.items c.args.index ≡ Some Waiting = search rules in
    let inside : Any (λ p. HasName c.args.caller c.args.number (write_of p) × (slice_get p.parts.items c.args.index ≡ Some Waiting)) ps
    = (c.in-Some.at, d, within, sym c.index-write.ensures, (subst (λ (p : Prepared). HasName c.args.caller c.args.number (write_of p)) (sym c.index-write.ensures) here, waits)) in (
      λ is _. not_stray c.store_fragment-state.result (sym c.answer_of.ensures ∙ is),
      λ none. absurd (none (subst (λ (s : State _ _). Any (λ p. HasName c.args.caller c.args.number (write_of p) × (slice_get p.parts.items c.args.index ≡ Some Waiting)) s.pending) c.self.view_is inside)),
    )

pub returns-clause-stored : goal.returns-clause-stored
returns-clause-stored g c is =
    let ps : List Prepared = c.self.inside.pending.items in
    let d : Prepared = c.index-write.result.now in
    let within : c.in-Some.at < length ps = subst (λ (l : List Prepared). c.in-Some.at < length l) c.deref.ensures.value c.in-Some.ensures.bound in
    let here : HasName c.args.caller c.args.number (write_of (get_or ps c.in-Some.at d))
    = subst (λ (l : List Prepared). HasName c.args.caller c.args.number (write_of (get_or l c.in-Some.at d))) c.deref.ensures.value (c.in-Some.ensures.found d) in
    let waits : slice_get d.parts.items c.args.index ≡ Some Waiting = search rules in
    let done : IsDeposited c.args.caller c.args.number c.args.index c.store_fragment-state.result ps c.set_part.new.pending.items
    = is_deposited c.in-Some.at c.args.index c.store_fragment-state.result d ps c.set_part.new.pending.items within c.index-write.ensures (c.set_part.ensures.marked d)
    c.args.caller c.args.number (subst (λ (p : Prepared). HasName c.args.caller c.args.number (write_of p)) (sym c.index-write.ensures) here) waits in
    let stored : c.store_fragment-state.result ≡ Stored
    = was_stored (g.S.Store.faults c.self.inside.disk) (g.S.Store.faults c.store_fragment-state.new.disk) c.store_fragment-state.result
    c.store_fragment-state.ensures.outcome (sym c.answer_of.ensures ∙ is) in
    subst (λ (s : State _ _). IsDeposited c.args.caller c.args.number c.args.index Stored s.pending c.set_part.new.pending.items) c.self.view_is
    (subst (λ (x : PartState). IsDeposited c.args.caller c.args.number c.args.index x ps c.set_part.new.pending.items) stored done)

pub returns-clause-spoilt : goal.returns-clause-spoilt
returns-clause-spoilt g c mark is =
    let ps : List Prepared = c.self.inside.pending.items in
    let d : Prepared = c.index-write.result.now in
    let within : c.in-Some.at < length ps = subst (λ (l : List Prepared). c.in-Some.at < length l) c.deref.ensures.value c.in-Some.ensures.bound in
    let here : HasName c.args.caller c.args.number (write_of (get_or ps c.in-Some.at d))
    = subst (λ (l : List Prepared). HasName c.args.caller c.args.number (write_of (get_or l c.in-Some.at d))) c.deref.ensures.value (c.in-Some.ensures.found d) in
    let waits : slice_get d.parts.items c.args.index ≡ Some Waiting = search rules in
    let done : IsDeposited c.args.caller c.args.number c.args.index c.store_fragment-state.result ps c.set_part.new.pending.items
    = is_deposited c.in-Some.at c.args.index c.store_fragment-state.result d ps c.set_part.new.pending.items within c.index-write.ensures (c.set_part.ensures.marked d)
    c.args.caller c.args.number (subst (λ (p : Prepared). HasName c.args.caller c.args.number (write_of p)) (sym c.index-write.ensures) here) waits in
    let spoilt : (c.store_fragment-state.result ≡ Spoilt mark) × (mark ≡ record { before = g.S.Store.faults c.self.inside.disk; after = g.S.Store.faults c.store_fragment-state.new.disk })
    = was_spoilt (g.S.Store.faults c.self.inside.disk) (g.S.Store.faults c.store_fragment-state.new.disk) c.store_fragment-state.result mark
    c.store_fragment-state.ensures.outcome (sym c.answer_of.ensures ∙ is) in (
      subst (λ (s : State _ _). IsDeposited c.args.caller c.args.number c.args.index (Spoilt mark) s.pending c.set_part.new.pending.items) c.self.view_is
          (subst (λ (x : PartState). IsDeposited c.args.caller c.args.number c.args.index x ps c.set_part.new.pending.items) spoilt.0 done),
      subst (λ (s : State _ _). mark ≡ record { before = g.S.Store.faults s.disk; after = g.S.Store.faults c.store_fragment-state.new.disk }) c.self.view_is spoilt.1,
    )

-- the clauses on the container speak of the write that was found

pub returns-clause-written : goal.returns-clause-written
returns-clause-written g c is =
    let s : State _ _ = record {
      disk = c.self.inside.disk;
      cipher = c.self.inside.cipher;
      geometry = c.self.inside.geometry;
      guard = c.self.inside.guard;
      pending = c.self.inside.pending.items;
      capacity = c.self.inside.capacity;
    } in
    let ps : List Prepared = c.self.inside.pending.items in
    let d : Prepared = c.index-write.result.now in
    let k : ℕ = c.args.index in
    let within : c.in-Some.at < length ps = subst (λ (l : List Prepared). c.in-Some.at < length l) c.deref.ensures.value c.in-Some.ensures.bound in
    let here : HasName c.args.caller c.args.number (write_of (get_or ps c.in-Some.at d))
    = subst (λ (l : List Prepared). HasName c.args.caller c.args.number (write_of (get_or l c.in-Some.at d))) c.deref.ensures.value (c.in-Some.ensures.found d) in
    let mine : HasName c.args.caller c.args.number (write_of d)
    = subst (λ (x : Prepared). HasName c.args.caller c.args.number (write_of x)) (sym c.index-write.ensures) here in
    let f : IsFound c.args.caller c.args.number ps = found c.args.caller c.args.number ps (c.in-Some.at, d, within, sym c.index-write.ensures, mine) in
    let is_it : named c.args.caller c.args.number ps ≡ Some d
    = f.is ∙ ap Some (sym (c.index-write.ensures
    ∙ the_found c.args.caller c.args.number ps c.self.invariant.names (λ x. x ≡ f.write) c.in-Some.at d within here f.any)) in
    let to : ℕ = c.min-to.result in
    let least : (to ≡ 262144 * k + 262144) ⊎ (to ≡ length d.bytes.items) = search rules in
    let bytes : List ℕ = take (to - 262144 * k) (drop (262144 * k) c.deref-3.result.now) in
    let its : bytes ≡ fragment_data d k
    = ap (λ (l : List ℕ). take (to - 262144 * k) (drop (262144 * k) l)) c.deref-3.ensures.value ∙ cut_piece d.bytes.items k to least (search rules) in
    let first : ℕ = c.self.inside.geometry.start / 512 + c.from-units.result / 512 * d.first + 512 * k in
    let place : first ≡ fragment_unit s.geometry d k
    = ap (λ (u : ℕ). c.self.inside.geometry.start / 512 + u / 512 * d.first + 512 * k) c.from-units.ensures in
    subst (λ (t : State _ _). IfSome (named c.args.caller c.args.number t.pending) (λ w. Both (g.S.Store.image t.disk) (g.S.Store.image c.store_fragment-state.new.disk) (IsWritten g.C.UnitCipher t w k))) c.self.view_is
    (subst (λ (o : Option Prepared). IfSome o (λ w. Both (g.S.Store.image s.disk) (g.S.Store.image c.store_fragment-state.new.disk) (IsWritten g.C.UnitCipher s w k))) (sym is_it)
    (let stored : c.store_fragment-state.result ≡ Stored
    = was_stored (g.S.Store.faults c.self.inside.disk) (g.S.Store.faults c.store_fragment-state.new.disk) c.store_fragment-state.result
    c.store_fragment-state.ensures.outcome (sym c.answer_of.ensures ∙ is) in
    written_here s d k first bytes place its g.C.UnitCipher (g.S.Store.image c.self.inside.disk) (g.S.Store.image c.store_fragment-state.new.disk)
    (c.store_fragment-state.ensures.written stored)))

pub returns-clause-elsewhere : goal.returns-clause-elsewhere
returns-clause-elsewhere g c _ =
    let s : State _ _ = record {
      disk = c.self.inside.disk;
      cipher = c.self.inside.cipher;
      geometry = c.self.inside.geometry;
      guard = c.self.inside.guard;
      pending = c.self.inside.pending.items;
      capacity = c.self.inside.capacity;
    } in
    let ps : List Prepared = c.self.inside.pending.items in
    let d : Prepared = c.index-write.result.now in
    let k : ℕ = c.args.index in
    let within : c.in-Some.at < length ps = subst (λ (l : List Prepared). c.in-Some.at < length l) c.deref.ensures.value c.in-Some.ensures.bound in
    let here : HasName c.args.caller c.args.number (write_of (get_or ps c.in-Some.at d))
    = subst (λ (l : List Prepared). HasName c.args.caller c.args.number (write_of (get_or l c.in-Some.at d))) c.deref.ensures.value (c.in-Some.ensures.found d) in
    let mine : HasName c.args.caller c.args.number (write_of d)
    = subst (λ (x : Prepared). HasName c.args.caller c.args.number (write_of x)) (sym c.index-write.ensures) here in
    let f : IsFound c.args.caller c.args.number ps = found c.args.caller c.args.number ps (c.in-Some.at, d, within, sym c.index-write.ensures, mine) in
    let is_it : named c.args.caller c.args.number ps ≡ Some d
    = f.is ∙ ap Some (sym (c.index-write.ensures
    ∙ the_found c.args.caller c.args.number ps c.self.invariant.names (λ x. x ≡ f.write) c.in-Some.at d within here f.any)) in
    let to : ℕ = c.min-to.result in
    let least : (to ≡ 262144 * k + 262144) ⊎ (to ≡ length d.bytes.items) = search rules in
    let bytes : List ℕ = take (to - 262144 * k) (drop (262144 * k) c.deref-3.result.now) in
    let its : bytes ≡ fragment_data d k
    = ap (λ (l : List ℕ). take (to - 262144 * k) (drop (262144 * k) l)) c.deref-3.ensures.value ∙ cut_piece d.bytes.items k to least (search rules) in
    let first : ℕ = c.self.inside.geometry.start / 512 + c.from-units.result / 512 * d.first + 512 * k in
    let place : first ≡ fragment_unit s.geometry d k
    = ap (λ (u : ℕ). c.self.inside.geometry.start / 512 + u / 512 * d.first + 512 * k) c.from-units.ensures in
    subst (λ (t : State _ _). IfSome (named c.args.caller c.args.number t.pending) (λ w. Both (g.S.Store.image t.disk) (g.S.Store.image c.store_fragment-state.new.disk) (SameButFragment t.geometry w k))) c.self.view_is
    (subst (λ (o : Option Prepared). IfSome o (λ w. Both (g.S.Store.image s.disk) (g.S.Store.image c.store_fragment-state.new.disk) (SameButFragment s.geometry w k))) (sym is_it)
    (elsewhere_here s d k first bytes place its (g.S.Store.image c.self.inside.disk) (g.S.Store.image c.store_fragment-state.new.disk)
    c.store_fragment-state.ensures.outside))

pub returns-clause-crash : goal.returns-clause-crash
returns-clause-crash g c _ =
    let s : State _ _ = record {
      disk = c.self.inside.disk;
      cipher = c.self.inside.cipher;
      geometry = c.self.inside.geometry;
      guard = c.self.inside.guard;
      pending = c.self.inside.pending.items;
      capacity = c.self.inside.capacity;
    } in
    let ps : List Prepared = c.self.inside.pending.items in
    let d : Prepared = c.index-write.result.now in
    let k : ℕ = c.args.index in
    let within : c.in-Some.at < length ps = subst (λ (l : List Prepared). c.in-Some.at < length l) c.deref.ensures.value c.in-Some.ensures.bound in
    let here : HasName c.args.caller c.args.number (write_of (get_or ps c.in-Some.at d))
    = subst (λ (l : List Prepared). HasName c.args.caller c.args.number (write_of (get_or l c.in-Some.at d))) c.deref.ensures.value (c.in-Some.ensures.found d) in
    let mine : HasName c.args.caller c.args.number (write_of d)
    = subst (λ (x : Prepared). HasName c.args.caller c.args.number (write_of x)) (sym c.index-write.ensures) here in
    let f : IsFound c.args.caller c.args.number ps = found c.args.caller c.args.number ps (c.in-Some.at, d, within, sym c.index-write.ensures, mine) in
    let is_it : named c.args.caller c.args.number ps ≡ Some d
    = f.is ∙ ap Some (sym (c.index-write.ensures
    ∙ the_found c.args.caller c.args.number ps c.self.invariant.names (λ x. x ≡ f.write) c.in-Some.at d within here f.any)) in
    let to : ℕ = c.min-to.result in
    let least : (to ≡ 262144 * k + 262144) ⊎ (to ≡ length d.bytes.items) = search rules in
    let bytes : List ℕ = take (to - 262144 * k) (drop (262144 * k) c.deref-3.result.now) in
    let its : bytes ≡ fragment_data d k
    = ap (λ (l : List ℕ). take (to - 262144 * k) (drop (262144 * k) l)) c.deref-3.ensures.value ∙ cut_piece d.bytes.items k to least (search rules) in
    let first : ℕ = c.self.inside.geometry.start / 512 + c.from-units.result / 512 * d.first + 512 * k in
    let place : first ≡ fragment_unit s.geometry d k
    = ap (λ (u : ℕ). c.self.inside.geometry.start / 512 + u / 512 * d.first + 512 * k) c.from-units.ensures in
    subst (λ (t : State _ _). IfSome (named c.args.caller c.args.number t.pending) (λ w. Outcomes g.S.Store.tells (g.S.Store.moment t.disk) (g.S.Store.moment c.store_fragment-state.new.disk) (g.S.Store.left_since t.disk) (g.S.Store.left_since c.store_fragment-state.new.disk) (g.S.Store.may_leave t.disk) (g.S.Store.may_leave c.store_fragment-state.new.disk) (SameButFragment t.geometry w k))) c.self.view_is
    (subst (λ (o : Option Prepared). IfSome o (λ w. Outcomes g.S.Store.tells (g.S.Store.moment s.disk) (g.S.Store.moment c.store_fragment-state.new.disk) (g.S.Store.left_since s.disk) (g.S.Store.left_since c.store_fragment-state.new.disk) (g.S.Store.may_leave s.disk) (g.S.Store.may_leave c.store_fragment-state.new.disk) (SameButFragment s.geometry w k))) (sym is_it)
    (crash_here s d k first bytes place its _ _ _ _ _ _ _ c.store_fragment-state.ensures.crash))

pub returns-clause-sound : goal.returns-clause-sound
returns-clause-sound g c base h sound =
    let s : State _ _ = record {
      disk = c.self.inside.disk;
      cipher = c.self.inside.cipher;
      geometry = c.self.inside.geometry;
      guard = c.self.inside.guard;
      pending = c.self.inside.pending.items;
      capacity = c.self.inside.capacity;
    } in
    let was : Sound g.S.Store g.C.UnitCipher base h s = subst (λ (t : State _ _). Sound g.S.Store g.C.UnitCipher base h t) (sym c.self.view_is) sound in
    let ps : List Prepared = c.self.inside.pending.items in
    let d : Prepared = c.index-write.result.now in
    let k : ℕ = c.args.index in
    let x : PartState = c.store_fragment-state.result in
    let next : List Prepared = c.set_part.new.pending.items in
    let within : c.in-Some.at < length ps = subst (λ (l : List Prepared). c.in-Some.at < length l) c.deref.ensures.value c.in-Some.ensures.bound in
    let waits : slice_get d.parts.items k ≡ Some Waiting = search rules in
    let counted : k < length d.parts.items = search rules in
    let m : IsMarked c.in-Some.at k x d ps next = c.set_part.ensures.marked d in
    let r : IsReplaced d m.write ps next = replaced_at c.in-Some.at k x d ps next within c.index-write.ensures m in
    let same : write_of m.write ≡ write_of d = same_at c.in-Some.at k x d ps next within c.index-write.ensures m in
    let parts : m.write.parts.items ≡ set d.parts.items k x = parts_at c.in-Some.at k x d ps next within c.index-write.ensures m in
    let to : ℕ = c.min-to.result in
    let fragment : List ℕ = take (to - 262144 * k) (drop (262144 * k) c.deref-3.result.now) in
    let size : length d.bytes.items ≡ c.len.result = omega (arith, c.len.ensures, d.bytes.ok.0) in
    let least : (to ≡ 262144 * k + 262144) ⊎ (to ≡ length d.bytes.items) = search rules in
    let some : 262144 * k < length d.bytes.items = omega (arith, counted, d.counted) in
    let is_cut : IsCut d.bytes.items k (to - 262144 * k) fragment
    = cut d.bytes.items k to fragment d.whole some (search rules) (search rules) least (omega (arith, least, some))
    (ap (λ (l : List ℕ). take (to - 262144 * k) (drop (262144 * k) l)) c.deref-3.ensures.value) in
    let placed : IsPlaced (g.S.Store.size base.disk) base.geometry
    = subst (λ (n : ℕ). IsPlaced n base.geometry) was.size_same
    (subst (λ (f : Geometry). IsPlaced (g.S.Store.size c.self.inside.disk) f) was.geometry_same c.self.invariant.placed) in
    let first : ℕ = c.self.inside.geometry.start / 512 + c.from-units.result / 512 * d.first + 512 * k in
    let n : ℕ = length fragment / 512 in
    let place : first ≡ base.geometry.start / 512 + base.geometry.sector / 512 * d.first + 512 * k
    = ap (λ (u : ℕ). c.self.inside.geometry.start / 512 + u / 512 * d.first + 512 * k) c.from-units.ensures
    ∙ ap (λ (f : Geometry). f.start / 512 + f.sector / 512 * d.first + 512 * k) was.geometry_same in
    let outside : Both (g.S.Store.image c.self.inside.disk) (g.S.Store.image c.store_fragment-state.new.disk) (SameOutside (512 * first) (length fragment))
    = c.store_fragment-state.ensures.outside in
    let stored : x ≡ Stored → Both (g.S.Store.image c.self.inside.disk) (g.S.Store.image c.store_fragment-state.new.disk)
    (λ _ b. Deciphers (g.C.UnitCipher.deciphered base.cipher) first fragment b)
    = subst (λ (e : _). x ≡ Stored → Both (g.S.Store.image c.self.inside.disk) (g.S.Store.image c.store_fragment-state.new.disk)
    (λ _ b. Deciphers (g.C.UnitCipher.deciphered e) first fragment b)) was.cipher_same c.store_fragment-state.ensures.stored in
    sound_deposit g.S.Store g.C.UnitCipher base h s placed d m.write next r same k x waits parts c.store_fragment-state.new.disk first n
    (omega (arith, place)) (omega (arith, place, is_cut.all)) c.store_fragment-state.ensures.size c.store_fragment-state.ensures.cause.later
    c.store_fragment-state.ensures.outcome
    (images_after g.S.Store g.C.UnitCipher base.cipher base.geometry d m.write same k first (to - 262144 * k) x counted parts fragment place
    is_cut.part is_cut.enough n is_cut.long is_cut.all is_cut.few is_cut.last _ _ outside stored)
    was
