use Rattle.std.proofs.Common.{rules, ◌+◌, ◌-◌, ◌≤◌, Option, Some, take, drop, mul-le-mul_left, ◌*◌, ◌∷◌, ◌++◌, [], ◌≡◌, ◌<◌, ℕ, ◌/◌, ◌^◌, List, length, refl, sym, ap, subst, ◌∙◌, arith}
use Rattle.std.specs.List.{All}
use Rattle.range_book.specs.Book.{Meets}
use Rattle.range_base.specs.Range.{Overlap}
use Rattle.std.specs.Prelude.{IfSome, slice_range}
use Rattle.std.proofs.lemmas.List.{drop-drop}
use Rattle.vc_base.specs.Bytes.{IsBytes, piece}
use Rattle.vc_base.proofs.Chunks.{piece-take}
use Rattle.vc_layout.specs.declared.geometry.Geometry.{Geometry}
use Rattle.sector_model.proofs.Overwritten.{whole_units}
use Rattle.io_core.proofs.Apart.{units_of_sectors}
use Rattle.sector_model.specs.Array.{AreSectors, Fits, sectors_of, unit, units_of, Volume}
use Rattle.sector_model.specs.Plain.{entry}
use Rattle.sector_model.specs.declared.entry.Event.TheVariants.{Read}
use Rattle.io_core.specs.Fetches.{data_of, IsFree}
use Rattle.io_core.proofs.Admitted.{volume_same}
use Rattle.io_core.specs.Sound.{Sound, volume}
use Rattle.io_core.specs.State.{IsPlaced, Overlaps, State, volume_of}
use Rattle.io_core.proofs.Booked.{count_same, free_writes, met, none_met, not_free}
use Rattle.io_core.proofs.Fetched.{sound_read}
use Rattle.io_core.proofs.Flushed.{lasting_kept, sound_unflushed}
use Rattle.io_core.proofs.OneMoreMark.{mark_of_call}
use Rattle.io_core.proofs.state.Core.fetch.Goals as goal

pub returns-then-is_some-clause-later : goal.returns-then-is_some-clause-later
returns-then-is_some-clause-later g c =
    let s : State _ _ = c.args.self.now in
    let v : Volume = volume_of c.self.inside.geometry c.self.inside.guard.range in
    let out : List ℕ = c.args.out.now in
    let same : length out / 512 / (c.from-units.result / 512) ≡ sectors_of v out
    = count_same _ _ _ _ _ refl c.from-units.ensures refl in
    let r = met c.meets.result c.args.first (length out / 512 / (c.from-units.result / 512)) c.self.inside.book.ranges (sym c.is_some.ensures ∙ c.if-is_some.true) c.meets.ensures.lowest in
    let taken : ¬ All (λ p. ¬ Overlaps v c.args.first (sectors_of v out) p) c.self.inside.pending.items
    = not_free v c.self.inside.book.ranges c.self.inside.pending.items c.self.invariant.booked c.args.first (sectors_of v out) r.0 r.1
    (subst (λ (n : ℕ). Meets c.args.first n r.0) same r.2) in
    (λ _. subst (λ (t : State _ _). ¬ IsFree t c.args.first out) c.self.view_is taken, λ _. refl)

pub returns-in-Err-clause-later : goal.returns-in-Err-clause-later
returns-in-Err-clause-later g c =
    let v : Volume = volume_of c.self.inside.geometry c.self.inside.guard.range in
    let out : List ℕ = c.args.out.now in
    let same : length out / 512 / (c.from-units.result / 512) ≡ sectors_of v out
    = count_same _ _ _ _ _ refl c.from-units.ensures refl in
    let free : All (λ p. ¬ Overlaps v c.args.first (sectors_of v out) p) c.self.inside.pending.items
    = free_writes v c.self.inside.book.ranges c.self.inside.pending.items c.self.invariant.booked c.args.first (sectors_of v out)
    (subst (λ (n : ℕ). All (λ r. ¬ Meets c.args.first n r) c.self.inside.book.ranges) same (c.meets.ensures.none.0 (none_met c.meets.result (sym c.is_some.ensures ∙ c.if-is_some.false)))) in
    (λ e. cc, λ taken. absurd (taken (subst (λ (t : State _ _). IsFree t c.args.first out) c.self.view_is free)))

pub returns-clause-later : goal.returns-clause-later
returns-clause-later g c =
    let v : Volume = volume_of c.self.inside.geometry c.self.inside.guard.range in
    let out : List ℕ = c.args.out.now in
    let same : length out / 512 / (c.from-units.result / 512) ≡ sectors_of v out
    = count_same _ _ _ _ _ refl c.from-units.ensures refl in
    let free : All (λ p. ¬ Overlaps v c.args.first (sectors_of v out) p) c.self.inside.pending.items
    = free_writes v c.self.inside.book.ranges c.self.inside.pending.items c.self.invariant.booked c.args.first (sectors_of v out)
    (subst (λ (n : ℕ). All (λ r. ¬ Meets c.args.first n r) c.self.inside.book.ranges) same (c.meets.ensures.none.0 (none_met c.meets.result (sym c.is_some.ensures ∙ c.if-is_some.false)))) in
    (λ e. cc, λ taken. absurd (taken (subst (λ (t : State _ _). IsFree t c.args.first out) c.self.view_is free)))

pub returns-in-Err-clause-sound : goal.returns-in-Err-clause-sound
returns-in-Err-clause-sound g c base h caller number sound =
    let fits : g.S.Store.faults c.read_at.new.self < 2 ^ 64 = subst (λ (n : ℕ). n < 2 ^ 64) c.faults-after.ensures c.faults-after.type_inv in
    sound_unflushed g.S.Store g.C.UnitCipher base h caller number c.args.first (sectors_of (volume c.args.self.now) c.read_at.new.out)
    _ c.read_at.new.self c.in-Err.ensures.size c.in-Err.ensures.image
    c.in-Err.ensures.cause.later _
    (mark_of_call (g.S.Store.faults c.self.inside.disk) (g.S.Store.faults c.read_at.new.self) _ _ c.faults-before.ensures c.faults-after.ensures
    c.in-Err.ensures.cause.later fits (c.in-Err.ensures.cause.rose refl))
    (lasting_kept g.S.Store.tells _ _ _ _ (g.S.Store.may_leave c.self.inside.disk) (g.S.Store.may_leave c.read_at.new.self) _ _
    c.in-Err.ensures.image c.in-Err.ensures.crash (g.met.S.Store.image_may_stay c.read_at.new.self))
    (subst (λ (s : State _ _). Sound g.S.Store g.C.UnitCipher base h s) (sym c.self.view_is) sound)

pub returns-clause-sound : goal.returns-clause-sound
returns-clause-sound g c base h caller number sound =
    let s : State _ _ = record {
      disk = c.self.inside.disk;
      cipher = c.self.inside.cipher;
      geometry = c.self.inside.geometry;
      guard = c.self.inside.guard;
      pending = c.self.inside.pending.items;
      capacity = c.self.inside.capacity;
    } in
    let was : Sound g.S.Store g.C.UnitCipher base h s = subst (λ (t : State _ _). Sound g.S.Store g.C.UnitCipher base h t) (sym c.self.view_is) sound in
    let v : Volume = volume_of c.self.inside.geometry c.self.inside.guard.range in
    let asked : List ℕ = c.args.out.now in
    let out : List ℕ = c.read_at.new.out in
    let long : length out ≡ length asked = search rules in
    let same : length asked / 512 / (c.from-units.result / 512) ≡ sectors_of v asked = count_same _ _ _ _ _ refl c.from-units.ensures refl in
    let free : All (λ p. ¬ Overlaps v c.args.first (sectors_of v asked) p) c.self.inside.pending.items
    = free_writes v c.self.inside.book.ranges c.self.inside.pending.items c.self.invariant.booked c.args.first (sectors_of v asked)
    (subst (λ (n : ℕ). All (λ r. ¬ Meets c.args.first n r) c.self.inside.book.ranges) same (c.meets.ensures.none.0 (none_met c.meets.result (sym c.is_some.ensures ∙ c.if-is_some.false)))) in
    let is_base : v ≡ volume base = volume_same g.S.Store g.C.UnitCipher base h s was in
    let whole : AreSectors (volume base) out
    = subst (λ (w : Volume). AreSectors w out) is_base
    (subst (λ (n : ℕ). n ≡ 512 * (v.per_sector * (n / 512 / v.per_sector))) (sym long)
    (subst (λ (t : State _ _). AreSectors (volume t) asked) (sym c.self.view_is) c.requires.whole)) in
    let fits : Fits (volume base) c.args.first (sectors_of (volume base) out)
    = subst (λ (w : Volume). Fits w c.args.first (sectors_of w out)) is_base
    (subst (λ (n : ℕ). Fits v c.args.first (n / 512 / v.per_sector)) (sym long)
    (subst (λ (t : State _ _). Fits (volume t) c.args.first (sectors_of (volume t) asked)) (sym c.self.view_is) c.requires.fits)) in
    let free_base : All (λ p. ¬ Overlap c.args.first (sectors_of (volume base) out) p.first (sectors_of (volume base) p.bytes.items)) c.self.inside.pending.items
    = subst (λ (w : Volume). All (λ p. ¬ Overlap c.args.first (sectors_of w out) p.first (sectors_of w p.bytes.items)) c.self.inside.pending.items) is_base
    (subst (λ (n : ℕ). All (λ p. ¬ Overlaps v c.args.first (n / 512 / v.per_sector) p) c.self.inside.pending.items) (sym long) free) in
    let bytes : IsBytes (512 * units_of out) out = subst (λ (n : ℕ). IsBytes n out) (omega (arith, whole)) c.bytes_are_known.ensures in
    let placed : IsPlaced (g.S.Store.size base.disk) base.geometry
    = subst (λ (n : ℕ). IsPlaced n base.geometry) was.size_same
    (subst (λ (f : Geometry). IsPlaced (g.S.Store.size c.self.inside.disk) f) was.geometry_same c.self.invariant.placed) in
    let per : ℕ = base.geometry.sector / 512 in
    let sector : base.geometry.sector ≡ 512 * per = whole_units base.geometry.sector placed.sector in
    let rows : per * (c.args.first + sectors_of (volume base) out) ≤ per * base.geometry.sectors = mul-le-mul_left per fits in
    let all : base.geometry.sectors * base.geometry.sector ≡ 512 * (per * base.geometry.sectors)
    = ap (λ (m : ℕ). base.geometry.sectors * m) sector ∙ omega arith in
    let within : base.geometry.start / 512 + per * c.args.first + units_of out ≤ 2 ^ 55
    = omega (arith, placed.start, placed.small, units_of_sectors (volume base) out whole) in
    let at : ℕ = c.self.inside.geometry.start + c.from.result * c.args.first in
    let at_base : at ≡ base.geometry.start + base.geometry.sector * c.args.first
    = ap (λ (n : ℕ). c.self.inside.geometry.start + n * c.args.first) c.from.ensures
    ∙ ap (λ (f : Geometry). f.start + f.sector * c.args.first) was.geometry_same in
    let rest : base.geometry.sector * c.args.first ≡ 512 * (per * c.args.first) = ap (λ (n : ℕ). n * c.args.first) sector ∙ omega arith in
    let got : (new : List ℕ) → g.S.Store.image c.self.inside.disk ≡ Some new → (k : ℕ) → k < units_of out
    → unit k out ≡ unit (base.geometry.start / 512 + per * c.args.first + k) new
    = λ new is k below.
    let slice : out ≡ slice_range new at (at + length asked)
    = subst (λ (o : Option (List ℕ)). IfSome o (λ b. out ≡ slice_range b at (at + length asked))) is c.in_default.ensures.read in
    let place : at + 512 * k ≡ 512 * (base.geometry.start / 512 + per * c.args.first + k) = omega (arith, at_base, rest, placed.start) in
    ap (piece 512 k) slice ∙ piece-take 512 k (at + length asked - at) (drop at new) (omega (arith, below, long))
    ∙ ap (take 512) (drop-drop (512 * k) at new ∙ ap (λ (i : ℕ). drop i new) place) in
    let read : Sound g.S.Store g.C.UnitCipher base (h ++ entry caller number (Read c.args.first (data_of g.C.UnitCipher base c.args.first out)) ∷ []) (record s { disk = c.read_at.new.self })
    = sound_read g.S.Store g.C.UnitCipher base h s was c.args.first out whole fits free_base bytes within
    (g.met.C.UnitCipher.deciphered_is_unit base.cipher) (g.met.C.UnitCipher.enciphers base.cipher) caller number c.read_at.new.self
    c.in_default.ensures.size c.in_default.ensures.image c.in_default.ensures.cause.later got
    (lasting_kept g.S.Store.tells _ _ _ _ (g.S.Store.may_leave c.self.inside.disk) (g.S.Store.may_leave c.read_at.new.self) _ _
    c.in_default.ensures.image c.in_default.ensures.crash (g.met.S.Store.image_may_stay c.read_at.new.self)) in
    subst (λ (t : State _ _). Sound g.S.Store g.C.UnitCipher base (h ++ entry caller number (Read c.args.first (data_of g.C.UnitCipher t c.args.first out)) ∷ []) (record s { disk = c.read_at.new.self })) c.self.view_is
    (subst (λ (f : Geometry). Sound g.S.Store g.C.UnitCipher base (h ++ entry caller number (Read c.args.first (data_of g.C.UnitCipher (record s { geometry = f }) c.args.first out)) ∷ []) (record s { disk = c.read_at.new.self })) (sym was.geometry_same)
    (subst (λ (e : _). Sound g.S.Store g.C.UnitCipher base (h ++ entry caller number (Read c.args.first (data_of g.C.UnitCipher (record base { cipher = e }) c.args.first out)) ∷ []) (record s { disk = c.read_at.new.self })) (sym was.cipher_same) read))
