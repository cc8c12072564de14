use Rattle.std.proofs.Common.{rules, ◌≡◌, ◌≤◌, ℕ, ◌*◌, ◌/◌, ◌-◌, ◌+◌, true, false, List, [], ◌∷◌, ◌++◌, length, take, drop, refl, sym, ap, ◌∙◌, arith}
use borrow.Rule.Slice.PartMut.{put_mid}
use Rattle.std.specs.Prelude.{Option}
use Rattle.sector_model.specs.Array.{array_of, Fits, sectors_of, TouchesProtected, Volume}
use Rattle.sector_model.specs.Plain.{entry, Plain}
use Rattle.sector_model.specs.declared.entry.Event.TheVariants.{Deny, Done, Put, Shut}
use Rattle.sector_model.proofs.Overwritten.{length-over, over, over_is_laid, place_in_bytes, written_back}
use Rattle.sector_model.proofs.Stands.{stands_as, stands_beyond, stands_deny, stands_shut, stands_written}
use Rattle.sector_model.proofs.plain.PlainVolume.write.Goals as goal

pub returns-then-not-fits-clause-stands : goal.returns-then-not-fits-clause-stands
returns-then-not-fits-clause-stands c a h caller number s =
    let beyond : ¬ Fits c.args.self.now.volume c.args.first (sectors_of c.args.self.now.volume c.args.bytes.now) = search rules in
    stands_beyond a h c.args.self.now caller number c.args.first (sectors_of c.args.self.now.volume c.args.bytes.now) beyond s

pub returns-in-Frozen-clause-stands : goal.returns-in-Frozen-clause-stands
returns-in-Frozen-clause-stands c a h caller number s =
    let p : Plain = c.args.self.now in
    let count : ℕ = sectors_of p.volume c.args.bytes.now in
    let fits : Fits p.volume c.args.first count = search rules in
    let frozen : p.frozen ≡ true = search rules in
    stands_as a (h ++ entry caller number (Shut c.args.first count) ∷ []) p _ (search rules) (search rules) (search rules)
    (stands_shut a h p caller number c.args.first count fits frozen s)

pub returns-in-Denied-clause-stands : goal.returns-in-Denied-clause-stands
returns-in-Denied-clause-stands c a h caller number s =
    let p : Plain = c.args.self.now in
    let count : ℕ = sectors_of p.volume c.args.bytes.now in
    let fits : Fits p.volume c.args.first count = search rules in
    let thawed : p.frozen ≡ false = search rules in
    let touches : TouchesProtected p.volume c.args.first count = search rules in
    stands_as a (h ++ entry caller number (Deny c.args.first count) ∷ []) (record p { frozen = true }) _
    (search rules) (search rules) (search rules)
    (stands_deny a h p caller number c.args.first count fits thawed touches s)

abbrev volume_of : ℕ → ℕ → Option (ℕ × ℕ) → Volume
volume_of per_sector sectors protected
    = record { per_sector = per_sector; sectors = sectors; start = 0; protected = protected }

-- what the volume's bytes are after the write, as the check writes it, is the data over the old bytes
abbrev now_bytes : goal.After-self-1 → List ℕ
now_bytes c =
    let at : ℕ = c.args.first * c.from-sector.result in
    let part : List ℕ = put_mid at (at + length c.args.bytes.now - at) c.deref_mut.result.now c.copy_from_slice.new.self in
    take c.self.inside.bytes.len (part ++ drop (length part) c.self.inside.bytes.items)

inside : (c : goal.After-self-1) → c.args.first * c.from-sector.result + length c.args.bytes.now ≤ length c.args.self.now.bytes
inside c = search rules

back : (c : goal.After-self-1) → now_bytes c ≡ over (c.args.first * c.from-sector.result) c.args.bytes.now c.args.self.now.bytes
back c =
    let at : ℕ = c.args.first * c.from-sector.result in
    written_back c.self.inside.bytes.len at (at + length c.args.bytes.now - at) c.deref_mut.result.now
    c.self.inside.bytes.items c.args.self.now.bytes c.copy_from_slice.new.self c.args.bytes.now
    c.deref_mut.ensures.value (ap (λ (q : Plain). q.bytes) c.self.view_is) c.copy_from_slice.ensures.after
    c.deref_mut.ensures.len (omega arith) (inside c)

pub returns-in-Pass-clause-written : goal.returns-in-Pass-clause-written
returns-in-Pass-clause-written c _ u =
    let p : Plain = c.args.self.now in
    let v : Volume = p.volume in
    let bytes : List ℕ = c.args.bytes.now in
    let at : ℕ = c.args.first * c.from-sector.result in
    let place : at ≡ 512 * (v.per_sector * c.args.first)
    = place_in_bytes v c.args.first c.self.inside.sector at c.self.invariant.0
    (ap (λ (q : Plain). q.volume.per_sector) c.self.view_is) (ap (λ (n : ℕ). c.args.first * n) c.from-sector.ensures) in
    let fits : at + length bytes ≤ length p.bytes = inside c in
    ap (λ (b : List ℕ). array_of b u) (back c)
    ∙ ap (λ (n : ℕ). array_of (over n bytes p.bytes) u) place
    ∙ over_is_laid v c.args.first bytes p.bytes (omega (arith, c.requires.whole)) (omega arith) u

same_volume : (c : goal.After-self-1) → c.args.self.now.volume ≡ record {
  per_sector = c.self.inside.sector / 512;
  sectors = length (now_bytes c) / c.self.inside.sector;
  start = 0;
  protected = c.judge.new.self.range;
}
same_volume c =
    let long : length c.self.inside.bytes.items ≡ length (now_bytes c)
    = ap (λ (q : Plain). length q.bytes) c.self.view_is
    ∙ sym (ap length (back c) ∙ length-over (c.args.first * c.from-sector.result) c.args.bytes.now c.args.self.now.bytes (inside c)) in
    sym (ap (λ (q : Plain). q.volume) c.self.view_is)
    ∙ ap (λ (n : ℕ). volume_of (c.self.inside.sector / 512) (n / c.self.inside.sector) c.self.inside.guard.range) long
    ∙ ap (volume_of (c.self.inside.sector / 512) (length (now_bytes c) / c.self.inside.sector)) (sym c.judge.ensures.range)

pub returns-in-Pass-clause-stands : goal.returns-in-Pass-clause-stands
returns-in-Pass-clause-stands c a h caller number s =
    let p : Plain = c.args.self.now in
    let bytes : List ℕ = c.args.bytes.now in
    let count : ℕ = sectors_of p.volume bytes in
    let fits : Fits p.volume c.args.first count = search rules in
    let thawed : p.frozen ≡ false = search rules in
    let apart : ¬ TouchesProtected p.volume c.args.first count = search rules in
    let thawed_now : c.judge.new.self.frozen ≡ false = search rules in
    stands_as a (h ++ entry caller number (Put c.args.first bytes) ∷ entry caller number (Done c.args.first count) ∷ [])
    (record p { bytes = now_bytes c }) _ (same_volume c) refl (thawed ∙ sym thawed_now)
    (stands_written a h p caller number c.args.first bytes (now_bytes c) c.requires.whole fits thawed apart
    (returns-in-Pass-clause-written c refl) s)
