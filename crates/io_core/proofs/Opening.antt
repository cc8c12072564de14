-- The opening state stands for itself and no entry: nothing is open, and the array is what the image deciphers to.
use Rattle.std.proofs.Common.{◌≡◌, ◌≤◌, ◌↔◌, ℕ, Vec, vec_capacity, vec_len, false, List, [], Option, length, refl, sym, ap, subst, arith}
use Rattle.std.specs.Global.{Global}
use Rattle.std.specs.List.{All, AllPairs, Contains}
use Rattle.std.proofs.lemmas.List.Elements.{All-nil}
use Rattle.std.specs.Prelude.{map}
use Rattle.sector_model.specs.Marks.{AreMarks}
use Rattle.range_book.specs.Book.{AreApart, Book}
use Rattle.range_book.specs.declared.reserved.Reserved.{Reserved}
use Rattle.vc_layout.specs.declared.geometry.Geometry.{Geometry}
use Rattle.sector_model.specs.Array.{Volume}
use Rattle.sector_model.specs.History.{HasName}
use Rattle.vc_outside.specs.declared.store.Store.{Ghosts as StoreGhosts}
use Rattle.cipher_base.specs.declared.unit.UnitCipher.{Ghosts as CipherGhosts}
use Rattle.io_core.specs.Laws.Invariant.{IsCore, range_of}
use Rattle.io_core.specs.State.{IsPlaced, IsPlacedWrite, State, volume_of, write_of}
use Rattle.io_core.specs.Sound.{Contents, marks_pending, Sound, StoredHolds}
use Rattle.io_core.specs.declared.prepared.Prepared.{Prepared}
use Rattle.io_core.proofs.Known.{both_same}

module _ {S C : Type 0} (store : StoreGhosts S) (cipher : CipherGhosts C) (s : State S C) (none : s.pending ≡ []) where
  contents : (image : List ℕ) → Contents store cipher s [] s image image
  contents image = record {
    told = tt;
    under = λ k d within. absurd (omega arith);
    clear = λ u apart. refl;
    stored = subst (All (StoredHolds store cipher s.cipher s.geometry image)) (sym none)
        (All-nil (StoredHolds store cipher s.cipher s.geometry image));
    elsewhere = record { as_long = refl; before = refl; behind = refl; protected = λ u _. refl };
  }

  no_marks : AreMarks (store.faults s.disk) (store.faults s.disk) (marks_pending s.pending)
  no_marks = subst (λ ps. AreMarks (store.faults s.disk) (store.faults s.disk) (marks_pending ps)) (sym none)
      (record { each = λ k d within. absurd (omega arith); apart = λ t. omega arith })

  pub sound_start : s.guard.frozen ≡ false → Sound store cipher s [] s
  sound_start thawed = record {
    ordered = tt;
    frozen = thawed;
    writes = ap (map write_of) none;
    placed = λ k d within. absurd (omega arith);
    apart = λ i j d less within. absurd (omega arith);
    cipher_same = refl;
    geometry_same = refl;
    range_same = refl;
    capacity_same = refl;
    size_same = refl;
    later = omega arith;
    marks = no_marks;
    contents = both_same (store.image s.disk) (Contents store cipher s [] s) contents;
    lasting = λ flushed. cc;
  }

nothing_booked : (v : Volume) (book : List Reserved) (ps : List Prepared) → book ≡ [] → ps ≡ [] → (r : Reserved)
    → Contains book r ↔ Contains (map (range_of v) ps) r
nothing_booked v book ps no_ranges no_writes r =
    subst (λ (b : List Reserved). Contains b r ↔ Contains (map (range_of v) ps) r) (sym no_ranges)
    (subst (λ (l : List Prepared). Contains [] r ↔ Contains (map (range_of v) l) r) (sym no_writes) (λ x. x, λ x. x))

apart_none : AreApart []
apart_none = record {
  in_order = λ i j d less within. absurd (omega arith);
  some = λ k d within. absurd (omega arith);
  within = λ k d within. absurd (omega arith);
  names_differ = λ i j d less within. absurd (omega arith);
}

-- the fields of a core that was made just now
pub core_start : (size : ℕ) (g : Geometry) (range : Option (ℕ × ℕ)) (book : Book) (pending : Vec Prepared Global) (capacity : ℕ)
    (room : Vec ℕ Global) → IsPlaced size g → 1 ≤ capacity → capacity ≤ 128
    → book ≡ record { ranges = []; spare = capacity } → pending.items ≡ [] → capacity ≤ vec_capacity pending → vec_len room ≡ 262144
    → IsCore size g range book pending capacity room
core_start size g range book pending capacity room placed some few new_book none place long =
    let no_ranges : book.ranges ≡ [] = ap (λ (b : Book). b.ranges) new_book in
    let spare : book.spare ≡ capacity = ap (λ (b : Book). b.spare) new_book in
    record {
      placed = placed;
      some = some;
      few = few;
      spare = omega (arith, ap length none);
      place = place;
      long = long;
      writes = subst (All (λ p. IsPlacedWrite (volume_of g range) (write_of p))) (sym none) (λ k d within. absurd (omega arith));
      names = subst (λ ps. AllPairs (λ w x. ¬ HasName w.caller w.number x) (map write_of ps)) (sym none) (λ i j d less within. absurd (omega arith));
      apart = subst AreApart (sym no_ranges) apart_none;
      booked = nothing_booked (volume_of g range) book.ranges pending.items no_ranges none;
    }
