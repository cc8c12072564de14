-- The conditions of entries in small histories, each from facts that compute.
use Rattle.std.proofs.Common.{◌≡◌, ◌≢◌, ◌<◌, ◌≤◌, ℕ, zero, suc, ◌+◌, false, List, [], ◌∷◌, refl, arith}
use Rattle.std.specs.List.{All, Contains}
use Rattle.range_base.specs.Range.{Overlap}
use Rattle.sector_model.specs.Array.{AreSectors, Fits, sectors_of}
use Rattle.sector_model.specs.History.{HasName, is_frozen, open_writes, Write}
use Rattle.sector_model.specs.Legal.{IsFree, IsServed, MayEnd, MayPut}
use Rattle.sector_model.specs.Laws.Examples.{filled, small}
use Rattle.sector_model.specs.declared.entry.Entry.{Entry}

pub at_first : (P : ℕ → Type 0) → P 0 → (k : ℕ) → k < 1 → P k
at_first P here zero below = here
at_first P here (suc k) below = absurd (omega arith)

pub all_of_one : {X : Type 0} (P : X → Type 0) (x : X) → P x → All P (x ∷ [])
all_of_one P x here zero d below = here
all_of_one P x here (suc k) d below = absurd (omega arith)

pub apart : (first count other others : ℕ) → first + count ≤ other → ¬ Overlap first count other others
apart first count other others before o = omega (arith, o.in_first.below, o.in_other.from)

pub apart_above : (first count other others : ℕ) → other + others ≤ first → ¬ Overlap first count other others
apart_above first count other others before o = omega (arith, o.in_first.from, o.in_other.below)

pub meet : (first count other others k : ℕ) → first ≤ k → k < first + count → other ≤ k → k < other + others
    → Overlap first count other others
meet first count other others k a b c d = record {
  common = k;
  in_first = record { from = a; below = b };
  in_other = record { from = c; below = d };
}

abbrev pub write : ℕ → ℕ → ℕ → ℕ → Write
write k first n x = record { caller = 1; number = k; first = first; bytes = filled n x }

pub can_read : (past : List Entry) (first n x : ℕ) → AreSectors small (filled n x)
    → Fits small first (sectors_of small (filled n x)) → IsFree small past first (sectors_of small (filled n x))
    → IsServed small past first (filled n x)
can_read past first n x whole fits free = record { whole = whole; fits = fits; free = free }

pub can_put : (past : List Entry) (k first n x : ℕ) → is_frozen past ≡ false → AreSectors small (filled n x)
    → first + sectors_of small (filled n x) ≤ 6 → IsFree small past first (sectors_of small (filled n x))
    → All (λ w. ¬ HasName 1 k w) (open_writes past) → MayPut small past 1 k first (filled n x)
can_put past k first n x cold whole below free fresh = record {
  not_frozen = cold;
  served = can_read past first n x whole (omega arith) free;
  unprotected = λ o. omega (arith, o.in_first.below, o.in_other.from);
  fresh = fresh;
}

pub can_end : (past : List Entry) (k first n x count : ℕ) → Contains (open_writes past) (write k first n x)
    → sectors_of small (filled n x) ≡ count → MayEnd small past 1 k first count
can_end past k first n x count put all = record {
  write = write k first n x;
  is_open = record { put = put; name = (refl, refl); place = refl };
  all = all;
}

pub beside : (j at n x first count : ℕ) → ¬ Overlap first count at (sectors_of small (filled n x))
    → All (λ w. ¬ Overlap first count w.first (sectors_of small w.bytes)) (write j at n x ∷ [])
beside j at n x first count away = all_of_one (λ w. ¬ Overlap first count w.first (sectors_of small w.bytes)) (write j at n x) away

pub other_name : (j at n x k : ℕ) → j ≢ k → All (λ w. ¬ HasName 1 k w) (write j at n x ∷ [])
other_name j at n x k other = all_of_one (λ w. ¬ HasName 1 k w) (write j at n x) (λ named. other named.1)

pub the_only : {X : Type 0} (x y : X) → Contains (x ∷ []) y → x ≡ y
the_only x y (zero, within, is) = is
the_only x y (suc k, within, is) = absurd (omega arith)
