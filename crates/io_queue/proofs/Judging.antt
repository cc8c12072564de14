-- Whether a write was refused, by what was decided at its admission.
use Rattle.std.proofs.Common.{◌≡◌, ℕ, Bool, true, false, List, refl, subst}
use Rattle.std.specs.Prelude.{Err, Ok, Result}
use Rattle.hist_lock.specs.declared.view.View.{View}
use Rattle.hist_lock.specs.History.{StartsWith}
use Rattle.sector_model.specs.Array.{sectors_of, TouchesProtected, Volume}
use Rattle.sector_model.specs.History.{is_frozen}
use Rattle.sector_model.specs.declared.entry.Entry.{Entry}
use Rattle.sector_model.specs.declared.entry.FaultMark.{FaultMark}
use Rattle.io_core.specs.Sound.{volume}
use Rattle.io_core.specs.State.{State}
use Rattle.io_core.specs.declared.answers.Admit.{Admit}
use Rattle.io_core.specs.declared.prepared.Prepared.{Prepared}
use Rattle.io_queue.specs.Calls.{Admitted, IsJudged}
use Rattle.io_queue.specs.declared.error.IoError.{IoError}
use Rattle.io_queue.specs.declared.error.IoError.TheVariants.{Denied, Fault, Frozen}
use Rattle.io_queue.specs.Laws.Opens.{Judges, WasAsked}
use Rattle.io_queue.proofs.Passes.{starts_after}

both_ways : {X : Type 0} (b : Bool) → b ≡ true → b ≡ false → X
both_ways true t f = cc
both_ways false t f = cc

module _ {A : Type 0} where
  not_both : (x : Result A IoError) → x ≡ Err Denied → x ≡ Err Frozen → ⊥
  not_both x d f = cc

  ok_not_frozen : (a : A) (x : Result A IoError) → x ≡ Ok a → x ≡ Err Frozen → ⊥
  ok_not_frozen a x o f = cc

  ok_not_denied : (a : A) (x : Result A IoError) → x ≡ Ok a → x ≡ Err Denied → ⊥
  ok_not_denied a x o f = cc

  fault_not_frozen : (m : FaultMark) (x : Result A IoError) → x ≡ Err (Fault m) → x ≡ Err Frozen → ⊥
  fault_not_frozen m x o f = cc

  fault_not_denied : (m : FaultMark) (x : Result A IoError) → x ≡ Err (Fault m) → x ≡ Err Denied → ⊥
  fault_not_denied m x o f = cc

  pub is_denied : (v : Volume) (past : List Entry) (first count : ℕ) → (is_frozen past ≡ false) × TouchesProtected v first count
      → IsJudged {A = A} v past first count (Err Denied)
  is_denied v past first count j = record {
    frozen = (λ e. absurd (not_both (Err Denied) refl e), λ t. both_ways (is_frozen past) t j.0);
    denied = (λ e. j, λ d. refl);
  }

  pub is_frozen_now : (v : Volume) (past : List Entry) (first count : ℕ) → is_frozen past ≡ true → IsJudged {A = A} v past first count (Err Frozen)
  is_frozen_now v past first count j = record {
    frozen = (λ e. j, λ t. refl);
    denied = (λ e. absurd (not_both (Err Frozen) e refl), λ d. both_ways (is_frozen past) j d.0);
  }

  pub is_done : (a : A) (v : Volume) (past : List Entry) (first count : ℕ) → (is_frozen past ≡ false) × ¬ TouchesProtected v first count
      → IsJudged v past first count (Ok a)
  is_done a v past first count j = record {
    frozen = (λ e. absurd (ok_not_frozen a (Ok a) refl e), λ t. both_ways (is_frozen past) t j.0);
    denied = (λ e. absurd (ok_not_denied a (Ok a) refl e), λ d. absurd (j.1 d.1));
  }

  pub is_fault : (m : FaultMark) (v : Volume) (past : List Entry) (first count : ℕ) → (is_frozen past ≡ false) × ¬ TouchesProtected v first count
      → IsJudged {A = A} v past first count (Err (Fault m))
  is_fault m v past first count j = record {
    frozen = (λ e. absurd (fault_not_frozen m (Err (Fault m)) refl e), λ t. both_ways (is_frozen past) t j.0);
    denied = (λ e. absurd (fault_not_denied m (Err (Fault m)) refl e), λ d. absurd (j.1 d.1));
  }

  -- the admission's answer and what followed
  pub admitted_by : {S C : Type 0} (v a u : View (State S C) Entry) (sh : Volume) (w : Prepared) (first : ℕ) (bytes : List ℕ) (r x : Admit)
      (answer : Result A IoError) → r ≡ x → w.first ≡ first → w.bytes.items ≡ bytes → StartsWith u.seen a.seen
      → ((vol : Volume) (past : List Entry) → Judges vol past first (sectors_of sh bytes) x → IsJudged vol past first (sectors_of sh bytes) answer)
      → WasAsked v a w.first (sectors_of sh w.bytes.items) r → Admitted v u first (sectors_of sh bytes) answer
  admitted_by v a u sh w first bytes r x answer is from holds later judge asked = record {
    base = asked.base;
    is = asked.is;
    past = asked.past;
    before = asked.before;
    after = starts_after asked.past a.seen u.seen asked.after later;
    judged = judge (volume asked.base) asked.past
        (subst (λ (y : Admit). Judges (volume asked.base) asked.past first (sectors_of sh bytes) y) is
        (subst (λ (b : List ℕ). Judges (volume asked.base) asked.past first (sectors_of sh b) r) holds
        (subst (λ (n : ℕ). Judges (volume asked.base) asked.past n (sectors_of sh w.bytes.items) r) from asked.judged)));
  }
