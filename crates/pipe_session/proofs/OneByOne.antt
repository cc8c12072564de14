-- The waves of requests are these requests, and no two of a wave have a sector in common.
--
-- A wave begins with one request, of which all that is said of a wave is true. A request is only taken into it if the same
-- is true of it and each request of the wave.
use Rattle.std.proofs.Common.{◌≡◌, ◌<◌, ◌≤◌, ℕ, zero, suc, ◌&&◌, nat_lt, Bool, true, false, not, if◌then◌else◌, List, [], ◌∷◌, ◌++◌, length, get_or, map, All, append_assoc, length-append, refl, sym, ap, ◌∙◌, subst, arith}
use Rattle.std.proofs.lemmas.Bool.{and_parts, false≢true, ltb-true}
use Rattle.std.proofs.lemmas.List.{length-map}
use Rattle.std.proofs.lemmas.List.Elements.{All-cons, All-nil, All-push}
use Rattle.std.proofs.lemmas.List.Quantifiers.{all_pairs_push}
use Rattle.nbd_wire.specs.Frames.{Frame}
use Rattle.nbd_wire.specs.declared.ask.Ask.{Ask}
use Rattle.pipe_session.specs.Waves.{AreWaves, ask, is_apart, is_transfer, IsWave, joined, joins_wave, shares, waves, waves_after}

not_true : (b : Bool) → not b ≡ true → b ≡ false
not_true true is = absurd (false≢true is)
not_true false is = refl

module _ (sector depth : ℕ) where
  -- each request of a wave that a request may be carried out beside
  pub apart_at : (a : Ask) (wave : List Frame) → is_apart a (map (ask sector) wave) ≡ true → (k : ℕ) (d : Frame) → k < length wave
      → (is_transfer (ask sector (get_or wave k d)) ≡ true) × (shares (ask sector (get_or wave k d)) a ≡ false)
  apart_at a [] is k d lt = absurd (omega (arith, lt))
  apart_at a (f ∷ fs) is zero d lt =
      let here = and_parts (is_transfer (ask sector f) && not (shares (ask sector f) a)) (is_apart a (map (ask sector) fs)) is in
      let both = and_parts (is_transfer (ask sector f)) (not (shares (ask sector f) a)) here.0 in
      (both.0, not_true (shares (ask sector f) a) both.1)
  apart_at a (f ∷ fs) is (suc k) d lt =
      let here = and_parts (is_transfer (ask sector f) && not (shares (ask sector f) a)) (is_apart a (map (ask sector) fs)) is in
      apart_at a fs here.1 k d (omega (arith, lt))

  pub one_wave : (f : Frame) → 1 ≤ depth → IsWave sector depth (f ∷ [])
  one_wave f some = record {
    some = omega arith;
    few = omega (arith, some);
    apart = λ i j d lt within. absurd (omega (arith, lt, within));
    alone = λ more. absurd (omega (arith, more));
  }

  pub wave_more : (wave : List Frame) (f : Frame) → IsWave sector depth wave → joins_wave sector depth wave f ≡ true → IsWave sector depth (wave ++ f ∷ [])
  wave_more wave f is joins =
      let a : Ask = ask sector f in
      let asks : List Ask = map (ask sector) wave in
      let parts = and_parts (is_transfer a && nat_lt (length asks) depth) (is_apart a asks) joins in
      let own = and_parts (is_transfer a) (nat_lt (length asks) depth) parts.0 in
      record {
        some = omega (arith, length-append wave (f ∷ []));
        few = omega (arith, length-append wave (f ∷ []), length-map wave (ask sector), ltb-true (length asks) depth own.1);
        apart = all_pairs_push (λ f g. shares (ask sector f) (ask sector g) ≡ false) wave f is.apart
            (λ k d lt. (apart_at a wave parts.1 k d lt).1);
        alone = λ more. All-push (λ f. is_transfer (ask sector f) ≡ true) wave f (λ k d lt. (apart_at a wave parts.1 k d lt).0) own.0;
      }

  picked : (b c : Bool) (x y : List (List Frame)) → c ≡ b → (b ≡ true → All (IsWave sector depth) x) → All (IsWave sector depth) y
      → All (IsWave sector depth) (if c then x else y)
  picked true c x y is of_x of_y = subst (λ (b : Bool). All (IsWave sector depth) (if b then x else y)) (sym is) (of_x refl)
  picked false c x y is of_x of_y = subst (λ (b : Bool). All (IsWave sector depth) (if b then x else y)) (sym is) of_y

  each_wave : 1 ≤ depth → (wave fs : List Frame) → IsWave sector depth wave → All (IsWave sector depth) (waves_after sector depth wave fs)
  each_wave some wave [] is = All-cons (IsWave sector depth) wave [] is (All-nil (IsWave sector depth))
  each_wave some wave (f ∷ fs) is =
      picked (joins_wave sector depth wave f) (joins_wave sector depth wave f) (waves_after sector depth (wave ++ f ∷ []) fs)
      (wave ∷ waves_after sector depth (f ∷ []) fs) refl
      (λ joins. each_wave some (wave ++ f ∷ []) fs (wave_more wave f is joins))
      (All-cons (IsWave sector depth) wave (waves_after sector depth (f ∷ []) fs) is (each_wave some (f ∷ []) fs (one_wave f some)))

  either : (b : Bool) (x y : List (List Frame)) (all : List Frame) → joined x ≡ all → joined y ≡ all → joined (if b then x else y) ≡ all
  either true x y all of_x of_y = of_x
  either false x y all of_x of_y = of_y

  all_joined : (wave fs : List Frame) → joined (waves_after sector depth wave fs) ≡ wave ++ fs
  all_joined wave [] = refl
  all_joined wave (f ∷ fs) =
      either (joins_wave sector depth wave f) (waves_after sector depth (wave ++ f ∷ []) fs) (wave ∷ waves_after sector depth (f ∷ []) fs) (wave ++ f ∷ fs)
      (all_joined (wave ++ f ∷ []) fs ∙ append_assoc wave (f ∷ []) fs)
      (ap (λ (l : List Frame). wave ++ l) (all_joined (f ∷ []) fs))

  pub are_waves : (fs : List Frame) → 1 ≤ depth → AreWaves sector depth fs (waves sector depth fs)
  are_waves [] some = record { all = refl; each = All-nil (IsWave sector depth) }
  are_waves (f ∷ fs) some = record { all = all_joined (f ∷ []) fs; each = each_wave some (f ∷ []) fs (one_wave f some) }
