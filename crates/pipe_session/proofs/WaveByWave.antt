-- What follows a wave.
--
-- A wave that requests are still taken into is what the first wave of all requests begins with. Once a request isn't taken
-- into it, or none can be, or there is no other request, it is the first wave, and the others are those of the requests
-- after it.
use Rattle.std.proofs.Common.{◌≡◌, ◌<◌, ◌≤◌, ℕ, ◌&&◌, nat_lt, Bool, true, false, not, if◌then◌else◌, List, [], ◌∷◌, ◌++◌, length, map, append_assoc, refl, sym, ap, ◌∙◌, arith}
use Rattle.std.proofs.lemmas.Bool.{false≢true, ltb-true}
use Rattle.std.proofs.lemmas.List.{length-map}
use Rattle.nbd_wire.specs.Frames.{Frame}
use Rattle.nbd_wire.specs.declared.ask.Ask.{Ask}
use Rattle.pipe_session.specs.Waves.{ask, is_apart, is_transfer, joins, joins_wave, shares, waves, waves_after}

module _ (sector depth : ℕ) where
  taken : (b : Bool) (x y : List (List Frame)) → b ≡ true → (if b then x else y) ≡ x
  taken true x y is = refl
  taken false x y is = absurd (false≢true is)

  not_taken : (b : Bool) (x y : List (List Frame)) → b ≡ false → (if b then x else y) ≡ y
  not_taken true x y is = absurd (false≢true (sym is))
  not_taken false x y is = refl

  pub opened : (f : Frame) (r : List Frame) → waves sector depth ((f ∷ []) ++ r) ≡ waves_after sector depth (f ∷ []) r
  opened f r = refl

  pub goes_on : (wave : List Frame) (f : Frame) → ((r : List Frame) → waves sector depth (wave ++ r) ≡ waves_after sector depth wave r)
      → joins_wave sector depth wave f ≡ true
      → (r : List Frame) → waves sector depth ((wave ++ f ∷ []) ++ r) ≡ waves_after sector depth (wave ++ f ∷ []) r
  goes_on wave f open_is joins r =
      ap (waves sector depth) (append_assoc wave (f ∷ []) r) ∙ open_is (f ∷ r)
      ∙ taken (joins_wave sector depth wave f) (waves_after sector depth (wave ++ f ∷ []) r) (wave ∷ waves_after sector depth (f ∷ []) r) joins

  pub ends_before : (wave : List Frame) (f : Frame) (r : List Frame) → ((r : List Frame) → waves sector depth (wave ++ r) ≡ waves_after sector depth wave r)
      → joins_wave sector depth wave f ≡ false → waves sector depth (wave ++ f ∷ r) ≡ wave ∷ waves sector depth (f ∷ r)
  ends_before wave f r open_is joins =
      open_is (f ∷ r)
      ∙ not_taken (joins_wave sector depth wave f) (waves_after sector depth (wave ++ f ∷ []) r) (wave ∷ waves_after sector depth (f ∷ []) r) joins

  pub ends_all : (wave : List Frame) → ((r : List Frame) → waves sector depth (wave ++ r) ≡ waves_after sector depth wave r)
      → waves sector depth (wave ++ []) ≡ wave ∷ waves sector depth []
  ends_all wave open_is = open_is []

  -- no request is taken into it
  pub ends_closed : (wave : List Frame) → ((r : List Frame) → waves sector depth (wave ++ r) ≡ waves_after sector depth wave r)
      → ((f : Frame) → joins_wave sector depth wave f ≡ false)
      → (r : List Frame) → waves sector depth (wave ++ r) ≡ wave ∷ waves sector depth r
  ends_closed wave open_is closed [] = ends_all wave open_is
  ends_closed wave open_is closed (f ∷ r) = ends_before wave f r open_is (closed f)

  no_parts : (a b : Bool) → a ≡ false → (a && b) ≡ false
  no_parts true b is = absurd (false≢true (sym is))
  no_parts false b is = refl

  no_second : (a b : Bool) → b ≡ false → (a && b) ≡ false
  no_second true b is = is
  no_second false b is = refl

  below : (m n : ℕ) → n ≤ m → (b : Bool) → nat_lt m n ≡ b → nat_lt m n ≡ false
  below m n le true is = absurd (let lt : m < n = ltb-true m n is in omega arith)
  below m n le false is = is

  not_below : (m n : ℕ) → n ≤ m → nat_lt m n ≡ false
  not_below m n le = below m n le (nat_lt m n) refl

  -- it is full
  pub full : (wave : List Frame) → length wave ≡ depth → (f : Frame) → joins_wave sector depth wave f ≡ false
  full wave size f =
      no_parts (is_transfer (ask sector f) && nat_lt (length (map (ask sector) wave)) depth) (is_apart (ask sector f) (map (ask sector) wave))
      (no_second (is_transfer (ask sector f)) (nat_lt (length (map (ask sector) wave)) depth)
      (not_below (length (map (ask sector) wave)) depth (omega (arith, length-map wave (ask sector), size))))

  -- one of its requests is neither a read nor a write
  pub apart_none : (a : Ask) (wave : List Frame) (f : Frame) → is_transfer (ask sector f) ≡ false
      → is_apart a (map (ask sector) (wave ++ f ∷ [])) ≡ false
  apart_none a [] f is = no_parts (is_transfer (ask sector f) && not (shares (ask sector f) a)) true
      (no_parts (is_transfer (ask sector f)) (not (shares (ask sector f) a)) is)
  apart_none a (g ∷ gs) f is = no_second (is_transfer (ask sector g) && not (shares (ask sector g) a)) (is_apart a (map (ask sector) (gs ++ f ∷ [])))
      (apart_none a gs f is)

  pub alone : (wave : List Frame) (f : Frame) → is_transfer (ask sector f) ≡ false → (g : Frame) → joins_wave sector depth (wave ++ f ∷ []) g ≡ false
  alone wave f is g =
      no_second (is_transfer (ask sector g) && nat_lt (length (map (ask sector) (wave ++ f ∷ []))) depth)
      (is_apart (ask sector g) (map (ask sector) (wave ++ f ∷ []))) (apart_none (ask sector g) wave f is)
