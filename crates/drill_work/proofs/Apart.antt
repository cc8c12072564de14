-- What three clients leave that write sectors of their own, in whatever order their entries are.
--
-- An event changes a unit by what that unit held alone. So what the unit holds in the end is what all events made of it in
-- turn, and events that are clear of it may be left out. In a client's range the other clients' events are clear: those
-- that are left are the client's own, in its order, and they lay its writes. Writes that are clear may be added again.
use Rattle.std.proofs.Common.{◌≡◌, ◌≤◌, ◌<◌, ◌⊎◌, inl, inr, ℕ, suc, ◌+◌, ◌*◌, ◌/◌, ◌-◌, Bool, false, cond, List, [], ◌∷◌, refl, sym, ap, ◌∙◌, subst, arith}
use Rattle.std.specs.Prelude.{◌&&◌, nat_lt, if◌then◌else◌, length}
use Rattle.std.specs.List.{All, Contains}
use Rattle.std.proofs.lemmas.Bool.Decides.{eqb_tells, leb_tells}
use Rattle.std.proofs.lemmas.List.Elements.{All-cons, All-head, All-nil, All-tail}
use Rattle.hist_lock.specs.History.{entries}
use Rattle.sector_model.specs.Array.{Array, is_in, laid, unit}
use Rattle.sector_model.specs.History.{after, array_with}
use Rattle.sector_model.specs.declared.entry.Entry.{Entry}
use Rattle.sector_model.specs.declared.entry.Event.{Event}
use Rattle.sector_model.specs.declared.entry.Event.TheVariants.{Read, Put, Done, Lost, Deny, Shut, Beyond, Fail, Flush}
use Rattle.io_core.proofs.Elements.{all_from_elements, at_element}
use Rattle.io_queue.specs.Pass.{caller_of}
use Rattle.nbd_session.specs.Session.{events_of}
use Rattle.drill_streams.specs.Done.{IsCalm, IsWriteIn, Keeps, puts}
use Rattle.drill_streams.specs.Drill.{Write, writes_of}
use Rattle.drill_streams.proofs.Within.{writes_within}
use Rattle.drill_work.specs.Summary.{all_laid, laid_all, volume}

-- ---- the entries under a caller

-- what holds of the events under a caller
under_caller : (P : Event → Type 0) (m : ℕ) (h : List Entry) → All P (events_of (entries caller_of m h))
    → All (λ e. e.caller ≡ m → P e.event) h
under_caller P m [] all = All-nil (λ e. e.caller ≡ m → P e.event)
under_caller P m (e ∷ h) all = elim (eqb_tells e.caller m) [
  | inl (t, same) ↦
      let both : All P (e.event ∷ events_of (entries caller_of m h))
      = subst (λ (b : Bool). All P (events_of (cond b (e ∷ entries caller_of m h) (entries caller_of m h)))) t all in
      All-cons (λ e. e.caller ≡ m → P e.event) e h (λ _. All-head P e.event (events_of (entries caller_of m h)) both)
      (under_caller P m h (All-tail P e.event (events_of (entries caller_of m h)) both))
  | inr (f, other) ↦
      let rest : All P (events_of (entries caller_of m h))
      = subst (λ (b : Bool). All P (events_of (cond b (e ∷ entries caller_of m h) (entries caller_of m h)))) f all in
      All-cons (λ e. e.caller ≡ m → P e.event) e h (λ same. absurd (other same)) (under_caller P m h rest)
]

-- ---- one unit

module _ (u : ℕ) where
  -- what an event makes of it
  abbrev made : Event → List ℕ → List ℕ
  made e x = array_with volume e (λ _. x) u

  -- what events make of it in turn
  abbrev run : List ℕ → List Event → List ℕ
  run x [] = x
  run x (e ∷ es) = run (made e x) es

  abbrev IsClear : Event → Type 0
  IsClear e = (x : List ℕ) → made e x ≡ x

  made_of : (e : Event) (a : Array) → array_with volume e a u ≡ made e (a u)
  made_of (Read first bytes) a = refl
  made_of (Put first bytes) a = refl
  made_of (Done first count) a = refl
  made_of (Lost first bytes spoilt) a = refl
  made_of (Deny first count) a = refl
  made_of (Shut first count) a = refl
  made_of (Beyond first count) a = refl
  made_of (Fail first count mark) a = refl
  made_of Flush a = refl

  after_run : (h : List Entry) (a : Array) → after volume a h u ≡ run (a u) (events_of h)
  after_run [] a = refl
  after_run (e ∷ h) a =
      after_run h (array_with volume e.event a) ∙ ap (λ (x : List ℕ). run x (events_of h)) (made_of e.event a)

  -- all that isn't under one caller may be left out, if it is clear
  only : (n : ℕ) (h : List Entry) → All (λ e. (e.caller ≡ n) ⊎ IsClear e.event) h → (x : List ℕ)
      → run x (events_of h) ≡ run x (events_of (entries caller_of n h))
  only n [] all x = refl
  only n (e ∷ h) all x = elim (eqb_tells e.caller n) [
    | inl (t, same) ↦
        subst (λ (b : Bool). run x (events_of (e ∷ h)) ≡ run x (events_of (cond b (e ∷ entries caller_of n h) (entries caller_of n h))))
        (sym t) (only n h (All-tail (λ e. (e.caller ≡ n) ⊎ IsClear e.event) e h all) (made e.event x))
    | inr (f, other) ↦
        let clear : made e.event x ≡ x
        = elim (All-head (λ e. (e.caller ≡ n) ⊎ IsClear e.event) e h all) [ inl same ↦ absurd (other same) | inr clear ↦ clear x ] in
        subst (λ (b : Bool). run x (events_of (e ∷ h)) ≡ run x (events_of (cond b (e ∷ entries caller_of n h) (entries caller_of n h))))
        (sym f) (only n h (All-tail (λ e. (e.caller ≡ n) ⊎ IsClear e.event) e h all) (made e.event x)
        ∙ ap (λ (y : List ℕ). run y (events_of (entries caller_of n h))) clear)
  ]

  -- ---- writes over it

  abbrev IsBeside : Write → Type 0
  IsBeside w = is_in volume w.first w.bytes u ≡ false

  chosen : (b : Bool) (x y : List ℕ) → b ≡ false → (if b then x else y) ≡ y
  chosen b x y is = ap (λ (c : Bool). if c then x else y) is

  -- arrays that hold the same there still do
  same_at : (ws : List Write) (a b : Array) → a u ≡ b u → laid_all ws a u ≡ laid_all ws b u
  unfolding laid_all
  same_at [] a b same = same
  same_at (w ∷ ws) a b same =
      same_at ws (laid volume w.first w.bytes a) (laid volume w.first w.bytes b)
      (ap (λ (x : List ℕ). if is_in volume w.first w.bytes u then unit (u - volume.per_sector * w.first) w.bytes else x) same)

  beside : (ws : List Write) → All IsBeside ws → (a : Array) → laid_all ws a u ≡ a u
  unfolding laid_all
  beside [] all a = refl
  beside (w ∷ ws) all a =
      beside ws (All-tail IsBeside w ws all) (laid volume w.first w.bytes a)
      ∙ chosen (is_in volume w.first w.bytes u) (unit (u - volume.per_sector * w.first) w.bytes) (a u) (All-head IsBeside w ws all)

  -- events that lose nothing lay what they put
  laid_by : (es : List Event) → IsCalm es → (x : List ℕ) → run x es ≡ laid_all (puts es) (λ _. x) u
  unfolding laid_all puts
  laid_by [] calm x = refl
  laid_by (Put first bytes ∷ es) calm x =
      laid_by es (All-tail Keeps (Put first bytes) es calm) (made (Put first bytes) x)
      ∙ same_at (puts es) (λ _. made (Put first bytes) x) (laid volume first bytes (λ _. x)) refl
  laid_by (Read first bytes ∷ es) calm x = laid_by es (All-tail Keeps (Read first bytes) es calm) x
  laid_by (Done first count ∷ es) calm x = laid_by es (All-tail Keeps (Done first count) es calm) x
  laid_by (Lost first bytes spoilt ∷ es) calm x = absurd (All-head Keeps (Lost first bytes spoilt) es calm)
  laid_by (Deny first count ∷ es) calm x = laid_by es (All-tail Keeps (Deny first count) es calm) x
  laid_by (Shut first count ∷ es) calm x = laid_by es (All-tail Keeps (Shut first count) es calm) x
  laid_by (Beyond first count ∷ es) calm x = laid_by es (All-tail Keeps (Beyond first count) es calm) x
  laid_by (Fail first count mark ∷ es) calm x = laid_by es (All-tail Keeps (Fail first count mark) es calm) x
  laid_by (Flush ∷ es) calm x = laid_by es (All-tail Keeps Flush es calm) x

  -- and are clear of it, if what they put is
  clear_by : (es : List Event) → IsCalm es → All IsBeside (puts es) → All IsClear es
  unfolding puts
  clear_by [] calm all = All-nil IsClear
  clear_by (Put first bytes ∷ es) calm all =
      let w : Write = record { first = first; bytes = bytes } in
      All-cons IsClear (Put first bytes) es
      (λ x. chosen (is_in volume first bytes u) (unit (u - volume.per_sector * first) bytes) x (All-head IsBeside w (puts es) all))
      (clear_by es (All-tail Keeps (Put first bytes) es calm) (All-tail IsBeside w (puts es) all))
  clear_by (Read first bytes ∷ es) calm all =
      All-cons IsClear (Read first bytes) es (λ x. refl) (clear_by es (All-tail Keeps (Read first bytes) es calm) all)
  clear_by (Done first count ∷ es) calm all =
      All-cons IsClear (Done first count) es (λ x. refl) (clear_by es (All-tail Keeps (Done first count) es calm) all)
  clear_by (Lost first bytes spoilt ∷ es) calm all = absurd (All-head Keeps (Lost first bytes spoilt) es calm)
  clear_by (Deny first count ∷ es) calm all =
      All-cons IsClear (Deny first count) es (λ x. refl) (clear_by es (All-tail Keeps (Deny first count) es calm) all)
  clear_by (Shut first count ∷ es) calm all =
      All-cons IsClear (Shut first count) es (λ x. refl) (clear_by es (All-tail Keeps (Shut first count) es calm) all)
  clear_by (Beyond first count ∷ es) calm all =
      All-cons IsClear (Beyond first count) es (λ x. refl) (clear_by es (All-tail Keeps (Beyond first count) es calm) all)
  clear_by (Fail first count mark ∷ es) calm all =
      All-cons IsClear (Fail first count mark) es (λ x. refl) (clear_by es (All-tail Keeps (Fail first count mark) es calm) all)
  clear_by (Flush ∷ es) calm all =
      All-cons IsClear Flush es (λ x. refl) (clear_by es (All-tail Keeps Flush es calm) all)

  -- ---- a unit in no sector of a client

  record IsOutside (c : ℕ) : Type 0 where
    either : (u < 3072 * c) ⊎ (3072 * c + 3072 ≤ u)

  outside_one : (c : ℕ) (w : Write) → IsOutside c → IsWriteIn c w → IsBeside w
  outside_one c w out is = elim out.either [
    | inl below ↦ elim (leb_tells (1 * w.first) u) [
      | inl (t, from) ↦ absurd (omega (arith, below, from, is.from))
      | inr (f, _) ↦ ap (λ (b : Bool). b && nat_lt u (1 * w.first + length w.bytes / 512)) f
    ]
    | inr above ↦ elim (leb_tells (1 * w.first) u) [
      | inl (t, _) ↦ elim (leb_tells (suc u) (1 * w.first + length w.bytes / 512)) [
        | inl (_, within) ↦ absurd (omega (arith, above, within, is.below))
        | inr (f, _) ↦ ap (λ (b : Bool). b && nat_lt u (1 * w.first + length w.bytes / 512)) t ∙ f
      ]
      | inr (f, _) ↦ ap (λ (b : Bool). b && nat_lt u (1 * w.first + length w.bytes / 512)) f
    ]
  ]

  outside : (n c : ℕ) → IsOutside c → All IsBeside (writes_of n c)
  outside n c out = all_from_elements IsBeside (writes_of n c)
      (λ w there. outside_one c w out (at_element (IsWriteIn c) (writes_of n c) w (writes_within n c) there))

-- ---- clients

-- The entries under the number m are those of client c.
pub record IsOfClient (n c m : ℕ) (h : List Entry) : Type 0 where
  pub written : puts (events_of (entries caller_of m h)) ≡ writes_of n c
  pub calm : IsCalm (events_of (entries caller_of m h))

-- each number is that of a client, or has no entries
abbrev pub IsAnyOf : ℕ → ℕ → ℕ → List Entry → ℕ → Type 0
IsAnyOf m₀ m₁ m₂ h m = (m ≡ m₀) ⊎ (m ≡ m₁) ⊎ (m ≡ m₂) ⊎ (entries caller_of m h ≡ [])

module _ (n m₀ m₁ m₂ : ℕ) (numbers : List ℕ) (h : List Entry) (all : All (λ e. Contains numbers e.caller) h)
    (each : (m : ℕ) → Contains numbers m → IsAnyOf m₀ m₁ m₂ h m)
    (first : IsOfClient n 0 m₀ h) (second : IsOfClient n 1 m₁ h) (third : IsOfClient n 2 m₂ h) (a : Array) (u : ℕ) where
  -- the events under a number are clear of the unit
  AreClear : ℕ → Type 0
  AreClear m = All (IsClear u) (events_of (entries caller_of m h))

  are_clear : (c m : ℕ) → IsOfClient n c m h → IsOutside u c → AreClear m
  unfolding AreClear
  are_clear c m of out =
      clear_by u (events_of (entries caller_of m h)) of.calm (subst (All (IsBeside u)) (sym of.written) (outside u n c out))

  none_clear : (m : ℕ) → entries caller_of m h ≡ [] → AreClear m
  unfolding AreClear
  none_clear m none = subst (λ (es : List Entry). All (IsClear u) (events_of es)) (sym none) (All-nil (IsClear u))

  -- one client's writes alone count
  by_one : (c m : ℕ) → IsOfClient n c m h → ((k : ℕ) → IsAnyOf m₀ m₁ m₂ h k → (k ≡ m) ⊎ AreClear k)
      → after volume a h u ≡ laid_all (writes_of n c) a u
  unfolding AreClear
  by_one c m of others =
      let left : All (λ e. (e.caller ≡ m) ⊎ IsClear u e.event) h
      = all_from_elements (λ e. (e.caller ≡ m) ⊎ IsClear u e.event) h
      (λ e there. elim (others e.caller (each e.caller (at_element (λ e. Contains numbers e.caller) h e all there))) [
        | inl same ↦ inl same
        | inr clear ↦ inr (at_element (λ f. f.caller ≡ e.caller → IsClear u f.event) h e (under_caller (IsClear u) e.caller h clear) there refl)
      ]) in
      after_run u h a
      ∙ only u m h left (a u)
      ∙ laid_by u (events_of (entries caller_of m h)) of.calm (a u)
      ∙ ap (λ (ws : List Write). laid_all ws (λ _. a u) u) of.written
      ∙ same_at u (writes_of n c) (λ _. a u) a refl

  in_first : IsOutside u 1 → IsOutside u 2 → after volume a h u ≡ all_laid n a u
  in_first out₁ out₂ =
      by_one 0 m₀ first (λ k any. elim any [
        | inl is ↦ inl is
        | inr (inl is) ↦ inr (subst AreClear (sym is) (are_clear 1 m₁ second out₁))
        | inr (inr (inl is)) ↦ inr (subst AreClear (sym is) (are_clear 2 m₂ third out₂))
        | inr (inr (inr none)) ↦ inr (none_clear k none)
      ])
      ∙ sym (beside u (writes_of n 2) (outside u n 2 out₂) (laid_all (writes_of n 1) (laid_all (writes_of n 0) a))
      ∙ beside u (writes_of n 1) (outside u n 1 out₁) (laid_all (writes_of n 0) a))

  in_second : IsOutside u 0 → IsOutside u 2 → after volume a h u ≡ all_laid n a u
  in_second out₀ out₂ =
      by_one 1 m₁ second (λ k any. elim any [
        | inl is ↦ inr (subst AreClear (sym is) (are_clear 0 m₀ first out₀))
        | inr (inl is) ↦ inl is
        | inr (inr (inl is)) ↦ inr (subst AreClear (sym is) (are_clear 2 m₂ third out₂))
        | inr (inr (inr none)) ↦ inr (none_clear k none)
      ])
      ∙ sym (beside u (writes_of n 2) (outside u n 2 out₂) (laid_all (writes_of n 1) (laid_all (writes_of n 0) a))
      ∙ same_at u (writes_of n 1) (laid_all (writes_of n 0) a) a (beside u (writes_of n 0) (outside u n 0 out₀) a))

  in_third : IsOutside u 0 → IsOutside u 1 → after volume a h u ≡ all_laid n a u
  in_third out₀ out₁ =
      by_one 2 m₂ third (λ k any. elim any [
        | inl is ↦ inr (subst AreClear (sym is) (are_clear 0 m₀ first out₀))
        | inr (inl is) ↦ inr (subst AreClear (sym is) (are_clear 1 m₁ second out₁))
        | inr (inr (inl is)) ↦ inl is
        | inr (inr (inr none)) ↦ inr (none_clear k none)
      ])
      ∙ sym (same_at u (writes_of n 2) (laid_all (writes_of n 1) (laid_all (writes_of n 0) a)) a
      (beside u (writes_of n 1) (outside u n 1 out₁) (laid_all (writes_of n 0) a)
      ∙ beside u (writes_of n 0) (outside u n 0 out₀) a))

  -- the result
  pub laid_apart : after volume a h u ≡ all_laid n a u
  laid_apart = elim (leb_tells 3072 u) [
    | inl (_, from) ↦ elim (leb_tells 6144 u) [
      | inl (_, above) ↦ in_third (record { either = inr (omega (arith, from)) }) (record { either = inr (omega (arith, above)) })
      | inr (_, below) ↦ in_second (record { either = inr (omega (arith, from)) }) (record { either = inl (omega (arith, below)) })
    ]
    | inr (_, below) ↦ in_first (record { either = inl (omega (arith, below)) }) (record { either = inl (omega (arith, below)) })
  ]

-- arrays that hold the same somewhere hold the same there once all writes are laid over them
pub all_laid_same : (n u : ℕ) (a b : Array) → a u ≡ b u → all_laid n a u ≡ all_laid n b u
all_laid_same n u a b same =
    same_at u (writes_of n 2) (laid_all (writes_of n 1) (laid_all (writes_of n 0) a)) (laid_all (writes_of n 1) (laid_all (writes_of n 0) b))
    (same_at u (writes_of n 1) (laid_all (writes_of n 0) a) (laid_all (writes_of n 0) b) (same_at u (writes_of n 0) a b same))
