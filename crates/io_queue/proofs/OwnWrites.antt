-- The open writes of one caller are those of its own entries.
--
-- An entry opens and ends writes under its own caller alone. So the fold that gives the open writes commutes with
-- taking out what is one caller's.
use Rattle.std.proofs.Common.{◌≡◌, ◌≢◌, inl, inr, ℕ, zero, suc, Bool, true, false, ◌&&◌, eqb, cond, List, [], ◌∷◌, ◌++◌, filter, refl, sym, ap, ◌∙◌, arith, append-nil}
use Rattle.std.specs.List.{All, Contains}
use Rattle.std.proofs.lemmas.Bool.Decides.{eqb_tells}
use Rattle.std.proofs.lemmas.List.Elements.{All-append, filter-append}
use Rattle.hist_lock.specs.History.{entries}
use Rattle.sector_model.specs.History.{has_name, open_from, open_with, open_writes, without, Write}
use Rattle.sector_model.specs.declared.entry.Entry.{Entry}
use Rattle.sector_model.specs.declared.entry.Event.{Event}
use Rattle.sector_model.specs.declared.entry.Event.TheVariants.{Read, Put, Done, Lost, Deny, Shut, Beyond, Fail, Flush}
use Rattle.io_core.proofs.Elements.{later_element}
use Rattle.io_queue.specs.Pass.{caller_of}

clash : {X : Type 0} (b : Bool) → b ≡ true → b ≡ false → X
clash true t f = cc
clash false t f = cc

-- the name tells the caller
caller_named : (c k : ℕ) (w : Write) → has_name c k w ≡ true → w.caller ≡ c
caller_named c k w t = elim (eqb_tells w.caller c) [
  | inl (t_, e) ↦ e
  | inr (f, no_) ↦ clash (has_name c k w) t (ap (λ (b : Bool). b && eqb w.number k) f)
]

module _ (n : ℕ) where
  abbrev pub is_own : Write → Bool
  is_own w = eqb w.caller n

  abbrev own : List Write → List Write
  own ws = filter is_own ws

  own_one : (w : Write) (ws : List Write) → eqb w.caller n ≡ true → own (w ∷ ws) ≡ w ∷ own ws
  own_one w ws t = ap (λ (b : Bool). cond b (w ∷ own ws) (own ws)) t

  own_not : (w : Write) (ws : List Write) → eqb w.caller n ≡ false → own (w ∷ ws) ≡ own ws
  own_not w ws f = ap (λ (b : Bool). cond b (w ∷ own ws) (own ws)) f

  gone : (c k : ℕ) (w : Write) (ws : List Write) → has_name c k w ≡ true → without c k (w ∷ ws) ≡ ws
  gone c k w ws t = ap (λ (b : Bool). cond b ws (w ∷ without c k ws)) t

  stays : (c k : ℕ) (w : Write) (ws : List Write) → has_name c k w ≡ false → without c k (w ∷ ws) ≡ w ∷ without c k ws
  stays c k w ws f = ap (λ (b : Bool). cond b ws (w ∷ without c k ws)) f

  own_gone : (c k : ℕ) (w : Write) (ws : List Write) → c ≡ n → own (without c k ws) ≡ without c k (own ws)
      → (b : Bool) → has_name c k w ≡ b → own (without c k (w ∷ ws)) ≡ without c k (own (w ∷ ws))
  own_gone c k w ws is more true t = elim (eqb_tells w.caller n) [
    | inl (t_, e) ↦ ap own (gone c k w ws t) ∙ sym (ap (without c k) (own_one w ws t_) ∙ gone c k w (own ws) t)
    | inr (f, no_) ↦ absurd (no_ (caller_named c k w t ∙ is))
  ]
  own_gone c k w ws is more false f = ap own (stays c k w ws f) ∙ elim (eqb_tells w.caller n) [
    | inl (t_, e) ↦ own_one w (without c k ws) t_ ∙ ap (λ l. w ∷ l) more
        ∙ sym (ap (without c k) (own_one w ws t_) ∙ stays c k w (own ws) f)
    | inr (f_, no_) ↦ own_not w (without c k ws) f_ ∙ more ∙ sym (ap (without c k) (own_not w ws f_))
  ]

  own_without : (c k : ℕ) → c ≡ n → (ws : List Write) → own (without c k ws) ≡ without c k (own ws)
  own_without c k is [] = refl
  own_without c k is (w ∷ ws) = own_gone c k w ws is (own_without c k is ws) (has_name c k w) refl

  other_gone : (c k : ℕ) (w : Write) (ws : List Write) → c ≢ n → own (without c k ws) ≡ own ws
      → (b : Bool) → has_name c k w ≡ b → own (without c k (w ∷ ws)) ≡ own (w ∷ ws)
  other_gone c k w ws other more true t = elim (eqb_tells w.caller n) [
    | inl (t_, e) ↦ absurd (other (sym (caller_named c k w t) ∙ e))
    | inr (f, no_) ↦ ap own (gone c k w ws t) ∙ sym (own_not w ws f)
  ]
  other_gone c k w ws other more false f = ap own (stays c k w ws f)
      ∙ ap (λ (l : List Write). cond (eqb w.caller n) (w ∷ l) l) more

  others_without : (c k : ℕ) → c ≢ n → (ws : List Write) → own (without c k ws) ≡ own ws
  others_without c k other [] = refl
  others_without c k other (w ∷ ws) = other_gone c k w ws other (others_without c k other ws) (has_name c k w) refl

  -- one entry of the caller, and one of another
  own_step : (c k : ℕ) (e : Event) (ws : List Write) → c ≡ n → own (open_with c k e ws) ≡ open_with c k e (own ws)
  own_step c k (Put first bytes) ws is = elim (eqb_tells c n) [
    | inl (t, e) ↦ filter-append is_own ws ((record { caller = c; number = k; first = first; bytes = bytes }) ∷ [])
        ∙ ap (λ l. own ws ++ l) (own_one (record { caller = c; number = k; first = first; bytes = bytes }) [] t)
    | inr (f, no_) ↦ absurd (no_ is)
  ]
  own_step c k (Done first count) ws is = own_without c k is ws
  own_step c k (Lost first now spoilt) ws is = own_without c k is ws
  own_step c k (Read first bytes) ws is = refl
  own_step c k (Deny first count) ws is = refl
  own_step c k (Shut first count) ws is = refl
  own_step c k (Beyond first count) ws is = refl
  own_step c k (Fail first count mark) ws is = refl
  own_step c k Flush ws is = refl

  other_step : (c k : ℕ) (e : Event) (ws : List Write) → c ≢ n → own (open_with c k e ws) ≡ own ws
  other_step c k (Put first bytes) ws other = elim (eqb_tells c n) [
    | inl (t, e) ↦ absurd (other e)
    | inr (f, no_) ↦ filter-append is_own ws ((record { caller = c; number = k; first = first; bytes = bytes }) ∷ [])
        ∙ ap (λ l. own ws ++ l) (own_not (record { caller = c; number = k; first = first; bytes = bytes }) [] f) ∙ append-nil (own ws)
  ]
  other_step c k (Done first count) ws other = others_without c k other ws
  other_step c k (Lost first now spoilt) ws other = others_without c k other ws
  other_step c k (Read first bytes) ws other = refl
  other_step c k (Deny first count) ws other = refl
  other_step c k (Shut first count) ws other = refl
  other_step c k (Beyond first count) ws other = refl
  other_step c k (Fail first count mark) ws other = refl
  other_step c k Flush ws other = refl

  own_from : (ws : List Write) (h : List Entry) → own (open_from ws h) ≡ open_from (own ws) (entries caller_of n h)
  own_from ws [] = refl
  own_from ws (e ∷ h) = own_from (open_with e.caller e.number e.event ws) h ∙ elim (eqb_tells e.caller n) [
    | inl (t, is) ↦ ap (λ l. open_from l (entries caller_of n h)) (own_step e.caller e.number e.event ws is)
        ∙ sym (ap (λ (b : Bool). open_from (own ws) (cond b (e ∷ entries caller_of n h) (entries caller_of n h))) t)
    | inr (f, other) ↦ ap (λ l. open_from l (entries caller_of n h)) (other_step e.caller e.number e.event ws other)
        ∙ sym (ap (λ (b : Bool). open_from (own ws) (cond b (e ∷ entries caller_of n h) (entries caller_of n h))) f)
  ]

  pub own_writes : (h : List Entry) → filter is_own (open_writes h) ≡ open_writes (entries caller_of n h)
  own_writes h = own_from [] h

  other_cons : (w : Write) (ws : List Write) → w.caller ≢ n → All (λ x. x.caller ≢ n) ws → All (λ x. x.caller ≢ n) (w ∷ ws)
  other_cons w ws here there zero d within = here
  other_cons w ws here there (suc k) d within = there k d (omega arith)

  not_nil : (w : Write) (ws : List Write) → w ∷ ws ≡ [] → ⊥
  not_nil w ws e = cc

  none_own : (ws : List Write) → own ws ≡ [] → All (λ w. w.caller ≢ n) ws
  none_own [] none = λ k d within. absurd (omega arith)
  none_own (w ∷ ws) none = elim (eqb_tells w.caller n) [
    | inl (t, is) ↦ absurd (not_nil w (own ws) (sym (own_one w ws t) ∙ none))
    | inr (f, other) ↦ other_cons w ws other (none_own ws (sym (own_not w ws f) ∙ none))
  ]

  pub others_open : (h : List Entry) → open_writes (entries caller_of n h) ≡ [] → All (λ w. w.caller ≢ n) (open_writes h)
  others_open h none = none_own (open_writes h) (own_writes h ∙ none)

-- an element that is taken out is one of the list
filtered_rest : {X : Type 0} (p : X → Bool) (y : X) (xs : List X) (x : X) → (Contains (filter p xs) x → Contains xs x)
    → (b : Bool) → Contains (cond b (y ∷ filter p xs) (filter p xs)) x → Contains (y ∷ xs) x
filtered_rest p y xs x more true (zero, within, is) = (0, omega arith, is)
filtered_rest p y xs x more true (suc k, within, is) = later_element y xs x (more (k, omega arith, is))
filtered_rest p y xs x more false c = later_element y xs x (more c)

pub filtered_element : {X : Type 0} (p : X → Bool) (xs : List X) (x : X) → Contains (filter p xs) x → Contains xs x
filtered_element p [] x c = c
filtered_element p (y ∷ xs) x c = filtered_rest p y xs x (λ d. filtered_element p xs x d) (p y) c

-- The caller of an open write is that of an entry.
module _ (P : ℕ → Type 0) where
  abbrev Writes : List Write → Type 0
  Writes ws = All (λ w. P w.caller) ws

  cons_writes : (w : Write) (ws : List Write) → P w.caller → Writes ws → Writes (w ∷ ws)
  cons_writes w ws here there zero d within = here
  cons_writes w ws here there (suc k) d within = there k d (omega arith)

  writes_kept : (w : Write) (ws vs : List Write) → P w.caller → Writes ws → Writes vs → (b : Bool) → Writes (cond b ws (w ∷ vs))
  writes_kept w ws vs here rest less true = rest
  writes_kept w ws vs here rest less false = cons_writes w vs here less

  rest_writes : (w : Write) (ws : List Write) → Writes (w ∷ ws) → Writes ws
  rest_writes w ws all = λ j d within. all (suc j) d (omega arith)

  writes_without : (c k : ℕ) (ws : List Write) → Writes ws → Writes (without c k ws)
  writes_without c k [] all = all
  writes_without c k (w ∷ ws) all = writes_kept w ws (without c k ws) (all 0 w (omega arith)) (rest_writes w ws all)
      (writes_without c k ws (rest_writes w ws all)) (has_name c k w)

  writes_with : (c k : ℕ) (e : Event) (ws : List Write) → P c → Writes ws → Writes (open_with c k e ws)
  writes_with c k (Put first bytes) ws is all = All-append (λ (w : Write). P w.caller) ws ((record { caller = c; number = k; first = first; bytes = bytes }) ∷ []) all
      (cons_writes (record { caller = c; number = k; first = first; bytes = bytes }) [] is (λ j d within. absurd (omega arith)))
  writes_with c k (Done first count) ws is all = writes_without c k ws all
  writes_with c k (Lost first now spoilt) ws is all = writes_without c k ws all
  writes_with c k (Read first bytes) ws is all = all
  writes_with c k (Deny first count) ws is all = all
  writes_with c k (Shut first count) ws is all = all
  writes_with c k (Beyond first count) ws is all = all
  writes_with c k (Fail first count mark) ws is all = all
  writes_with c k Flush ws is all = all

  writes_from : (ws : List Write) (h : List Entry) → Writes ws → All (λ e. P e.caller) h → Writes (open_from ws h)
  writes_from ws [] all each = all
  writes_from ws (e ∷ h) all each = writes_from (open_with e.caller e.number e.event ws) h
      (writes_with e.caller e.number e.event ws (each 0 e (omega arith)) all) (λ k d within. each (suc k) d (omega arith))

-- If each entry's caller is one of these, and none of these has an open write, none is open.
pub nothing_open : (ns : List ℕ) (h : List Entry) → All (λ e. Contains ns e.caller) h
    → ((n : ℕ) → Contains ns n → open_writes (entries caller_of n h) ≡ []) → open_writes h ≡ []
nothing_open ns h callers none =
    empty (open_writes h) (writes_from (Contains ns) [] h (λ k d within. absurd (omega arith)) callers) (λ n c. others_open n h (none n c))
  where
    empty : (ws : List Write) → All (λ w. Contains ns w.caller) ws → ((n : ℕ) → Contains ns n → All (λ w. w.caller ≢ n) ws) → ws ≡ []
    empty [] named other = refl
    empty (w ∷ ws) named other = absurd (other w.caller (named 0 w (omega arith)) 0 w (omega arith) refl)
