-- The end of a write: what the close of the caller's only open write adds.
use Rattle.std.proofs.Common.{Vec, ◌≡◌, ◌≢◌, inl, inr, ℕ, zero, suc, Bool, true, false, ◌&&◌, eqb, cond, List, [], ◌∷◌, ◌++◌, filter, refl, sym, ap, subst, ◌∙◌, arith}
use Rattle.std.specs.Prelude.{map, None, Option, Some}
use Rattle.std.specs.List.{All, Any, Contains}
use Rattle.std.proofs.lemmas.Bool.Decides.{eqb_tells}
use Rattle.vc_layout.specs.declared.geometry.Geometry.{Geometry}
use Rattle.vc_outside.specs.declared.store.Store.{Ghosts as StoreGhosts}
use Rattle.cipher_base.specs.declared.unit.UnitCipher.{Ghosts as CipherGhosts}
use Rattle.sector_model.specs.Array.{sectors_of, Volume}
use Rattle.sector_model.specs.History.{HasName, open_from, Write}
use Rattle.sector_model.specs.Plain.{entry}
use Rattle.sector_model.specs.declared.entry.Entry.{Entry}
use Rattle.sector_model.specs.declared.entry.Event.TheVariants as event
use Rattle.sector_model.specs.declared.entry.FaultMark.{FaultMark}
use Rattle.std.specs.Global.{Global}
use Rattle.io_core.specs.Entries.{admit_entries}
use Rattle.io_core.specs.declared.answers.Admit.{Admit}
use Rattle.io_core.specs.declared.answers.Admit.TheVariants as admit
use Rattle.io_core.specs.Closings.{close_entries, data_now, entries_of, IsClosed, IsEndOf}
use Rattle.io_core.specs.Named.{named}
use Rattle.io_core.specs.Sound.{Sound, volume}
use Rattle.io_core.specs.State.{State, write_of}
use Rattle.io_core.specs.declared.answers.Close.{Close}
use Rattle.io_core.specs.declared.answers.Close.TheVariants as close
use Rattle.io_core.specs.declared.prepared.Prepared.{Prepared}
use Rattle.io_core.proofs.Elements.{first_element, unmapped_element}
use Rattle.io_core.proofs.EndedMarks.{is_named}
use Rattle.io_queue.specs.Laws.Acts.{Ends, MayEnd}
use Rattle.hist_lock.specs.declared.view.View.{View}
use Rattle.hist_lock.specs.History.{entries}
use Rattle.io_queue.specs.Laws.Opens.{IsOwn, Opens}
use Rattle.io_queue.specs.Pass.{Call, caller_of, NothingOpen, shape}
use Rattle.io_queue.proofs.Passes.{calls, nothing_opens, still_open}
use Rattle.io_queue.proofs.OwnWrites.{filtered_element, is_own, own_writes}

not_nil : (w : Write) (ws : List Write) → w ∷ ws ≡ [] → ⊥
not_nil w ws e = cc

module _ (caller : ℕ) where
  abbrev mine : List Prepared → List Write
  mine ps = filter (is_own caller) (map write_of ps)

  mine_one : (p : Prepared) (ps : List Prepared) → eqb p.caller caller ≡ true → mine (p ∷ ps) ≡ write_of p ∷ mine ps
  mine_one p ps t = ap (λ (b : Bool). cond b (write_of p ∷ mine ps) (mine ps)) t

  mine_not : (p : Prepared) (ps : List Prepared) → eqb p.caller caller ≡ false → mine (p ∷ ps) ≡ mine ps
  mine_not p ps f = ap (λ (b : Bool). cond b (write_of p ∷ mine ps) (mine ps)) f

  head_is : (x w : Write) (xs ws : List Write) → x ∷ xs ≡ w ∷ ws → x ≡ w
  head_is x w xs ws e = cc

  tail_is : (x w : Write) (xs ws : List Write) → x ∷ xs ≡ w ∷ ws → xs ≡ ws
  tail_is x w xs ws e = cc

  not_none : (below above : List Prepared) (p : Prepared) → HasName caller 0 (write_of p) → mine (below ++ p ∷ above) ≢ []
  not_none [] above p has none = elim (eqb_tells p.caller caller) [
    | inl (t, e) ↦ not_nil (write_of p) (mine above) (sym (mine_one p above t) ∙ none)
    | inr (f, no_) ↦ no_ has.0
  ]
  not_none (x ∷ xs) above p has none = elim (eqb_tells x.caller caller) [
    | inl (t, e) ↦ not_nil (write_of x) (mine (xs ++ p ∷ above)) (sym (mine_one x (xs ++ p ∷ above) t) ∙ none)
    | inr (f, no_) ↦ not_none xs above p has (sym (mine_not x (xs ++ p ∷ above) f) ∙ none)
  ]

  -- the write that is ended is the caller's only one
  named_at : (below above : List Prepared) (p : Prepared) (w : Write) → HasName caller 0 (write_of p) → mine (below ++ p ∷ above) ≡ w ∷ []
      → (named caller 0 (below ++ p ∷ above) ≡ Some p) × (write_of p ≡ w)
  named_at [] above p w has only = (
    ap (λ (b : Bool). cond b (Some p) (named caller 0 above)) (is_named caller 0 (write_of p) has),
    elim (eqb_tells p.caller caller) [
      | inl (t, e) ↦ head_is (write_of p) w (mine above) [] (sym (mine_one p above t) ∙ only)
      | inr (f, no_) ↦ absurd (no_ has.0)
    ],
  )
  named_at (q ∷ below) above p w has only = elim (eqb_tells q.caller caller) [
    | inl (t, e) ↦ absurd (not_none below above p has
        (tail_is (write_of q) w (mine (below ++ p ∷ above)) [] (sym (mine_one q (below ++ p ∷ above) t) ∙ only)))
    | inr (f, no_) ↦
        let rest = named_at below above p w has (sym (mine_not q (below ++ p ∷ above) f) ∙ only) in (
          ap (λ (b : Bool). cond (b && eqb q.number 0) (Some q) (named caller 0 (below ++ p ∷ above))) f ∙ rest.0,
          rest.1,
        )
  ]

module _ {S C : Type 0} (store : StoreGhosts S) (cipher : CipherGhosts C) (s : State S C) (caller : ℕ) where
  module _ (base : State S C) (h : List Entry) (sound : Sound store cipher base h s) (g : Geometry) (first count : ℕ)
      (m : MayEnd base h g caller first count) where
    abbrev the_write : Write
    the_write = record { caller = caller; number = 0; first = first; bytes = m.bytes }

    pub only_mine : mine caller s.pending ≡ the_write ∷ []
    only_mine = ap (filter (is_own caller)) sound.writes ∙ own_writes caller h ∙ m.only

    pub is_pending : Any (λ p. HasName caller 0 (write_of p)) s.pending
    is_pending = let c = unmapped_element write_of s.pending the_write (filtered_element (is_own caller) (map write_of s.pending) the_write
        (subst (λ l. Contains l the_write) (sym only_mine) (first_element the_write []))) in
        (c.1.0, c.0, c.1.1, c.1.2, (ap (λ (w : Write). w.caller) c.2, ap (λ (w : Write). w.number) c.2))

    module _ (answer : Close) (new : List Prepared) (c : IsClosed caller 0 answer s.pending new) where
      at_write : (named caller 0 s.pending ≡ Some c.write) × (write_of c.write ≡ the_write)
      at_write = let n = named_at caller c.below c.above c.write the_write c.name (ap (mine caller) (sym c.was) ∙ only_mine) in
          (ap (named caller 0) c.was ∙ n.0, n.1)

      pub ends : Ends caller first count answer (close_entries store cipher s caller 0 answer)
      ends = subst (λ (o : Option Prepared). Ends caller first count answer (entries_of store cipher s caller 0 answer o)) (sym at_write.0) (go answer c.outcome)
        where
          p : Prepared
          p = c.write

          from : p.first ≡ first
          from = ap (λ (w : Write). w.first) at_write.1

          many : sectors_of (volume s) p.bytes.items ≡ count
          many = ap (λ (w : Write). sectors_of (volume s) w.bytes) at_write.1
              ∙ ap (λ (k : Geometry). sectors_of (shape k) m.bytes) (sound.geometry_same ∙ m.geometry) ∙ m.sectors

          go : (a : Close) → IsEndOf p a → Ends caller first count a (entries_of store cipher s caller 0 a (Some p))
          go close.Waiting e = refl
          go (close.Done bytes) e = λ i. entry caller 0 (event.Done (from i) (many i)) ∷ []
          go (close.Lost mark) e = (
            data_now store cipher s p,
            e.1,
            e.2,
            λ i. entry caller 0 (event.Lost (from i) (data_now store cipher s p) (e.3 i)) ∷ [],
          )

-- what an end leaves open
ends_open : (n first count : ℕ) (w : Write) → HasName n 0 w → (answer : Close) (es : List Entry) → Ends n first count answer es
    → answer ≢ close.Waiting → open_from (w ∷ []) es ≡ []
ends_open n first count w has close.Waiting es is other = absurd (other refl)
ends_open n first count w has (close.Done bytes) es is other =
    ap (open_from (w ∷ [])) is ∙ ap (λ (b : Bool). cond b [] (w ∷ [])) (is_named n 0 w has)
ends_open n first count w has (close.Lost mark) es is other =
    ap (open_from (w ∷ [])) is.3 ∙ ap (λ (b : Bool). cond b [] (w ∷ [])) (is_named n 0 w has)

pub done_adds : (n d first count all : ℕ) (put : Entry) (es : List Entry) (r : Close) (kept : Vec ℕ Global) → r ≡ close.Done kept → d ≡ n → count ≡ all
    → Ends d first count r es → put ∷ es ≡ put ∷ entry n 0 (event.Done first all) ∷ []
done_adds n d first count all put es r kept is same many ends =
    let e : es ≡ entry d 0 (event.Done first count) ∷ [] = subst (λ (x : Close). Ends d first count x es) is ends in
    ap (λ (l : List Entry). put ∷ l) (e ∙ (λ i. entry (same i) 0 (event.Done first (many i)) ∷ []))

pub lost_adds : (n d first count : ℕ) (put : Entry) (es : List Entry) (r : Close) (m : FaultMark) → r ≡ close.Lost m → d ≡ n → Ends d first count r es
    → (now : List ℕ) × (k : ℕ) × (more : List (ℕ × FaultMark)) × (put ∷ es ≡ put ∷ entry n 0 (event.Lost first now ((k, m) ∷ more)) ∷ [])
lost_adds n d first count put es r m is same ends =
    let e = subst (λ (x : Close). Ends d first count x es) is ends in
    (e.0, e.1, e.2, ap (λ (l : List Entry). put ∷ l) (e.3 ∙ (λ i. entry (same i) 0 (event.Lost first e.0 ((e.1, m) ∷ e.2)) ∷ [])))

module _ {S C : Type 0} where
  pub own_ended : (store : StoreGhosts S) (cipher : CipherGhosts C) (s : State S C) (caller : ℕ) (answer : Close)
      → All (λ e. e.caller ≡ caller) (close_entries store cipher s caller 0 answer)
  own_ended store cipher s caller answer = go answer (named caller 0 s.pending)
    where
      one : (e : Entry) → e.caller ≡ caller → All (λ x. x.caller ≡ caller) (e ∷ [])
      one e is zero d within = is
      one e is (suc k) d within = absurd (omega arith)

      go : (a : Close) (o : Option Prepared) → All (λ e. e.caller ≡ caller) (entries_of store cipher s caller 0 a o)
      go close.Waiting o = λ k d within. absurd (omega arith)
      go (close.Done bytes) None = λ k d within. absurd (omega arith)
      go (close.Done bytes) (Some w) = one _ refl
      go (close.Lost mark) None = λ k d within. absurd (omega arith)
      go (close.Lost mark) (Some w) = one _ refl

  pub may_end : (base : State S C) (log : List Entry) (g : Geometry) (v : View (State S C) Entry) (first count : ℕ) (w : Write)
      → base.geometry ≡ g → entries caller_of v.number v.seen ≡ v.mine → entries caller_of v.number log ≡ v.mine
      → IsOwn (shape g) v first count w → Opens v (w ∷ []) → MayEnd base log g v.number first count
  may_end base log g v first count w is own same mine o = record {
    geometry = is;
    bytes = w.bytes;
    only = still_open v (w ∷ []) log own same o
        ∙ (λ i. record { caller = mine.name.0 i; number = mine.name.1 i; first = mine.place i; bytes = w.bytes } ∷ []);
    sectors = mine.sectors;
  }

  pub end_leaves : (v u : View (State S C) Entry) (shape : Volume) (first count : ℕ) (w : Write) (answer : Close) (es : List Entry)
      → IsOwn shape v first count w → Ends v.number first count answer es → answer ≢ close.Waiting
      → Opens u (open_from (w ∷ []) es) → NothingOpen u
  end_leaves v u shape first count w answer es mine ends other o =
      nothing_opens u (subst (Opens u) (ends_open v.number first count w mine.name answer es ends other) o)

  pub waits_leaves : (u : View (State S C) Entry) (n first count : ℕ) (w : Write) (answer : Close) (es : List Entry)
      → Ends n first count answer es → answer ≡ close.Waiting → Opens u (open_from (w ∷ []) es) → Opens u (w ∷ [])
  waits_leaves u n first count w answer es ends is o =
      let none : es ≡ [] = subst (λ (a : Close). Ends n first count a es) is ends in
      subst (Opens u) (ap (open_from (w ∷ [])) none) o

  pub own_kept : (shape : Volume) (v u : View (State S C) Entry) (first count : ℕ) (w : Write) → u.number ≡ v.number
      → IsOwn shape v first count w → IsOwn shape u first count w
  own_kept shape v u first count w same own = record { name = (own.name.0 ∙ sym same, own.name.1); place = own.place; sectors = own.sectors }

  pub ended_nothing : (u v w : View (State S C) Entry) (first count : ℕ) (answer : Close) (es : List Entry) → Call u v [] → Call v w es
      → Ends v.number first count answer es → answer ≡ close.Waiting → Call u w []
  ended_nothing u v w first count answer es past turned ends is =
      subst (Call u w) (subst (λ (a : Close). Ends v.number first count a es) is ends) (calls u v w [] es past turned)

  -- a write from its Put to its end
  pub put_call : (v a : View (State S C) Entry) (sh : Volume) (w : Prepared) (first : ℕ) (bytes : List ℕ) (r : Admit) → r ≡ admit.In
      → w.caller ≡ v.number → w.number ≡ 0 → w.first ≡ first → w.bytes.items ≡ bytes → Call v a (admit_entries sh w r)
      → Call v a (entry v.number 0 (event.Put first bytes) ∷ [])
  put_call v a sh w first bytes r is caller number from holds c =
      subst (Call v a) (ap (λ (x : Admit). admit_entries sh w x) is ∙ (λ i. entry (caller i) (number i) (event.Put (from i) (holds i)) ∷ [])) c
