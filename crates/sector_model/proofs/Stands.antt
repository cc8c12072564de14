-- What a plain volume stands for after one more request.
--
-- With no write open, a read and a refusal are one entry that changes nothing but, for a denied write, whether
-- the volume is frozen. A write is a Put and its Done: its data is laid over the array, and nothing is open after.
use Rattle.std.proofs.Common.{◌≡◌, ℕ, ◌+◌, ◌-◌, ◌*◌, Bool, true, false, eqb, ◌&&◌, cond, List, [], ◌∷◌, ◌++◌, refl, sym, ap, subst, ◌∙◌, append_assoc}
use Rattle.std.specs.List.{All, Contains}
use Rattle.std.proofs.lemmas.List.Elements.{All-nil, Contains-push}
use Rattle.std.proofs.lemmas.Bool.{eq-eqb}
use Rattle.range_base.specs.Range.{Overlap}
use Rattle.sector_model.specs.Array.{Array, array_of, AreSectors, Fits, Holds, is_in, laid, sectors_of, TouchesProtected, unit, Volume}
use Rattle.sector_model.specs.History.{after, array_with, frozen_with, HasName, is_frozen, open_with, open_writes, without, Write}
use Rattle.sector_model.specs.Legal.{IsFree, IsOpen, IsServed, MayEnd, MayPut, MeetsContents, MeetsOrder}
use Rattle.sector_model.specs.Plain.{entry, Plain, StandsFor}
use Rattle.sector_model.specs.declared.entry.Event.{Event}
use Rattle.sector_model.specs.declared.entry.Event.TheVariants.{Read, Put, Done, Deny, Shut, Beyond}
use Rattle.sector_model.specs.declared.entry.Entry.{Entry}
use Rattle.sector_model.proofs.OneMore.{after-push, is_frozen-push, Legal-push, open_writes-push}

-- the event leaves open writes, array and frozen as they are
record IsQuiet (v : Volume) (caller number : ℕ) (e : Event) : Type 0 where
  pub open_same : (ws : List Write) → open_with caller number e ws ≡ ws
  pub array_same : (a : Array) → array_with v e a ≡ a
  pub frozen_same : (b : Bool) → frozen_with e b ≡ b

stands_quiet : (a : Array) (h : List Entry) (p : Plain) (caller number : ℕ) (e : Event)
    → IsQuiet p.volume caller number e → MeetsOrder p.volume h caller number e
    → MeetsContents p.volume a h caller number e
    → StandsFor a h p → StandsFor a (h ++ entry caller number e ∷ []) p
stands_quiet a h p caller number e quiet order told s =
    let x : Entry = entry caller number e in
    record {
      legal = Legal-push p.volume a h x s.legal order told;
      closed = open_writes-push h x ∙ quiet.open_same (open_writes h) ∙ s.closed;
      frozen = s.frozen ∙ sym (is_frozen-push h x ∙ quiet.frozen_same (is_frozen h));
      array = λ u. s.array u ∙ sym (ap (λ (b : Array). b u) (after-push p.volume a h x ∙ quiet.array_same (after p.volume a h)));
    }

-- with nothing open, each range is free
free : (v : Volume) (h : List Entry) (first count : ℕ) → open_writes h ≡ [] → IsFree v h first count
free v h first count none = subst (All (λ w. ¬ Overlap first count w.first (sectors_of v w.bytes))) (sym none)
    (All-nil (λ w. ¬ Overlap first count w.first (sectors_of v w.bytes)))

served : (v : Volume) (h : List Entry) (first : ℕ) (bytes : List ℕ) → open_writes h ≡ []
    → AreSectors v bytes → Fits v first (sectors_of v bytes) → IsServed v h first bytes
served v h first bytes none whole fits = record {
  whole = whole;
  fits = fits;
  free = free v h first (sectors_of v bytes) none;
}

module _ (a : Array) (h : List Entry) (p : Plain) (caller number first : ℕ) where
  pub stands_beyond : (count : ℕ) → ¬ Fits p.volume first count → StandsFor a h p
      → StandsFor a (h ++ entry caller number (Beyond first count) ∷ []) p
  stands_beyond count beyond s = stands_quiet a h p caller number (Beyond first count)
      (record { open_same = λ _. refl; array_same = λ _. refl; frozen_same = λ _. refl }) beyond tt s

  pub stands_shut : (count : ℕ) → Fits p.volume first count → p.frozen ≡ true → StandsFor a h p
      → StandsFor a (h ++ entry caller number (Shut first count) ∷ []) p
  stands_shut count fits frozen s = stands_quiet a h p caller number (Shut first count)
      (record { open_same = λ _. refl; array_same = λ _. refl; frozen_same = λ _. refl })
      (sym s.frozen ∙ frozen, fits) tt s

  pub stands_read : (bytes : List ℕ) → AreSectors p.volume bytes → Fits p.volume first (sectors_of p.volume bytes)
      → Holds p.volume first bytes (array_of p.bytes) → StandsFor a h p
      → StandsFor a (h ++ entry caller number (Read first bytes) ∷ []) p
  stands_read bytes whole fits holds s = stands_quiet a h p caller number (Read first bytes)
      (record { open_same = λ _. refl; array_same = λ _. refl; frozen_same = λ _. refl })
      (served p.volume h first bytes s.closed whole fits)
      (λ k inside. sym (s.array (p.volume.per_sector * first + k)) ∙ holds k inside) s

  pub stands_deny : (count : ℕ) → Fits p.volume first count → p.frozen ≡ false → TouchesProtected p.volume first count
      → StandsFor a h p → StandsFor a (h ++ entry caller number (Deny first count) ∷ []) (record p { frozen = true })
  stands_deny count fits thawed touches s =
      let x : Entry = entry caller number (Deny first count) in
      record {
        legal = Legal-push p.volume a h x s.legal (sym s.frozen ∙ thawed, fits, touches) tt;
        closed = open_writes-push h x ∙ s.closed;
        frozen = sym (is_frozen-push h x);
        array = λ u. s.array u ∙ sym (ap (λ (b : Array). b u) (after-push p.volume a h x));
      }

abbrev write_of : ℕ → ℕ → ℕ → List ℕ → Write
write_of caller number first bytes = record { caller = caller; number = number; first = first; bytes = bytes }

-- the last open write is gone once it has ended
ended : (caller number first : ℕ) (bytes : List ℕ)
    → without caller number (write_of caller number first bytes ∷ []) ≡ []
ended caller number first bytes =
    let named : (eqb caller caller && eqb number number) ≡ true
    = ap (λ b. b && eqb number number) (eq-eqb caller caller refl) ∙ eq-eqb number number refl in
    ap (λ b. cond b [] (write_of caller number first bytes ∷ [])) named

-- over arrays that agree at a unit, the same data gives the same there
laid-same : (v : Volume) (first : ℕ) (bytes : List ℕ) (a b : Array) (u : ℕ) → a u ≡ b u
    → laid v first bytes a u ≡ laid v first bytes b u
laid-same v first bytes a b u same =
    ap (λ (x : List ℕ). cond (is_in v first bytes u) (unit (u - v.per_sector * first) bytes) x) same

pub stands_written : (a : Array) (h : List Entry) (p : Plain) (caller number first : ℕ) (bytes now : List ℕ)
    → AreSectors p.volume bytes → Fits p.volume first (sectors_of p.volume bytes) → p.frozen ≡ false
    → ¬ TouchesProtected p.volume first (sectors_of p.volume bytes)
    → ((u : ℕ) → array_of now u ≡ laid p.volume first bytes (array_of p.bytes) u)
    → StandsFor a h p
    → StandsFor a (h ++ entry caller number (Put first bytes) ∷ entry caller number (Done first (sectors_of p.volume bytes)) ∷ [])
    (record p { bytes = now })
stands_written a h p caller number first bytes now whole fits thawed apart written s =
    let v : Volume = p.volume in
    let count : ℕ = sectors_of v bytes in
    let put : Entry = entry caller number (Put first bytes) in
    let done : Entry = entry caller number (Done first count) in
    let h1 : List Entry = h ++ put ∷ [] in
    let one_open : open_writes h1 ≡ write_of caller number first bytes ∷ []
    = open_writes-push h put ∙ ap (λ ws. ws ++ write_of caller number first bytes ∷ []) s.closed in
    let may_put : MayPut v h caller number first bytes = record {
      not_frozen = sym s.frozen ∙ thawed;
      served = served v h first bytes s.closed whole fits;
      unprotected = apart;
      fresh = subst (All (λ w. ¬ HasName caller number w)) (sym s.closed) (All-nil (λ w. ¬ HasName caller number w));
    } in
    let is_open : IsOpen h1 caller number first (write_of caller number first bytes) = record {
      put = subst (λ ws. Contains ws (write_of caller number first bytes)) (sym one_open) (Contains-push [] (write_of caller number first bytes));
      name = (refl, refl);
      place = refl;
    } in
    let may_end : MayEnd v h1 caller number first count
    = record { write = write_of caller number first bytes; is_open = is_open; all = refl } in
    let stands : StandsFor a (h1 ++ done ∷ []) (record p { bytes = now }) = record {
      legal = Legal-push v a h1 done (Legal-push v a h put s.legal may_put tt) may_end tt;
      closed = open_writes-push h1 done ∙ ap (without caller number) one_open ∙ ended caller number first bytes;
      frozen = s.frozen ∙ sym (is_frozen-push h1 done ∙ is_frozen-push h put);
      array = λ u. written u ∙ laid-same v first bytes (array_of p.bytes) (after v a h) u (s.array u)
          ∙ sym (ap (λ (b : Array). b u) (after-push v a h1 done ∙ after-push v a h put));
    } in
    subst (λ l. StandsFor a l (record p { bytes = now })) (append_assoc h (put ∷ []) (done ∷ [])) stands

-- a plain volume with the same parts
pub stands_as : (a : Array) (h : List Entry) (p q : Plain) → p.volume ≡ q.volume → p.bytes ≡ q.bytes
    → p.frozen ≡ q.frozen → StandsFor a h p → StandsFor a h q
stands_as a h p q volume bytes frozen s =
    subst (λ v. StandsFor a h (record q { volume = v })) volume
    (subst (λ b. StandsFor a h (record { volume = p.volume; bytes = b; frozen = q.frozen })) bytes
    (subst (λ f. StandsFor a h (record { volume = p.volume; bytes = p.bytes; frozen = f })) frozen s))
