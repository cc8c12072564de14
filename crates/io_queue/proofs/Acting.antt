-- The events of the core as acts: what each needs of the core, and that it adds what it says.
use Rattle.std.proofs.Common.{◌≡◌, ℕ, List, [], ◌∷◌, ◌++◌, refl, sym, ap, subst, ◌∙◌, append_assoc, append-nil}
use Rattle.std.specs.Prelude.{Some}
use Rattle.std.specs.List.{All}
use Rattle.vc_layout.specs.declared.geometry.Geometry.{Geometry}
use Rattle.vc_outside.specs.declared.store.Store.{Ghosts as StoreGhosts}
use Rattle.cipher_base.specs.declared.unit.UnitCipher.{Ghosts as CipherGhosts}
use Rattle.sector_model.specs.Array.{AreSectors, Fits, sectors_of, Volume}
use Rattle.sector_model.specs.History.{HasName}
use Rattle.sector_model.specs.Legal.{EachAfter, IsOrdered, MeetsOrder}
use Rattle.sector_model.specs.declared.entry.Entry.{Entry}
use Rattle.io_core.specs.Entries.{admit_entries}
use Rattle.io_core.specs.Fetches.{fetch_entries}
use Rattle.io_core.specs.Sound.{Sound, volume}
use Rattle.io_core.specs.State.{State, write_of}
use Rattle.io_core.specs.declared.answers.Admit.{Admit}
use Rattle.io_core.specs.declared.answers.Admit.TheVariants.{In, Denied, Frozen, Later}
use Rattle.io_core.specs.declared.answers.Fetch.{Fetch}
use Rattle.io_core.specs.declared.answers.Fetch.TheVariants as fetch
use Rattle.io_core.specs.declared.prepared.Prepared.{Prepared}
use Rattle.io_core.proofs.Elements.{all_unmapped}
use Rattle.hist_lock.specs.declared.view.View.{View}
use Rattle.hist_lock.specs.History.{StartsWith}
use Rattle.io_queue.specs.Laws.Acts.{fetched, MayAsk, MayFetch}
use Rattle.io_queue.specs.Laws.Opens.{Judges, WasAsked}
use Rattle.io_queue.specs.Pass.{Began, shape, StandsFor}
use Rattle.io_queue.proofs.OwnWrites.{others_open}
use Rattle.io_queue.proofs.Passes.{began_base}

-- of the last entry of an ordered history
last_meets : (P : List Entry → Entry → Type 0) (past h : List Entry) (e : Entry) → EachAfter P past (h ++ e ∷ []) → P (past ++ h) e
last_meets P past [] e each = subst (λ l. P l e) (sym (append-nil past)) each.0
last_meets P past (x ∷ h) e each = subst (λ l. P l e) (append_assoc past (x ∷ []) h) (last_meets P (past ++ x ∷ []) h e each.1)

pub ordered_last : (v : Volume) (h : List Entry) (e : Entry) → IsOrdered v (h ++ e ∷ []) → MeetsOrder v h e.caller e.number e.event
ordered_last v h e ordered = last_meets (λ past x. MeetsOrder v past x.caller x.number x.event) [] h e ordered

module _ {S C : Type 0} (store : StoreGhosts S) (cipher : CipherGhosts C) where
  module _ (base : State S C) (h : List Entry) (s : State S C) (sound : Sound store cipher base h s) where
    -- a volume of one shape
    whole_at : (g : Geometry) → base.geometry ≡ g → (bytes : List ℕ) → AreSectors (shape g) bytes → AreSectors (volume s) bytes
    whole_at g is bytes whole = subst (λ (k : Geometry). AreSectors (shape k) bytes) (sym (sound.geometry_same ∙ is)) whole

    fits_at : (g : Geometry) → base.geometry ≡ g → (first : ℕ) (bytes : List ℕ) → Fits (shape g) first (sectors_of (shape g) bytes)
        → Fits (volume s) first (sectors_of (volume s) bytes)
    fits_at g is first bytes fits =
        subst (λ (k : Geometry). Fits (shape k) first (sectors_of (shape k) bytes)) (sym (sound.geometry_same ∙ is)) fits

    pub fetch_whole : (g : Geometry) (c : C) (first : ℕ) (out : List ℕ) → MayFetch base g c first out → AreSectors (volume s) out
    fetch_whole g c first out m = whole_at g m.geometry out m.whole

    pub fetch_fits : (g : Geometry) (c : C) (first : ℕ) (out : List ℕ) → MayFetch base g c first out → Fits (volume s) first (sectors_of (volume s) out)
    fetch_fits g c first out m = fits_at g m.geometry first out m.fits

    pub fetch_adds : (g : Geometry) (c : C) (first caller : ℕ) (out new : List ℕ) (answer : Fetch) → MayFetch base g c first out
        → fetch_entries cipher s caller 0 first new answer ≡ fetched cipher c g caller first new answer
    fetch_adds g c first caller out new answer m =
        by_answer answer
        ∙ ap (λ (k : Geometry). fetched cipher s.cipher k caller first new answer) (sound.geometry_same ∙ m.geometry)
        ∙ ap (λ (k : C). fetched cipher k g caller first new answer) (sound.cipher_same ∙ m.cipher)
      where
        by_answer : (answer : Fetch) → fetch_entries cipher s caller 0 first new answer ≡ fetched cipher s.cipher s.geometry caller first new answer
        by_answer fetch.Got = refl
        by_answer fetch.Later = refl
        by_answer (fetch.Failed mark) = refl

    pub ask_whole : (g : Geometry) (w : Prepared) → MayAsk base h g w → AreSectors (volume s) w.bytes.items
    ask_whole g w m = whole_at g m.geometry w.bytes.items m.whole

    pub ask_fits : (g : Geometry) (w : Prepared) → MayAsk base h g w → Fits (volume s) w.first (sectors_of (volume s) w.bytes.items)
    ask_fits g w m = fits_at g m.geometry w.first w.bytes.items m.fits

    pub ask_fresh : (g : Geometry) (w : Prepared) → MayAsk base h g w → All (λ p. ¬ HasName w.caller w.number (write_of p)) s.pending
    ask_fresh g w m = all_unmapped write_of (λ x. ¬ HasName w.caller w.number x) s.pending
        (subst (All (λ x. ¬ HasName w.caller w.number x)) (sym sound.writes)
        (λ k d within named. others_open w.caller h m.fresh k d within named.0))

    pub ask_adds : (g : Geometry) (w : Prepared) (answer : Admit) → MayAsk base h g w
        → admit_entries (volume s) w answer ≡ admit_entries (shape g) w answer
    ask_adds g w answer m = by_answer answer ∙ ap (λ (k : Geometry). admit_entries (shape k) w answer) (sound.geometry_same ∙ m.geometry)
      where
        by_answer : (answer : Admit) → admit_entries (volume s) w answer ≡ admit_entries (shape s.geometry) w answer
        by_answer In = refl
        by_answer (Denied p) = refl
        by_answer (Frozen p) = refl
        by_answer (Later p) = refl

  -- what the turn of an admission tells of the history before it
  judges_at : (base : State S C) (past : List Entry) (w : Prepared) (answer : Admit)
      → IsOrdered (volume base) (past ++ admit_entries (shape base.geometry) w answer)
      → Judges (volume base) past w.first (sectors_of (shape base.geometry) w.bytes.items) answer
  judges_at base past w In ordered = let m = ordered_last (volume base) past _ ordered in (m.not_frozen, m.unprotected)
  judges_at base past w (Denied p) ordered = let m = ordered_last (volume base) past _ ordered in (m.0, m.2)
  judges_at base past w (Frozen p) ordered = (ordered_last (volume base) past _ ordered).0
  judges_at base past w (Later p) ordered = tt

  pub was_asked : (v u : View (State S C) Entry) (g : Geometry) (c : C) (w : Prepared) (answer : Admit) (es past : List Entry)
      → u.base ≡ v.base → StartsWith past v.seen → u.seen ≡ past ++ es → es ≡ admit_entries (shape g) w answer
      → Began g c v → StandsFor store cipher u → WasAsked v u w.first (sectors_of (shape g) w.bytes.items) answer
  was_asked v u g c w answer es past same before seen is began stands =
      let based : v.base ≡ Some stands.base = sym same ∙ stands.is in
      let shaped : stands.base.geometry ≡ g = (began_base g c v stands.base based began).0 in
      let ordered : IsOrdered (volume stands.base) (past ++ admit_entries (shape g) w answer)
      = subst (IsOrdered (volume stands.base)) (seen ∙ ap (λ l. past ++ l) is) stands.sound.ordered in
      record {
        base = stands.base;
        is = based;
        past = past;
        before = before;
        after = (es, seen);
        judged = subst (λ (k : Geometry). Judges (volume stands.base) past w.first (sectors_of (shape k) w.bytes.items) answer) shaped
            (judges_at stands.base past w answer
            (subst (λ (k : Geometry). IsOrdered (volume stands.base) (past ++ admit_entries (shape k) w answer)) (sym shaped) ordered));
      }
