-- A fetch, got or failed. No open write overlaps the sectors, so the array has in them what the image deciphers to.
use Rattle.std.proofs.Common.{◌≡◌, ◌≤◌, ◌<◌, ℕ, ◌+◌, ◌*◌, ◌/◌, ◌^◌, List, [], ◌∷◌, ◌++◌, Some, get_or, length, refl, sym, ap, subst, ◌∙◌, arith}
use Rattle.std.specs.List.{All}
use Rattle.range_base.specs.Range.{IsInRange, Overlap}
use Rattle.vc_base.specs.Bytes.{IsBytes}
use Rattle.vc_outside.specs.Crash.{IsLasting}
use Rattle.vc_outside.specs.declared.store.Store.{Ghosts as StoreGhosts}
use Rattle.cipher_base.specs.declared.unit.UnitCipher.{Ghosts as CipherGhosts}
use Rattle.sector_model.specs.Array.{AreSectors, Fits, Holds, sectors_of, unit, units_of, Volume}
use Rattle.sector_model.specs.History.{after, open_writes}
use Rattle.sector_model.specs.Legal.{IsServed}
use Rattle.sector_model.specs.Plain.{entry}
use Rattle.sector_model.specs.declared.entry.Entry.{Entry}
use Rattle.sector_model.specs.declared.entry.Event.TheVariants.{Read}
use Rattle.sector_model.proofs.OneMore.{is_flushed-push}
use Rattle.io_core.specs.Fetches.{data_of}
use Rattle.io_core.specs.State.{State, write_of}
use Rattle.io_core.specs.Sound.{Contents, marks_pending, plain, Sound, volume}
use Rattle.io_core.proofs.Apart.{units_apart, units_of_sectors}
use Rattle.io_core.proofs.Elements.{all_mapped}
use Rattle.io_core.proofs.OneMoreMark.{marks_quiet}
use Rattle.io_core.proofs.QuietStep.{sound_quiet}
use Rattle.io_core.proofs.SealedUnits.{length-sealed, piece-sealed}

module _ {S C : Type 0} (store : StoreGhosts S) (cipher : CipherGhosts C) (base : State S C) (h : List Entry) (s : State S C)
    (sound : Sound store cipher base h s) (first : ℕ) (out : List ℕ) (whole : AreSectors (volume base) out)
    (fits : Fits (volume base) first (sectors_of (volume base) out))
    (free : All (λ p. ¬ Overlap first (sectors_of (volume base) out) p.first (sectors_of (volume base) p.bytes.items)) s.pending)
    (bytes : IsBytes (512 * units_of out) out)
    (within : base.geometry.start / 512 + base.geometry.sector / 512 * first + units_of out ≤ 2 ^ 55)
    (is_unit : (n : ℕ) (u : List ℕ) → n < 2 ^ 64 → IsBytes 512 u → IsBytes 512 (cipher.deciphered base.cipher n u))
    (undone : (n : ℕ) (u : List ℕ) → n < 2 ^ 64 → IsBytes 512 u → cipher.enciphered base.cipher n (cipher.deciphered base.cipher n u) ≡ u) where
  abbrev v : Volume
  v = volume base

  abbrev at : ℕ
  at = base.geometry.start / 512 + v.per_sector * first

  abbrev told : List ℕ
  told = data_of cipher base first out

  long : length told ≡ length out
  long = length-sealed (cipher.deciphered base.cipher) (cipher.enciphered base.cipher) at (units_of out) within out bytes is_unit undone

  told_unit : (k : ℕ) → k < units_of out → unit k told ≡ cipher.deciphered base.cipher (at + k) (unit k out)
  told_unit k below = piece-sealed (cipher.deciphered base.cipher) (cipher.enciphered base.cipher) at (units_of out) within out bytes is_unit undone k below

  free_open : All (λ w. ¬ Overlap first (sectors_of v out) w.first (sectors_of v w.bytes)) (open_writes h)
  free_open = subst (All (λ w. ¬ Overlap first (sectors_of v out) w.first (sectors_of v w.bytes))) sound.writes
      (all_mapped write_of (λ w. ¬ Overlap first (sectors_of v out) w.first (sectors_of v w.bytes)) s.pending free)

  same_sectors : sectors_of v out ≡ sectors_of v told
  same_sectors = ap (λ (n : ℕ). n / 512 / v.per_sector) (sym long)

  served : IsServed v h first told
  served = record {
    whole = subst (λ (n : ℕ). n ≡ 512 * (v.per_sector * (n / 512 / v.per_sector))) (sym long) whole;
    fits = subst (λ (n : ℕ). Fits v first n) same_sectors fits;
    free = subst (λ (n : ℕ). All (λ w. ¬ Overlap first n w.first (sectors_of v w.bytes)) (open_writes h)) same_sectors free_open;
  }

  holds : (old new : List ℕ) → ((k : ℕ) → k < units_of out → unit k out ≡ unit (at + k) new) → Contents store cipher base h s old new
      → Holds v first told (after v (plain store cipher base.cipher base.geometry old) h)
  holds old new got c k inside =
      let below : k < units_of out = omega (arith, inside, ap (λ (n : ℕ). n / 512) long) in
      let place : at + k ≡ base.geometry.start / 512 + (v.per_sector * first + k) = omega arith in
      sym (c.clear (v.per_sector * first + k) (λ i d less here.
      units_apart v.per_sector first (sectors_of v out) (get_or (open_writes h) i d).first (sectors_of v (get_or (open_writes h) i d).bytes) (v.per_sector * first + k)
      (free_open i d less)
      (record { from = omega arith; below = omega (arith, units_of_sectors v out whole, below) })
      (subst (λ (n : ℕ). IsInRange (v.per_sector * (get_or (open_writes h) i d).first) n (v.per_sector * first + k))
      (units_of_sectors v (get_or (open_writes h) i d).bytes (sound.placed i d less).whole) here)))
      ∙ ap (λ (n : ℕ). cipher.deciphered base.cipher n (unit n new)) (sym place)
      ∙ ap (cipher.deciphered base.cipher (at + k)) (sym (got k below)) ∙ sym (told_unit k below)

  pub sound_read : (caller number : ℕ) (disk : S) → store.size disk ≡ store.size s.disk → store.image disk ≡ store.image s.disk
      → store.faults s.disk ≤ store.faults disk
      → ((new : List ℕ) → store.image s.disk ≡ Some new → (k : ℕ) → k < units_of out → unit k out ≡ unit (at + k) new)
      → (IsLasting store.tells (store.image s.disk) (store.may_leave s.disk) → IsLasting store.tells (store.image disk) (store.may_leave disk))
      → Sound store cipher base (h ++ entry caller number (Read first told) ∷ []) (record s { disk = disk })
  sound_read caller number disk size image later got lasting =
      sound_quiet store cipher base h s (record s { disk = disk }) caller number (Read first told)
      (record { open_same = λ _. refl; array_same = λ _. refl })
      (record { cipher = refl; geometry = refl; range = refl; capacity = refl }) refl refl size image served
      (λ old new is c. holds old new (got new is) c)
      later
      (marks_quiet (store.faults base.disk) (store.faults s.disk) (store.faults disk) h (entry caller number (Read first told)) (marks_pending s.pending)
      refl later sound.marks)
      (λ flushed none. lasting (sound.lasting (sym (is_flushed-push h (entry caller number (Read first told))) ∙ flushed) none)) sound
