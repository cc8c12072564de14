-- What a call of the volume leaves, as the events of a request.
use Rattle.std.proofs.Common.{◌≡◌, ℕ, ◌*◌, ◌/◌, true, false, List, [], ◌∷◌, ◌++◌, length, Result, Ok, Err, inl, inr, refl, sym, ap, ◌∙◌, subst, arith}
use Rattle.std.proofs.lemmas.List.{map-append}
use Rattle.vc_layout.specs.Layout.{IsSectorSize}
use Rattle.sector_model.specs.Array.{sectors_of, Volume}
use Rattle.io_queue.specs.Calls.{IsFlushResult, IsReadResult, WriteAdds, flush_entries, read_entries}
use Rattle.io_queue.specs.declared.error.IoError.{IoError}
use Rattle.io_queue.specs.declared.error.IoError.TheVariants as error
use Rattle.sector_model.specs.declared.entry.Entry.{Entry}
use Rattle.sector_model.specs.declared.entry.Event.TheVariants as event
use Rattle.nbd_wire.specs.Replies.{FlushLeaves, IsStored, ReadLeaves, WriteLeaves}
use Rattle.nbd_wire.specs.declared.reply.Outcome.{Outcome}
use Rattle.nbd_wire.specs.declared.reply.Outcome.TheVariants as outcome
use Rattle.sector_model.specs.declared.entry.Event.{Event}
use Rattle.nbd_session.specs.Session.{events_of}
use Rattle.nbd_session.specs.Outcomes.{data_of, read_outcome, write_outcome}

pub read_leaves : {A : Type 0} (v : Volume) (sector caller first count : ℕ) (out : List ℕ) (r : Result A IoError) → IsReadResult r
    → sectors_of v out ≡ count → length out ≡ sector * count
    → ReadLeaves sector first count (read_outcome r) (events_of (read_entries v caller first out r)) (data_of (read_outcome r) out)
read_leaves v sector caller first count out (Ok done) known size whole = (refl, whole)
read_leaves v sector caller first count out (Err error.Range) known size whole = (ap (λ (n : ℕ). event.Beyond first n ∷ []) size, refl)
read_leaves v sector caller first count out (Err (error.Fault mark)) known size whole = ((mark, ap (λ (n : ℕ). event.Fail first n mark ∷ []) size), refl)
read_leaves v sector caller first count out (Err error.Denied) known size whole = absurd known
read_leaves v sector caller first count out (Err error.Frozen) known size whole = absurd known
read_leaves v sector caller first count out (Err error.NoMemory) known size whole = absurd known

pub flush_leaves : {A : Type 0} (caller : ℕ) (r : Result A IoError) → IsFlushResult r → FlushLeaves (read_outcome r) (events_of (flush_entries caller r))
flush_leaves caller (Ok done) known = refl
flush_leaves caller (Err (error.Fault mark)) known = (mark, refl)
flush_leaves caller (Err error.Range) known = absurd known
flush_leaves caller (Err error.Denied) known = absurd known
flush_leaves caller (Err error.Frozen) known = absurd known
flush_leaves caller (Err error.NoMemory) known = absurd known

-- bytes of whole sectors, counted by data units
pub count_of : (s n len : ℕ) → IsSectorSize s → len ≡ s * n → len / 512 / (s / 512) ≡ n
count_of s n len (inl e) whole = subst (λ (m : ℕ). len ≡ m * n → len / 512 / (m / 512) ≡ n) (sym e) (λ w. omega (arith, w)) whole
count_of s n len (inr (inl e)) whole = subst (λ (m : ℕ). len ≡ m * n → len / 512 / (m / 512) ≡ n) (sym e) (λ w. omega (arith, w)) whole
count_of s n len (inr (inr (inl e))) whole = subst (λ (m : ℕ). len ≡ m * n → len / 512 / (m / 512) ≡ n) (sym e) (λ w. omega (arith, w)) whole
count_of s n len (inr (inr (inr e))) whole = subst (λ (m : ℕ). len ≡ m * n → len / 512 / (m / 512) ≡ n) (sym e) (λ w. omega (arith, w)) whole

pub whole_sectors : (s n len : ℕ) → IsSectorSize s → len ≡ s * n → len ≡ 512 * (s / 512 * (len / 512 / (s / 512)))
whole_sectors s n len (inl e) whole = subst (λ (m : ℕ). len ≡ m * n → len ≡ 512 * (m / 512 * (len / 512 / (m / 512)))) (sym e) (λ w. omega (arith, w)) whole
whole_sectors s n len (inr (inl e)) whole = subst (λ (m : ℕ). len ≡ m * n → len ≡ 512 * (m / 512 * (len / 512 / (m / 512)))) (sym e) (λ w. omega (arith, w)) whole
whole_sectors s n len (inr (inr (inl e))) whole = subst (λ (m : ℕ). len ≡ m * n → len ≡ 512 * (m / 512 * (len / 512 / (m / 512)))) (sym e) (λ w. omega (arith, w)) whole
whole_sectors s n len (inr (inr (inr e))) whole = subst (λ (m : ℕ). len ≡ m * n → len ≡ 512 * (m / 512 * (len / 512 / (m / 512)))) (sym e) (λ w. omega (arith, w)) whole

pub write_leaves : {A : Type 0} (v : Volume) (caller first count : ℕ) (bytes : List ℕ) (r : Result A IoError) (es : List Entry)
    → WriteAdds v caller first bytes r es → sectors_of v bytes ≡ count
    → WriteLeaves first count false bytes (write_outcome r) (events_of es)
write_leaves v caller first count bytes (Ok done) es adds size =
    ([], ap events_of adds ∙ ap (λ (n : ℕ). event.Put first bytes ∷ event.Done first n ∷ []) size, refl)
write_leaves v caller first count bytes (Err error.Range) es adds size = ap events_of adds ∙ ap (λ (n : ℕ). event.Beyond first n ∷ []) size
write_leaves v caller first count bytes (Err error.Denied) es adds size = ap events_of adds ∙ ap (λ (n : ℕ). event.Deny first n ∷ []) size
write_leaves v caller first count bytes (Err error.Frozen) es adds size = ap events_of adds ∙ ap (λ (n : ℕ). event.Shut first n ∷ []) size
write_leaves v caller first count bytes (Err (error.Fault mark)) es adds size = inl (adds.0, (adds.1, mark) ∷ adds.2, ap events_of adds.3)
write_leaves v caller first count bytes (Err error.NoMemory) es adds size = ap events_of adds

-- a write that wasn't done leaves the same with a flush as without
pub unstored_leaves : (first count : ℕ) (bytes : List ℕ) (o : Outcome) (es : List Event) → ¬ (o ≡ outcome.Done)
    → WriteLeaves first count false bytes o es → WriteLeaves first count true bytes o es
unstored_leaves first count bytes outcome.Done es not_done leaves = absurd (not_done refl)
unstored_leaves first count bytes outcome.Fault es not_done (inl lost) = inl lost
unstored_leaves first count bytes outcome.Fault es not_done (inr stored) = absurd stored.2
unstored_leaves first count bytes outcome.WriteBeyond es not_done leaves = leaves
unstored_leaves first count bytes outcome.Denied es not_done leaves = leaves
unstored_leaves first count bytes outcome.Frozen es not_done leaves = leaves
unstored_leaves first count bytes outcome.NoMemory es not_done leaves = leaves
unstored_leaves first count bytes outcome.Malformed es not_done leaves = absurd leaves
unstored_leaves first count bytes outcome.ReadBeyond es not_done leaves = absurd leaves

-- a write and its flush
stored_then : (first count : ℕ) (bytes : List ℕ) (o : Outcome) (es fs : List Entry) → IsStored first count false bytes outcome.Done (events_of es)
    → FlushLeaves o (events_of fs) → IsStored first count true bytes o (events_of (es ++ fs))
stored_then first count bytes o es fs stored flushed = (
  events_of fs,
  map-append (λ e. e.event) es fs ∙ ap (λ (p : List Event). p ++ events_of fs) stored.1
      ∙ ap (λ (p : List Event). event.Put first bytes ∷ event.Done first count ∷ (p ++ events_of fs)) stored.2,
  flushed,
)

pub flushed_leaves : (first count : ℕ) (bytes : List ℕ) (o : Outcome) (es fs : List Entry) → WriteLeaves first count false bytes outcome.Done (events_of es)
    → FlushLeaves o (events_of fs) → WriteLeaves first count true bytes o (events_of (es ++ fs))
flushed_leaves first count bytes outcome.Done es fs stored flushed = stored_then first count bytes outcome.Done es fs stored flushed
flushed_leaves first count bytes outcome.Fault es fs stored flushed = inr (stored_then first count bytes outcome.Fault es fs stored flushed)
flushed_leaves first count bytes outcome.WriteBeyond es fs stored flushed = absurd flushed
flushed_leaves first count bytes outcome.Denied es fs stored flushed = absurd flushed
flushed_leaves first count bytes outcome.Frozen es fs stored flushed = absurd flushed
flushed_leaves first count bytes outcome.NoMemory es fs stored flushed = absurd flushed
flushed_leaves first count bytes outcome.Malformed es fs stored flushed = absurd flushed
flushed_leaves first count bytes outcome.ReadBeyond es fs stored flushed = absurd flushed
