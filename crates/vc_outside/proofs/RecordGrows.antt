-- A record keeps what it holds when it grows.
use Rattle.std.proofs.Common.{◌≡◌, ℕ, suc, ◌+◌, ◌-◌, ◌≤◌, List, [], ◌∷◌, ◌++◌, length, take, drop, refl, ◌∙◌, ap, arith, length-drop}
use Rattle.std.specs.Prelude.{slice_range}
use Rattle.std.specs.List.{All}
use Rattle.std.proofs.lemmas.List.{drop_at, take-append-le, drop-append-le, take_all}
use Rattle.vc_outside.specs.Record.{Event, Wrote, Lost}
use Rattle.vc_outside.specs.Laws.Log.{Log, added, event_of, events_of, EndsBy}
use Rattle.vc_outside.specs.declared.record.Call.{Call}
use Rattle.vc_outside.specs.declared.record.Call.TheVariants.{Write, Loss, Length, Sync}

module _ (bytes xs : List ℕ) where
  range_stays : (from len : ℕ) → from + len ≤ length bytes → slice_range (bytes ++ xs) from (from + len) ≡ slice_range bytes from (from + len)
  range_stays from len le =
      ap (λ (l : List ℕ). take (from + len - from) l) (drop-append-le from bytes xs (omega arith))
      ∙ take-append-le (from + len - from) (drop from bytes) xs (grind (arith, length-drop from bytes))

  range_added : slice_range (bytes ++ xs) (length bytes) (length bytes + length xs) ≡ xs
  range_added =
      ap (λ (l : List ℕ). take (length bytes + length xs - length bytes) l) (drop_at bytes xs (length bytes) refl)
      ∙ take_all (length bytes + length xs - length bytes) xs (omega arith)

  event_stays : (call : Call) → EndsBy (length bytes) call → event_of (bytes ++ xs) call ≡ event_of bytes call
  event_stays (Write at from len) ends = ap (Wrote at) (range_stays from len ends)
  event_stays (Loss at from len) ends = ap (Lost at) (range_stays from len ends)
  event_stays (Length len) ends = refl
  event_stays Sync ends = refl

  pub events-write : (at : ℕ) (calls : List Call) → All (EndsBy (length bytes)) calls
      → events_of (bytes ++ xs) (calls ++ Write at (length bytes) (length xs) ∷ []) ≡ events_of bytes calls ++ Wrote at xs ∷ []
  events-write at [] all = ap (λ (l : List ℕ). Wrote at l ∷ []) range_added
  events-write at (call ∷ calls) all =
      ap (λ (e : Event). e ∷ events_of (bytes ++ xs) (calls ++ Write at (length bytes) (length xs) ∷ [])) (event_stays call (all 0 call (omega arith)))
      ∙ ap (λ (es : List Event). event_of bytes call ∷ es) (events-write at calls (λ k d lt. all (suc k) d (omega arith)))

  pub events-loss : (at : ℕ) (calls : List Call) → All (EndsBy (length bytes)) calls
      → events_of (bytes ++ xs) (calls ++ Loss at (length bytes) (length xs) ∷ []) ≡ events_of bytes calls ++ Lost at xs ∷ []
  events-loss at [] all = ap (λ (l : List ℕ). Lost at l ∷ []) range_added
  events-loss at (call ∷ calls) all =
      ap (λ (e : Event). e ∷ events_of (bytes ++ xs) (calls ++ Loss at (length bytes) (length xs) ∷ [])) (event_stays call (all 0 call (omega arith)))
      ∙ ap (λ (es : List Event). event_of bytes call ∷ es) (events-loss at calls (λ k d lt. all (suc k) d (omega arith)))

pub log-added : (es fs : List Event) (places left room n : ℕ) (e : Event) (log : Log) → record { events = es; places = places; room = room } ≡ log
    → fs ≡ es ++ e ∷ [] → left ≡ places - 1 → record { events = fs; places = left; room = room - n } ≡ added e n log
log-added es fs places left room n e log is more less =
    ap (λ (l : List Event). record { events = l; places = left; room = room - n }) more
    ∙ ap (λ p. record { events = es ++ e ∷ []; places = p; room = room - n }) less
    ∙ ap (added e n) is
