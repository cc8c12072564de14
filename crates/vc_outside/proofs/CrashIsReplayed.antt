-- A record that is replayed call by call.
use Rattle.std.proofs.Common.{◌≡◌, ℕ, zero, suc, ◌+◌, ◌≤◌, ◌<◌, List, [], ◌∷◌, ◌++◌, length, take, drop, get_or, refl, sym, ◌∙◌, ap, subst, arith}
use Rattle.std.proofs.lemmas.List.{take_all, take_more, take-append-drop, get_or-map, length-map}
use Rattle.vc_outside.specs.Record.{Event, after, read_after, picked, crashed}
use Rattle.vc_outside.specs.Laws.Invariant.{Fits, IsRecord}
use Rattle.vc_outside.specs.Laws.Log.{event_of, events_of}
use Rattle.vc_outside.specs.declared.record.Call.{Call}
use Rattle.vc_outside.proofs.Events.{IsAsLong, read_after-push, crashed-push, crashed-long, IsRecord-prefix, IsRecord-last}

pub record SoFar (p i : ℕ) (es : List Event) (b read image : List ℕ) : Type 0 where
  pub read_is : read ≡ read_after (take i es) b
  pub image_is : image ≡ crashed p (take i es) b b

pub starts : (p : ℕ) (es : List Event) (b read image : List ℕ) → read ≡ b → image ≡ b → SoFar p 0 es b read image
unfolding read_after crashed
starts p es b read image is same = record { read_is = is; image_is = same }

pub ends : (p i : ℕ) (es : List Event) (b read image : List ℕ) → SoFar p i es b read image → length es ≤ i → image ≡ crashed p es b b
ends p i es b read image so le = so.image_is ∙ ap (λ (fs : List Event). crashed p fs b b) (take_all i es le)

module _ (p i : ℕ) (bytes : List ℕ) (calls : List Call) (call : Call) (b read image : List ℕ) (lt : i < length calls) (so : SoFar p i (events_of bytes calls) b read image) where
  abbrev es : List Event
  es = events_of bytes calls

  abbrev e : Event
  e = event_of bytes (get_or calls i call)

  within : i < length es
  within = subst (λ n. i < n) (sym (length-map calls (event_of bytes))) lt

  more : take (i + 1) es ≡ take i es ++ e ∷ []
  more = take_more es i e within ∙ ap (λ (f : Event). take i es ++ f ∷ []) (get_or-map (event_of bytes) calls i call e lt)

  prefix : IsRecord es b → IsRecord (take (i + 1) es) b
  prefix sound = IsRecord-prefix (take (i + 1) es) (drop (i + 1) es) b (subst (λ (fs : List Event). IsRecord fs b) (sym (take-append-drop (i + 1) es)) sound)

  both : IsRecord es b → IsRecord (take i es ++ e ∷ []) b
  both sound = subst (λ (fs : List Event). IsRecord fs b) more (prefix sound)

  pub fits : IsRecord es b → Fits e read
  fits sound = subst (Fits e) (sym so.read_is) (IsRecord-last (take i es) e b (both sound))

  aligned : (q : ℕ) → IsAsLong q b b → q ≡ p → IsRecord (take i es) b → IsAsLong p (read_after (take i es) b) (crashed p (take i es) b b)
  aligned q even same sound = crashed-long p (take i es) b b sound (subst (λ r. IsAsLong r b b) same even)

  as_long : (q : ℕ) → IsAsLong q b b
  as_long zero = tt
  as_long (suc q) = refl

  positive : (q : ℕ) (c d : List ℕ) → 0 < q → IsAsLong q c d → length d ≡ length c
  positive zero c d lt even = absurd (omega arith)
  positive (suc q) c d lt even = even

  pub long : IsRecord es b → 0 < p → length image ≡ length read
  long sound above = ap length so.image_is ∙ positive p (read_after (take i es) b) (crashed p (take i es) b b) above (aligned p (as_long p) refl (IsRecord-prefix (take i es) (e ∷ []) b (both sound))) ∙ ap length (sym so.read_is)

  pub goes_on : (read' image' : List ℕ) → read' ≡ after e read → image' ≡ picked p e read image → SoFar p (i + 1) es b read' image'
  goes_on read' image' is left = record {
    read_is = is ∙ ap (after e) so.read_is ∙ sym (read_after-push (take i es) e b) ∙ ap (λ (fs : List Event). read_after fs b) (sym more);
    image_is = left ∙ ap (λ (l : List ℕ). picked p e l image) so.read_is ∙ ap (picked p e (read_after (take i es) b)) so.image_is
        ∙ sym (crashed-push p (take i es) e b b) ∙ ap (λ (fs : List Event). crashed p fs b b) (sym more);
  }
