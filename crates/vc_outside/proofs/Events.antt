-- One event more, at the end of a record.
use Rattle.std.proofs.Common.{◌≡◌, ℕ, ◌+◌, ◌≤◌, zero, suc, List, [], ◌∷◌, ◌++◌, length, replicate, refl, sym, ◌∙◌, subst, inl, arith}
use Rattle.std.proofs.lemmas.List.{length-replicate}
use Rattle.vc_outside.specs.Told.{written, SameOutside}
use Rattle.vc_outside.specs.Crash.{Relength}
use Rattle.vc_outside.specs.Record.{Event, relengthed, Wrote, Lost, Resized, Synced, after, read_after, Left, Outcome, torn, picked, crashed}
use Rattle.vc_outside.specs.Laws.Invariant.{Fits, IsRecord}
use Rattle.vc_outside.proofs.Writes.{outside-same, written-outside, resized-outcome, length-resized}

pub read_after-push : (es : List Event) (e : Event) (b : List ℕ) → read_after (es ++ e ∷ []) b ≡ after e (read_after es b)
unfolding read_after
read_after-push [] e b = refl
read_after-push (f ∷ es) e b = read_after-push es e (after f b)

pub Outcome-pushed : (es : List Event) (e : Event) (b : List ℕ) (P : List ℕ → Type 0) (c : List ℕ) → Outcome (es ++ e ∷ []) b P c → Left e (read_after es b) (Outcome es b P) c
unfolding read_after Outcome
Outcome-pushed [] e b P c out = out
Outcome-pushed (f ∷ es) e b P c out = Outcome-pushed es e (after f b) (Left f b P) c out

pub Outcome-push : (es : List Event) (e : Event) (b : List ℕ) (P : List ℕ → Type 0) (c : List ℕ) → Left e (read_after es b) (Outcome es b P) c → Outcome (es ++ e ∷ []) b P c
unfolding read_after Outcome
Outcome-push [] e b P c out = out
Outcome-push (f ∷ es) e b P c out = Outcome-push es e (after f b) (Left f b P) c out

pub IsRecord-push : (es : List Event) (e : Event) (b : List ℕ) → IsRecord es b → Fits e (read_after es b) → IsRecord (es ++ e ∷ []) b
unfolding read_after IsRecord
IsRecord-push [] e b sound fits = (fits, tt)
IsRecord-push (f ∷ es) e b sound fits = (sound.0, IsRecord-push es e (after f b) sound.1 fits)

pub crashed-push : (p : ℕ) (es : List Event) (e : Event) (b c : List ℕ) → crashed p (es ++ e ∷ []) b c ≡ picked p e (read_after es b) (crashed p es b c)
unfolding read_after crashed
crashed-push p [] e b c = refl
crashed-push p (f ∷ es) e b c = crashed-push p es e (after f b) (picked p f b c)

-- with the picks 1 and 2 an outcome is as long as what a read gives
abbrev pub IsAsLong : ℕ → List ℕ → List ℕ → Type 0
IsAsLong zero b c = Unit {0}
IsAsLong (suc p) b c = length c ≡ length b

torn-left : (p at : ℕ) (xs b : List ℕ) (P : List ℕ → Type 0) (c : List ℕ) → P c → at + length xs ≤ length b → IsAsLong p b c → (d : List ℕ) × P d × SameOutside at (length xs) d (torn p at xs c)
torn-left zero at xs b P c here fits long = (c, here, outside-same at (length xs) c)
torn-left (suc zero) at xs b P c here fits long = (c, here, written-outside at xs c (omega arith))
torn-left (suc (suc p)) at xs b P c here fits long =
    let filled = replicate (length xs) 165 in
    let count : length filled ≡ length xs = length-replicate (length xs) 165 in
    (c, here, subst (λ n. SameOutside at n c (written at filled c)) count (written-outside at filled c (omega arith)))

relengthed-left : (p n : ℕ) (P : List ℕ → Type 0) (c : List ℕ) → P c → (d : List ℕ) × P d × Relength n d (relengthed p n c)
relengthed-left zero n P c here = (c, here, inl refl)
relengthed-left (suc p) n P c here = (c, here, resized-outcome n c)

picked-left : (p : ℕ) (e : Event) (b : List ℕ) (P : List ℕ → Type 0) (c : List ℕ) → P c → Fits e b → IsAsLong p b c → Left e b P (picked p e b c)
picked-left p (Wrote at xs) b P c here fits long = torn-left p at xs b P c here fits long
picked-left p (Lost at xs) b P c here fits long = torn-left p at xs b P c here fits long
picked-left p (Resized n) b P c here fits long = relengthed-left p n P c here
picked-left p Synced b P c here fits long = refl

torn-long : (p at : ℕ) (xs b c : List ℕ) → at + length xs ≤ length b → length c ≡ length b → length (torn p at xs c) ≡ length b
torn-long zero at xs b c fits long = long
torn-long (suc zero) at xs b c fits long = (written-outside at xs c (omega arith)).as_long ∙ long
torn-long (suc (suc p)) at xs b c fits long =
    let filled = replicate (length xs) 165 in
    let count : length filled ≡ length xs = length-replicate (length xs) 165 in
    (written-outside at filled c (omega arith)).as_long ∙ long

pub picked-long : (p : ℕ) (e : Event) (b c : List ℕ) → Fits e b → IsAsLong p b c → IsAsLong p (after e b) (picked p e b c)
picked-long zero e b c fits long = tt
picked-long (suc p) (Wrote at xs) b c fits long = torn-long (suc p) at xs b c fits long ∙ sym (written-outside at xs b fits).as_long
picked-long (suc p) (Lost at xs) b c fits long = torn-long (suc p) at xs b c fits long
picked-long (suc p) (Resized n) b c fits long = length-resized n c ∙ sym (length-resized n b)
picked-long (suc p) Synced b c fits long = refl

-- what a pick takes is an outcome
pub Outcome-crashed : (p : ℕ) (es : List Event) (b : List ℕ) (P : List ℕ → Type 0) (c : List ℕ) → P c → IsRecord es b → IsAsLong p b c → Outcome es b P (crashed p es b c)
unfolding Outcome IsRecord crashed
Outcome-crashed p [] b P c here sound long = here
Outcome-crashed p (e ∷ es) b P c here sound long =
    Outcome-crashed p es (after e b) (Left e b P) (picked p e b c) (picked-left p e b P c here sound.0 long) sound.1 (picked-long p e b c sound.0 long)

pub crashed-long : (p : ℕ) (es : List Event) (b c : List ℕ) → IsRecord es b → IsAsLong p b c → IsAsLong p (read_after es b) (crashed p es b c)
unfolding read_after IsRecord crashed
crashed-long p [] b c sound long = long
crashed-long p (e ∷ es) b c sound long = crashed-long p es (after e b) (picked p e b c) sound.1 (picked-long p e b c sound.0 long)

pub IsRecord-prefix : (es fs : List Event) (b : List ℕ) → IsRecord (es ++ fs) b → IsRecord es b
unfolding IsRecord
IsRecord-prefix [] fs b sound = tt
IsRecord-prefix (e ∷ es) fs b sound = (sound.0, IsRecord-prefix es fs (after e b) sound.1)

pub IsRecord-last : (es : List Event) (e : Event) (b : List ℕ) → IsRecord (es ++ e ∷ []) b → Fits e (read_after es b)
unfolding IsRecord read_after
IsRecord-last [] e b sound = sound.0
IsRecord-last (f ∷ es) e b sound = IsRecord-last es e (after f b) sound.1
