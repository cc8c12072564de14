-- A handshake from its parts: the greeting, the flags, and then one option after another.
use Rattle.std.proofs.Common.{◌≡◌, ◌≤◌, ◌<◌, ℕ, ◌+◌, nat_lt, Bool, List, [], ◌++◌, length, drop, Option, Some, None, IfSome, add-one, inl, inr, length-append, refl, sym, ap, ◌∙◌, subst, arith}
use Rattle.std.specs.Prelude.{IsNone}
use Rattle.std.proofs.lemmas.Bool.{false≢true, le-ltb, lt-ltb}
use Rattle.std.proofs.lemmas.List.{drop_at}
use Rattle.byteorder.specs.Endian.{big_number}
use Rattle.vc_base.specs.Faults.{HasCause}
use Rattle.vc_outside.specs.Told.{Shrinks}
use Rattle.nbd_hand.specs.Hand.{after_flags, after_greeting, Does, ends, Hand, hand, options}
use Rattle.nbd_hand.specs.Laws.Onward.{Answers, LastOption, Onward}
use Rattle.nbd_hand.specs.Laws.Sent.{Replied}
use Rattle.nbd_hand.specs.Laws.Taken.{end_of, Stops}
use Rattle.nbd_hand.specs.Wire.{field, greeting}
use Rattle.nbd_hand.specs.declared.end.HandEnd.{HandEnd}
use Rattle.nbd_hand.specs.declared.end.HandEnd.TheVariants as end
use Rattle.nbd_hand.specs.declared.end.Refusal.TheVariants.{Flags, TooMany}
use Rattle.nbd_hand.specs.declared.input.Stop.{Stop}
use Rattle.nbd_hand.proofs.Meant.{after_taken, after_written, own_does, refused, stops_does, then_does, then_onward}
use Rattle.nbd_hand.proofs.OneOption.{last_one, no_more, no_some, none_stops, one_more, part_does, some_is}
use Rattle.nbd_hand.proofs.Parts.{field-append}
use Rattle.nbd_hand.proofs.Steps.{if_false, if_true}
use Rattle.nbd_hand.proofs.Streams.{grows_none, shrinks_none}

pub none_by : {A : Type 0} (o : Option A) → ((x : A) → o ≡ Some x → ⊥) → IsNone o
none_by None not_some = refl
none_by (Some x) not_some = absurd (not_some x refl)

-- what holds of a value if there is one
pub of_some : {A : Type 0} (P : A → Type 0) (o : Option A) (x : A) → o ≡ Some x → IfSome o P → P x
of_some P o x is holds = subst (λ (p : Option _). IfSome p P) is holds

-- nothing was written, so that the sink didn't fail
pub quiet : (faults : ℕ) (how : HandEnd) → ¬ (how ≡ end.WriteFault) → HasCause faults faults (Some how ≡ Some end.WriteFault)
quiet faults how not = record { later = omega arith; rose = λ is. absurd (not (some_is how end.WriteFault is)) }

-- options were answered, and n more may follow
module _ (f : List ℕ → Hand) (size : ℕ) (zeros : Bool) (n : ℕ) (a b h i : Option (List ℕ)) (did : Onward f (options size zeros n) a b h i) where
  pub all_more : (c j : Option (List ℕ)) (m : ℕ) → n ≡ m + 1 → Answers size zeros b c i j → Onward f (options size zeros m) a c h j
  all_more c j m is one =
      then_onward f (options size zeros n) a b c h i j did (options size zeros m)
      (subst (λ (k : ℕ). Onward (options size zeros k) (options size zeros m) b c i j) (sym (is ∙ add-one m)) (one_more size zeros m b c i j one))

  pub all_last : (c j : Option (List ℕ)) (how : HandEnd) (m : ℕ) → n ≡ m + 1 → LastOption size zeros b c i j how → Does f a c h j how
  all_last c j how m is last =
      then_does f (options size zeros n) a b c h i j did how
      (subst (λ (k : ℕ). Does (options size zeros k) b c i j how) (sym (is ∙ add-one m)) (last_one size zeros m b c i j how last))

  pub all_out : n ≡ 0 → Does f a b h i (end.Refused TooMany)
  all_out is =
      then_does f (options size zeros n) a b b h i i did (end.Refused TooMany)
      (subst (λ (k : ℕ). Does (options size zeros k) b b i i (end.Refused TooMany)) (sym is) (no_more size zeros b i))

-- the flags
module _ (size : ℕ) (a b h : Option (List ℕ)) where
  pub no_flags : (stop : Stop) (how : HandEnd) → Stops a b 4 stop → how ≡ end_of stop → Does (after_greeting size) a b h h how
  no_flags stop how stops is =
      subst (λ (x : HandEnd). Does (after_greeting size) a b h h x) (sym is)
      (stops_does (after_greeting size) 4 a b h stop stops
      (λ xs few. if_true (nat_lt (length xs) 4) (ends end.Cut []) (after_flags size (field 0 4 xs) (drop 4 xs)) (lt-ltb (length xs) 4 few)))

  module _ (xs : List ℕ) (input : Shrinks a b xs) (four : length xs ≡ 4) (flags : ℕ) (is : flags ≡ big_number 4 xs) where
    known : (rest : List ℕ) → after_greeting size (xs ++ rest) ≡ after_flags size flags rest
    known rest =
        if_false (nat_lt (length (xs ++ rest)) 4) (ends end.Cut []) (after_flags size (field 0 4 (xs ++ rest)) (drop 4 (xs ++ rest)))
        (le-ltb (length (xs ++ rest)) 4 (omega (arith, four, length-append xs rest)))
        ∙ ap (λ (k : ℕ). after_flags size k (drop 4 (xs ++ rest))) (field-append 0 4 xs rest (omega (arith, four)) ∙ sym is)
        ∙ ap (λ (ys : List ℕ). after_flags size flags ys) (drop_at xs rest 4 four)

    pub bad_flags : 3 < flags → Does (after_greeting size) a b h h (end.Refused (Flags flags))
    bad_flags above =
        own_does (after_greeting size) a b h h xs [] (end.Refused (Flags flags)) (refused (Flags flags)) input (grows_none h)
        (λ rest. known rest ∙ if_true (nat_lt 3 flags) (ends (end.Refused (Flags flags)) rest) (options size (nat_lt flags 2) 1024 rest) (lt-ltb 3 flags above))

    pub good_flags : flags ≤ 3 → (c i : Option (List ℕ)) (how : HandEnd) → Does (options size (nat_lt flags 2) 1024) b c h i how
        → Does (after_greeting size) a c h i how
    good_flags within c i how does =
        then_does (after_greeting size) (options size (nat_lt flags 2) 1024) a b c h h i
        (after_taken (after_greeting size) (options size (nat_lt flags 2) 1024) a b h xs input
        (λ rest. known rest
        ∙ if_false (nat_lt 3 flags) (ends (end.Refused (Flags flags)) rest) (options size (nat_lt flags 2) 1024 rest) (le-ltb 3 flags within)))
        how does

-- the greeting
pub greeting_fails : (size : ℕ) (a h i : Option (List ℕ)) (how : Option HandEnd) → Replied h i greeting None how → IfSome how (λ how. Does (hand size) a a h i how)
greeting_fails size a h i None replied = tt
greeting_fails size a h i (Some how) (inl whole) = absurd (no_some how (sym whole.1))
greeting_fails size a h i (Some how) (inr part) =
    part_does (hand size) a a h i [] greeting (λ rest. (after_greeting size rest).written) (shrinks_none a) part.0 (λ rest. refl) how part.1

pub greeting_done : (size : ℕ) (a c h i j : Option (List ℕ)) (sent : Option HandEnd) → Replied h i greeting None sent → IsNone sent
    → (how : HandEnd) → Does (after_greeting size) a c i j how → Does (hand size) a c h j how
greeting_done size a c h i j (Some end) replied is how does = absurd (false≢true (sym is))
greeting_done size a c h i j None (inr part) is how does = absurd (none_stops part.1)
greeting_done size a c h i j None (inl whole) is how does =
    then_does (hand size) (after_greeting size) a a c h i j
    (after_written (hand size) (after_greeting size) a h i greeting whole.0 (λ bytes. refl)) how does
