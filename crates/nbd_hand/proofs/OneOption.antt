-- What one option did: the next one follows, or the handshake ended.
use Rattle.std.proofs.Common.{◌≡◌, ℕ, suc, ◌==◌, Bool, true, false, List, [], ◌++◌, length, take, Option, Some, None, IfSome, if◌then◌else◌, inl, inr, length-append, refl, sym, ap, ◌∙◌, subst, arith}
use Rattle.std.specs.Prelude.{is_some, IsNone}
use Rattle.std.proofs.lemmas.Bool.{false≢true}
use Rattle.std.proofs.lemmas.List.{append-nil, take-append-le}
use Rattle.vc_outside.specs.Told.{Both, Shrinks}
use Rattle.nbd_hand.specs.Hand.{Does, ends, followed, Hand, IsPrefix, options}
use Rattle.nbd_hand.specs.Laws.Onward.{Answers, LastOption, Onward}
use Rattle.nbd_hand.specs.Laws.Sent.{GrowsInPart, Replied, SinkStops}
use Rattle.nbd_hand.specs.Options.{go, leads, step, step_by, Step}
use Rattle.nbd_hand.specs.declared.asked.Asked.{Asked}
use Rattle.nbd_hand.specs.declared.asked.Asked.TheVariants as asks
use Rattle.nbd_hand.specs.declared.end.HandEnd.{HandEnd}
use Rattle.nbd_hand.specs.declared.end.HandEnd.TheVariants as end
use Rattle.nbd_hand.specs.declared.end.Refusal.TheVariants.{TooMany}
use Rattle.nbd_hand.proofs.Meant.{aborted, goes, IsOwn, own_does, refused}
use Rattle.nbd_hand.proofs.Streams.{grows_none, shrinks_none}

end_in : Option HandEnd → HandEnd
end_in None = end.Go
end_in (Some how) = how

pub some_is : (x y : HandEnd) → Some x ≡ Some y → x ≡ y
unfolding end_in
some_is x y e = ap end_in e

prefix_whole : (a b : Option (List ℕ)) (xs : List ℕ) → Shrinks a b xs → (P : List ℕ → Type 0) → ((rest : List ℕ) → P (xs ++ rest)) → Both a b (λ bytes rest. P bytes)
prefix_whole None b xs input P holds = tt
prefix_whole (Some a) None xs input P holds = absurd input
prefix_whole (Some a) (Some b) xs input P holds = subst P (sym input) (holds b)

-- the sink stopped inside a reply
module _ (f : List ℕ → Hand) (a b h i : Option (List ℕ)) (xs reply : List ℕ) (tail : List ℕ → List ℕ) (input : Shrinks a b xs) (part : GrowsInPart h i reply)
    (is : (rest : List ℕ) → (f (xs ++ rest)).written ≡ reply ++ tail rest) where
  prefix : (rest : List ℕ) → IsPrefix (take part.0 reply) (f (xs ++ rest)).written
  prefix rest = (
    part.0,
    omega (arith, part.1, ap length (is rest), length-append reply (tail rest)),
    sym (take-append-le part.0 reply (tail rest) (omega (arith, part.1))) ∙ ap (take part.0) (sym (is rest)),
  )

  prefix_alone : IsPrefix (take part.0 reply) (f xs).written
  prefix_alone = subst (λ (ys : List ℕ). IsPrefix (take part.0 reply) (f ys).written) (append-nil xs) (prefix [])

  pub write_fault_does : Does f a b h i end.WriteFault
  write_fault_does = record {
    taken = xs;
    written = take part.0 reply;
    input = input;
    output = part.2;
    alone = prefix_alone;
    whole = λ known. prefix_whole a b xs input (λ bytes. IsPrefix (take part.0 reply) (f bytes).written) prefix;
  }

  pub no_memory_does : Does f a b h i end.NoMemory
  no_memory_does = record {
    taken = xs;
    written = take part.0 reply;
    input = input;
    output = part.2;
    alone = prefix_alone;
    whole = λ known. prefix_whole a b xs input (λ bytes. IsPrefix (take part.0 reply) (f bytes).written) prefix;
  }

  pub part_does : (how : HandEnd) → SinkStops (Some how) → Does f a b h i how
  part_does how (inl e) = subst (λ (x : HandEnd). Does f a b h i x) (sym (some_is how end.WriteFault e)) write_fault_does
  part_does how (inr e) = subst (λ (x : HandEnd). Does f a b h i x) (sym (some_is how end.NoMemory e)) no_memory_does

pub no_some : {A : Type 0} (x : A) → None ≡ Some x → ⊥
no_some x e = false≢true (ap is_some e)

pub none_stops : SinkStops None → ⊥
none_stops (inl e) = no_some end.WriteFault e
none_stops (inr e) = no_some end.NoMemory e

go-own : (what : Asked) → IfSome (go what) IsOwn
go-own asks.Default = goes
go-own asks.Named = tt
go-own asks.Malformed = tt

-- what holds of both holds of the one that a test picks
of_both : {X : Type 0} (P : X → Type 0) (b : Bool) (x y : X) → P x → P y → P (if b then x else y)
of_both P true x y of_x of_y = of_x
of_both P false x y of_x of_y = of_y

pub leads-own : (number : ℕ) (what : Asked) → IfSome (leads number what) IsOwn
leads-own number what =
    let info : Option HandEnd = if number == 7 then go what else None in
    let left : Option HandEnd = if number == 2 then Some end.Aborted else info in
    of_both (λ (o : Option HandEnd). IfSome o IsOwn) (number == 1) (Some end.Go) left goes
    (of_both (λ (o : Option HandEnd). IfSome o IsOwn) (number == 2) (Some end.Aborted) info aborted
    (of_both (λ (o : Option HandEnd). IfSome o IsOwn) (number == 7) (go what) None (go-own what) tt))

module _ (size : ℕ) (zeros : Bool) (a b h i : Option (List ℕ)) (xs reply : List ℕ) (input : Shrinks a b xs) where
  pub goes_by : (meant how : Option HandEnd) → ((rest : List ℕ) → step size zeros (xs ++ rest) ≡ step_by reply meant rest)
      → Replied h i reply meant how → IsNone how → Answers size zeros a b h i
  goes_by None None steps (inl whole) is = record { taken = xs; written = reply; input = input; output = whole.0; steps = steps }
  goes_by (Some how) None steps (inl whole) is = absurd (no_some how whole.1)
  goes_by meant None steps (inr part) is = absurd (none_stops part.1)
  goes_by meant (Some how) steps replied is = absurd (false≢true (sym is))

  pub ends_by : (meant how : Option HandEnd) → IfSome meant IsOwn → ((rest : List ℕ) → step size zeros (xs ++ rest) ≡ step_by reply meant rest)
      → Replied h i reply meant how → IfSome how (λ how. LastOption size zeros a b h i how)
  ends_by meant None own steps replied = tt
  ends_by None (Some how) own steps (inl whole) = absurd (no_some how (sym whole.1))
  ends_by None (Some how) own steps (inr part) = λ more.
      part_does (λ bytes. followed (step size zeros bytes) more) a b h i xs reply (λ rest. (more rest).written) input part.0
      (λ rest. ap (λ (s : Step). (followed s more).written) (steps rest)) how part.1
  ends_by (Some meant) (Some how) own steps (inl whole) = λ more.
      subst (λ (x : HandEnd). Does (λ bytes. followed (step size zeros bytes) more) a b h i x) (sym (some_is how meant whole.1))
      (own_does (λ bytes. followed (step size zeros bytes) more) a b h i xs reply meant own input whole.0
      (λ rest. ap (λ (s : Step). followed s more) (steps rest)))
  ends_by (Some meant) (Some how) own steps (inr part) = λ more.
      part_does (λ bytes. followed (step size zeros bytes) more) a b h i xs reply (λ rest. []) input part.0
      (λ rest. ap (λ (s : Step). (followed s more).written) (steps rest) ∙ sym (append-nil reply)) how part.1

-- the options so far, and one more
module _ (size : ℕ) (zeros : Bool) (n : ℕ) (a b h i : Option (List ℕ)) where
  pub one_more : Answers size zeros a b h i → Onward (options size zeros (suc n)) (options size zeros n) a b h i
  unfolding options
  one_more one = record {
    taken = one.taken;
    written = one.written;
    input = one.input;
    output = one.output;
    goes = λ bytes. ap (λ (s : Step). followed s (options size zeros n)) (one.steps bytes);
  }

  pub last_one : (how : HandEnd) → LastOption size zeros a b h i how → Does (options size zeros (suc n)) a b h i how
  unfolding options
  last_one how last =
      let does : Does (λ bytes. followed (step size zeros bytes) (options size zeros n)) a b h i how = last (options size zeros n) in record {
        taken = does.taken;
        written = does.written;
        input = does.input;
        output = does.output;
        alone = does.alone;
        whole = does.whole;
      }

too_many : (size : ℕ) (zeros : Bool) (bytes : List ℕ) → options size zeros 0 bytes ≡ ends (end.Refused TooMany) bytes
unfolding options
too_many size zeros bytes = refl

pub no_more : (size : ℕ) (zeros : Bool) (a h : Option (List ℕ)) → Does (options size zeros 0) a a h h (end.Refused TooMany)
no_more size zeros a h = own_does (options size zeros 0) a a h h [] [] (end.Refused TooMany) (refused TooMany) (shrinks_none a) (grows_none h) (too_many size zeros)
