-- What a handshake did, part by part.
--
-- `Does f` says what was done of bytes that mean f. If a part was taken and written, and g says of the bytes after it what
-- f says of all, then what is done by g is done by f.
use Rattle.std.proofs.Common.{◌≡◌, ◌<◌, ℕ, ◌+◌, List, [], ◌∷◌, ◌++◌, length, Option, Some, None, IfSome, append_assoc, length-append, refl, sym, ap, ◌∙◌, subst, arith}
use Rattle.std.proofs.lemmas.List.{append-nil}
use Rattle.std.proofs.Math.Seq.{take-append-add}
use Rattle.vc_outside.specs.Told.{Both, Grows, Shrinks}
use Rattle.nbd_hand.specs.Hand.{before, Does, ends, Hand, IsDone, IsPrefix}
use Rattle.nbd_hand.specs.Laws.Onward.{Onward}
use Rattle.nbd_hand.specs.Laws.Taken.{end_of, Stops}
use Rattle.nbd_hand.specs.declared.end.HandEnd.{HandEnd}
use Rattle.nbd_hand.specs.declared.end.HandEnd.TheVariants as end
use Rattle.nbd_hand.specs.declared.end.Refusal.{Refusal}
use Rattle.nbd_hand.specs.declared.input.Stop.{Stop}
use Rattle.nbd_hand.specs.declared.input.Stop.TheVariants.{Ended, Failed}
use Rattle.nbd_hand.proofs.Streams.{grows_none, grows_twice, shrinks_none, shrinks_twice}

-- more was written before
prefix_before : (ws ys xs : List ℕ) → IsPrefix xs ys → IsPrefix (ws ++ xs) (ws ++ ys)
prefix_before ws ys xs is = (
  length ws + is.0,
  omega (arith, is.1, length-append ws ys),
  ap (λ (s : List ℕ). ws ++ s) is.2 ∙ sym (take-append-add ws ys is.0),
)

done_before : (ws : List ℕ) (h : Hand) (xs : List ℕ) (how : HandEnd) (rest : List ℕ) → IsDone h xs how rest → IsDone (before ws h) (ws ++ xs) how rest
done_before ws h xs end.Go rest is = ap (before ws) is
done_before ws h xs end.Aborted rest is = ap (before ws) is
done_before ws h xs end.Cut rest is = ap (before ws) is
done_before ws h xs (end.Refused r) rest is = ap (before ws) is
done_before ws h xs end.ReadFault rest is = (ap (λ (s : List ℕ). ws ++ s) is.0, is.1)
done_before ws h xs end.WriteFault rest is = prefix_before ws h.written xs is
done_before ws h xs end.NoMemory rest is = prefix_before ws h.written xs is

done_on : (f g : List ℕ → Hand) (taken ws : List ℕ) (bytes xs : List ℕ) (how : HandEnd) (rest : List ℕ) → f (taken ++ bytes) ≡ before ws (g bytes)
    → IsDone (g bytes) xs how rest → IsDone (f (taken ++ bytes)) (ws ++ xs) how rest
done_on f g taken ws bytes xs how rest goes is =
    subst (λ (h : Hand). IsDone h (ws ++ xs) how rest) (sym goes) (done_before ws (g bytes) xs how rest is)

whole_on : (f g : List ℕ → Hand) (a b c : Option (List ℕ)) (taken ws xs : List ℕ) (how : HandEnd) → Shrinks a b taken
    → ((bytes : List ℕ) → f (taken ++ bytes) ≡ before ws (g bytes))
    → Both b c (λ bytes rest. IsDone (g bytes) xs how rest) → Both a c (λ bytes rest. IsDone (f bytes) (ws ++ xs) how rest)
whole_on f g None b c taken ws xs how input goes is = tt
whole_on f g (Some a) None c taken ws xs how input goes is = absurd input
whole_on f g (Some a) (Some b) None taken ws xs how input goes is = absurd is
whole_on f g (Some a) (Some b) (Some c) taken ws xs how input goes is =
    subst (λ (bytes : List ℕ). IsDone (f bytes) (ws ++ xs) how c) (sym input) (done_on f g taken ws b xs how c (goes b) is)

module _ (f g : List ℕ → Hand) (a b c h i j : Option (List ℕ)) (first : Onward f g a b h i) where
  pub then_does : (how : HandEnd) → Does g b c i j how → Does f a c h j how
  then_does how does = record {
    taken = first.taken ++ does.taken;
    written = first.written ++ does.written;
    input = shrinks_twice a b c first.taken does.taken first.input does.input;
    output = grows_twice h i j first.written does.written first.output does.output;
    alone = done_on f g first.taken first.written does.taken does.written how [] (first.goes does.taken) does.alone;
    whole = λ known. whole_on f g a b c first.taken first.written does.written how first.input first.goes (does.whole known);
  }

  pub then_onward : (k : List ℕ → Hand) → Onward g k b c i j → Onward f k a c h j
  then_onward k second = record {
    taken = first.taken ++ second.taken;
    written = first.written ++ second.written;
    input = shrinks_twice a b c first.taken second.taken first.input second.input;
    output = grows_twice h i j first.written second.written first.output second.output;
    goes = λ bytes. ap f (append_assoc first.taken second.taken bytes) ∙ first.goes (second.taken ++ bytes)
        ∙ ap (before first.written) (second.goes bytes)
        ∙ ap (λ (ws : List ℕ). record { written = ws; last = (k bytes).last; rest = (k bytes).rest })
        (sym (append_assoc first.written second.written (k bytes).written));
  }

pub onward_none : (f : List ℕ → Hand) (a h : Option (List ℕ)) → Onward f f a a h h
onward_none f a h = record { taken = []; written = []; input = shrinks_none a; output = grows_none h; goes = λ bytes. refl }

-- bytes were taken, and nothing written
pub after_taken : (f g : List ℕ → Hand) (a b h : Option (List ℕ)) (xs : List ℕ) → Shrinks a b xs → ((bytes : List ℕ) → f (xs ++ bytes) ≡ g bytes) → Onward f g a b h h
after_taken f g a b h xs input goes = record { taken = xs; written = []; input = input; output = grows_none h; goes = goes }

-- bytes were written, and nothing taken
pub after_written : (f g : List ℕ → Hand) (a h i : Option (List ℕ)) (ws : List ℕ) → Grows h i ws → ((bytes : List ℕ) → f bytes ≡ before ws (g bytes)) → Onward f g a a h i
after_written f g a h i ws output goes = record { taken = []; written = ws; input = shrinks_none a; output = output; goes = goes }

nothing_after : (xs b : List ℕ) → xs ≡ xs ++ b → b ≡ []
nothing_after xs [] is = refl
nothing_after xs (x ∷ b) is = absurd (omega (arith, ap length is, length-append xs (x ∷ b)))

-- the source stopped
whole_ended : (f : List ℕ → Hand) (a b : Option (List ℕ)) (xs : List ℕ) → f xs ≡ ends end.Cut [] → Shrinks a b xs → IfSome a (λ s. s ≡ xs)
    → Both a b (λ bytes rest. f bytes ≡ ends end.Cut rest)
whole_ended f None b xs is input all = tt
whole_ended f (Some a) None xs is input all = absurd input
whole_ended f (Some a) (Some b) xs is input all =
    ap f all ∙ is ∙ ap (ends end.Cut) (sym (nothing_after xs b (sym all ∙ input)))

pub stops_does : (f : List ℕ → Hand) (n : ℕ) (a b h : Option (List ℕ)) (stop : Stop) → Stops a b n stop
    → ((xs : List ℕ) → length xs < n → f xs ≡ ends end.Cut []) → Does f a b h h (end_of stop)
stops_does f n a b h Ended stops cuts = record {
  taken = stops.bytes;
  written = [];
  input = stops.given;
  output = grows_none h;
  alone = cuts stops.bytes stops.few;
  whole = λ known. whole_ended f a b stops.bytes (cuts stops.bytes stops.few) stops.given (stops.ended refl);
}
stops_does f n a b h Failed stops cuts = record {
  taken = stops.bytes;
  written = [];
  input = stops.given;
  output = grows_none h;
  alone = (
    sym (ap (λ (x : Hand). x.written) (cuts stops.bytes stops.few)),
    ap (λ (x : Hand). x.last) (cuts stops.bytes stops.few),
  );
  whole = λ known. absurd (known refl);
}

-- ends that the outside didn't cause
pub data IsOwn : HandEnd → Type 0 where
  goes : IsOwn end.Go
  aborted : IsOwn end.Aborted
  refused : (r : Refusal) → IsOwn (end.Refused r)

own_done : (how : HandEnd) → IsOwn how → (h : Hand) (ws rest : List ℕ) → h ≡ record { written = ws; last = how; rest = rest } → IsDone h ws how rest
own_done how goes h ws rest is = is
own_done how aborted h ws rest is = is
own_done how (refused r) h ws rest is = is

own_whole : (f : List ℕ → Hand) (a b : Option (List ℕ)) (xs ws : List ℕ) (how : HandEnd) → IsOwn how → Shrinks a b xs
    → ((rest : List ℕ) → f (xs ++ rest) ≡ record { written = ws; last = how; rest = rest }) → Both a b (λ bytes rest. IsDone (f bytes) ws how rest)
own_whole f None b xs ws how own input is = tt
own_whole f (Some a) None xs ws how own input is = absurd input
own_whole f (Some a) (Some b) xs ws how own input is = own_done how own (f a) ws b (ap f input ∙ is b)

pub own_does : (f : List ℕ → Hand) (a b h i : Option (List ℕ)) (xs ws : List ℕ) (how : HandEnd) → IsOwn how → Shrinks a b xs → Grows h i ws
    → ((rest : List ℕ) → f (xs ++ rest) ≡ record { written = ws; last = how; rest = rest }) → Does f a b h i how
own_does f a b h i xs ws how own input output is = record {
  taken = xs;
  written = ws;
  input = input;
  output = output;
  alone = own_done how own (f xs) ws [] (ap f (sym (append-nil xs)) ∙ is []);
  whole = λ known. own_whole f a b xs ws how own input is;
}
