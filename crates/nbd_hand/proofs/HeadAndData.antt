-- What was taken of an option: nothing, its head or a part of it, or its data too.
use Rattle.std.proofs.Common.{◌≡◌, ℕ, ◌==◌, ◌&&◌, nat_lt, Bool, true, false, List, [], ◌++◌, length, Option, IfSome, append_assoc, refl, sym, ap, ◌∙◌, subst}
use Rattle.std.specs.Prelude.{IsNone}
use Rattle.vc_outside.specs.Told.{Shrinks}
use Rattle.nbd_hand.specs.Hand.{Does, followed, Hand}
use Rattle.nbd_hand.specs.Laws.Onward.{Answers, LastOption, NoOption}
use Rattle.nbd_hand.specs.Laws.Sent.{Replied}
use Rattle.nbd_hand.specs.Laws.Taken.{end_of, Stops, Takes}
use Rattle.nbd_hand.specs.Options.{after_head, answered, asked, leads, replies, Step, step, step_by}
use Rattle.nbd_hand.specs.Wire.{field, has_magic}
use Rattle.nbd_hand.specs.declared.asked.Asked.{Asked}
use Rattle.nbd_hand.specs.declared.end.HandEnd.{HandEnd}
use Rattle.nbd_hand.specs.declared.end.HandEnd.TheVariants as end
use Rattle.nbd_hand.specs.declared.end.Refusal.TheVariants.{Magic, Name}
use Rattle.nbd_hand.specs.declared.input.Stop.{Stop}
use Rattle.nbd_hand.proofs.Meant.{after_taken, own_does, refused, stops_does, then_does}
use Rattle.nbd_hand.proofs.OneOption.{ends_by, goes_by, leads-own}
use Rattle.nbd_hand.proofs.Parts.{takes_all, takes_twice}
use Rattle.nbd_hand.proofs.Steps.{after_bad, after_magic, after_magic_few, head_answered, head_cut, head_named, step_none}
use Rattle.nbd_hand.proofs.Streams.{grows_none, shrinks_twice}

-- what bytes mean that begin with an option
abbrev meant : ℕ → Bool → (List ℕ → Hand) → List ℕ → Hand
meant size zeros more bytes = followed (step size zeros bytes) more

pub none_at_once : (a b : Option (List ℕ)) (stop : Stop) (how : HandEnd) → Stops a b 8 stop → how ≡ end_of stop → NoOption a b how
none_at_once a b stop how stops is size zeros held more =
    subst (λ (x : HandEnd). Does (meant size zeros more) a b held held x) (sym is)
    (stops_does (meant size zeros more) 8 a b held stop stops (λ xs few. ap (λ (s : Step). followed s more) (step_none size zeros xs few)))

module _ (a b : Option (List ℕ)) (ms : List ℕ) (input : Shrinks a b ms) (eight : length ms ≡ 8) where
  pub bad_magic : has_magic ms ≡ false → NoOption a b (end.Refused (Magic ms))
  bad_magic magic size zeros held more =
      own_does (meant size zeros more) a b held held ms [] (end.Refused (Magic ms)) (refused (Magic ms)) input (grows_none held)
      (λ rest. ap (λ (s : Step). followed s more) (after_bad size zeros ms eight magic rest))

  pub none_after_magic : (c : Option (List ℕ)) (stop : Stop) (how : HandEnd) → has_magic ms ≡ true → Stops b c 8 stop → how ≡ end_of stop → NoOption a c how
  none_after_magic c stop how magic stops is size zeros held more =
      subst (λ (x : HandEnd). Does (meant size zeros more) a c held held x) (sym is)
      (then_does (meant size zeros more) (λ bytes. meant size zeros more (ms ++ bytes)) a b c held held held
      (after_taken (meant size zeros more) (λ bytes. meant size zeros more (ms ++ bytes)) a b held ms input (λ bytes. refl)) (end_of stop)
      (stops_does (λ bytes. meant size zeros more (ms ++ bytes)) 8 b c held stop stops
      (λ xs few. ap (λ (s : Step). followed s more) (after_magic_few size zeros ms eight magic xs few))))

  pub head_taken : (c : Option (List ℕ)) (number n : ℕ) → has_magic ms ≡ true → Takes b c 8 (λ xs. (field 0 4 xs ≡ number) × (field 4 4 xs ≡ n))
      → Takes a c 16 (λ xs. (size : ℕ) (zeros : Bool) (rest : List ℕ) → step size zeros (xs ++ rest) ≡ after_head size zeros number n rest)
  head_taken c number n magic fields =
      takes_twice a b c 8 8 16 (λ xs. xs ≡ ms) (λ xs. (field 0 4 xs ≡ number) × (field 4 4 xs ≡ n))
      (λ xs. (size : ℕ) (zeros : Bool) (rest : List ℕ) → step size zeros (xs ++ rest) ≡ after_head size zeros number n rest)
      (takes_all a b ms 8 input eight) fields refl
      (λ xs ys as_long more is are size zeros rest.
      after_magic size zeros xs as_long (ap has_magic is ∙ magic) ys more number n are.0 are.1 rest)

module _ (size : ℕ) (zeros : Bool) (a b h : Option (List ℕ)) (number n : ℕ)
    (head : Takes a b 16 (λ xs. (size : ℕ) (zeros : Bool) (rest : List ℕ) → step size zeros (xs ++ rest) ≡ after_head size zeros number n rest)) where
  pub named_ends : ((number == 1) && nat_lt 0 n) ≡ true → LastOption size zeros a b h h (end.Refused (Name n))
  named_ends is more =
      own_does (meant size zeros more) a b h h head.bytes [] (end.Refused (Name n)) (refused (Name n)) head.given (grows_none h)
      (λ rest. ap (λ (s : Step). followed s more) (head.holds size zeros rest ∙ head_named size zeros number n is rest))

  module _ (c : Option (List ℕ)) (other : ((number == 1) && nat_lt 0 n) ≡ false) where
    pub cut_ends : (stop : Stop) (how : HandEnd) → Stops b c n stop → how ≡ end_of stop → LastOption size zeros a c h h how
    cut_ends stop how stops is more =
        subst (λ (x : HandEnd). Does (meant size zeros more) a c h h x) (sym is)
        (then_does (meant size zeros more) (λ bytes. meant size zeros more (head.bytes ++ bytes)) a b c h h h
        (after_taken (meant size zeros more) (λ bytes. meant size zeros more (head.bytes ++ bytes)) a b h head.bytes head.given (λ bytes. refl)) (end_of stop)
        (stops_does (λ bytes. meant size zeros more (head.bytes ++ bytes)) n b c h stop stops
        (λ xs few. ap (λ (s : Step). followed s more) (head.holds size zeros xs ∙ head_cut size zeros number n other xs few))))

    module _ (what : Asked) (taken : Takes b c n (λ xs. asked number xs ≡ what)) (i : Option (List ℕ)) (how : Option HandEnd)
        (replied : Replied h i (replies size zeros number what) (leads number what) how) where
      steps : (rest : List ℕ) → step size zeros ((head.bytes ++ taken.bytes) ++ rest) ≡ step_by (replies size zeros number what) (leads number what) rest
      steps rest =
          ap (step size zeros) (append_assoc head.bytes taken.bytes rest)
          ∙ head.holds size zeros (taken.bytes ++ rest)
          ∙ head_answered size zeros number n other taken.bytes rest taken.size
          ∙ ap (λ (w : Asked). answered size zeros number w rest) taken.holds

      both : Shrinks a c (head.bytes ++ taken.bytes)
      both = shrinks_twice a b c head.bytes taken.bytes head.given taken.given

      pub option_goes : IsNone how → Answers size zeros a c h i
      option_goes is = goes_by size zeros a c h i (head.bytes ++ taken.bytes) (replies size zeros number what) both (leads number what) how steps replied is

      pub option_ends : IfSome how (λ how. LastOption size zeros a c h i how)
      option_ends = ends_by size zeros a c h i (head.bytes ++ taken.bytes) (replies size zeros number what) both (leads number what) how
          (leads-own number what) steps replied
