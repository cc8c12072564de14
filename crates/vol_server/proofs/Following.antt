-- What follows a handshake, and what failed in both together.
use Rattle.std.proofs.Common.{◌≡◌, ℕ, List, [], ◌⊎◌, inl, inr, Option, refl, arith}
use Rattle.vc_base.specs.Faults.{HasCause, Rose}
use Rattle.nbd_hand.specs.declared.end.HandEnd.{HandEnd}
use Rattle.nbd_hand.specs.declared.end.HandEnd.TheVariants as hand
use Rattle.nbd_wire.specs.declared.end.End.TheVariants as end
use Rattle.vol_server.specs.Served.{Follows, IsSentAway}

pub both_causes : (a b c : ℕ) (P Q : Type 0) → HasCause a b P → HasCause b c Q → HasCause a c (P ⊎ Q)
both_causes a b c P Q first more = record { later = omega (arith, first.later, more.later); rose = rises }
  where
    rises : P ⊎ Q → Rose a c
    rises (inl failed) = let rose : Rose a b = first.rose failed in omega (arith, more.later, rose)
    rises (inr failed) = let rose : Rose b c = more.rose failed in omega (arith, first.later, rose)

sent_away : (left held : Option (List ℕ)) → IsSentAway left left held held [] 0 end.Done
sent_away left held = record { source = refl; sink = refl; no_entry = refl; no_reply = refl; ended = refl }

pub none_follows : (how : HandEnd) (sector : ℕ) (left held : Option (List ℕ)) → (how ≡ hand.Go → ⊥) → Follows how sector left left held held [] 0 end.Done
none_follows hand.Go sector left held isnt = absurd (isnt refl)
none_follows hand.Aborted sector left held isnt = sent_away left held
none_follows hand.Cut sector left held isnt = sent_away left held
none_follows (hand.Refused why) sector left held isnt = sent_away left held
none_follows hand.ReadFault sector left held isnt = sent_away left held
none_follows hand.WriteFault sector left held isnt = sent_away left held
none_follows hand.NoMemory sector left held isnt = sent_away left held
