-- The status of the clients' ends is no fault of the container or of the output, also if the output failed.
use Rattle.std.proofs.Common.{◌≡◌, ◌⊎◌, inl, inr, ℕ, ◌+◌, List, [], ◌∷◌, refl, sym, ◌∙◌}
use Rattle.nbd_hand.specs.declared.end.HandEnd.{HandEnd}
use Rattle.nbd_hand.specs.declared.end.HandEnd.TheVariants as hand_end
use Rattle.nbd_wire.specs.declared.end.End.{End}
use Rattle.nbd_wire.specs.declared.end.End.TheVariants as end
use Rattle.vc_app.specs.declared.status.Status.{Status}
use Rattle.vc_app.specs.declared.status.Status.TheVariants.{Done, Usage, NoHeader, NoHidden, Length, BadSize, DiskFault, OutFault, NoMemory, ClientCut, ClientMagic, ClientFault, ClientHand}
use Rattle.vc_app.specs.Serve.{end_status, ends_status, EndsBy, or_later}

abbrev IsNoFault : Status → Type 0
IsNoFault s = (s ≡ DiskFault → ⊥) × (s ≡ OutFault → ⊥)

session_no_fault : (i : ℕ) (how : End) → IsNoFault (end_status i hand_end.Go how)
session_no_fault i end.Done = (λ e. cc e, λ e. cc e)
session_no_fault i end.Cut = (λ e. cc e, λ e. cc e)
session_no_fault i (end.BadMagic magic) = (λ e. cc e, λ e. cc e)
session_no_fault i end.ReadFault = (λ e. cc e, λ e. cc e)
session_no_fault i end.WriteFault = (λ e. cc e, λ e. cc e)
session_no_fault i end.NoMemory = (λ e. cc e, λ e. cc e)

end_no_fault : (i : ℕ) (g : HandEnd) (how : End) → IsNoFault (end_status i g how)
end_no_fault i hand_end.Go how = session_no_fault i how
end_no_fault i hand_end.Aborted how = (λ e. cc e, λ e. cc e)
end_no_fault i hand_end.Cut how = (λ e. cc e, λ e. cc e)
end_no_fault i (hand_end.Refused refusal) how = (λ e. cc e, λ e. cc e)
end_no_fault i hand_end.ReadFault how = (λ e. cc e, λ e. cc e)
end_no_fault i hand_end.WriteFault how = (λ e. cc e, λ e. cc e)
end_no_fault i hand_end.NoMemory how = (λ e. cc e, λ e. cc e)

-- it is one of the two
one_of : (t s : Status) → ((t ≡ Done) × (or_later t s ≡ s)) ⊎ (or_later t s ≡ t)
one_of Done s = inl (refl, refl)
one_of Usage s = inr refl
one_of NoHeader s = inr refl
one_of NoHidden s = inr refl
one_of (Length n) s = inr refl
one_of BadSize s = inr refl
one_of DiskFault s = inr refl
one_of OutFault s = inr refl
one_of NoMemory s = inr refl
one_of (ClientCut client) s = inr refl
one_of (ClientMagic client magic) s = inr refl
one_of (ClientFault client) s = inr refl
one_of (ClientHand client refusal) s = inr refl

later_no_fault : (t s : Status) → IsNoFault t → IsNoFault s → IsNoFault (or_later t s)
later_no_fault t s first rest = elim (one_of t s) [
  | inl (done, same) ↦ (λ e. rest.0 (sym same ∙ e), λ e. rest.1 (sym same ∙ e))
  | inr same ↦ (λ e. first.0 (sym same ∙ e), λ e. first.1 (sym same ∙ e))
]

no_fault : (i : ℕ) (gs : List HandEnd) (hows : List End) → IsNoFault (ends_status i gs hows)
no_fault i [] hows = (λ e. cc e, λ e. cc e)
no_fault i (g ∷ gs) [] = (λ e. cc e, λ e. cc e)
no_fault i (g ∷ gs) (how ∷ hows) =
    later_no_fault (end_status i g how) (ends_status (i + 1) gs hows) (end_no_fault i g how) (no_fault (i + 1) gs hows)

pub no_disk_fault : (i : ℕ) (gs : List HandEnd) (hows : List End) → ends_status i gs hows ≡ DiskFault → ⊥
no_disk_fault i gs hows = (no_fault i gs hows).0

pub no_out_fault : (i : ℕ) (gs : List HandEnd) (hows : List End) → ends_status i gs hows ≡ OutFault → ⊥
no_out_fault i gs hows = (no_fault i gs hows).1

-- the status after a fault of the output: that of the ends, or OutFault if they were all Done
pub or_out_is : (t s : Status) → s ≡ or_later t OutFault → (t ≡ DiskFault → ⊥) → s ≡ DiskFault → ⊥
or_out_is t s is other e = elim (one_of t OutFault) [
  | inl (done, out) ↦ cc (sym e ∙ is ∙ out)
  | inr same ↦ other (sym same ∙ sym is ∙ e)
]

pub or_out_ends : (t s : Status) → s ≡ or_later t OutFault → EndsBy t s
or_out_ends t s is = elim (one_of t OutFault) [
  | inl (done, out) ↦ inr (inr (inr (done, is ∙ out)))
  | inr same ↦ inr (inr (inl (is ∙ same)))
]

-- it isn't Done
pub or_out_not_done : (t s : Status) → s ≡ or_later t OutFault → s ≡ Done → ⊥
or_out_not_done t s is e = elim (one_of t OutFault) [
  | inl (done, out) ↦ cc (sym e ∙ is ∙ out)
  | inr same ↦ by_done t same (sym same ∙ sym is ∙ e)
]
  where
    by_done : (t : Status) → or_later t OutFault ≡ t → t ≡ Done → ⊥
    by_done Done same d = cc same
    by_done Usage same d = cc d
    by_done NoHeader same d = cc d
    by_done NoHidden same d = cc d
    by_done (Length n) same d = cc d
    by_done BadSize same d = cc d
    by_done DiskFault same d = cc d
    by_done OutFault same d = cc d
    by_done NoMemory same d = cc d
    by_done (ClientCut client) same d = cc d
    by_done (ClientMagic client magic) same d = cc d
    by_done (ClientFault client) same d = cc d
    by_done (ClientHand client refusal) same d = cc d
