-- What follows of a served call: when a volume is opened, and what comes without a fault.
--
-- A call that opened no volume has a cause, and each cause but being out of memory contradicts valid headers or the
-- counts of faults. A served client that sends a whole handshake, or whole requests, ends with the last of them, unless
-- its source or sink fails. So the status of the ends is Done, and a fault after that would have been counted.
use Rattle.std.proofs.Common.{◌≡◌, ◌≢◌, ◌<◌, ◌⊎◌, inl, inr, ℕ, zero, suc, ◌+◌, ◌*◌, ◌-◌, ◌^◌, Bool, true, false, cond, List, [], ◌∷◌, Option, Some, None, refl, sym, ap, ◌∙◌, subst, arith}
use Rattle.std.specs.Prelude.{◌↔◌, IfSome, IsSome, IsSomeAnd, is_some, length, MatchOption, slice_index_or}
use Rattle.std.specs.List.{All, Contains}
use Rattle.std.proofs.lemmas.Bool.Decides.{eqb_tells}
use Rattle.vc_base.specs.Faults.{Rose}
use Rattle.vc_layout.specs.Layout.{IsContainerLength}
use Rattle.vc_layout.specs.declared.geometry.Geometry.{Geometry}
use Rattle.vc_header.specs.Volume.{IsVolume}
use Rattle.vc_header.specs.declared.fields.Fields.{Fields}
use Rattle.vc_outside.specs.declared.source.Client.{Client}
use Rattle.vc_outside.specs.declared.store.Store.{Ghosts as StoreGhosts}
use Rattle.vc_outside.specs.declared.source.Source.{Ghosts as SourceGhosts}
use Rattle.vc_outside.specs.declared.sink.Sink.{Ghosts as SinkGhosts}
use Rattle.cipher_base.specs.declared.unit.UnitCipher.{Ghosts as CipherGhosts}
use Rattle.header_seal.specs.declared.opened.Opened.{Opened}
use Rattle.hist_lock.specs.declared.view.View.{View}
use Rattle.hist_lock.specs.History.{entries}
use Rattle.sector_model.specs.declared.entry.Entry.{Entry}
use Rattle.sector_model.specs.declared.entry.Event.{Event}
use Rattle.io_core.specs.State.{State}
use Rattle.io_core.proofs.Elements.{all_from_elements, at_element}
use Rattle.io_queue.specs.Pass.{caller_of}
use Rattle.nbd_hand.specs.Hand.{Hand, hand, Shakes}
use Rattle.nbd_hand.specs.declared.end.HandEnd.{HandEnd}
use Rattle.nbd_hand.specs.declared.end.HandEnd.TheVariants as hand_end
use Rattle.nbd_wire.specs.Frames.{Frame, frames}
use Rattle.nbd_wire.specs.Replies.{AnsweredOf}
use Rattle.nbd_wire.specs.declared.end.End.{End}
use Rattle.nbd_wire.specs.declared.end.End.TheVariants as end
use Rattle.nbd_session.specs.Session.{events_of, Serves}
use Rattle.vc_app.specs.declared.access.Access.{Access}
use Rattle.vc_app.specs.declared.serve.asked.Asked.{Asked}
use Rattle.vc_app.specs.declared.status.Status.{Status}
use Rattle.vc_app.specs.declared.status.Status.TheVariants.{Done, Usage, NoHeader, NoHidden, Length, BadSize, DiskFault, OutFault, NoMemory, ClientCut, ClientMagic, ClientFault, ClientHand}
use Rattle.vc_app.specs.Access.{opened}
use Rattle.vol_server.specs.Served.{AreGreeted, Follows, IsGreeted}
use Rattle.vc_app.specs.Serve.{AllServed, AreQuiet, AreRequests, AreWhole, Call, end_status, ends_status, export_of, IsComplete, IsOpening, IsQuiet, IsWholeHand, IsWholeInput, Kept, Opens, or_later, Protects, Refuses, Served, session_status}

-- ---- whose the entries are

not_nil : {x : Entry} {h : List Entry} → x ∷ h ≡ [] → ⊥
not_nil e = cc

later : (x : Entry) (h : List Entry) (e : Entry) (k : ℕ) → k < suc (length h) → slice_index_or (x ∷ h) k e ≡ e → x.caller ≢ e.caller
    → (Contains h e → ⊥) → ⊥
later x h e zero within is other rest = other (ap (λ (y : Entry). y.caller) is)
later x h e (suc k) within is other rest = rest (k, omega (arith, within), is)

-- an entry is among those of its caller
own_entry : (h : List Entry) (e : Entry) → Contains h e → entries caller_of e.caller h ≡ [] → ⊥
own_entry [] e c none = absurd (omega (arith, c.1))
own_entry (x ∷ h) e c none = elim (eqb_tells x.caller e.caller) [
  | inl (t, same) ↦
      let here : cond true (x ∷ entries caller_of e.caller h) (entries caller_of e.caller h) ≡ []
      = subst (λ (b : Bool). cond b (x ∷ entries caller_of e.caller h) (entries caller_of e.caller h) ≡ []) t none in
      not_nil here
  | inr (f, other) ↦
      let rest : cond false (x ∷ entries caller_of e.caller h) (entries caller_of e.caller h) ≡ []
      = subst (λ (b : Bool). cond b (x ∷ entries caller_of e.caller h) (entries caller_of e.caller h) ≡ []) f none in
      later x h e c.0 c.1 c.2 other (λ d. own_entry h e d rest)
]

-- Each entry is under one of the callers, if it is under the pass's own number or under one that was joined into it.
pub whose : (callers gained : List ℕ) (number : ℕ) (h : List Entry) → entries caller_of number h ≡ []
    → All (λ n. Contains callers n ⊎ (entries caller_of n h ≡ [])) gained → All (λ e. Contains (number ∷ gained) e.caller) h
    → All (λ e. Contains callers e.caller) h
whose callers gained number h none idle all =
    all_from_elements (λ (e : Entry). Contains callers e.caller) h
    (λ e c. found e c (at_element (λ (e : Entry). Contains (number ∷ gained) e.caller) h e all c))
  where
    found : (e : Entry) → Contains h e → Contains (number ∷ gained) e.caller → Contains callers e.caller
    found e c (zero, within, is) = absurd (own_entry h e c (subst (λ (n : ℕ). entries caller_of n h ≡ []) is none))
    found e c (suc k, within, is) =
        elim (at_element (λ (n : ℕ). Contains callers n ⊎ (entries caller_of n h ≡ [])) gained e.caller idle (k, omega (arith, within), is)) [
          | inl there ↦ there
          | inr nothing ↦ absurd (own_entry h e c nothing)
        ]

-- ---- causes against valid headers

no_rise : (before now : ℕ) → before < 2 ^ 64 - 1 → now ≡ before → Rose before now → ⊥
no_rise before now small same rose = omega (arith, small, same, rose)

none_of_some : {A : Type 0} (x : Option A) → is_some x ≡ true → x ≡ None → ⊥
none_of_some None some none = cc some
none_of_some (Some a) some none = cc none

protected_opens : (b : List ℕ) (p : Option Access) → IfSome p (λ p. IsSome (opened p b)) → IsSomeAnd p (λ p. opened p b ≡ None) → ⊥
protected_opens b None opens none = none
protected_opens b (Some p) opens none = none_of_some (opened p b) opens none

not_refused : (a : Asked) (b : List ℕ) (size before now : ℕ) (s : Status) → IsContainerLength size → Opens a b → IsQuiet before now
    → s ≢ NoMemory → Refuses a (Some b) size before now s → ⊥
not_refused a b size before now Done in_range opens quiet memory r = r
not_refused a b size before now Usage in_range opens quiet memory r = r
not_refused a b size before now NoHeader in_range opens quiet memory r = none_of_some (opened a.access b) opens.0 r.1
not_refused a b size before now NoHidden in_range opens quiet memory r = protected_opens b a.protect opens.1 r.1.1
not_refused a b size before now (Length n) in_range opens quiet memory r = r.1 (subst IsContainerLength (sym r.0) in_range)
not_refused a b size before now BadSize in_range opens quiet memory r = r
not_refused a b size before now DiskFault in_range opens quiet memory r = no_rise before now quiet.0 quiet.1 r.1
not_refused a b size before now OutFault in_range opens quiet memory r = r
not_refused a b size before now NoMemory in_range opens quiet memory r = memory refl
not_refused a b size before now (ClientCut client) in_range opens quiet memory r = r
not_refused a b size before now (ClientMagic client magic) in_range opens quiet memory r = r
not_refused a b size before now (ClientFault client) in_range opens quiet memory r = r
not_refused a b size before now (ClientHand client refusal) in_range opens quiet memory r = r

-- ---- how a client ends

end_is : (sector : ℕ) (fs : List Frame) (last how : End) (es : List Event) (n : ℕ) (bytes : List ℕ)
    → AnsweredOf sector fs last es n bytes how
    → (how ≡ last) ⊎ (how ≡ end.ReadFault) ⊎ (how ≡ end.WriteFault) ⊎ (how ≡ end.NoMemory)
end_is sector [] last how es n bytes over = elim over.cause [
  | inl is ↦ inl is
  | inr is ↦ inr (inl is)
]
end_is sector (f ∷ fs) last how es n bytes (inl more) = end_is sector fs last how more.later more.count more.replies more.others
end_is sector (f ∷ fs) last how es n bytes (inr stops) = elim stops.cause [
  | inl is ↦ inr (inr (inl is))
  | inr is ↦ inr (inr (inr is))
]

whole_end : (sector : ℕ) (left later held now : Option (List ℕ)) (es : List Event) (n : ℕ) (how : End)
    → Serves sector left later held now es n how → MatchOption left ⊥ AreRequests
    → (how ≡ end.ReadFault → ⊥) → (how ≡ end.WriteFault → ⊥) → (how ≡ end.Done) ⊎ (how ≡ end.NoMemory)
whole_end sector None later held now es n how s whole read write = absurd whole
whole_end sector (Some bytes) later held now es n how s whole read write =
    elim (end_is sector (frames bytes).requests (frames bytes).last how es n s.written (s.whole read)) [
      | inl is ↦ inl (is ∙ whole)
      | inr (inl is) ↦ absurd (read is)
      | inr (inr (inl is)) ↦ absurd (write is)
      | inr (inr (inr is)) ↦ inr is
    ]

abbrev EndsWell : Status → Type 0
EndsWell s = (s ≡ Done) ⊎ (s ≡ NoMemory)

session_well : (i : ℕ) (how : End) → (how ≡ end.Done) ⊎ (how ≡ end.NoMemory) → EndsWell (end_status i hand_end.Go how)
session_well i how (inl e) = inl (ap (session_status i) e)
session_well i how (inr e) = inr (ap (session_status i) e)

later_well : (t s : Status) → EndsWell t → EndsWell s → EndsWell (or_later t s)
later_well t s (inl e) others = subst (λ (x : Status). EndsWell (or_later x s)) (sym e) others
later_well t s (inr e) others = inr (ap (λ (x : Status). or_later x s) e)

-- a handshake that ended so, of bytes that are whole
hand_is_whole : (h : Hand) (written : List ℕ) (g : HandEnd) (rest : List ℕ) → h ≡ record { written = written; last = g; rest = rest }
    → IsWholeHand h → (g ≡ hand_end.Aborted) ⊎ ((g ≡ hand_end.Go) × AreRequests rest)
hand_is_whole h written g rest is whole = subst IsWholeHand is whole

module _ (i size sector : ℕ) (later held held_later now : Option (List ℕ)) (es : List Entry) (n : ℕ) (how : End) where
  -- a client with a handshake
  hand_well : (left rest : Option (List ℕ)) (g : HandEnd) → Shakes size left rest held held_later g
      → Follows g sector rest later held_later now es n how → MatchOption left ⊥ (λ bytes. IsWholeHand (hand size bytes))
      → ((g ≡ hand_end.ReadFault) ⊎ (how ≡ end.ReadFault) → ⊥) → ((g ≡ hand_end.WriteFault) ⊎ (how ≡ end.WriteFault) → ⊥)
      → EndsWell (end_status i g how)
  hand_well None rest g shook f whole read write = absurd whole
  hand_well (Some bytes) rest hand_end.Aborted shook f whole read write = inl refl
  hand_well (Some bytes) rest hand_end.ReadFault shook f whole read write = absurd (read (inl refl))
  hand_well (Some bytes) rest hand_end.WriteFault shook f whole read write = absurd (write (inl refl))
  hand_well (Some bytes) rest hand_end.NoMemory shook f whole read write = inr refl
  hand_well (Some bytes) None hand_end.Go shook f whole read write = absurd (shook.whole (λ e. cc e))
  hand_well (Some bytes) (Some rest) hand_end.Go shook f whole read write =
      elim (hand_is_whole (hand size bytes) shook.written hand_end.Go rest (shook.whole (λ e. cc e)) whole) [
        | inl aborted ↦ cc aborted
        | inr goes ↦ session_well i how (whole_end sector (Some rest) later held_later now (events_of es) n how f goes.1
            (λ e. read (inr e)) (λ e. write (inr e)))
      ]
  hand_well (Some bytes) None hand_end.Cut shook f whole read write = absurd (shook.whole (λ e. cc e))
  hand_well (Some bytes) (Some rest) hand_end.Cut shook f whole read write =
      elim (hand_is_whole (hand size bytes) shook.written hand_end.Cut rest (shook.whole (λ e. cc e)) whole) [
        | inl aborted ↦ cc aborted
        | inr goes ↦ cc goes.0
      ]
  hand_well (Some bytes) None (hand_end.Refused refusal) shook f whole read write = absurd (shook.whole (λ e. cc e))
  hand_well (Some bytes) (Some rest) (hand_end.Refused refusal) shook f whole read write =
      elim (hand_is_whole (hand size bytes) shook.written (hand_end.Refused refusal) rest (shook.whole (λ e. cc e)) whole) [
        | inl aborted ↦ cc aborted
        | inr goes ↦ cc goes.0
      ]

  -- a client without one
  alone_well : (left rest : Option (List ℕ)) (g : HandEnd) → rest ≡ left → g ≡ hand_end.Go
      → Follows g sector rest later held_later now es n how → MatchOption left ⊥ AreRequests
      → (how ≡ end.ReadFault → ⊥) → (how ≡ end.WriteFault → ⊥) → EndsWell (end_status i g how)
  alone_well left rest g same go f whole read write =
      subst (λ (x : HandEnd). EndsWell (end_status i x how)) (sym go)
      (session_well i how (whole_end sector rest later held_later now (events_of es) n how
      (subst (λ (x : HandEnd). Follows x sector rest later held_later now es n how) go f)
      (subst (λ (x : Option (List ℕ)). MatchOption x ⊥ AreRequests) (sym same) whole) read write))

module _ {I O : Type 0} (source : SourceGhosts I) (sink : SinkGhosts O) (sector : ℕ) where
  one_well : (export : Option ℕ) (i : ℕ) (b x : Client I O) (es : List Entry) (g : HandEnd) (n : ℕ) (how : End)
      → IsGreeted source sink export sector b x es g n how
      → IsQuiet (source.faults b.source) (source.faults x.source) → IsQuiet (sink.faults b.sink) (sink.faults x.sink)
      → MatchOption (source.left b.source) ⊥ (IsWholeInput export) → EndsWell (end_status i g how)
  one_well None i b x es g n how s reads writes whole =
      alone_well i 0 sector (source.left x.source) (sink.contents b.sink) s.held (sink.contents x.sink) es n how
      (source.left b.source) s.rest g s.greeted.0 s.greeted.2 s.followed whole
      (λ e. no_rise _ _ reads.0 reads.1 (s.read_fault.rose (inr e))) (λ e. no_rise _ _ writes.0 writes.1 (s.write_fault.rose (inr e)))
  one_well (Some size) i b x es g n how s reads writes whole =
      hand_well i size sector (source.left x.source) (sink.contents b.sink) s.held (sink.contents x.sink) es n how
      (source.left b.source) s.rest g s.greeted s.followed whole
      (λ e. no_rise _ _ reads.0 reads.1 (s.read_fault.rose e)) (λ e. no_rise _ _ writes.0 writes.1 (s.write_fault.rose e))

  all_well : (h : List Entry) (export : Option ℕ) (i : ℕ) (bs xs : List (Client I O)) (gs : List HandEnd) (hows : List End)
      (ns cs : List ℕ) → AreGreeted source sink export sector h bs xs gs hows ns cs
      → AreQuiet source sink bs xs → AreWhole source sink export bs → EndsWell (ends_status i gs hows)
  all_well h export i [] [] [] [] [] [] s quiet whole = inl refl
  all_well h export i (b ∷ bs) (x ∷ xs) (g ∷ gs) (how ∷ hows) (n ∷ ns) (caller ∷ cs) s quiet whole =
      later_well (end_status i g how) (ends_status (i + 1) gs hows)
      (one_well export i b x (entries caller_of caller h) g n how s.0 quiet.0 quiet.1 whole.0)
      (all_well h export (i + 1) bs xs gs hows ns cs s.1 quiet.2 whole.1)
  all_well h export i bs xs gs hows ns cs s quiet whole = absurd s

-- the volume of a header has one size
same_export : (handshake : Bool) (f : Fields) (v w : Geometry) → IsVolume f v → IsVolume f w → export_of handshake v ≡ export_of handshake w
same_export false f v w at_v at_w = refl
same_export true f v w at_v at_w = λ i. Some ((at_v.sectors ∙ sym at_w.sectors) i * (at_v.sector ∙ sym at_w.sector) i)

-- ---- when a volume is opened, and what comes of it

-- it was opened by its headers
opens_by : (a : Asked) (image : Option (List ℕ)) (b : List ℕ) (header : Opened) (range : Option (ℕ × ℕ)) → image ≡ Some b
    → IfSome image (λ b. opened a.access b ≡ Some header) → Protects a.protect image range → Opens a b
opens_by a image b header range known own hidden = (
  ap (λ (x : Option Opened). is_some x) (subst (λ (x : Option (List ℕ)). IfSome x (λ b. opened a.access b ≡ Some header)) known own),
  by_protect a.protect (subst (λ (x : Option (List ℕ)). Protects a.protect x range) known hidden),
)
  where
    by_protect : (p : Option Access) → Protects p (Some b) range → IfSome p (λ p. IsSome (opened p b))
    by_protect None h = tt
    by_protect (Some p) h = ap (λ (x : Option Opened). is_some x) h.1

module _ {S C I O : Type 0} (store : StoreGhosts S) (cipher : CipherGhosts C) (source : SourceGhosts I) (sink : SinkGhosts O) where
  kept_of : (asked : Option Asked) (a : Asked) (pass : Option (View (State S C) Entry)) (c : Call I O) → asked ≡ Some a
      → Kept store cipher source sink asked pass c → Kept store cipher source sink (Some a) pass c
  kept_of asked a pass c is kept = subst (λ (x : Option Asked). Kept store cipher source sink x pass c) is kept

  pub opening : (asked : Option Asked) (pass : Option (View (State S C) Entry)) (c : Call I O)
      → Kept store cipher source sink asked pass c → IsOpening asked pass c
  opening asked pass c kept a b is known quiet memory = by_pass pass (kept_of asked a pass c is kept)
    where
      by_pass : (pass : Option (View (State S C) Entry)) → Kept store cipher source sink (Some a) pass c
          → IsSome pass ↔ IsContainerLength c.old.size × Opens a b
      by_pass None k = (
        λ e. cc e,
        λ h. absurd (not_refused a b c.old.size c.old.disk_faults c.new.disk_faults c.status h.0 h.1 quiet memory
            (subst (λ (x : Option (List ℕ)). Refuses a x c.old.size c.old.disk_faults c.new.disk_faults c.status) known k.1)),
      )
      by_pass (Some v) k = (λ _. (k.base.in_range, opens_by a c.old.image b k.base.header _ known k.base.opens k.base.range), λ _. refl)

  pub complete : (asked : Option Asked) (pass : Option (View (State S C) Entry)) (c : Call I O)
      → Kept store cipher source sink asked pass c → IsComplete source sink asked c
  complete asked pass c kept a b header g is known in_range opens first volume quiet out clients whole = by_pass pass (kept_of asked a pass c is kept)
    where
      refused : (s : Status) → s ≢ NoMemory → Refuses a (Some b) c.old.size c.old.disk_faults c.new.disk_faults s → ⊥
      refused s memory r = not_refused a b c.old.size c.old.disk_faults c.new.disk_faults s in_range opens quiet memory r

      memory_or : (s : Status) → Refuses a (Some b) c.old.size c.old.disk_faults c.new.disk_faults s → (s ≡ Done) ⊎ (s ≡ NoMemory)
      memory_or NoMemory r = inr refl
      memory_or Done r = absurd r
      memory_or Usage r = absurd r
      memory_or NoHeader r = absurd (refused NoHeader (λ e. cc e) r)
      memory_or NoHidden r = absurd (refused NoHidden (λ e. cc e) r)
      memory_or (Length n) r = absurd (refused (Length n) (λ e. cc e) r)
      memory_or BadSize r = absurd r
      memory_or DiskFault r = absurd (refused DiskFault (λ e. cc e) r)
      memory_or OutFault r = absurd r
      memory_or (ClientCut client) r = absurd r
      memory_or (ClientMagic client magic) r = absurd r
      memory_or (ClientFault client) r = absurd r
      memory_or (ClientHand client refusal) r = absurd r

      -- the header is the first valid one, and its volume is the one that was served
      by_header : (v : View (State S C) Entry) (k : Served store cipher source sink a v c) → k.base.header ≡ header
      by_header v k = same_some (sym (subst (λ (x : Option (List ℕ)). IfSome x (λ b. opened a.access b ≡ Some k.base.header)) known k.base.opens) ∙ first)
        where
          same_some : {x y : Opened} → Some x ≡ Some y → x ≡ y
          same_some e = cc

      offered : (v : View (State S C) Entry) (k : Served store cipher source sink a v c)
          → export_of a.handshake g ≡ export_of a.handshake k.ran.history.state.base.geometry
      offered v k = same_export a.handshake header.fields g k.ran.history.state.base.geometry volume
          (subst (λ (x : Opened). IsVolume x.fields k.ran.history.state.base.geometry) (by_header v k) k.base.geometry)

      by_status : (v : View (State S C) Entry) (k : Served store cipher source sink a v c)
          (w : AllServed source sink (export_of a.handshake k.ran.history.state.base.geometry) k.ran.history.state.base.geometry.sector
          v.seen (store.faults k.ran.history.left) c) → EndsWell c.status
      by_status v k w =
          let t : EndsWell (ends_status 0 c.hands c.ends)
          = all_well source sink k.ran.history.state.base.geometry.sector v.seen (export_of a.handshake k.ran.history.state.base.geometry)
          0 c.before c.after c.hands c.ends c.replies c.callers w.served clients
          (subst (λ (x : Option ℕ). AreWhole source sink x c.before) (offered v k) whole) in
          elim w.statuses [
            | inl e ↦ absurd (at_sync v k (w.disk_fault.rose e))
            | inr (inl e) ↦ inr e
            | inr (inr (inl e)) ↦ elim t [ inl d ↦ inl (e ∙ d) | inr m ↦ inr (e ∙ m) ]
            | inr (inr (inr e)) ↦ absurd (no_rise c.old.out_faults c.new.out_faults out.0 out.1 (w.out_fault.rose e.1))
          ]
        where
          at_sync : (v : View (State S C) Entry) (k : Served store cipher source sink a v c) → Rose (store.faults k.ran.history.left) c.new.disk_faults → ⊥
          at_sync v k rose =
              let state = k.ran.history.state in
              let end_is : store.faults state.now.disk ≡ store.faults k.ran.history.left = ap store.faults state.disk_is in
              omega (arith, k.base.later, state.sound.later, end_is, k.ran.history.later, quiet.0, quiet.1, rose)

      by_pass : (pass : Option (View (State S C) Entry)) → Kept store cipher source sink (Some a) pass c → (c.status ≡ Done) ⊎ (c.status ≡ NoMemory)
      by_pass None k = memory_or c.status (subst (λ (x : Option (List ℕ)). Refuses a x c.old.size c.old.disk_faults c.new.disk_faults c.status) known k.1)
      by_pass (Some v) k = elim k.ran.outcome [
        | inl w ↦ by_status v k w
        | inr none ↦ inr none.no_memory
      ]
