-- A volume that was opened, served and closed again, step by step.
--
-- The numbers of all entries are those of the first pass and of the passes that were joined into it. The first pass has
-- no entries of its own, so each entry is a client's. The opening state is the one that the pass began with.
use Rattle.std.proofs.Common.{◌≡◌, ◌≤◌, inl, inr, ℕ, suc, Bool, false, List, [], ◌∷◌, ◌++◌, Option, Some, None, Result, Err, refl, sym, ap, ◌∙◌, subst, arith}
use Rattle.std.specs.Prelude.{IfSome, length, MatchOption, option_and_then, option_map, replicate}
use Rattle.std.specs.List.{All, Contains}
use Rattle.vc_base.specs.Faults.{HasCause, Rose}
use Rattle.vc_layout.specs.declared.geometry.Geometry.{Geometry}
use Rattle.vc_layout.specs.Layout.{IsContainerLength}
use Rattle.vc_outside.proofs.NothingMore.{nothing_more}
use Rattle.vc_outside.specs.Told.{Grows, GrowsByFront}
use Rattle.vc_outside.specs.declared.source.Client.{Client}
use Rattle.vc_outside.specs.declared.store.Store.{Ghosts as StoreGhosts}
use Rattle.vc_outside.specs.declared.source.Source.{Ghosts as SourceGhosts}
use Rattle.vc_outside.specs.declared.sink.Sink.{Ghosts as SinkGhosts}
use Rattle.cipher_base.specs.declared.unit.UnitCipher.{Ghosts as CipherGhosts}
use Rattle.header_seal.specs.declared.opened.Opened.{Opened}
use Rattle.hist_lock.specs.declared.view.View.{View}
use Rattle.hist_lock.specs.History.{entries, SameUnder}
use Rattle.hist_lock.specs.Known.{closed, newcomer, numbers_of}
use Rattle.sector_model.specs.declared.entry.Entry.{Entry}
use Rattle.io_core.specs.State.{State}
use Rattle.io_core.proofs.Elements.{first_element}
use Rattle.io_queue.specs.Pass.{Began, caller_of}
use Rattle.nbd_hand.specs.declared.end.HandEnd.{HandEnd}
use Rattle.nbd_hand.specs.declared.end.HandEnd.TheVariants as hand_end
use Rattle.nbd_wire.specs.declared.end.End.{End}
use Rattle.cmd_words.specs.Line.{Line, line, Text}
use Rattle.cmd_words.specs.declared.command.Command.{Command}
use Rattle.cmd_words.specs.declared.error.WordsError.{WordsError}
use Rattle.cmd_words.specs.declared.error.WordsError.TheVariants as words
use Rattle.vol_server.specs.Served.{AreGreeted, AreServed, Gained, IsBack}
use Rattle.vc_app.specs.declared.serve.asked.Asked.{Asked}
use Rattle.vc_app.specs.declared.status.Status.{Status}
use Rattle.vc_app.specs.declared.status.Status.TheVariants.{NoMemory, OutFault, Usage}
use Rattle.vc_app.specs.Access.{opened}
use Rattle.vc_app.specs.Promise.{Seen, seen, Unchanged}
use Rattle.vc_app.specs.Status.{words_status}
use Rattle.vc_app.specs.Serve.{AllServed, asked, asked_by, Call, export_of, Idle, IsBase, Kept, lines, Protects, Ran, Refuses, Unserved}
use Rattle.vc_app.specs.Laws.Opening.{IsFirst, IsOpened, Opening, RanFrom}
use Rattle.vc_app.proofs.Serving.{whose}

-- ---- the pass of a volume that was served

module _ {S C : Type 0} where
  pub geometry_is : (g : Geometry) (c : C) (w v : View (State S C) Entry) (base : State S C) → Began g c w → v ≡ closed w
      → v.base ≡ Some base → g ≡ base.geometry
  geometry_is g c w v base began is e =
      let there : w.base ≡ Some base = ap (λ (x : View (State S C) Entry). x.base) (sym is) ∙ e in
      let same : began.base ≡ base = some_is (sym began.is ∙ there) in
      sym began.geometry ∙ ap (λ (s : State S C). s.geometry) same
    where
      some_is : {x y : State S C} → Some x ≡ Some y → x ≡ y
      some_is e = cc

  pub whose_in : (u w v : View (State S C) Entry) (callers : List ℕ) → IsFirst u → IsBack u w
      → SameUnder caller_of (numbers_of u) w.seen u.seen → Gained callers u w → v ≡ closed w
      → All (λ e. Contains (numbers_of v) e.caller) v.seen → All (λ e. Contains callers e.caller) v.seen
  whose_in u w v callers first back settled gained is all =
      subst (λ (x : View (State S C) Entry). All (λ e. Contains callers e.caller) x.seen) (sym is)
      (whose callers gained.gained w.number w.seen none gained.idle
      (subst (λ (ns : List ℕ). All (λ e. Contains (w.number ∷ ns) e.caller) w.seen) under
      (subst (λ (x : View (State S C) Entry). All (λ e. Contains (numbers_of x) e.caller) x.seen) is all)))
    where
      under : w.under ≡ gained.gained
      under = gained.under ∙ ap (λ (ns : List ℕ). ns ++ gained.gained) first.under

      none : entries caller_of w.number w.seen ≡ []
      none = subst (λ (n : ℕ). entries caller_of n w.seen ≡ []) (sym back.number)
          (settled u.number (first_element u.number u.under) ∙ ap (entries caller_of u.number) first.seen)

pub same_length : {X Y : Type 0} (xs zs : List X) (ys ws : List Y) → xs ≡ zs → ys ≡ ws → length zs ≡ length ws → length xs ≡ length ys
same_length xs zs ys ws first second same = ap length first ∙ (same ∙ sym (ap length second))

module _ {T E : Type 0} where
  pub base_is : (u w v : View T E) → IsBack u w → v ≡ closed w → v.base ≡ u.base
  base_is u w v back is = ap (λ (x : View T E). x.base) is ∙ back.base

  pub first_base : (v : View T E) (base : T) → v ≡ newcomer base → v.base ≡ Some base
  first_base v base is = ap (λ (x : View T E). x.base) is

module _ {S C I O : Type 0} (source : SourceGhosts I) (sink : SinkGhosts O) where
  pub served_by : (handshake : Bool) (w v : View (State S C) Entry) (g : Geometry) (c : C) (base : State S C) (bs xs : List (Client I O))
      (gs : List HandEnd) (hs : List End) (ns cs : List ℕ) → Began g c w → v ≡ closed w → v.base ≡ Some base
      → AreGreeted source sink (export_of handshake g) g.sector w.seen bs xs gs hs ns cs
      → AreGreeted source sink (export_of handshake base.geometry) base.geometry.sector v.seen bs xs gs hs ns cs
  served_by handshake w v g c base bs xs gs hs ns cs began is e s =
      subst (λ (x : Geometry). AreGreeted source sink (export_of handshake x) x.sector v.seen bs xs gs hs ns cs)
      (geometry_is g c w v base began is e)
      (subst (λ (x : View (State S C) Entry). AreGreeted source sink (export_of handshake g) g.sector x.seen bs xs gs hs ns cs) (sym is) s)

module _ {I O : Type 0} (source : SourceGhosts I) (sink : SinkGhosts O) (sector : ℕ) (h : List Entry) where
  pub as_many_ends : (export : Option ℕ) (bs xs : List (Client I O)) (gs : List HandEnd) (hs : List End) (ns cs : List ℕ)
      → AreGreeted source sink export sector h bs xs gs hs ns cs → length hs ≡ length bs
  as_many_ends export [] [] [] [] [] [] s = refl
  as_many_ends export (b ∷ bs) (x ∷ xs) (g ∷ gs) (how ∷ hs) (n ∷ ns) (caller ∷ cs) s = ap suc (as_many_ends export bs xs gs hs ns cs s.1)
  as_many_ends export bs xs gs hs ns cs s = absurd s

  pub as_many_hands : (export : Option ℕ) (bs xs : List (Client I O)) (gs : List HandEnd) (hs : List End) (ns cs : List ℕ)
      → AreGreeted source sink export sector h bs xs gs hs ns cs → length gs ≡ length hs
  as_many_hands export [] [] [] [] [] [] s = refl
  as_many_hands export (b ∷ bs) (x ∷ xs) (g ∷ gs) (how ∷ hs) (n ∷ ns) (caller ∷ cs) s = ap suc (as_many_hands export bs xs gs hs ns cs s.1)
  as_many_hands export bs xs gs hs ns cs s = absurd s

  pub as_many_counts : (export : Option ℕ) (bs xs : List (Client I O)) (gs : List HandEnd) (hs : List End) (ns cs : List ℕ)
      → AreGreeted source sink export sector h bs xs gs hs ns cs → length ns ≡ length hs
  as_many_counts export [] [] [] [] [] [] s = refl
  as_many_counts export (b ∷ bs) (x ∷ xs) (g ∷ gs) (how ∷ hs) (n ∷ ns) (caller ∷ cs) s = ap suc (as_many_counts export bs xs gs hs ns cs s.1)
  as_many_counts export bs xs gs hs ns cs s = absurd s

  -- clients without a handshake count as those whose handshake ended with Go
  without_hands : (bs xs : List (Client I O)) (hs : List End) (ns cs : List ℕ) → AreServed source sink sector h bs xs hs ns cs
      → AreGreeted source sink None sector h bs xs (replicate (length bs) hand_end.Go) hs ns cs
  without_hands [] [] [] [] [] s = tt
  without_hands (b ∷ bs) (x ∷ xs) (how ∷ hs) (n ∷ ns) (caller ∷ cs) s = (
    record {
      rest = source.left b.source;
      held = sink.contents b.sink;
      greeted = (refl, refl, refl);
      followed = s.0.served;
      read_fault = record {
        later = s.0.read_fault.later;
        rose = λ e. elim e [ inl hand ↦ cc hand | inr session ↦ s.0.read_fault.rose session ];
      };
      write_fault = record {
        later = s.0.write_fault.later;
        rose = λ e. elim e [ inl hand ↦ cc hand | inr session ↦ s.0.write_fault.rose session ];
      };
    },
    without_hands bs xs hs ns cs s.1,
  )
  without_hands bs xs hs ns cs s = absurd s

  pub without_flag : (handshake : Bool) (g : Geometry) (gs : List HandEnd) (bs xs : List (Client I O)) (hs : List End) (ns cs : List ℕ)
      → handshake ≡ false → gs ≡ replicate (length bs) hand_end.Go → AreServed source sink sector h bs xs hs ns cs
      → AreGreeted source sink (export_of handshake g) sector h bs xs gs hs ns cs
  without_flag handshake g gs bs xs hs ns cs none go s =
      subst (λ (x : Bool). AreGreeted source sink (export_of x g) sector h bs xs gs hs ns cs) (sym none)
      (subst (λ (x : List HandEnd). AreGreeted source sink None sector h bs xs x hs ns cs) (sym go) (without_hands bs xs hs ns cs s))

-- ---- a call that touched nothing

pub no_value : {A B : Type 0} (f : A → B) (x : Option A) → x ≡ None → option_map f x ≡ None
no_value f x is = ap (option_map f) is

pub unmoved : {D P : Type 0} (d : StoreGhosts D) (o : SinkGhosts P) (x y : D) (out after : P) → y ≡ x
    → Unchanged (seen d o x out) (seen d o y after)
unmoved {D} {P} d o x y out after is =
    subst (λ (z : D). Unchanged (seen d o x out) (seen d o z after)) (sym is) (record {
      same = record { image = refl; size = refl };
      crash = nothing_more d.tells (d.moment x) (d.left_since x) (d.may_leave x);
    })

-- ---- a call that begins earlier, with the same output

pub record IsSameOut (mid old : Seen) : Type 0 where
  pub contents : mid.contents ≡ old.contents
  pub faults : mid.out_faults ≡ old.out_faults

from_earlier : {I O : Type 0} (old : Seen) (c : Call I O) → IsSameOut c.old old → Idle c → Idle (record c { old = old })
from_earlier old c out idle = record {
  hands = idle.hands;
  ends = idle.ends;
  replies = idle.replies;
  callers = idle.callers;
  clients = idle.clients;
  quiet = idle.quiet ∙ out.contents;
  out_same = idle.out_same ∙ out.faults;
}

module _ {I O : Type 0} (source : SourceGhosts I) (sink : SinkGhosts O) (export : Option ℕ) (sector : ℕ) (h : List Entry) (faults : ℕ) where
  served_from_earlier : (old : Seen) (c : Call I O) → IsSameOut c.old old → AllServed source sink export sector h faults c
      → AllServed source sink export sector h faults (record c { old = old })
  served_from_earlier old c out w = record {
    served = w.served;
    callers = w.callers;
    whose = w.whose;
    statuses = w.statuses;
    printed = subst (λ (x : Option (List ℕ)). GrowsByFront x c.new.contents (lines 0 c.hands c.ends c.replies)) out.contents w.printed;
    all_printed = λ done. subst (λ (x : Option (List ℕ)). Grows x c.new.contents (lines 0 c.hands c.ends c.replies)) out.contents
        (w.all_printed done);
    clients_printed = λ of_client. elim (w.clients_printed of_client) [
      | inl all ↦ inl (subst (λ (x : Option (List ℕ)). Grows x c.new.contents (lines 0 c.hands c.ends c.replies)) out.contents all)
      | inr rose ↦ inr (subst (λ (n : ℕ). Rose n c.new.out_faults) out.faults rose)
    ];
    quiet_fault = λ e. w.quiet_fault e ∙ out.contents;
    synced = w.synced;
    disk_fault = w.disk_fault;
    out_fault = subst (λ (n : ℕ). HasCause n c.new.out_faults (c.status ≡ OutFault)) out.faults w.out_fault;
  }

-- ---- what a command line asks

asked_is : (arguments : List Text) (n : ℕ) (l : Line) (r : Option Asked) → line arguments ≡ Some l → r ≡ asked_by n l
    → asked arguments n ≡ r
unfolding asked
asked_is arguments n l r is made = ap (option_and_then (asked_by n)) is ∙ sym made

asked_none : (arguments : List Text) (n : ℕ) → line arguments ≡ None → asked arguments n ≡ None
unfolding asked
asked_none arguments n is = ap (option_and_then (asked_by n)) is

module _ {S C I O : Type 0} (store : StoreGhosts S) (cipher : CipherGhosts C) (source : SourceGhosts I) (sink : SinkGhosts O) where
  -- ---- an opened volume

  pub opened_ran : (o : Opened) (range : Option (ℕ × ℕ)) (faults : ℕ) (handshake : Bool) (pass : Option (View (State S C) Entry))
      (u : View (State S C) Entry) (base : State S C) (c : Call I O) → MatchOption pass ⊥ (λ v. RanFrom store cipher source sink handshake u v c)
      → u.base ≡ Some base → IsOpened store cipher source sink o range c.old base → Opening store cipher source sink o range faults handshake pass c
  opened_ran o range faults handshake None u base c ran is opened = absurd ran
  opened_ran o range faults handshake (Some v) u base c ran is opened =
      record { base = base; is = ran.same ∙ is; opened = opened; ran = ran.ran }

  abbrev ran_from_earlier : (handshake : Bool) (old : Seen) (c : Call I O) (v : View (State S C) Entry) → IsSameOut c.old old
      → Ran store cipher source sink handshake v c → Ran store cipher source sink handshake v (record c { old = old })
  ran_from_earlier handshake old c v out ran = record {
    history = ran.history;
    outcome = elim ran.outcome [
      | inl w ↦ inl (served_from_earlier source sink (export_of handshake ran.history.state.base.geometry)
          ran.history.state.base.geometry.sector v.seen (store.faults ran.history.left) old c out w)
      | inr none ↦ inr (record { idle = from_earlier old c out none.idle; nothing = none.nothing; no_memory = none.no_memory })
    ];
  }

  -- ---- what is asked

  base_of : (a : Asked) (o : Opened) (range : Option (ℕ × ℕ)) (old mid : Seen) (base : State S C)
      → mid.image ≡ old.image → mid.size ≡ old.size → old.disk_faults ≤ mid.disk_faults → IsContainerLength old.size
      → IfSome old.image (λ b. opened a.access b ≡ Some o) → Protects a.protect old.image range
      → IsOpened store cipher source sink o range mid base → IsBase store cipher a old base
  base_of a o range old mid base image size later in_range opens protects is = record {
    image = is.image ∙ image;
    size = is.size ∙ size;
    later = omega (arith, later, is.faults);
    in_range = in_range;
    header = o;
    opens = opens;
    enciphers = is.enciphers;
    deciphers = is.deciphers;
    geometry = is.geometry;
    range = subst (λ (r : Option (ℕ × ℕ)). Protects a.protect old.image r) (sym is.range_is) protects;
    pending = is.pending;
  }

  -- the headers are opened first: the output is still as it was, and the container as it was but for its count of faults
  pub asked_kept : (a : Asked) (o : Opened) (range : Option (ℕ × ℕ)) (faults : ℕ) (old : Seen) (pass : Option (View (State S C) Entry))
      (c : Call I O) → Opening store cipher source sink o range faults a.handshake pass c → IsSameOut c.old old → c.old.image ≡ old.image
      → c.old.size ≡ old.size → old.disk_faults ≤ c.old.disk_faults → faults ≡ old.disk_faults → IsContainerLength old.size
      → IfSome old.image (λ b. opened a.access b ≡ Some o) → Protects a.protect old.image range
      → (Unchanged c.old c.new → Unchanged old c.new) → Kept store cipher source sink (Some a) pass (record c { old = old })
  asked_kept a o range faults old None c n out image size later at_start in_range opens protects still = (
    record {
      idle = from_earlier old c out n.unserved.idle;
      unchanged = still n.unserved.unchanged;
      later = omega (arith, later, n.unserved.later);
    },
    elim n.cause [
      | inl (fault, rose) ↦ subst (Refuses a old.image old.size old.disk_faults c.new.disk_faults) (sym fault)
          (in_range, subst (λ (k : ℕ). Rose k c.new.disk_faults) at_start rose)
      | inr (memory, same) ↦ subst (Refuses a old.image old.size old.disk_faults c.new.disk_faults) (sym memory) (same ∙ at_start)
    ],
  )
  asked_kept a o range faults old (Some v) c w out image size later at_start in_range opens protects still =
      let state = w.ran.history.state in
      let same : w.base ≡ state.base = some_is (sym w.is ∙ state.is) in
      record {
        ran = ran_from_earlier a.handshake old c v out w.ran;
        base = subst (IsBase store cipher a old) same
            (base_of a o range old c.old w.base image size later in_range opens protects w.opened);
      }
    where
      some_is : {x y : State S C} → Some x ≡ Some y → x ≡ y
      some_is e = cc

  pub refused_kept : (a : Asked) (pass : Option (View (State S C) Entry)) (c : Call I O) (s : Status) → pass ≡ None
      → Unserved c → c.status ≡ s → Refuses a c.old.image c.old.size c.old.disk_faults c.new.disk_faults s
      → Kept store cipher source sink (Some a) pass c
  refused_kept a pass c s is unserved status cause =
      subst (λ (x : Option (View (State S C) Entry)). Kept store cipher source sink (Some a) x c) (sym is)
      (unserved, subst (Refuses a c.old.image c.old.size c.old.disk_faults c.new.disk_faults) (sym status) cause)

  -- ---- the arguments

  pub usage_kept : (asked : Option Asked) (pass : Option (View (State S C) Entry)) (c : Call I O) → asked ≡ None → pass ≡ None
      → Unserved c → c.status ≡ Usage → Kept store cipher source sink asked pass c
  usage_kept asked pass c none is unserved status =
      subst (λ (x : Option Asked). Kept store cipher source sink x pass c) (sym none) (is, unserved, inl status)

  pub no_memory_kept : (asked : Option Asked) (pass : Option (View (State S C) Entry)) (c : Call I O) → pass ≡ None
      → Unserved c → c.new.disk_faults ≡ c.old.disk_faults → c.status ≡ NoMemory → Kept store cipher source sink asked pass c
  no_memory_kept None pass c is unserved same status = (is, unserved, inr status)
  no_memory_kept (Some a) pass c is unserved same status = refused_kept a pass c NoMemory is unserved status same

  -- the arguments weren't read
  pub unread_kept : (arguments : List Text) (n : ℕ) (r : Result Command WordsError) (e : WordsError)
      (pass : Option (View (State S C) Entry)) (c : Call I O) → r ≡ Err e → (r ≡ Err words.Usage → line arguments ≡ None) → pass ≡ None
      → Unserved c → c.new.disk_faults ≡ c.old.disk_faults → c.status ≡ words_status e
      → Kept store cipher source sink (asked arguments n) pass c
  unread_kept arguments n r words.Usage pass c error none is unserved same status =
      usage_kept (asked arguments n) pass c (asked_none arguments n (none error)) is unserved status
  unread_kept arguments n r words.NoMemory pass c error none is unserved same status =
      no_memory_kept (asked arguments n) pass c is unserved same status

  pub line_kept : (arguments : List Text) (n : ℕ) (l : Line) (r : Option Asked) (pass : Option (View (State S C) Entry))
      (c : Call I O) → line arguments ≡ Some l → r ≡ asked_by n l → Kept store cipher source sink r pass c
      → Kept store cipher source sink (asked arguments n) pass c
  line_kept arguments n l r pass c is made kept =
      subst (λ (x : Option Asked). Kept store cipher source sink x pass c) (sym (asked_is arguments n l r is made)) kept
