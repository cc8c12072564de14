-- A pass after a turn, and after several.
--
-- What is open of a pass's own entries is a fold over them, so the entries that a call adds tell what is open
-- after it; what is open of the passes that were joined into it stays.
use Rattle.std.proofs.Common.{inl, inr, ◌≡◌, ◌≢◌, ℕ, zero, suc, List, [], ◌∷◌, ◌++◌, refl, sym, ap, subst, ◌∙◌, arith, append_assoc, append-nil}
use Rattle.std.specs.Prelude.{Err, Ok, Result, Some, ⊤}
use Rattle.std.specs.List.{Contains}
use Rattle.hist_lock.specs.declared.view.View.{View}
use Rattle.hist_lock.specs.History.{StartsWith, entries, SameUnder}
use Rattle.hist_lock.specs.Known.{IsSame, SameShare, numbers_of}
use Rattle.vc_layout.specs.declared.geometry.Geometry.{Geometry}
use Rattle.sector_model.specs.History.{open_from, open_with, open_writes, Write}
use Rattle.sector_model.specs.declared.entry.Entry.{Entry}
use Rattle.sector_model.specs.Plain.{entry}
use Rattle.sector_model.specs.declared.entry.FaultMark.{FaultMark}
use Rattle.cipher_base.specs.declared.unit.UnitCipher.{Ghosts as CipherGhosts}
use Rattle.sector_model.specs.Array.{sectors_of, Volume}
use Rattle.io_core.specs.Entries.{admit_entries, flush_event}
use Rattle.io_core.specs.declared.prepared.Prepared.{Prepared}
use Rattle.io_core.specs.declared.answers.Admit.{Admit}
use Rattle.io_core.specs.declared.answers.Admit.TheVariants as admit
use Rattle.io_core.specs.State.{State}
use Rattle.io_core.specs.declared.answers.Fetch.{Fetch}
use Rattle.io_core.specs.declared.answers.Fetch.TheVariants as fetch
use Rattle.io_core.proofs.Elements.{element_of_either, later_element}
use Rattle.io_queue.specs.Laws.Acts.{fetched}
use Rattle.io_queue.specs.Laws.Opens.{Opens, WasAsked}
use Rattle.io_queue.specs.Pass.{Began, Call, caller_of, NothingOpen}

pub open_from-append : (ws : List Write) (h es : List Entry) → open_from ws (h ++ es) ≡ open_from (open_from ws h) es
open_from-append ws [] es = refl
open_from-append ws (e ∷ h) es = open_from-append (open_with e.caller e.number e.event ws) h es

pub starts : (a : List Entry) → StartsWith a a
starts a = ([], sym (append-nil a))

pub starts_after : (a b c : List Entry) → StartsWith b a → StartsWith c b → StartsWith c a
starts_after a b c p q = (p.0 ++ q.0, q.1 ∙ ap (λ l. l ++ q.0) p.1 ∙ append_assoc a p.0 q.0)

module _ {S C : Type 0} where
  -- a turn as a call
  pub called : (v w : View (State S C) Entry) (es between : List Entry) → IsSame v w → SameShare v w
      → w.seen ≡ (v.seen ++ between) ++ es → w.mine ≡ v.mine ++ es → SameUnder caller_of v.under w.seen v.seen → Call v w es
  called v w es between same share seen mine settled = record {
    same = same;
    share = share;
    later = (between ++ es, seen ∙ append_assoc v.seen between es);
    mine = mine;
    settled = settled;
  }

  pub began_after : (g : Geometry) (c : C) (v w : View (State S C) Entry) → w.base ≡ v.base → Began g c v → Began g c w
  began_after g c v w same b = record { base = b.base; is = same ∙ b.is; geometry = b.geometry; cipher = b.cipher }

  -- the opening state of a pass of the volume
  pub began_base : (g : Geometry) (c : C) (v : View (State S C) Entry) (base : State S C) → v.base ≡ Some base → Began g c v
      → (base.geometry ≡ g) × (base.cipher ≡ c)
  began_base g c v base is b =
      let same : base ≡ b.base = some_is (sym is ∙ b.is) in
      (ap (λ (s : State S C). s.geometry) same ∙ b.geometry, ap (λ (s : State S C). s.cipher) same ∙ b.cipher)
    where
      some_is : {x y : State S C} → Some x ≡ Some y → x ≡ y
      some_is e = cc

  pub call_is : (v w : View (State S C) Entry) (es fs : List Entry) → es ≡ fs → Call v w es → Call v w fs
  call_is v w es fs is c = subst (Call v w) is c

  pub no_call : (v : View (State S C) Entry) → Call v v []
  no_call v = record {
    same = record { base = refl; number = refl; under = refl; given = omega arith };
    share = (refl, refl);
    later = ([], sym (append-nil v.seen));
    mine = sym (append-nil v.mine);
    settled = λ n c. refl;
  }

  pub calls : (u v w : View (State S C) Entry) (es fs : List Entry) → Call u v es → Call v w fs → Call u w (es ++ fs)
  calls u v w es fs p q = record {
    same = record {
      base = q.same.base ∙ p.same.base;
      number = q.same.number ∙ p.same.number;
      under = q.same.under ∙ p.same.under;
      given = omega (arith, p.same.given, q.same.given);
    };
    share = (q.share.0 ∙ p.share.0, q.share.1 ∙ p.share.1);
    later = starts_after u.seen v.seen w.seen p.later q.later;
    mine = q.mine ∙ ap (λ l. l ++ fs) p.mine ∙ append_assoc u.mine es fs;
    settled = λ n c. q.settled n (subst (λ ns. Contains ns n) (sym p.same.under) c) ∙ p.settled n c;
  }

  pub opens_nothing : (v : View (State S C) Entry) → NothingOpen v → Opens v []
  opens_nothing v none = record {
    own = none v.number (0, omega arith, refl);
    joined = λ n c. none n (suc c.0, omega (arith, c.1), c.2);
  }

  pub nothing_opens : (v : View (State S C) Entry) → Opens v [] → NothingOpen v
  nothing_opens v o n (zero, within, is) = subst (λ m. open_writes (entries caller_of m v.seen) ≡ []) is o.own
  nothing_opens v o n (suc k, within, is) = o.joined n (k, omega arith, is)

  pub opens_after : (v w : View (State S C) Entry) (ws : List Write) (es : List Entry) → Call v w es
      → entries caller_of v.number v.seen ≡ v.mine → entries caller_of w.number w.seen ≡ w.mine
      → Opens v ws → Opens w (open_from ws es)
  opens_after v w ws es c own owns o = record {
    own = ap open_writes (owns ∙ c.mine) ∙ open_from-append [] v.mine es
        ∙ ap (λ l. open_from l es) (ap open_writes (sym own) ∙ o.own);
    joined = λ n at. let in_old : Contains v.under n = subst (λ ns. Contains ns n) c.same.under at in
        ap open_writes (c.settled n in_old) ∙ o.joined n in_old;
  }

  -- a call after which nothing more is open than before
  pub nothing_after : (v w : View (State S C) Entry) (es : List Entry) → Call v w es
      → entries caller_of v.number v.seen ≡ v.mine → entries caller_of w.number w.seen ≡ w.mine
      → open_from [] es ≡ [] → NothingOpen v → NothingOpen w
  nothing_after v w es c own owns none before =
      nothing_opens w (subst (Opens w) none (opens_after v w [] es c own owns (opens_nothing v before)))

  -- the same by what a turn tells
  pub quiet_after : (v w : View (State S C) Entry) (es fs : List Entry) → es ≡ fs → open_from [] fs ≡ []
      → ((ws : List Write) → Opens v ws → Opens w (open_from ws es)) → NothingOpen v → NothingOpen w
  quiet_after v w es fs is none turned before =
      nothing_opens w (subst (Opens w) (ap (open_from []) is ∙ none) (turned [] (opens_nothing v before)))

  -- in each history that goes on from what the pass has seen, its own open writes are these
  pub still_open : (v : View (State S C) Entry) (ws : List Write) (log : List Entry) → entries caller_of v.number v.seen ≡ v.mine
      → entries caller_of v.number log ≡ v.mine → Opens v ws → open_writes (entries caller_of v.number log) ≡ ws
  still_open v ws log own same o = ap open_writes (same ∙ sym own) ∙ o.own

  -- after a split and a join
  pub split_open : (v w : View (State S C) Entry) → w.seen ≡ v.seen → w.number ≡ v.number → w.under ≡ v.under → NothingOpen v → NothingOpen w
  split_open v w seen number under none n c =
      ap (λ l. open_writes (entries caller_of n l)) seen ∙ none n (subst (λ ns. Contains ns n) (named number under) c)
    where
      named : w.number ≡ v.number → w.under ≡ v.under → numbers_of w ≡ numbers_of v
      named p q = ap (λ m. m ∷ w.under) p ∙ ap (λ ns. v.number ∷ ns) q

  pub newcomer_open : (v : View (State S C) Entry) → entries caller_of v.number v.seen ≡ v.mine → v.mine ≡ [] → v.under ≡ [] → NothingOpen v
  newcomer_open v own mine under = nothing_opens v (record {
    own = ap open_writes (own ∙ mine);
    joined = λ n c. let d : Contains [] n = subst (λ ns. Contains ns n) under c in absurd (omega (arith, d.1));
  })

  pub joined_open : (v w u : View (State S C) Entry) → entries caller_of v.number v.seen ≡ v.mine → entries caller_of w.number w.seen ≡ w.mine
      → entries caller_of u.number u.seen ≡ u.mine → u.number ≡ v.number → u.mine ≡ v.mine → u.under ≡ v.under ++ w.number ∷ w.under
      → entries caller_of w.number u.seen ≡ w.mine → SameUnder caller_of w.under u.seen w.seen → SameUnder caller_of v.under u.seen v.seen
      → NothingOpen v → NothingOpen w → NothingOpen u
  joined_open v w u own_v own_w own_u number mine under joined ended settled none_v none_w = nothing_opens u (record {
    own = ap open_writes (own_u ∙ mine ∙ sym own_v) ∙ none_v v.number (0, omega arith, refl);
    joined = λ n c. elim (element_of_either v.under (w.number ∷ w.under) n (subst (λ ns. Contains ns n) under c)) [
      | inl d ↦ ap open_writes (settled n d) ∙ none_v n (later_element v.number v.under n d)
      | inr d ↦ theirs n d
    ];
  })
    where
      theirs : (n : ℕ) → Contains (w.number ∷ w.under) n → open_writes (entries caller_of n u.seen) ≡ []
      theirs n (zero, within, is) = subst (λ m. open_writes (entries caller_of m u.seen) ≡ []) is
          (ap open_writes (joined ∙ sym own_w) ∙ none_w w.number (0, omega arith, refl))
      theirs n (suc k, within, is) = ap open_writes (ended n (k, omega arith, is)) ∙ none_w n (suc k, within, is)

-- what opens no write
pub flush_quiet : (n : ℕ) (answer : Result ⊤ FaultMark) → open_from [] (entry n 0 (flush_event answer) ∷ []) ≡ []
flush_quiet n (Ok done) = refl
flush_quiet n (Err mark) = refl

pub fetched_quiet : {C : Type 0} (cipher : CipherGhosts C) (c : C) (g : Geometry) (caller first : ℕ) (out : List ℕ) (answer : Fetch)
    → open_from [] (fetched cipher c g caller first out answer) ≡ []
fetched_quiet cipher c g caller first out fetch.Got = refl
fetched_quiet cipher c g caller first out fetch.Later = refl
fetched_quiet cipher c g caller first out (fetch.Failed mark) = refl

-- a fetch that was asked before, and added nothing
module _ {S C : Type 0} (cipher : CipherGhosts C) (u v w : View (State S C) Entry) (c : C) (g : Geometry) (first : ℕ) (out : List ℕ)
    (answer : Fetch) (past : Call u v []) (turned : Call v w (fetched cipher c g v.number first out answer)) where
  pub fetched_more : Call u w (fetched cipher c g u.number first out answer)
  fetched_more = subst (λ (n : ℕ). Call u w (fetched cipher c g n first out answer)) past.same.number (calls u v w [] _ past turned)

  pub fetched_nothing : answer ≡ fetch.Later → Call u w []
  fetched_nothing is = subst (λ (a : Fetch). Call u w (fetched cipher c g u.number first out a)) is fetched_more

pub admit_quiet : (v : Volume) (w : Prepared) (answer : Admit) → answer ≢ admit.In → open_from [] (admit_entries v w answer) ≡ []
admit_quiet v w admit.In other = absurd (other refl)
admit_quiet v w (admit.Denied p) other = refl
admit_quiet v w (admit.Frozen p) other = refl
admit_quiet v w (admit.Later p) other = refl

pub later_is_not_in : (answer : Admit) (w : Prepared) → answer ≡ admit.Later w → answer ≢ admit.In
later_is_not_in answer w is e = clash (sym is ∙ e)
  where
    clash : admit.Later w ≡ admit.In → ⊥
    clash d = cc

-- an admission that was asked before, and added nothing
module _ {S C : Type 0} (u v w : View (State S C) Entry) (sh : Volume) (asking write : Prepared) (found answer : Admit)
    (is : asking ≡ write) (same : answer ≡ found) (past : Call u v []) where
  pub admitted_more : Call v w (admit_entries sh asking found) → Call u w (admit_entries sh write answer)
  admitted_more turned =
      subst (λ (p : Prepared). Call u w (admit_entries sh p answer)) is
      (subst (λ (a : Admit). Call u w (admit_entries sh asking a)) (sym same) (calls u v w [] (admit_entries sh asking found) past turned))

  pub asked_more : WasAsked v w asking.first (sectors_of sh asking.bytes.items) found → WasAsked u w write.first (sectors_of sh write.bytes.items) answer
  asked_more asked =
      subst (λ (p : Prepared). WasAsked u w p.first (sectors_of sh p.bytes.items) answer) is
      (subst (λ (a : Admit). WasAsked u w asking.first (sectors_of sh asking.bytes.items) a) (sym same) (record {
        base = asked.base;
        is = sym past.same.base ∙ asked.is;
        past = asked.past;
        before = starts_after u.seen v.seen asked.past past.later asked.before;
        after = asked.after;
        judged = asked.judged;
      }))
