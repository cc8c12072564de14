-- A call that runs a drill, and the lines of its summary.
use Rattle.std.proofs.Common.{◌≡◌, inr, ℕ, Bool, true, false, cond, List, Option, Some, None, Result, Err, refl, sym, ap, ◌∙◌, subst, arith}
use Rattle.std.specs.Prelude.{◌&&◌, nat_le, option_and_then}
use Rattle.vc_outside.specs.Told.{GrowsByFront}
use Rattle.vc_outside.specs.declared.store.Store.{Ghosts as StoreGhosts}
use Rattle.vc_outside.specs.declared.source.Source.{Ghosts as SourceGhosts}
use Rattle.vc_outside.specs.declared.sink.Sink.{Ghosts as SinkGhosts}
use Rattle.cipher_base.specs.declared.unit.UnitCipher.{Ghosts as CipherGhosts}
use Rattle.hist_lock.specs.declared.view.View.{View}
use Rattle.sector_model.specs.declared.entry.Entry.{Entry}
use Rattle.io_core.specs.State.{State}
use Rattle.cmd_words.specs.Line.{drill, Line, line, Text}
use Rattle.cmd_words.specs.declared.command.Command.{Command}
use Rattle.cmd_words.specs.declared.error.WordsError.{WordsError}
use Rattle.cmd_words.specs.declared.error.WordsError.TheVariants as words
use Rattle.drill_work.specs.Summary.{digest, IsSummary}
use Rattle.drill_work.specs.declared.summary.Summary.{Summary}
use Rattle.drill_streams.specs.Drill.{reads, sectors, writes}
use Rattle.vc_app.specs.declared.serve.asked.Asked.{Asked}
use Rattle.vc_app.specs.Drill.{Answered, Drilled, drilled, drill_lines, number_of, summary_lines}
use Rattle.vc_app.specs.Serve.{asked, asked_by, asked_of, Call, IsComplete, IsOpening, Kept, Unserved}
use Rattle.vc_app.specs.Status.{words_status}
use Rattle.vc_app.proofs.Growth.{front_of_none}
use Rattle.vc_app.proofs.Serving.{complete, opening}
use Rattle.vc_app.proofs.ServedVolume.{line_kept, unread_kept}

-- ---- the summary

-- a drill has one summary, so its lines are those of the number
pub one_summary : (n : ℕ) (s : Summary) → IsSummary n s → summary_lines n s ≡ drill_lines n
one_summary n s is =
    λ i. summary_lines n (record { reads = is.reads i; writes = is.writes i; sectors = is.sectors i; digest = is.digest i })

-- ---- what a command line asks

drilled_is : (arguments : List Text) (l : Line) (x : Option ℕ) → line arguments ≡ Some l → x ≡ number_of l → drilled arguments ≡ x
unfolding drilled
drilled_is arguments l x is made = ap (option_and_then number_of) is ∙ sym made

drilled_none : (arguments : List Text) → line arguments ≡ None → drilled arguments ≡ None
unfolding drilled
drilled_none arguments is = ap (option_and_then number_of) is

-- arguments that ask for a drill ask for no clients
not_both : (arguments : List Text) (n m : ℕ) → drilled arguments ≡ Some n → asked arguments m ≡ None
unfolding drilled asked
not_both arguments n m is = by_line (line arguments) is
  where
    none : (l : Line) → number_of l ≡ Some n → asked_of l ≡ None
    none (drill k) e = refl
    none l e = absurd (cc e)

    by_count : (b : Bool) (l : Line) → asked_of l ≡ None → cond b (asked_of l) None ≡ None
    by_count true l e = e
    by_count false l e = refl

    by_line : (x : Option Line) → option_and_then number_of x ≡ Some n → option_and_then (asked_by m) x ≡ None
    by_line None e = refl
    by_line (Some l) e = by_count (nat_le 1 m && nat_le m 16) l (none l e)

module _ {S C I O : Type 0} (store : StoreGhosts S) (cipher : CipherGhosts C) (source : SourceGhosts I) (sink : SinkGhosts O) where
  pub kept_as : (x y : Option Asked) (pass : Option (View (State S C) Entry)) (c : Call I O) → x ≡ y
      → Kept store cipher source sink x pass c → Kept store cipher source sink y pass c
  kept_as x y pass c is = subst (λ (z : Option Asked). Kept store cipher source sink z pass c) is

  by_drilled : (x y : Option ℕ) (asked : Option Asked) (pass : Option (View (State S C) Entry)) (c : Call I O) → x ≡ y
      → Answered store cipher source sink y asked pass c → Answered store cipher source sink x asked pass c
  by_drilled x y asked pass c is = subst (λ (z : Option ℕ). Answered store cipher source sink z asked pass c) (sym is)

  pub drill_answered : (arguments : List Text) (n m : ℕ) (l : Line) (x : Option ℕ) (pass : Option (View (State S C) Entry)) (c : Call I O)
      → line arguments ≡ Some l → x ≡ number_of l → x ≡ Some n → pass ≡ None → Drilled n c
      → Answered store cipher source sink (drilled arguments) (asked arguments m) pass c
  drill_answered arguments n m l x pass c is made number none done =
      by_drilled (drilled arguments) (Some n) (asked arguments m) pass c (drilled_is arguments l x is made ∙ number) (none, done)

  pub serve_answered : (arguments : List Text) (m : ℕ) (l : Line) (x : Option ℕ) (pass : Option (View (State S C) Entry)) (c : Call I O)
      → line arguments ≡ Some l → x ≡ number_of l → x ≡ None → Kept store cipher source sink (asked_by m l) pass c
      → Answered store cipher source sink (drilled arguments) (asked arguments m) pass c
  serve_answered arguments m l x pass c is made number kept =
      by_drilled (drilled arguments) None (asked arguments m) pass c (drilled_is arguments l x is made ∙ number)
      (line_kept store cipher source sink arguments m l (asked_by m l) pass c is refl kept)

  -- the arguments weren't read
  pub unread_answered : (arguments : List Text) (m : ℕ) (r : Result Command WordsError) (e : WordsError)
      (pass : Option (View (State S C) Entry)) (c : Call I O) → r ≡ Err e → (r ≡ Err words.Usage → line arguments ≡ None) → pass ≡ None
      → Unserved c → c.new.disk_faults ≡ c.old.disk_faults → c.new.moment ≡ c.old.moment → c.status ≡ words_status e
      → Answered store cipher source sink (drilled arguments) (asked arguments m) pass c
  unread_answered arguments m r words.Usage pass c error none is unserved same still status =
      by_drilled (drilled arguments) None (asked arguments m) pass c (drilled_none arguments (none error))
      (unread_kept store cipher source sink arguments m r words.Usage pass c error none is unserved same status)
  unread_answered arguments m r words.NoMemory pass c error none is unserved same still status = by_number (drilled arguments)
    where
      by_number : (x : Option ℕ) → Answered store cipher source sink x (asked arguments m) pass c
      by_number None = unread_kept store cipher source sink arguments m r words.NoMemory pass c error none is unserved same status
      by_number (Some n) = (is, not_begun n)
        where
          not_begun : (n : ℕ) → Drilled n c
          not_begun n = record {
            hands = unserved.idle.hands;
            ends = unserved.idle.ends;
            replies = unserved.idle.replies;
            callers = unserved.idle.callers;
            clients = unserved.idle.clients;
            unchanged = unserved.unchanged;
            disk_faults = same;
            moment = still;
            status = inr (inr status);
            printed = subst (λ (x : Option (List ℕ)). GrowsByFront c.old.contents x (drill_lines n)) (sym unserved.idle.quiet)
                (front_of_none c.old.contents (drill_lines n));
            all_printed = λ e. cc (e, status);
            out_fault = record { later = omega (arith, unserved.idle.out_same); rose = λ e. cc (e, status) };
          }

  pub opening_answered : (arguments : List Text) (m : ℕ) (pass : Option (View (State S C) Entry)) (c : Call I O)
      → Answered store cipher source sink (drilled arguments) (asked arguments m) pass c → IsOpening (asked arguments m) pass c
  opening_answered arguments m pass c = by_number (drilled arguments) refl
    where
      by_number : (x : Option ℕ) → drilled arguments ≡ x → Answered store cipher source sink x (asked arguments m) pass c
          → IsOpening (asked arguments m) pass c
      by_number None is kept = opening store cipher source sink (asked arguments m) pass c kept
      by_number (Some n) is done = λ a b e known quiet memory. absurd (cc (not_both arguments n m is, e))

  pub complete_answered : (arguments : List Text) (m : ℕ) (pass : Option (View (State S C) Entry)) (c : Call I O)
      → Answered store cipher source sink (drilled arguments) (asked arguments m) pass c → IsComplete source sink (asked arguments m) c
  complete_answered arguments m pass c = by_number (drilled arguments) refl
    where
      by_number : (x : Option ℕ) → drilled arguments ≡ x → Answered store cipher source sink x (asked arguments m) pass c
          → IsComplete source sink (asked arguments m) c
      by_number None is kept = complete store cipher source sink (asked arguments m) pass c kept
      by_number (Some n) is done = λ a b header g e known in_range opens first volume quiet out clients whole.
          absurd (cc (not_both arguments n m is, e))
