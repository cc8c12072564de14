-- From the arguments to the promise that is kept.
use Rattle.std.proofs.Common.{◌≡◌, inl, List, Option, Some, None, Result, Err, refl, sym, subst, arith}
use Rattle.cmd_words.specs.Line.{Line, line, Text}
use Rattle.cmd_words.specs.declared.command.Command.{Command}
use Rattle.cmd_words.specs.declared.error.WordsError.{WordsError}
use Rattle.cmd_words.specs.declared.error.WordsError.TheVariants as words
use Rattle.vc_outside.proofs.NothingMore.{nothing_more}
use Rattle.vc_app.specs.declared.status.Status.{Status}
use Rattle.vc_app.specs.declared.status.Status.TheVariants.{Usage}
use Rattle.vc_app.specs.Commands.{promise_by, promise_of, promise_of_line}
use Rattle.vc_app.specs.Promise.{Kept, no_command, Seen, Unchanged}
use Rattle.vc_app.specs.Status.{words_status}
use Rattle.vc_app.proofs.PromiseIsKept.{memory_kept, refusal_kept, unchanged_within, Quiet}

nothing_written : (now : Seen) → Quiet now now
nothing_written now = record { contents = refl; disk_later = omega arith; out_same = refl }

nothing_changed : (now : Seen) → Unchanged now now
nothing_changed now = record {
  same = record { image = refl; size = refl };
  crash = nothing_more now.tells now.moment now.left_since now.may_leave;
}

-- what is no command is Usage
usage_kept : (now : Seen) → Kept no_command Usage now now
usage_kept now =
    refusal_kept no_command Usage now now tt tt (nothing_written now) (nothing_changed now)
    (inl (record { refuses = λ h. h; comes = refl })) (λ t early. sym early.comes)

pub line_kept : (arguments : List Text) (l : Line) (s : Status) (old new : Seen) → line arguments ≡ Some l
    → Kept (promise_of_line l) s old new → Kept (promise_of arguments) s old new
unfolding promise_of
line_kept arguments l s old new is kept = subst (λ (x : Option Line). Kept (promise_by x) s old new) (sym is) kept

none_kept : (arguments : List Text) (now : Seen) → line arguments ≡ None → Kept (promise_of arguments) Usage now now
unfolding promise_of
none_kept arguments now is = subst (λ (x : Option Line). Kept (promise_by x) Usage now now) (sym is) (usage_kept now)

-- the arguments weren't read
pub unread_kept : (arguments : List Text) (r : Result Command WordsError) (e : WordsError) (now : Seen) → r ≡ Err e
    → (r ≡ Err words.Usage → line arguments ≡ None) → Kept (promise_of arguments) (words_status e) now now
unread_kept arguments r words.Usage now is none = none_kept arguments now (none is)
unread_kept arguments r words.NoMemory now is none =
    memory_kept (promise_of arguments) now now (nothing_written now) (nothing_changed now).same
    (unchanged_within (promise_of arguments).reach now now (nothing_changed now)) (λ t early. nothing_changed now) refl
