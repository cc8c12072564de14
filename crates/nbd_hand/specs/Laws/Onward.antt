-- What a handshake did so far.
--
-- Onward f g ..    what g says of later bytes, after what was taken and written so far, f says of all of them
-- Answers ..       one option was taken and answered, and the next one follows
-- LastOption ..    the handshake ended at an option, whatever follows
-- NoOption ..      the same before anything was replied to it
use Rattle.std.specs.Prelude.{◌≡◌, ℕ, Bool, List, ◌++◌, Option}
use Rattle.vc_outside.specs.Told.{Grows, Shrinks}
use Rattle.nbd_hand.specs.Hand.{before, Does, followed, Hand}
use Rattle.nbd_hand.specs.Options.{next, step}
use Rattle.nbd_hand.specs.declared.end.HandEnd.{HandEnd}

pub record Onward (f g : List ℕ → Hand) (left later held now : Option (List ℕ)) : Type 0 where
  pub taken : List ℕ
  pub written : List ℕ
  pub input : Shrinks left later taken
  pub output : Grows held now written
  pub goes : (bytes : List ℕ) → f (taken ++ bytes) ≡ before written (g bytes)

pub record Answers (size : ℕ) (zeros : Bool) (left later held now : Option (List ℕ)) : Type 0 where
  pub taken : List ℕ
  pub written : List ℕ
  pub input : Shrinks left later taken
  pub output : Grows held now written
  pub steps : (rest : List ℕ) → step size zeros (taken ++ rest) ≡ next written rest

abbrev pub LastOption : ℕ → Bool → Option (List ℕ) → Option (List ℕ) → Option (List ℕ) → Option (List ℕ) → HandEnd → Type 0
LastOption size zeros left later held now how = (more : List ℕ → Hand) → Does (λ bytes. followed (step size zeros bytes) more) left later held now how

abbrev pub NoOption : Option (List ℕ) → Option (List ℕ) → HandEnd → Type 0
NoOption left later how = (size : ℕ) (zeros : Bool) (held : Option (List ℕ)) → LastOption size zeros left later held held how
