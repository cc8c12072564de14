-- What a command promises that opens a volume and writes headers anew, with the fields of the opened one.
--
-- sealing access o              what opened the header o
-- AtStop only stays could c     an image c that a crash may leave differs by `only` from one that a crash might leave
--                               when the call began, and `stays` says which header is there
-- rewriting ..                  the promise, of the image that is made of the opened header and of the bytes, of the
--                               bytes that may differ, and of what stays after a crash at any moment of the call
use Rattle.std.specs.Prelude.{ℕ, false, List, [], MatchOption}
use Rattle.vc_layout.specs.declared.slots.Slot.{Slot}
use Rattle.vc_header.specs.declared.fields.Fields.{Fields}
use Rattle.header_seal.specs.declared.opened.Opened.{Opened}
use Rattle.volume_format.specs.Formatted.{Sealing}
use Rattle.header_change.specs.Changed.{new_sealing}
use Rattle.header_change.specs.Moments.{After, HasFields, IsOpen}
use Rattle.vc_app.specs.declared.access.Access.{Access}
use Rattle.vc_app.specs.Access.{opened, over_opened}
use Rattle.vc_app.specs.Format.{done_line}
use Rattle.vc_app.specs.Promise.{Promise, goes, part}

abbrev pub sealing : Access → Opened → Sealing
sealing access o = new_sealing access.password access.pim o.prf o

-- what is said of a header in a slot, under a sealing
abbrev pub OfHeader : Type 1
OfHeader = Slot → Sealing → Fields → List ℕ → Type 0

pub record AtStop (only : List ℕ → List ℕ → Type 0) (stays : OfHeader → Type 0) (could : List ℕ → Type 0) (c : List ℕ)
    : Type 0 where
  pub differs : After could only c
  pub carries : stays HasFields
  pub opens : stays IsOpen

abbrev pub rewriting : Access → (Opened → List ℕ → List ℕ) → (Opened → List ℕ → List ℕ → Type 0)
    → (Opened → (List ℕ → Type 0) → List ℕ → OfHeader → Type 0) → Promise
rewriting access made only stays =
    over_opened access [] false
    (part (λ b c. MatchOption (opened access b) ⊥ (λ o. only o b c))
    (λ b could c. MatchOption (opened access b) ⊥ (λ o. AtStop (only o) (stays o could c) could c)))
    (λ o image. goes (record { image = made o image; output = done_line }))
