-- Bytes taken of a source.
--
-- Passes n k stop            k of n bytes were taken: all of them, or fewer if the source stopped
-- end_of stop between         how the session ends then, between two requests or inside one
-- TakesHead left later r      a head was taken, and has these fields
-- Skips left later n stop    bytes were skipped, up to n. If the source ended, they are all that was left.
-- OnlyEnds s how              bytes that start so have no request, and the session ends so
-- NoRequest left later how    bytes were taken that have no request
-- TakesPayload ..            a payload of n bytes was taken, into memory if there was enough
-- CutsPayload ..             the source stopped inside a payload of n bytes
use Rattle.std.specs.Prelude.{◌≡◌, ◌<◌, ◌⊎◌, ℕ, Bool, true, false, if◌then◌else◌, List, [], length, Option, Some, None, IfSome}
use Rattle.nbd_wire.specs.Frames.{frames, Start, over, short, wrong, leaves, asks, start}
use Rattle.nbd_wire.specs.Wire.{has_magic, request_of}
use Rattle.nbd_wire.specs.declared.end.End.{End}
use Rattle.nbd_wire.specs.declared.end.End.TheVariants.{Done, Cut, BadMagic, ReadFault}
use Rattle.nbd_wire.specs.declared.request.Request.{Request}
use Rattle.vc_outside.specs.Told.{Shrinks}
use Rattle.nbd_session.specs.declared.input.Stop.{Stop}
use Rattle.nbd_session.specs.declared.input.Stop.TheVariants.{Ended, Failed}

abbrev pub Passes : ℕ → ℕ → Option Stop → Type 0
Passes n k None = k ≡ n
Passes n k (Some stop) = k < n

pub record Skips (left later : Option (List ℕ)) (n : ℕ) (stop : Option Stop) : Type 0 where
  pub bytes : List ℕ
  pub given : Shrinks left later bytes
  pub count : Passes n (length bytes) stop
  pub ended : stop ≡ Some Ended → IfSome left (λ xs. xs ≡ bytes)

abbrev pub end_of : Stop → Bool → End
end_of Ended between = if between then Done else Cut
end_of Failed between = ReadFault

pub record TakesHead (left later : Option (List ℕ)) (r : Request) : Type 0 where
  pub head : List ℕ
  pub input : Shrinks left later head
  pub size : length head ≡ 28
  pub magic : has_magic head ≡ true
  pub fields : request_of head ≡ r

pub record TakesPayload (left later : Option (List ℕ)) (n : ℕ) (kept : Option (List ℕ)) : Type 0 where
  pub payload : List ℕ
  pub input : Shrinks left later payload
  pub size : length payload ≡ n
  pub is : IfSome kept (λ bytes. bytes ≡ payload)

pub record CutsPayload (left later : Option (List ℕ)) (n : ℕ) (how : End) : Type 0 where
  pub part : List ℕ
  pub stop : Stop
  pub input : Shrinks left later part
  pub few : length part < n
  pub ends : how ≡ end_of stop false
  pub all : stop ≡ Ended → IfSome left (λ bytes. bytes ≡ part)

abbrev pub OnlyEnds : Start → End → Type 0
OnlyEnds over how = (how ≡ Done) ⊎ (how ≡ ReadFault)
OnlyEnds short how = (how ≡ Cut) ⊎ (how ≡ ReadFault)
OnlyEnds (wrong magic) how = (how ≡ BadMagic magic) ⊎ (how ≡ ReadFault)
OnlyEnds (leaves rest) how = (how ≡ Done) ⊎ (how ≡ ReadFault)
OnlyEnds (asks r payload rest) how = ⊥

pub record NoRequest (left later : Option (List ℕ)) (how : End) : Type 0 where
  pub taken : List ℕ
  pub input : Shrinks left later taken
  pub alone : OnlyEnds (start taken) how
  pub whole : IfSome left (λ bytes. ¬ (how ≡ ReadFault) → OnlyEnds (start bytes) how)
  pub unread : (frames taken).unread ≡ []
