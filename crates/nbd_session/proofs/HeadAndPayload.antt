-- A request from its head and its payload, and what came of it.
--
-- A head that was taken decides how bytes start: with a disconnect, or with a request that has the payload after the head.
-- So a session that has taken both, and then answered, has answered the first request of all bytes that begin so.
use Rattle.std.proofs.Common.{◌≡◌, ◌⊎◌, ℕ, ◌==◌, true, false, List, [], ◌++◌, take, drop, Option, Some, None, IfSome, append_assoc, inl, refl, sym, ap, ◌∙◌, subst, arith}
use Rattle.std.proofs.lemmas.List.{append-nil, length-drop, take-append-drop}
use Rattle.nbd_wire.proofs.AnsweredOnward.{unread-start}
use Rattle.nbd_wire.specs.Frames.{after_head, Start, leaves, asks, payload_length, start}
use Rattle.nbd_wire.specs.Replies.{IsAnswered}
use Rattle.nbd_wire.specs.declared.end.End.{End}
use Rattle.nbd_wire.specs.declared.end.End.TheVariants as end
use Rattle.nbd_wire.specs.declared.request.Request.{Request}
use Rattle.sector_model.specs.declared.entry.Event.{Event}
use Rattle.vc_outside.specs.Told.{Grows, Shrinks}
use Rattle.nbd_session.specs.Session.{Serves}
use Rattle.nbd_session.specs.Laws.Onward.{Answers}
use Rattle.nbd_session.specs.Taken.{CutsPayload, NoRequest, OnlyEnds, TakesHead, TakesPayload}
use Rattle.nbd_session.specs.Sent.{GrowsInPart}
use Rattle.nbd_session.proofs.NoHead.{short_bytes}
use Rattle.nbd_session.proofs.RequestByRequest.{serves_stop}
use Rattle.nbd_session.proofs.Starts.{after_disconnect, after_part, after_whole, start_head}
use Rattle.nbd_session.proofs.Streams.{ended_on, shrinks_twice}

module _ (a b : Option (List ℕ)) (r : Request) (h : TakesHead a b r) where
  after : (rest : List ℕ) → start (h.head ++ rest) ≡ after_head r rest
  after rest = start_head h.head rest h.size h.magic ∙ ap (λ (q : Request). after_head q rest) h.fields

  -- a disconnect
  module _ (is : (r.kind == 2) ≡ true) where
    whole_leaves : (a b : Option (List ℕ)) → Shrinks a b h.head → IfSome a (λ bytes. ¬ (end.Done ≡ end.ReadFault) → OnlyEnds (start bytes) end.Done)
    whole_leaves None b input = tt
    whole_leaves (Some bytes) None input = absurd input
    whole_leaves (Some bytes) (Some rest) input = λ known.
        subst (λ (s : Start). OnlyEnds s end.Done) (sym (ap start input ∙ after rest ∙ after_disconnect r rest is)) (inl refl)

    pub disconnects : NoRequest a b end.Done
    disconnects = record {
      taken = h.head;
      input = h.input;
      alone = subst (λ (s : Start). OnlyEnds s end.Done)
          (sym (ap start (sym (append-nil h.head)) ∙ after [] ∙ after_disconnect r [] is)) (inl refl);
      whole = whole_leaves a b h.input;
      unread = unread-start h.head (leaves []) (ap start (sym (append-nil h.head)) ∙ after [] ∙ after_disconnect r [] is);
    }

  module _ (c : Option (List ℕ)) (isnt : (r.kind == 2) ≡ false) where
    -- the source stopped inside the payload
    pub cut_request : (how : End) → CutsPayload b c (payload_length r) how → NoRequest a c how
    cut_request how p =
        short_bytes a c (h.head ++ p.part) p.stop how (shrinks_twice a b c h.head p.part h.input p.input)
        (after p.part ∙ after_part r p.part isnt p.few) p.ends (λ is. ended_on a b h.head p.part h.input (p.all is))

    -- the payload is there
    module _ (kept : Option (List ℕ)) (p : TakesPayload b c (payload_length r) kept) where
      starts : (rest : List ℕ) → start ((h.head ++ p.payload) ++ rest) ≡ asks r p.payload rest
      starts rest = ap start (append_assoc h.head p.payload rest) ∙ after (p.payload ++ rest) ∙ after_whole r p.payload rest isnt p.size

      module _ (sector : ℕ) (held now : Option (List ℕ)) (es : List Event) (whole : List ℕ) where
        pub answered_request : IsAnswered sector (record { request = r; payload = p.payload }) es whole → Grows held now whole → Answers sector a c held now es
        answered_request answered output = record {
          frame = record { request = r; payload = p.payload };
          taken = h.head ++ p.payload;
          written = whole;
          input = shrinks_twice a b c h.head p.payload h.input p.input;
          output = output;
          starts = starts;
          answered = answered;
        }

        pub failed_reply : (how : End) → IsAnswered sector (record { request = r; payload = p.payload }) es whole → GrowsInPart held now whole
            → (how ≡ end.WriteFault) ⊎ (how ≡ end.NoMemory) → Serves sector a c held now es 0 how
        failed_reply how answered front cause =
            serves_stop sector a c held now es how (record { request = r; payload = p.payload }) (h.head ++ p.payload) (take front.0 whole) starts
            (record {
              whole = whole;
              answered = answered;
              none = refl;
              rest = drop front.0 whole;
              prefix = sym (take-append-drop front.0 whole);
              some_left = omega (arith, front.1, length-drop front.0 whole);
              cause = cause;
            })
            (shrinks_twice a b c h.head p.payload h.input p.input) front.2
