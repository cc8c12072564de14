use Rattle.std.proofs.Common.{◌≡◌, ◌<◌, ◌≤◌, ℕ, suc, List, [], ◌∷◌, ◌++◌, length, drop, Option, append-nil, refl, sym, ap, ◌∙◌, subst, arith}
use Rattle.std.proofs.lemmas.List.{drop_all}
use Rattle.nbd_session.specs.Sent.{Replied}
use Rattle.nbd_wire.specs.Wire.{reply}
use Rattle.nbd_wire.specs.declared.end.End.{End}
use Rattle.pipe_lane.specs.Lanes.{reply_of}
use Rattle.pipe_lane.specs.declared.lane.Reply.{Reply}
use Rattle.pipe_lane.proofs.send.send_reply.Goals as goal

-- the bytes of a reply by what it is
by_reply : (held now : Option (List ℕ)) (how : Option End) (r s : Reply) → r ≡ s → Replied held now (reply_of s) how → Replied held now (reply_of r) how
by_reply held now how r s is all = subst (λ (x : Reply). Replied held now (reply_of x) how) (sym is) all

same_data : (held now : Option (List ℕ)) (how : Option End) (cookie : ℕ) (a b : List ℕ) → a ≡ b → Replied held now (reply 0 cookie ++ drop 16 a) how
    → Replied held now (reply 0 cookie ++ drop 16 b) how
same_data held now how cookie a b is all = subst (λ (l : List ℕ). Replied held now (reply 0 cookie ++ drop 16 l) how) is all

no_data : (held now : Option (List ℕ)) (how : Option End) (cookie : ℕ) (a : List ℕ) → length a ≤ 16 → Replied held now (reply 0 cookie) how
    → Replied held now (reply 0 cookie ++ drop 16 a) how
no_data held now how cookie a short all =
    subst (λ (l : List ℕ). Replied held now l how) (sym (ap (λ (l : List ℕ). reply 0 cookie ++ l) (drop_all 16 a short) ∙ append-nil (reply 0 cookie))) all

pub returns-in-Alone-clause-replied : goal.returns-in-Alone-clause-replied
returns-in-Alone-clause-replied g c =
    by_reply (g.O.Sink.contents c.args.sink.now) (g.O.Sink.contents c.reply_alone.new.sink) c.reply_alone.result c.args.reply _ c.in-Alone.is
    c.reply_alone.ensures.replied

pub returns-then-len-lt-REPLY-clause-replied : goal.returns-then-len-lt-REPLY-clause-replied
returns-then-len-lt-REPLY-clause-replied g c =
    let short : length c.in-Data.buf.items ≤ 16 = omega (arith, c.in-Data.buf.ok.0, c.len.ensures) in
    by_reply (g.O.Sink.contents c.args.sink.now) (g.O.Sink.contents c.reply_alone-then-len-lt-REPLY.new.sink)
    c.reply_alone-then-len-lt-REPLY.result c.args.reply _ c.in-Data.is
    (no_data (g.O.Sink.contents c.args.sink.now) (g.O.Sink.contents c.reply_alone-then-len-lt-REPLY.new.sink)
    c.reply_alone-then-len-lt-REPLY.result c.in-Data.request.cookie c.in-Data.buf.items short c.reply_alone-then-len-lt-REPLY.ensures.replied)

pub returns-else-len-lt-REPLY-clause-replied : goal.returns-else-len-lt-REPLY-clause-replied
returns-else-len-lt-REPLY-clause-replied g c =
    by_reply (g.O.Sink.contents c.args.sink.now) (g.O.Sink.contents c.reply_data.new.sink) c.reply_data.result c.args.reply _ c.in-Data.is
    (same_data (g.O.Sink.contents c.args.sink.now) (g.O.Sink.contents c.reply_data.new.sink) c.reply_data.result c.in-Data.request.cookie
    c.deref_mut.result.now c.in-Data.buf.items c.deref_mut.ensures.value c.reply_data.ensures.replied)
