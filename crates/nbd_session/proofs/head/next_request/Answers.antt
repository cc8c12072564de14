use Rattle.std.proofs.Common.{◌≡◌, ◌≤◌, ◌<◌, ◌+◌, ◌-◌, ℕ, List, Some, length, take, drop, refl, sym, ap, ◌∙◌, arith}
use Rattle.std.specs.Prelude.{is_some}
use Rattle.std.proofs.lemmas.List.{length-take, length-take-le}
use borrow.Rule.Slice.PartMut.{put_mid}
use Rattle.nbd_wire.specs.Wire.{has_magic}
use Rattle.nbd_wire.specs.declared.end.End.TheVariants as end
use Rattle.nbd_session.proofs.NoHead.{bad_bytes, four-take, magic-take, no_ok, none_by, stopped, whole_input, whole_size}
use Rattle.nbd_session.proofs.head.next_request.Goals as goal

pub returns-in-Err-clause-none : goal.returns-in-Err-clause-none
returns-in-Err-clause-none g c =
    let k : ℕ = c.fill-first.result.count in
    let buf : List ℕ = c.fill-first.new.buf in
    let within : k ≤ length buf = omega (arith, c.fill-first.ensures.within, c.fill-first.auto.buf) in
    let least : 4 ≤ k = c.fill-first.ensures.enough (none_by c.fill-first.result.stop c.in_default.not-Some) in
    bad_bytes _ _ (take k buf) _ c.fill-first.ensures.given (omega (arith, length-take-le k buf within, least))
    (sym (magic-take k buf within least) ∙ no_ok (has_magic buf) c.read_request.result c.in-Err.bad c.read_request.ensures.magic c.in-Err.is)
    (c.bad_end.ensures ∙ ap end.BadMagic (c.in-Err.ensures.bad ∙ four-take k buf within least))

pub returns-in-Some-stop-clause-none : goal.returns-in-Some-stop-clause-none
returns-in-Some-stop-clause-none g c =
    let k : ℕ = c.fill-first.result.count in
    let j : ℕ = c.fill-rest.result.count in
    let buf : List ℕ = c.fill-first.new.buf in
    let part : List ℕ = c.fill-rest.new.buf in
    let least : 4 ≤ k = c.fill-first.ensures.enough (none_by c.fill-first.result.stop c.in_default.not-Some) in
    let here : j ≤ length part = omega (arith, c.fill-rest.ensures.within, c.fill-rest.auto.buf) in
    let short : j < 28 - k = c.fill-rest.ensures.short (ap is_some c.in-Some-stop.is) in
    stopped _ _ _ k j buf part c.fill-first.ensures.given c.fill-rest.ensures.given c.fill-first.auto.buf c.fill-first.ensures.within least here
    c.in-Some-stop.stop _ (c.in_default-read_request.ensures.magic.0 refl) (omega (arith, short)) c.end_of-in-Some-stop.ensures
    (λ is. c.fill-rest.ensures.ended (c.in-Some-stop.is ∙ ap Some is))

pub returns-in-Ok-clause-head : goal.returns-in-Ok-clause-head
returns-in-Ok-clause-head g c =
    let k : ℕ = c.fill-first.result.count in
    let j : ℕ = c.fill-rest.result.count in
    let buf : List ℕ = c.fill-first.new.buf in
    let part : List ℕ = c.fill-rest.new.buf in
    let least : 4 ≤ k = c.fill-first.ensures.enough (none_by c.fill-first.result.stop c.in_default.not-Some) in
    let here : j ≤ length part = omega (arith, c.fill-rest.ensures.within, c.fill-rest.auto.buf) in
    let enough : 28 - k ≤ j = c.fill-rest.ensures.enough (none_by c.fill-rest.result.stop c.in_default-stop.not-Some) in
    let room : length part ≤ 28 - k = omega (arith, c.fill-rest.auto.buf, length-take (28 - k) (drop k buf)) in
    let all : length part ≤ j = omega (arith, room, enough) in
    let whole : k + j ≡ 28 = omega (arith, room, enough, here, c.fill-first.ensures.within) in record {
      head = put_mid k (28 - k) buf part;
      input = whole_input _ _ _ k j buf part c.fill-first.ensures.given c.fill-rest.ensures.given c.fill-first.auto.buf c.fill-first.ensures.within least here
          (28 - k) (omega arith) all whole;
      size = whole_size _ _ _ k j buf part c.fill-first.ensures.given c.fill-rest.ensures.given c.fill-first.auto.buf c.fill-first.ensures.within least here
          (28 - k) (omega arith) all whole;
      magic = c.in-Ok.ensures.magic.0 refl;
      fields = sym c.in-Ok.ensures.fields;
    }

pub returns-in-Err-read_request-clause-none : goal.returns-in-Err-read_request-clause-none
returns-in-Err-read_request-clause-none g c =
    let k : ℕ = c.fill-first.result.count in
    let j : ℕ = c.fill-rest.result.count in
    let buf : List ℕ = c.fill-first.new.buf in
    let part : List ℕ = c.fill-rest.new.buf in
    let least : 4 ≤ k = c.fill-first.ensures.enough (none_by c.fill-first.result.stop c.in_default.not-Some) in
    let here : j ≤ length part = omega (arith, c.fill-rest.ensures.within, c.fill-rest.auto.buf) in
    let enough : 28 - k ≤ j = c.fill-rest.ensures.enough (none_by c.fill-rest.result.stop c.in_default-stop.not-Some) in
    let room : length part ≤ 28 - k = omega (arith, c.fill-rest.auto.buf, length-take (28 - k) (drop k buf)) in
    let all : length part ≤ j = omega (arith, room, enough) in
    let whole : k + j ≡ 28 = omega (arith, room, enough, here, c.fill-first.ensures.within) in
    let head : List ℕ = put_mid k (28 - k) buf part in
    let size : length head ≡ 28 = whole_size _ _ _ k j buf part c.fill-first.ensures.given c.fill-rest.ensures.given c.fill-first.auto.buf
    c.fill-first.ensures.within least here (28 - k) (omega arith) all whole in
    bad_bytes _ _ head _
    (whole_input _ _ _ k j buf part c.fill-first.ensures.given c.fill-rest.ensures.given c.fill-first.auto.buf c.fill-first.ensures.within least here
    (28 - k) (omega arith) all whole)
    (omega (arith, size))
    (no_ok (has_magic head) c.read_request-2.result c.in-Err-read_request.bad c.read_request-2.ensures.magic c.in-Err-read_request.is)
    (c.bad_end-in-Err-read_request.ensures ∙ ap end.BadMagic c.in-Err-read_request.ensures.bad)
