use Rattle.std.proofs.Common.{◌≡◌, ℕ, List, get_or, ap, subst, sym, ◌∙◌, rules, arith}
use Rattle.std.proofs.lemmas.List.{length-map}
use Rattle.vc_outside.specs.Laws.Log.{Log, event_of, events_of}
use Rattle.vc_outside.specs.Record.{after, crashed, Event, picked}
use Rattle.vc_outside.specs.Laws.Invariant.{Fits, IsRecord}
use Rattle.vc_outside.specs.declared.record.Call.{Call}
use Rattle.vc_outside.specs.declared.record.Call.TheVariants.{Write}
use Rattle.vc_outside.proofs.CrashIsReplayed.{starts, ends, fits, long, goes_on}
use Rattle.vc_outside.proofs.record.Record.crash.Goals as goal

pub loop-call-init : goal.loop-call-init
loop-call-init c = starts c.args.pick _ c.args.first.now c.in_ok-read.read.items c.in_ok-image.image.items (search rules) (search rules)

-- the calls that the loop goes over stand for the events
same_events : (bytes : List ℕ) (calls items : List Call) (log : Log) (places room : ℕ) → items ≡ calls
    → record { events = events_of bytes calls; places = places; room = room } ≡ log → events_of bytes items ≡ log.events
same_events bytes calls items log places room same is = ap (events_of bytes) same ∙ ap (λ (l : Log). l.events) is

pub replay-requires-clause-fits : goal.replay-requires-clause-fits
replay-requires-clause-fits c =
    let bytes = c.self.inside.bytes.items in
    let calls = c.deref-call-items.result.now in
    let same = same_events bytes _ calls c.args.self.now _ _ c.deref-call-items.ensures.value c.self.view_is in
    let sound = subst (λ (es : List Event). IsRecord es c.args.first.now) (sym same) c.requires in
    subst (λ (l : List ℕ). Fits (event_of l (get_or calls c.loop-call.call-index (Write 0 0 0))) c.loop-call.read.items) (sym c.deref.ensures.value)
    (fits c.args.pick c.loop-call.call-index bytes calls (Write 0 0 0) c.args.first.now c.loop-call.read.items c.loop-call.image.items c.loop-call-test.true c.loop-call.invariant sound)

pub replay-requires-clause-long : goal.replay-requires-clause-long
replay-requires-clause-long c =
    let bytes = c.self.inside.bytes.items in
    let calls = c.deref-call-items.result.now in
    let same = same_events bytes _ calls c.args.self.now _ _ c.deref-call-items.ensures.value c.self.view_is in
    let sound = subst (λ (es : List Event). IsRecord es c.args.first.now) (sym same) c.requires in
    long c.args.pick c.loop-call.call-index bytes calls (Write 0 0 0) c.args.first.now c.loop-call.read.items c.loop-call.image.items c.loop-call-test.true c.loop-call.invariant sound

pub loop-call-preserved : goal.loop-call-preserved
loop-call-preserved c =
    let bytes = c.self.inside.bytes.items in
    let calls = c.deref-call-items.result.now in
    let call = get_or calls c.loop-call.call-index (Write 0 0 0) in
    goes_on c.args.pick c.loop-call.call-index bytes calls (Write 0 0 0) c.args.first.now c.loop-call.read.items c.loop-call.image.items c.loop-call-test.true c.loop-call.invariant
    c.replay.new.read.items c.replay.new.image.items
    (c.in_ok-replay.ensures.read ∙ ap (λ (l : List ℕ). after (event_of l call) c.loop-call.read.items) c.deref.ensures.value)
    (c.in_ok-replay.ensures.image ∙ ap (λ (l : List ℕ). picked c.args.pick (event_of l call) c.loop-call.read.items c.loop-call.image.items) c.deref.ensures.value)

pub returns : goal.returns
returns c =
    let bytes = c.self.inside.bytes.items in
    let calls = c.deref-call-items.result.now in
    let same = same_events bytes _ calls c.args.self.now _ _ c.deref-call-items.ensures.value c.self.view_is in
    ends c.args.pick c.loop-call.call-index (events_of bytes calls) c.args.first.now c.loop-call.read.items c.loop-call.image.items c.loop-call.invariant
    (omega (arith, length-map calls (event_of bytes)))
    ∙ ap (λ (es : List Event). crashed c.args.pick es c.args.first.now c.args.first.now) same
