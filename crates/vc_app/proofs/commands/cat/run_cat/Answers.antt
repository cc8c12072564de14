use Rattle.std.proofs.Common.{◌≡◌, ◌<◌, ◌≤◌, ◌+◌, ◌-◌, ◌/◌, ◌⊎◌, inl, inr, ℕ, true, false, List, [], ◌∷◌, Option, Some, None, refl, ap, subst, ◌∙◌, arith}
use Rattle.std.specs.Prelude.{nat_le, if◌then◌else◌, IfSome, OnOk}
use Rattle.std.proofs.lemmas.Bool.Decides.{leb_tells}
use Rattle.header_seal.specs.declared.opened.Opened.{Opened}
use Rattle.vc_app.specs.declared.commands.cat.Cat.{Cat}
use Rattle.vc_app.specs.Access.{opened, outcome_of}
use Rattle.vc_app.specs.Cat.{asked, cat_status, is_inside, outcome, promise}
use Rattle.vc_app.specs.Promise.{goes, Kept, nowhere, refused, seen}
use Rattle.vc_app.specs.declared.status.Status.TheVariants.{BadSize}
use Rattle.vc_app.proofs.PromiseIsKept.{all_done, done_after, passed_on, refusal_kept}
use Rattle.vc_app.proofs.Reading.{both_known, image_same, opened_kept, opening_failed}
use Rattle.vc_app.specs.declared.commands.cat.CatError.TheVariants.{Open, Work}
use Rattle.vc_app.specs.Status.{ended, work_status}
use Rattle.vc_outside.specs.Told.{Grows, GrowsByFront}
use Rattle.vc_outside.proofs.NothingMore.{nothing_more_twice}
use Rattle.vc_app.proofs.commands.cat.run_cat.Given.{Over}
use Rattle.vc_app.proofs.commands.cat.run_cat.Goals as goal
use Rattle.vc_app.proofs.commands.cat.run_cat.Goals.{After-settle, then-command-sectors-via-then-command-sectors, then-command-sectors-via-else-command-sectors+then-command-sectors-2}

-- sectors that pass the end
outside : (first count sectors : ℕ) → (sectors < first) ⊎ (sectors - first < count) → nat_le (first + count) sectors ≡ false
outside first count sectors h = elim (leb_tells (first + count) sectors) [
  | inl inside ↦ absurd (elim h [ inl after ↦ omega (arith, inside.1, after) | inr long ↦ omega (arith, inside.1, long) ])
  | inr beyond ↦ beyond.0
]

-- sectors that don't
within : (first count sectors : ℕ) → first ≤ sectors → count ≤ sectors - first → nat_le (first + count) sectors ≡ true
within first count sectors h k = elim (leb_tells (first + count) sectors) [
  | inl inside ↦ inside.0
  | inr beyond ↦ absurd (omega (arith, h, k, beyond.1))
]

-- what comes of the opened volume then
comes_beyond : (command : Cat) (image : Option (List ℕ)) (o : Opened) → IfSome image (λ b. opened command.access b ≡ Some o)
    → is_inside command o ≡ false → IfSome ((promise command).plan image) (λ x. x ≡ refused BadSize)
comes_beyond command None o is beyond = tt
comes_beyond command (Some b) o is beyond =
    ap (outcome_of (λ o. outcome command o b)) is
    ∙ ap (λ t. if t then goes (record { image = b; output = asked command o b }) else refused BadSize) beyond

pub returns-then-command-sectors : goal.returns-then-command-sectors
returns-then-command-sectors g c =
    let command = c.args.command.now in
    let o = c.in_ok-opened.opened in
    let sectors : ℕ = o.fields.volume_size / c.from.result in
    let passes : (sectors < command.first) ⊎ (sectors - command.first < command.count) = elim c.then-command-sectors.branch [
      | then-command-sectors-via-then-command-sectors w ↦ inl w.if-command-sectors.true
      | then-command-sectors-via-else-command-sectors+then-command-sectors-2 w ↦ inr w.if-command-sectors-2.true
    ] in
    let beyond : is_inside command o ≡ false
    = subst (λ (k : ℕ). nat_le (command.first + command.count) (o.fields.volume_size / k) ≡ false) c.from.ensures
    (outside command.first command.count sectors passes) in
    refusal_kept (promise command) BadSize (seen g.D.Store g.O.Sink c.args.disk.now c.args.out.now)
    (seen g.D.Store g.O.Sink c.open.new.disk c.args.out.now) tt tt
    (record { contents = refl; disk_later = c.open.ensures.later; out_same = refl })
    (record { same = record { image = c.open.ensures.image; size = c.open.ensures.size }; crash = c.open.ensures.crash })
    (inr (record {
      admitted = c.in_ok-opened.ensures.in_range;
      named = (1, omega arith, refl);
      comes = comes_beyond command (g.D.Store.image c.args.disk.now) o c.in_ok-opened.ensures.opened beyond;
    }))
    (λ t early. absurd (early.refuses c.in_ok-opened.ensures.in_range))

pub returns-in_err-opened : goal.returns-in_err-opened
returns-in_err-opened g c =
    let command = c.args.command.now in
    opening_failed cat_status (λ e. Open e) command.access (BadSize ∷ []) true nowhere (outcome command) c.open.result
    c.in_err-opened.field-0.0 c.from_residual.result _ _ c.in_err-opened.was c.from_residual.ensures.1 refl
    (record { contents = refl; disk_later = c.open.ensures.later; out_same = refl })
    (record { same = record { image = c.open.ensures.image; size = c.open.ensures.size }; crash = c.open.ensures.crash })
    c.open.ensures.unopened

-- the volume has the sectors
written : (g : Over) (c : After-settle g) → Kept (promise c.args.command.now) (ended work_status c.settle.result)
    (seen g.D.Store g.O.Sink c.args.disk.now c.args.out.now)
    (seen g.D.Store g.O.Sink c.write_sectors-written.new.disk c.write_sectors-written.new.out)
written g c =
    let command = c.args.command.now in
    let o = c.in_ok-opened.opened in
    let said = c.write_sectors-written.ensures in
    let old = seen g.D.Store g.O.Sink c.args.disk.now c.args.out.now in
    let new = seen g.D.Store g.O.Sink c.write_sectors-written.new.disk c.write_sectors-written.new.out in
    let inside : is_inside command o ≡ true
    = subst (λ (k : ℕ). nat_le (command.first + command.count) (o.fields.volume_size / k) ≡ true) c.from.ensures
    (within command.first command.count (o.fields.volume_size / c.from.result) c.if-command-sectors.false c.if-command-sectors-2.false) in
    let image : g.D.Store.image c.write_sectors-written.new.disk ≡ g.D.Store.image c.args.disk.now = said.image ∙ c.open.ensures.image in
    opened_kept command.access (BadSize ∷ []) true nowhere (outcome command) (λ b. record { image = b; output = asked command o b }) o
    c.settle.result c.new-counts.result.disk c.new-counts.result.out old new
    c.new-counts.ensures.disk c.new-counts.ensures.out c.settle.ensures.settled c.in_ok-opened.ensures.in_range
    (both_known old.image _ _ c.in_ok-opened.ensures.opened
    (λ b. ap (λ t. if t then goes (record { image = b; output = asked command o b }) else refused BadSize) inside))
    (image_same old.image new.image image) (said.size ∙ c.open.ensures.size) tt
    (record {
      same = record { image = image; size = said.size ∙ c.open.ensures.size };
      crash = nothing_more_twice _ _ _ _ _ _ _ _ _ _
          (λ modelled t b from left. g.met.D.Store.counts_now modelled c.args.disk.now t b from left)
          c.open.ensures.crash said.crash;
    })
    (done_after c.settle.result c.write_sectors-written.result _ c.settle.ensures.done
    (subst (λ (x : Option (List ℕ)). OnOk c.write_sectors-written.result (IfSome x (λ b. Grows old.contents new.contents (asked command o b))))
    c.open.ensures.image said.done))
    (subst (λ (x : Option (List ℕ)). IfSome x (λ b. GrowsByFront old.contents new.contents (asked command o b))) c.open.ensures.image said.front)
    (λ e streams. absurd (cc streams))

pub returns-in_err-settle : goal.returns-in_err-settle
returns-in_err-settle g c =
    passed_on cat_status (λ e. Work e) _ _ _ c.settle.result c.in_err-settle.field-0.0 c.from_residual-in_err-settle.result
    c.in_err-settle.was c.from_residual-in_err-settle.ensures.1 refl (written g (goal.at.returns-in_err-settle g c).After-settle)

pub returns : goal.returns
returns g c = all_done _ _ _ c.settle.result _ c.in_ok-settle.was (written g (goal.at.returns g c).After-settle)
