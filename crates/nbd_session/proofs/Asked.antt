-- What follows from what a head asks.
use Rattle.std.proofs.Common.{◌≡◌, ◌≤◌, ◌<◌, ℕ, ◌*◌, ◌/◌, ◌%◌, ◌^◌, ◌==◌, ◌&&◌, nat_lt, nat_le, Bool, true, false, if◌then◌else◌, inl, inr, refl, sym, ap, ◌∙◌, subst, arith}
use Rattle.std.proofs.lemmas.Bool.{and_parts, eqb-true, false≢true, leb-true, ltb-true}
use Rattle.vc_layout.specs.Layout.{IsSectorSize}
use Rattle.nbd_wire.specs.Classes.{are_sectors, asked, has_fua, has_others}
use Rattle.nbd_wire.specs.declared.ask.Ask.{Ask}
use Rattle.nbd_wire.specs.declared.ask.Ask.TheVariants as ask
use Rattle.nbd_wire.specs.declared.request.Request.{Request}
use Rattle.nbd_session.specs.Laws.Acts.{IsRange}

is_leave : Ask → Bool
is_leave ask.Disconnect = true
is_leave other = false

is_transfer : Ask → Bool
is_transfer (ask.Read first count) = true
is_transfer (ask.Write first count fua) = true
is_transfer other = false

first_of : Ask → ℕ
first_of (ask.Read first count) = first
first_of (ask.Write first count fua) = first
first_of other = 0

count_in : Ask → ℕ
count_in (ask.Read first count) = count
count_in (ask.Write first count fua) = count
count_in other = 0

abbrev pick : Bool → Bool → Bool → Bool → Bool → Bool → ℕ → ℕ → Bool → Ask
pick a b c d e f m n u =
    if a then ask.Disconnect else
    (if b then ask.Malformed else
    (if c then ask.Flush else
    (if d then ask.Malformed else
    (if e then (if f then ask.Read m n else ask.Write m n u) else ask.Malformed))))

pick_leaves : (a b c d e f : Bool) (m n : ℕ) (u : Bool) → is_leave (pick a b c d e f m n u) ≡ a
unfolding is_leave
pick_leaves true b c d e f m n u = refl
pick_leaves false true c d e f m n u = refl
pick_leaves false false true d e f m n u = refl
pick_leaves false false false true e f m n u = refl
pick_leaves false false false false true true m n u = refl
pick_leaves false false false false true false m n u = refl
pick_leaves false false false false false f m n u = refl

pick_transfer : (a b c d e f : Bool) (m n : ℕ) (u : Bool) → is_transfer (pick a b c d e f m n u) ≡ true
    → (e ≡ true) × (first_of (pick a b c d e f m n u) ≡ m) × (count_in (pick a b c d e f m n u) ≡ n)
unfolding is_transfer first_of count_in
pick_transfer true b c d e f m n u is = absurd (false≢true is)
pick_transfer false true c d e f m n u is = absurd (false≢true is)
pick_transfer false false true d e f m n u is = absurd (false≢true is)
pick_transfer false false false true e f m n u is = absurd (false≢true is)
pick_transfer false false false false true true m n u is = (refl, refl, refl)
pick_transfer false false false false true false m n u is = (refl, refl, refl)
pick_transfer false false false false false f m n u is = absurd (false≢true is)

module _ (sector : ℕ) (r : Request) where
  leaves_by : is_leave (asked sector r) ≡ (r.kind == 2)
  leaves_by = pick_leaves (r.kind == 2) (has_others r) (r.kind == 3) (nat_lt 1 r.kind) (are_sectors sector r) (r.kind == 0)
      (r.offset / sector) (r.length / sector) (has_fua r)

  pub disconnect_is : asked sector r ≡ ask.Disconnect → (r.kind == 2) ≡ true
  unfolding is_leave
  disconnect_is is = sym leaves_by ∙ ap is_leave is

  not_leave : (a : Ask) → ¬ (a ≡ ask.Disconnect) → is_leave a ≡ false
  unfolding is_leave
  not_leave ask.Disconnect isnt = absurd (isnt refl)
  not_leave (ask.Read first count) isnt = refl
  not_leave (ask.Write first count fua) isnt = refl
  not_leave ask.Flush isnt = refl
  not_leave ask.Malformed isnt = refl

  pub disconnect_isnt : ¬ (asked sector r ≡ ask.Disconnect) → (r.kind == 2) ≡ false
  disconnect_isnt isnt = sym leaves_by ∙ not_leave (asked sector r) isnt

  transfers : is_transfer (asked sector r) ≡ true
      → (are_sectors sector r ≡ true) × (first_of (asked sector r) ≡ r.offset / sector) × (count_in (asked sector r) ≡ r.length / sector)
  transfers = pick_transfer (r.kind == 2) (has_others r) (r.kind == 3) (nat_lt 1 r.kind) (are_sectors sector r) (r.kind == 0)
      (r.offset / sector) (r.length / sector) (has_fua r)

whole_in : (s n : ℕ) → IsSectorSize s → n % s ≡ 0 → n ≡ s * (n / s)
whole_in s n (inl e) whole = subst (λ (m : ℕ). n % m ≡ 0 → n ≡ m * (n / m)) (sym e) (λ w. omega (arith, w)) whole
whole_in s n (inr (inl e)) whole = subst (λ (m : ℕ). n % m ≡ 0 → n ≡ m * (n / m)) (sym e) (λ w. omega (arith, w)) whole
whole_in s n (inr (inr (inl e))) whole = subst (λ (m : ℕ). n % m ≡ 0 → n ≡ m * (n / m)) (sym e) (λ w. omega (arith, w)) whole
whole_in s n (inr (inr (inr e))) whole = subst (λ (m : ℕ). n % m ≡ 0 → n ≡ m * (n / m)) (sym e) (λ w. omega (arith, w)) whole

low : (s n : ℕ) → IsSectorSize s → n < 2 ^ 64 → n / s < 2 ^ 55
low s n (inl e) small = subst (λ (m : ℕ). n / m < 2 ^ 55) (sym e) (omega (arith, small))
low s n (inr (inl e)) small = subst (λ (m : ℕ). n / m < 2 ^ 55) (sym e) (omega (arith, small))
low s n (inr (inr (inl e))) small = subst (λ (m : ℕ). n / m < 2 ^ 55) (sym e) (omega (arith, small))
low s n (inr (inr (inr e))) small = subst (λ (m : ℕ). n / m < 2 ^ 55) (sym e) (omega (arith, small))

module _ (sector : ℕ) (r : Request) (known : IsSectorSize sector) (fits : r.offset < 2 ^ 64) where
  facts : are_sectors sector r ≡ true → (0 < r.length) × (r.length ≤ 2 ^ 25) × (r.length % sector ≡ 0)
  facts is =
      let start = and_parts (nat_lt 0 r.length && nat_le r.length (2 ^ 25) && (r.length % sector == 0)) (r.offset % sector == 0) is in
      let sizes = and_parts (nat_lt 0 r.length && nat_le r.length (2 ^ 25)) (r.length % sector == 0) start.0 in
      let ends = and_parts (nat_lt 0 r.length) (nat_le r.length (2 ^ 25)) sizes.0 in
      (ltb-true 0 r.length ends.0, leb-true r.length (2 ^ 25) ends.1, eqb-true (r.length % sector) 0 sizes.1)

  range_of : (first count : ℕ) → (are_sectors sector r ≡ true) × (first ≡ r.offset / sector) × (count ≡ r.length / sector) → IsRange sector r first count
  range_of first count is = record {
    some = (facts is.0).0;
    whole = whole_in sector r.length known (facts is.0).2 ∙ ap (λ (n : ℕ). sector * n) (sym is.2);
    small = (facts is.0).1;
    within = subst (λ (n : ℕ). n < 2 ^ 55) (sym is.1) (low sector r.offset known fits);
  }

  from_asked : (a : Ask) → asked sector r ≡ a → is_transfer a ≡ true → IsRange sector r (first_of a) (count_in a)
  from_asked a is transfer =
      let known_by = transfers sector r (ap is_transfer is ∙ transfer) in
      range_of (first_of a) (count_in a) (known_by.0, sym (ap first_of is) ∙ known_by.1, sym (ap count_in is) ∙ known_by.2)

  pub read_range : (first count : ℕ) → asked sector r ≡ ask.Read first count → IsRange sector r first count
  unfolding is_transfer first_of count_in
  read_range first count is = from_asked (ask.Read first count) is refl

  pub write_range : (first count : ℕ) (fua : Bool) → asked sector r ≡ ask.Write first count fua → IsRange sector r first count
  unfolding is_transfer first_of count_in
  write_range first count fua is = from_asked (ask.Write first count fua) is refl
