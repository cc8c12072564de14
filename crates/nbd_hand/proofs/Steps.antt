-- How bytes start that begin with an option, by what was taken of a source.
use Rattle.std.proofs.Common.{◌≡◌, ◌≤◌, ◌<◌, ℕ, ◌==◌, ◌&&◌, nat_lt, Bool, true, false, List, [], ◌++◌, length, take, drop, if◌then◌else◌, length-append, ap, ◌∙◌, arith}
use Rattle.std.proofs.lemmas.Bool.{le-ltb, lt-ltb}
use Rattle.std.proofs.lemmas.List.{drop_at, take_at}
use Rattle.nbd_hand.specs.Options.{after_head, answered, asked, cut, last, Step, step}
use Rattle.nbd_hand.specs.Wire.{field, has_magic}
use Rattle.nbd_hand.specs.declared.end.HandEnd.TheVariants.{Refused}
use Rattle.nbd_hand.specs.declared.end.Refusal.TheVariants.{Magic, Name}
use Rattle.nbd_hand.proofs.Parts.{field-append, field-further}

pub if_true : {X : Type 0} (b : Bool) (x y : X) → b ≡ true → (if b then x else y) ≡ x
if_true b x y is = ap (λ (c : Bool). if c then x else y) is

pub if_false : {X : Type 0} (b : Bool) (x y : X) → b ≡ false → (if b then x else y) ≡ y
if_false b x y is = ap (λ (c : Bool). if c then x else y) is

module _ (size : ℕ) (zeros : Bool) where
  -- the tests of `step`, one after the other
  module _ (bytes : List ℕ) where
    known : Step
    known = if nat_lt (length bytes) 16 then cut else after_head size zeros (field 8 4 bytes) (field 12 4 bytes) (drop 16 bytes)

    bad : Step
    bad = last [] (Refused (Magic (take 8 bytes))) (drop 8 bytes)

    some : Step
    some = if has_magic bytes then known else bad

    pub step_none : length bytes < 8 → step size zeros bytes ≡ cut
    unfolding known bad some
    step_none few = if_true (nat_lt (length bytes) 8) cut some (lt-ltb (length bytes) 8 few)

    step_some : 8 ≤ length bytes → step size zeros bytes ≡ some
    unfolding known bad some
    step_some there = if_false (nat_lt (length bytes) 8) cut some (le-ltb (length bytes) 8 there)

    step_known : 8 ≤ length bytes → has_magic bytes ≡ true → step size zeros bytes ≡ known
    unfolding some
    step_known there magic = step_some there ∙ if_true (has_magic bytes) known bad magic

    step_bad : 8 ≤ length bytes → has_magic bytes ≡ false → step size zeros bytes ≡ bad
    unfolding some
    step_bad there magic = step_some there ∙ if_false (has_magic bytes) known bad magic

    step_short : 8 ≤ length bytes → has_magic bytes ≡ true → length bytes < 16 → step size zeros bytes ≡ cut
    unfolding known
    step_short there magic few = step_known there magic
        ∙ if_true (nat_lt (length bytes) 16) cut (after_head size zeros (field 8 4 bytes) (field 12 4 bytes) (drop 16 bytes)) (lt-ltb (length bytes) 16 few)

    step_head : 16 ≤ length bytes → has_magic bytes ≡ true
        → step size zeros bytes ≡ after_head size zeros (field 8 4 bytes) (field 12 4 bytes) (drop 16 bytes)
    unfolding known
    step_head there magic = step_known (omega (arith, there)) magic
        ∙ if_false (nat_lt (length bytes) 16) cut (after_head size zeros (field 8 4 bytes) (field 12 4 bytes) (drop 16 bytes)) (le-ltb (length bytes) 16 there)

  -- eight bytes are there, and then others
  module _ (ms : List ℕ) (eight : length ms ≡ 8) where
    magic-append : (xs : List ℕ) → has_magic (ms ++ xs) ≡ has_magic ms
    magic-append xs = ap (λ (n : ℕ). n == 0x49484156454f5054) (field-append 0 8 ms xs (omega (arith, eight)))

    pub after_bad : has_magic ms ≡ false → (rest : List ℕ) → step size zeros (ms ++ rest) ≡ last [] (Refused (Magic ms)) rest
    unfolding bad
    after_bad magic rest =
        step_bad (ms ++ rest) (omega (arith, eight, length-append ms rest)) (magic-append rest ∙ magic)
        ∙ ap (λ (xs : List ℕ). last [] (Refused (Magic xs)) (drop 8 (ms ++ rest))) (take_at ms rest 8 eight)
        ∙ ap (λ (xs : List ℕ). last [] (Refused (Magic ms)) xs) (drop_at ms rest 8 eight)

    pub after_magic_few : has_magic ms ≡ true → (xs : List ℕ) → length xs < 8 → step size zeros (ms ++ xs) ≡ cut
    after_magic_few magic xs few = step_short (ms ++ xs) (omega (arith, eight, length-append ms xs)) (magic-append xs ∙ magic)
        (omega (arith, eight, few, length-append ms xs))

    pub after_magic : has_magic ms ≡ true → (xs : List ℕ) → length xs ≡ 8 → (number n : ℕ) → field 0 4 xs ≡ number → field 4 4 xs ≡ n
        → (rest : List ℕ) → step size zeros ((ms ++ xs) ++ rest) ≡ after_head size zeros number n rest
    after_magic magic xs fields number n is_number is_n rest =
        let all : List ℕ = ms ++ xs in
        let whole : length all ≡ 16 = omega (arith, eight, fields, length-append ms xs) in
        let first : field 8 4 (all ++ rest) ≡ number = field-append 8 4 all rest (omega (arith, whole)) ∙ field-further 8 0 4 ms xs eight ∙ is_number in
        let second : field 12 4 (all ++ rest) ≡ n = field-append 12 4 all rest (omega (arith, whole)) ∙ field-further 8 4 4 ms xs eight ∙ is_n in
        step_head (all ++ rest) (omega (arith, whole, length-append all rest))
        (ap (λ (n : ℕ). n == 0x49484156454f5054) (field-append 0 8 all rest (omega (arith, whole))) ∙ magic-append xs ∙ magic)
        ∙ ap (λ (k : ℕ). after_head size zeros k (field 12 4 (all ++ rest)) (drop 16 (all ++ rest))) first
        ∙ ap (λ (k : ℕ). after_head size zeros number k (drop 16 (all ++ rest))) second
        ∙ ap (λ (xs : List ℕ). after_head size zeros number n xs) (drop_at all rest 16 whole)

  -- the head is there
  module _ (number n : ℕ) where
    data_of : List ℕ → Step
    data_of rest = if nat_lt (length rest) n then cut else answered size zeros number (asked number (take n rest)) (drop n rest)

    pub head_named : ((number == 1) && nat_lt 0 n) ≡ true → (rest : List ℕ) → after_head size zeros number n rest ≡ last [] (Refused (Name n)) rest
    unfolding data_of
    head_named is rest = if_true ((number == 1) && nat_lt 0 n) (last [] (Refused (Name n)) rest) (data_of rest) is

    head_other : ((number == 1) && nat_lt 0 n) ≡ false → (rest : List ℕ) → after_head size zeros number n rest ≡ data_of rest
    unfolding data_of
    head_other is rest = if_false ((number == 1) && nat_lt 0 n) (last [] (Refused (Name n)) rest) (data_of rest) is

    pub head_cut : ((number == 1) && nat_lt 0 n) ≡ false → (rest : List ℕ) → length rest < n → after_head size zeros number n rest ≡ cut
    unfolding data_of
    head_cut is rest few = head_other is rest
        ∙ if_true (nat_lt (length rest) n) cut (answered size zeros number (asked number (take n rest)) (drop n rest)) (lt-ltb (length rest) n few)

    pub head_answered : ((number == 1) && nat_lt 0 n) ≡ false → (xs rest : List ℕ) → length xs ≡ n
        → after_head size zeros number n (xs ++ rest) ≡ answered size zeros number (asked number xs) rest
    unfolding data_of
    head_answered is xs rest whole = head_other is (xs ++ rest)
        ∙ if_false (nat_lt (length (xs ++ rest)) n) cut (answered size zeros number (asked number (take n (xs ++ rest))) (drop n (xs ++ rest)))
        (le-ltb (length (xs ++ rest)) n (omega (arith, whole, length-append xs rest)))
        ∙ ap (λ (ys : List ℕ). answered size zeros number (asked number ys) (drop n (xs ++ rest))) (take_at xs rest n whole)
        ∙ ap (λ (ys : List ℕ). answered size zeros number (asked number xs) ys) (drop_at xs rest n whole)
