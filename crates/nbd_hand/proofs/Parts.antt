-- The data of an option, part by part: what is taken of a source in two parts, and what data asks for by its parts.
use Rattle.std.proofs.Common.{◌≡◌, ◌≤◌, ◌<◌, ℕ, ◌+◌, ◌*◌, ◌==◌, Bool, true, false, List, ◌++◌, length, drop, if◌then◌else◌, Option, Result, Ok, Err, IfOk, IfErr, length-append, refl, sym, ap, ◌∙◌, arith}
use Rattle.std.proofs.lemmas.Bool.{eq-eqb, eqb-true, ne_eqb}
use Rattle.std.proofs.lemmas.List.{drop-append-le, drop-drop, drop_at, length-drop}
use Rattle.byteorder.specs.Endian.{big_number}
use Rattle.byteorder.specs.Numbers.{big_from-append}
use Rattle.vc_outside.specs.Told.{Shrinks}
use Rattle.nbd_hand.specs.Laws.Parts.{after_length, after_name, by_length, info_asked}
use Rattle.nbd_hand.specs.Laws.Taken.{Stops, Takes}
use Rattle.nbd_hand.specs.Options.{named}
use Rattle.nbd_hand.specs.Wire.{field}
use Rattle.nbd_hand.specs.declared.asked.Asked.{Asked}
use Rattle.nbd_hand.specs.declared.asked.Asked.TheVariants.{Default, Named, Malformed}
use Rattle.nbd_hand.specs.declared.input.Stop.{Stop}
use Rattle.nbd_hand.proofs.Streams.{ended_on, shrinks_twice}

-- a field is that of the first bytes
pub field-append : (at n : ℕ) (xs ys : List ℕ) → at + n ≤ length xs → field at n (xs ++ ys) ≡ field at n xs
field-append at n xs ys within =
    ap (big_number n) (drop-append-le at xs ys (omega (arith, within)))
    ∙ big_from-append n (drop at xs) ys (omega (arith, within, length-drop at xs))

-- a field after the first bytes
pub field-after : (at n : ℕ) (xs ys : List ℕ) → length xs ≡ at → field at n (xs ++ ys) ≡ field 0 n ys
field-after at n xs ys size = ap (big_number n) (drop_at xs ys at size)

drop-add : (i j : ℕ) (xs ys : List ℕ) → length xs ≡ i → drop (i + j) (xs ++ ys) ≡ drop j ys
drop-add i j xs ys size = sym (drop-drop j i (xs ++ ys)) ∙ ap (drop j) (drop_at xs ys i size)

pub field-further : (i j n : ℕ) (xs ys : List ℕ) → length xs ≡ i → field (i + j) n (xs ++ ys) ≡ field j n ys
field-further i j n xs ys size = ap (big_number n) (drop-add i j xs ys size)

same_bool : (a b : Bool) → (a ≡ true → b ≡ true) → (b ≡ true → a ≡ true) → a ≡ b
same_bool true b there back = sym (there refl)
same_bool false true there back = back refl
same_bool false false there back = refl

module _ (xs ys : List ℕ) where
  shifted : (d c : ℕ) → length xs + c ≡ d → (length (xs ++ ys) == d) ≡ (length ys == c)
  shifted d c sum = same_bool (length (xs ++ ys) == d) (length ys == c)
      (λ is. eq-eqb (length ys) c (omega (arith, eqb-true (length (xs ++ ys)) d is, length-append xs ys, sum)))
      (λ is. eq-eqb (length (xs ++ ys)) d (omega (arith, eqb-true (length ys) c is, length-append xs ys, sum)))

  -- the length of the name, and what follows
  pub length_first : length xs ≡ 4 → info_asked (xs ++ ys) ≡ after_length (big_number 4 xs) ys
  length_first size =
      let n : ℕ = big_number 4 xs in
      let first : field 0 4 (xs ++ ys) ≡ n = big_from-append 4 xs ys (omega (arith, size)) in
      ap (λ (m : ℕ). if length (xs ++ ys) == 6 + m + 2 * field (4 + m) 2 (xs ++ ys) then by_length m else Malformed) first
      ∙ ap (λ (k : ℕ). if length (xs ++ ys) == 6 + n + 2 * k then by_length n else Malformed) (field-further 4 n 2 xs ys size)
      ∙ ap (λ (b : Bool). if b then by_length n else Malformed) (shifted (6 + n + 2 * field n 2 ys) (2 + n + 2 * field n 2 ys) (omega (arith, size)))

  -- the name, and what follows
  pub name_next : (n : ℕ) → length xs ≡ n → after_length n (xs ++ ys) ≡ after_name n ys
  name_next n size =
      ap (λ (k : ℕ). if length (xs ++ ys) == 2 + n + 2 * k then by_length n else Malformed) (field-after n 2 xs ys size)
      ∙ ap (λ (b : Bool). if b then by_length n else Malformed) (shifted (2 + n + 2 * field 0 2 ys) (2 + 2 * field 0 2 ys) (omega (arith, size)))

  -- the count, and as many bytes as there are requests or not
  pub count_next : (n : ℕ) → length xs ≡ 2 → after_name n (xs ++ ys) ≡ (if length ys == 2 * big_number 2 xs then by_length n else Malformed)
  count_next n size =
      ap (λ (k : ℕ). if length (xs ++ ys) == 2 + 2 * k then by_length n else Malformed) (big_from-append 2 xs ys (omega (arith, size)))
      ∙ ap (λ (b : Bool). if b then by_length n else Malformed) (shifted (2 + 2 * big_number 2 xs) (2 * big_number 2 xs) (omega (arith, size)))

module _ (n m count : ℕ) (xs ys bytes : List ℕ) (size : length xs ≡ 2) (is : xs ≡ bytes) (others : length ys ≡ m) (counts : count ≡ big_number 2 bytes) where
  same_count : count ≡ big_number 2 xs
  same_count = counts ∙ ap (big_number 2) (sym is)

  pub counted : m ≡ 2 * count → after_name n (xs ++ ys) ≡ by_length n
  counted so = count_next xs ys n size
      ∙ ap (λ (b : Bool). if b then by_length n else Malformed) (eq-eqb (length ys) (2 * big_number 2 xs) (omega (arith, others, same_count, so)))

  pub uncounted : (m ≡ 2 * count → ⊥) → after_name n (xs ++ ys) ≡ Malformed
  uncounted not = count_next xs ys n size
      ∙ ap (λ (b : Bool). if b then by_length n else Malformed)
      (ne_eqb (length ys) (2 * big_number 2 xs) (λ so. not (omega (arith, others, same_count, so))))

pub no_name : (n : ℕ) → n ≡ 0 → by_length n ≡ Default
no_name n is = ap (λ (b : Bool). if b then Default else Named) (eq-eqb n 0 is)

pub some_name : (n : ℕ) → (n ≡ 0 → ⊥) → by_length n ≡ Named
some_name n not = ap (λ (b : Bool). if b then Default else Named) (ne_eqb n 0 not)

-- no name is longer than the data
pub too_short : (xs : List ℕ) → length xs < 6 → info_asked xs ≡ Malformed
too_short xs few = ap (λ (b : Bool). if b then named xs else Malformed) (ne_eqb (length xs) (6 + field 0 4 xs + 2 * field (4 + field 0 4 xs) 2 xs) (λ is. omega (arith, few, is)))

pub too_long : (n : ℕ) (xs : List ℕ) → length xs < 2 + n → after_length n xs ≡ Malformed
too_long n xs few = ap (λ (b : Bool). if b then by_length n else Malformed) (ne_eqb (length xs) (2 + n + 2 * field n 2 xs) (λ is. omega (arith, few, is)))

-- one part after another
pub takes_twice : (a b c : Option (List ℕ)) (m n l : ℕ) (P Q R : List ℕ → Type 0) → Takes a b m P → Takes b c n Q → m + n ≡ l
    → ((xs ys : List ℕ) → length xs ≡ m → length ys ≡ n → P xs → Q ys → R (xs ++ ys)) → Takes a c l R
takes_twice a b c m n l P Q R first second sum joins = record {
  bytes = first.bytes ++ second.bytes;
  given = shrinks_twice a b c first.bytes second.bytes first.given second.given;
  size = length-append first.bytes second.bytes ∙ omega (arith, first.size, second.size, sum);
  holds = joins first.bytes second.bytes first.size second.size first.holds second.holds;
}

pub takes_all : (a b : Option (List ℕ)) (xs : List ℕ) (n : ℕ) → Shrinks a b xs → length xs ≡ n → Takes a b n (λ ys. ys ≡ xs)
takes_all a b xs n given size = record { bytes = xs; given = given; size = size; holds = refl }

pub stops_later : (a b c : Option (List ℕ)) (xs : List ℕ) (n l : ℕ) (stop : Stop) → Shrinks a b xs → Stops b c n stop → length xs + n ≤ l → Stops a c l stop
stops_later a b c xs n l stop given stops within = record {
  bytes = xs ++ stops.bytes;
  given = shrinks_twice a b c xs stops.bytes given stops.given;
  few = omega (arith, length-append xs stops.bytes, stops.few, within);
  ended = λ is. ended_on a b xs stops.bytes given (stops.ended is);
}

-- the same of a result
pub ok_later : {E : Type 0} (a b c : Option (List ℕ)) (m : ℕ) (r : Result Asked E) (n : ℕ) (P : List ℕ → Type 0) (l : ℕ) (f g : List ℕ → Asked)
    → Takes a b m P → ((xs ys : List ℕ) → length xs ≡ m → P xs → g (xs ++ ys) ≡ f ys) → m + n ≡ l
    → IfOk r (λ what. Takes b c n (λ ys. f ys ≡ what)) → IfOk r (λ what. Takes a c l (λ xs. g xs ≡ what))
ok_later a b c m (Ok what) n P l f g first joins sum second =
    takes_twice a b c m n l P (λ ys. f ys ≡ what) (λ xs. g xs ≡ what) first second sum (λ xs ys size other p q. joins xs ys size p ∙ q)
ok_later a b c m (Err e) n P l f g first joins sum second = tt

pub stops_err : {A : Type 0} (a b c : Option (List ℕ)) (m n l : ℕ) (P : List ℕ → Type 0) (r : Result A Stop) → Takes a b m P → m + n ≡ l
    → IfErr r (λ stop. Stops b c n stop) → IfErr r (λ stop. Stops a c l stop)
stops_err a b c m n l P (Ok x) first sum second = tt
stops_err a b c m n l P (Err stop) first sum second =
    stops_later a b c first.bytes n l stop first.given second (omega (arith, first.size, sum))
