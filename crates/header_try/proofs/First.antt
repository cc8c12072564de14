-- Opening over a store whose contents are known: what the headers of a kind's slots give is the first valid candidate.
--
-- The candidates of a kind are those of its slots, one slot after the other, and a slot's are those of its PRFs. So
-- the first valid one is in the first of these lists that has one.
use Rattle.std.proofs.Common.{◌≡◌, ℕ, ◌+◌, ◌-◌, Bool, true, List, [], ◌∷◌, ◌++◌, length, take, drop, Option, Some, None, sym, ap, ap₂, ◌∙◌, subst, arith}
use Rattle.std.specs.Prelude.{◌↔◌, find, map, Contains, IfSome, MatchOption, option_map, slice_range}
use Rattle.std.specs.List.{flat_map}
use Rattle.kdf_hmac.specs.declared.prf.Prf.{Prf}
use Rattle.std.proofs.lemmas.List.{append-nil}
use Rattle.kdf_hmac.specs.declared.prf.Prf.TheVariants.{Sha512, Sha256}
use Rattle.kdf_hmac.specs.Prfs.{all_prfs}
use Rattle.kdf_hmac.specs.Pbkdf2.{derived}
use Rattle.vc_header.specs.declared.fields.Fields.{Fields}
use Rattle.algorithm_names.specs.declared.algorithm.Algorithm.{Algorithm}
use Rattle.algorithm_names.specs.Algorithms.{all_algorithms}
use Rattle.vc_layout.specs.Kinds.{slots_of}
use Rattle.vc_layout.specs.Layout.{IsContainerLength, place_of}
use Rattle.vc_layout.specs.declared.slots.Slot.{Slot}
use Rattle.vc_header.specs.Header.{fields_of}
use Rattle.vc_header.specs.Laws.Tests.{is_valid}
use Rattle.vc_layout.specs.declared.kind.Kind.{Kind}
use Rattle.header_seal.specs.declared.opened.Opened.{Opened}
use Rattle.header_seal.specs.Sealed.{header_at, plain_by, plain_under}
use Rattle.header_seal.specs.Candidates.{Candidate, candidate_of, candidates_of, first, is_valid_in, is_valid_under, IsFirst}
use Rattle.header_try.specs.Laws.Slots.{FoundIn, HasFieldsIn, of_slot}
use Rattle.header_try.proofs.Finding.{find-map, found_alike, found_in_first, found_in_second}

-- what was read at a slot's place is its header
pub header_read : (image : Option (List ℕ)) (header : List ℕ) (slot : Slot) (at n len : ℕ) → at ≡ place_of slot len
    → n ≡ 512 → IfSome image (λ b. length b ≡ len) → IfSome image (λ b. header ≡ slice_range b at (at + n))
    → IfSome image (λ b. header ≡ header_at slot b)
header_read None header slot at n len place long whole read = tt
header_read (Some b) header slot at n len place long whole read =
    let size : at + n - at ≡ 512 = omega (arith, long) in
    read
    ∙ ap (λ (k : ℕ). take k (drop at b)) size
    ∙ ap (λ (k : ℕ). take 512 (drop k b)) (place ∙ ap (place_of slot) (sym whole))

-- a length that passed the test is in range
pub in_range : (passed : Bool) (len size : ℕ) → passed ≡ true → (passed ≡ true) ↔ IsContainerLength len → len ≡ size
    → IsContainerLength size
in_range passed len size passes decided same =
    subst (λ (n : ℕ). IsContainerLength n) same (decided.0 passes)

-- the length that was read is the container's
pub length_read : (image : Option (List ℕ)) (size len : ℕ) → len ≡ size
    → IfSome image (λ b. length b ≡ size) → IfSome image (λ b. length b ≡ len)
length_read None size len e whole = tt
length_read (Some b) size len e whole = whole ∙ sym e

-- a slot's candidates by PRF and algorithm
abbrev pub in_slot : Slot → Prf × Algorithm → Candidate
in_slot slot c = record { slot = slot; prf = c.0; algorithm = c.1 }

abbrev by_prf_and_algorithm : List (Prf × Algorithm)
by_prf_and_algorithm = flat_map (λ prf. map (λ algorithm. (prf, algorithm)) all_algorithms) all_prfs

-- the test by the header is the test by the image
pub found_in : (image : Option (List ℕ)) (header p : List ℕ) (slot : Slot) (pim len : ℕ) (r : Option Candidate)
    → IfSome image (λ b. header ≡ header_at slot b) → IfSome image (λ b. length b ≡ len)
    → r ≡ find (is_valid_under header len p pim) (of_slot slot) → FoundIn image slot p pim r
found_in None header p slot pim len r read whole found = tt
found_in (Some b) header p slot pim len r read whole found =
    sym (found
    ∙ found_alike (is_valid_under header len p pim) (λ c. is_valid_in c b p pim) (in_slot slot) by_prf_and_algorithm
    (λ c. ap₂ (λ (h : List ℕ) (n : ℕ). is_valid (plain_by c.0 c.1 p pim h) slot n) read (sym whole)))

pub has_fields_in : (image : Option (List ℕ)) (header p : List ℕ) (slot : Slot) (pim : ℕ) (o : Opened)
    → IfSome image (λ b. header ≡ header_at slot b) → o.slot ≡ slot
    → o.fields ≡ fields_of (plain_by o.prf o.algorithm p pim header) → HasFieldsIn image p pim o
has_fields_in None header p slot pim o read same fields = tt
has_fields_in (Some b) header p slot pim o read same fields =
    fields ∙ ap (λ (h : List ℕ). fields_of (plain_by o.prf o.algorithm p pim h))
    (read ∙ ap (λ (s : Slot). header_at s b) (sym same))

pub has_fields_in_all : (image : Option (List ℕ)) (header p : List ℕ) (slot : Slot) (pim : ℕ) (r : Option Opened)
    → IfSome image (λ b. header ≡ header_at slot b) → IfSome r (λ o. o.slot ≡ slot)
    → IfSome r (λ o. o.fields ≡ fields_of (plain_by o.prf o.algorithm p pim header))
    → IfSome r (λ o. HasFieldsIn image p pim o)
has_fields_in_all image header p slot pim None read same fields = tt
has_fields_in_all image header p slot pim (Some o) read same fields = has_fields_in image header p slot pim o read same fields

-- ---- the slots of a kind, one after the other

-- a kind's slots, if there is a second one and if not
abbrev HasSlots : Kind → Slot → Option Slot → Type 0
HasSlots kind slot others = MatchOption others (slots_of kind ≡ slot ∷ []) (λ other. slots_of kind ≡ slot ∷ other ∷ [])

pub some_slots : (kind : Kind) (slot : Slot) (others : Option Slot) → HasSlots kind slot others
    → (rest : List Slot) × (slots_of kind ≡ slot ∷ rest)
some_slots kind slot None is = ([], is)
some_slots kind slot (Some other) is = (other ∷ [], is)

pub one_slot : (kind : Kind) (slot : Slot) (others : Option Slot) → others ≡ None → HasSlots kind slot others
    → slots_of kind ≡ slot ∷ []
one_slot kind slot others none is = subst (HasSlots kind slot) none is

pub two_slots : (kind : Kind) (slot other : Slot) (others : Option Slot) → others ≡ Some other
    → HasSlots kind slot others → slots_of kind ≡ slot ∷ other ∷ []
two_slots kind slot other others some is = subst (HasSlots kind slot) some is

-- what was found, by cases
module _ (image : Option (List ℕ)) (slot : Slot) (p : List ℕ) (pim : ℕ) (r : Option Opened) where
  pub found_some : (o : Opened) → r ≡ Some o → FoundIn image slot p pim (option_map candidate_of r)
      → FoundIn image slot p pim (Some (candidate_of o))
  found_some o is found = subst (λ (x : Option Opened). FoundIn image slot p pim (option_map candidate_of x)) is found

  pub found_none : r ≡ None → FoundIn image slot p pim (option_map candidate_of r) → FoundIn image slot p pim None
  found_none is found = subst (λ (x : Option Opened). FoundIn image slot p pim (option_map candidate_of x)) is found

pub with_some : (P : Opened → Type 0) {r : Option Opened} {o : Opened} → r ≡ Some o → IfSome r P → P o
with_some P is holds = subst (λ (x : Option Opened). IfSome x P) is holds

-- the first slot has it
pub first_of_first : (image : Option (List ℕ)) (kind : Kind) (slot : Slot) (others : List Slot) (o : Opened)
    (p : List ℕ) (pim : ℕ) → slots_of kind ≡ slot ∷ others → FoundIn image slot p pim (Some (candidate_of o))
    → HasFieldsIn image p pim o → IfSome image (λ b. IsFirst o kind b p pim)
unfolding first
first_of_first None kind slot others o p pim slots found fields = tt
first_of_first (Some b) kind slot others o p pim slots found fields = record {
  candidate =
      ap (λ (ss : List Slot). find (λ c. is_valid_in c b p pim) (flat_map of_slot ss)) slots
      ∙ found_in_first (λ c. is_valid_in c b p pim) (of_slot slot) (flat_map of_slot others) (candidate_of o) found;
  fields = fields;
}

-- the only slot has none
pub none_of_one : (image : Option (List ℕ)) (kind : Kind) (slot : Slot) (p : List ℕ) (pim : ℕ)
    → slots_of kind ≡ slot ∷ [] → FoundIn image slot p pim None → IfSome image (λ b. first kind b p pim ≡ None)
unfolding first
none_of_one None kind slot p pim slots none = tt
none_of_one (Some b) kind slot p pim slots none =
    ap (λ (ss : List Slot). find (λ c. is_valid_in c b p pim) (flat_map of_slot ss)) slots
    ∙ found_in_second (λ c. is_valid_in c b p pim) (of_slot slot) [] none

-- the first slot has none, so it is what the second one has
second : (b : List ℕ) (kind : Kind) (slot other : Slot) (p : List ℕ) (pim : ℕ) (r : Option Candidate)
    → slots_of kind ≡ slot ∷ other ∷ [] → FoundIn (Some b) slot p pim None → FoundIn (Some b) other p pim r
    → first kind b p pim ≡ r
unfolding first
second b kind slot other p pim r slots none found =
    ap (λ (ss : List Slot). find (λ c. is_valid_in c b p pim) (flat_map of_slot ss)) slots
    ∙ found_in_second (λ c. is_valid_in c b p pim) (of_slot slot) (of_slot other ++ []) none
    ∙ ap (find (λ c. is_valid_in c b p pim)) (append-nil (of_slot other))
    ∙ found

-- the first slot was read before, from the same image
pub first_of_second : (image now : Option (List ℕ)) (kind : Kind) (slot other : Slot) (o : Opened) (p : List ℕ) (pim : ℕ)
    → now ≡ image → slots_of kind ≡ slot ∷ other ∷ [] → FoundIn image slot p pim None
    → FoundIn now other p pim (Some (candidate_of o)) → HasFieldsIn now p pim o
    → IfSome image (λ b. IsFirst o kind b p pim)
first_of_second image now kind slot other o p pim same slots none found fields =
    by_image image none
    (subst (λ (i : Option (List ℕ)). FoundIn i other p pim (Some (candidate_of o))) same found)
    (subst (λ (i : Option (List ℕ)). HasFieldsIn i p pim o) same fields)
  where
    by_image : (i : Option (List ℕ)) → FoundIn i slot p pim None → FoundIn i other p pim (Some (candidate_of o))
        → HasFieldsIn i p pim o → IfSome i (λ b. IsFirst o kind b p pim)
    by_image None none found fields = tt
    by_image (Some b) none found fields = record {
      candidate = second b kind slot other p pim (Some (candidate_of o)) slots none found;
      fields = fields;
    }

pub none_of_two : (image now : Option (List ℕ)) (kind : Kind) (slot other : Slot) (p : List ℕ) (pim : ℕ)
    → now ≡ image → slots_of kind ≡ slot ∷ other ∷ [] → FoundIn image slot p pim None → FoundIn now other p pim None
    → IfSome image (λ b. first kind b p pim ≡ None)
none_of_two image now kind slot other p pim same slots none found =
    by_image image none (subst (λ (i : Option (List ℕ)). FoundIn i other p pim None) same found)
  where
    by_image : (i : Option (List ℕ)) → FoundIn i slot p pim None → FoundIn i other p pim None
        → IfSome i (λ b. first kind b p pim ≡ None)
    by_image None none found = tt
    by_image (Some b) none found = second b kind slot other p pim None slots none found

-- a slot of the kind
pub contains_first : (slots : List Slot) (slot : Slot) (others : List Slot) (s : Slot) → slots ≡ slot ∷ others → s ≡ slot
    → Contains slots s
contains_first slots slot others s is same =
    subst (λ (ss : List Slot). Contains ss s) (sym is) (0, omega arith, sym same)

pub contains_second : (slots : List Slot) (slot other s : Slot) → slots ≡ slot ∷ other ∷ [] → s ≡ other → Contains slots s
contains_second slots slot other s is same =
    subst (λ (ss : List Slot). Contains ss s) (sym is) (1, omega arith, sym same)

-- ---- one slot

-- the algorithm that makes a header valid with derived keys, as a candidate
pub of_prf : (slot : Slot) (prf : Prf) (header p keys : List ℕ) (pim len : ℕ) (r : Option Algorithm)
    → keys ≡ derived prf p pim (take 64 header)
    → r ≡ find (λ a. is_valid (plain_under a keys header) slot len) all_algorithms
    → option_map (λ a. in_slot slot (prf, a)) r ≡ find (is_valid_under header len p pim) (candidates_of slot prf)
of_prf slot prf header p keys pim len r is found =
    ap (option_map (λ a. in_slot slot (prf, a)))
    (found ∙ ap (λ (k : List ℕ). find (λ a. is_valid (plain_under a k header) slot len) all_algorithms) is)
    ∙ sym (find-map (is_valid_under header len p pim) (λ a. in_slot slot (prf, a)) all_algorithms)

-- the derived key of the header's salt
pub key_of_salt : (prf : Prf) (header salt p keys : List ℕ) (pim : ℕ) → keys ≡ derived prf p pim salt
    → salt ≡ take 64 header → keys ≡ derived prf p pim (take 64 header)
key_of_salt prf header salt p keys pim is lent = is ∙ ap (λ (s : List ℕ). derived prf p pim s) lent

pub fields_by : (algorithm : Algorithm) (prf : Prf) (header p keys : List ℕ) (pim : ℕ) (f : Fields)
    → keys ≡ derived prf p pim (take 64 header) → f ≡ fields_of (plain_under algorithm keys header)
    → f ≡ fields_of (plain_by prf algorithm p pim header)
fields_by algorithm prf header p keys pim f is fields =
    fields ∙ ap (λ (k : List ℕ). fields_of (plain_under algorithm k header)) is

-- the first valid one of the first PRF, or else of the second
pub of_first_prf : (slot : Slot) (t : Candidate → Bool) (c : Candidate) → Some c ≡ find t (candidates_of slot Sha512)
    → Some c ≡ find t (of_slot slot)
of_first_prf slot t c found =
    sym (found_in_first t (candidates_of slot Sha512) (candidates_of slot Sha256 ++ []) c (sym found))

pub of_second_prf : (slot : Slot) (t : Candidate → Bool) (r : Option Candidate)
    → None ≡ find t (candidates_of slot Sha512) → r ≡ find t (candidates_of slot Sha256)
    → r ≡ find t (of_slot slot)
of_second_prf slot t r none found =
    found ∙ ap (find t) (sym (append-nil (candidates_of slot Sha256)))
    ∙ sym (found_in_second t (candidates_of slot Sha512) (candidates_of slot Sha256 ++ []) (sym none))
