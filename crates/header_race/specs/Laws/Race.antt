-- A race over derivations. r has the derivations that run, with the password, the PIM and the container's length.
--
-- of_slot slot header      the derivations of a slot: its header with each PRF, in order
-- AreOf kind es            the candidates of the derivations es, in order, are those of the kind
-- IsReadFrom image e       e has the header that is in its slot
-- IsListed kind image es   the derivations of a kind, read from an image
-- winner r e               the least valid algorithm of a derivation, if it has one
-- IsAt r i e               e is derivation i
-- IsValidNumber r n        the candidate with the number n is valid: n is 8 times its derivation plus its algorithm
-- IsOf r p pim len         r is a race under this password
-- IsOutcome r i e outcome  what an outcome says of derivation i
-- IsReady id key t         a task before it runs
-- HasRun r t               a task after it ran
-- IsWon r o                the first valid candidate of all derivations is o, or there is none
use Rattle.std.specs.Prelude.{◌≡◌, ◌<◌, ℕ, ◌+◌, ◌*◌, Bool, true, List, [], ◌∷◌, length, find, Option, Some, None, slice_index_or, All, Contains, IfSome}
use Rattle.std.specs.List.{flat_map}
use Rattle.atomic_table.specs.Seated.{TableId}
use Rattle.kdf_hmac.specs.declared.prf.Prf.TheVariants.{Sha512, Sha256}
use Rattle.algorithm_names.specs.declared.algorithm.Algorithm.{Algorithm}
use Rattle.algorithm_names.specs.Algorithms.{all_algorithms, number_of}
use Rattle.vc_layout.specs.declared.slots.Slot.{Slot}
use Rattle.vc_layout.specs.declared.kind.Kind.{Kind}
use Rattle.vc_layout.specs.Kinds.{slots_of}
use Rattle.vc_header.specs.Header.{fields_of, Meets}
use Rattle.vc_header.specs.declared.fields.Fields.{Fields}
use Rattle.header_seal.specs.declared.opened.Opened.{Opened}
use Rattle.header_seal.specs.Sealed.{header_at, plain_by}
use Rattle.header_seal.specs.Candidates.{Candidate, candidates, candidates_of, is_valid_under}
use Rattle.race_word.specs.Known.{IsRunnerOf}
use Rattle.race_word.specs.declared.view.Key.{Key}
use Rattle.header_race.specs.declared.entrant.Entrant.{Entrant}
use Rattle.header_race.specs.declared.entrant.Numbers.{Numbers}
use Rattle.header_race.specs.declared.task.Task.{Task}
use Rattle.header_race.specs.declared.task.Outcome.{Outcome}
use Rattle.header_race.specs.declared.task.Outcome.TheVariants.{NotRun, NoneValid, Valid, Stopped}

abbrev pub of_slot : Slot → List ℕ → List Entrant
of_slot slot header =
    record { slot = slot; prf = Sha512; header = header } ∷ record { slot = slot; prf = Sha256; header = header } ∷ []

abbrev pub candidates_by : Entrant → List Candidate
candidates_by e = candidates_of e.slot e.prf

abbrev pub AreOf : Kind → List Entrant → Type 0
AreOf kind es = flat_map candidates_by es ≡ candidates kind

abbrev pub IsReadFrom : List ℕ → Entrant → Type 0
IsReadFrom image e = e.header ≡ header_at e.slot image

-- the derivations of a kind, with the headers that are in the image if its contents are known
pub record IsListed (kind : Kind) (image : Option (List ℕ)) (es : List Entrant) : Type 0 where
  pub few : length es < 5
  pub kinds : AreOf kind es
  pub slots : All (λ e. Contains (slots_of kind) e.slot) es
  pub read : IfSome image (λ b. All (IsReadFrom b) es)

abbrev pub candidate : Entrant → Algorithm → Candidate
candidate e a = record { slot = e.slot; prf = e.prf; algorithm = a }

abbrev pub entrants_of : Numbers → List Entrant
entrants_of r = r.entrants.value.items

abbrev pub passes : Numbers → Entrant → Algorithm → Bool
passes r e a = is_valid_under e.header r.len r.password.value r.pim (candidate e a)

abbrev pub winner : Numbers → Entrant → Option Algorithm
winner r e = find (passes r e) all_algorithms

pub record IsAt (r : Numbers) (i : ℕ) (e : Entrant) : Type 0 where
  pub below : i < length (entrants_of r)
  pub is : (d : Entrant) → slice_index_or (entrants_of r) i d ≡ e

pub record IsValidNumber (r : Numbers) (n : ℕ) : Type 0 where
  pub derivation : ℕ
  pub entrant : Entrant
  pub algorithm : Algorithm
  pub at : IsAt r derivation entrant
  pub number : n ≡ 8 * derivation + number_of algorithm
  pub valid : passes r entrant algorithm ≡ true

pub record IsOf (r : Numbers) (password : List ℕ) (pim len : ℕ) : Type 0 where
  pub password_is : r.password.value ≡ password
  pub pim_is : r.pim ≡ pim
  pub len_is : r.len ≡ len
  pub few : length (entrants_of r) < 5

-- the fields of a derivation's candidate
pub record HasFields (r : Numbers) (e : Entrant) (a : Algorithm) (f : Fields) : Type 0 where
  pub fields : f ≡ fields_of (plain_by e.prf a r.password.value r.pim e.header)
  pub meets : Meets f e.slot r.len

abbrev pub IsOutcome : Numbers → ℕ → Entrant → Outcome → Type 0
IsOutcome r i e NotRun = ⊥
IsOutcome r i e NoneValid = winner r e ≡ None
IsOutcome r i e (Valid a f) = (winner r e ≡ Some a) × HasFields r e a f
IsOutcome r i e (Stopped n) = (n < 8 * i) × IsValidNumber r n

pub record IsReady (id : TableId) (key : Key Numbers) (t : Task) : Type 0 where
  pub runner : IsRunnerOf id key t.runner.seat
  pub at : IsAt key.names t.number t.entrant

pub record HasRun (r : Numbers) (t : Task) : Type 0 where
  pub at : IsAt r t.number t.entrant
  pub outcome : IsOutcome r t.number t.entrant t.outcome

-- derivation i and all before it have no valid candidate
abbrev pub NoneBefore : Numbers → ℕ → Type 0
NoneBefore r i = (k : ℕ) (e : Entrant) → k < i → IsAt r k e → winner r e ≡ None

pub record IsFirstOf (r : Numbers) (o : Opened) : Type 0 where
  pub derivation : ℕ
  pub entrant : Entrant
  pub at : IsAt r derivation entrant
  pub before : NoneBefore r derivation
  pub slot : o.slot ≡ entrant.slot
  pub prf : o.prf ≡ entrant.prf
  pub wins : winner r entrant ≡ Some o.algorithm
  pub has : HasFields r entrant o.algorithm o.fields

abbrev pub IsWon : Numbers → Option Opened → Type 0
IsWon r None = NoneBefore r (length (entrants_of r))
IsWon r (Some o) = IsFirstOf r o

-- the tasks, one for each derivation in order, before they run and after
abbrev pub AreReady : TableId → Key Numbers → List Task → Type 0
AreReady id key ts = (length ts ≡ length (entrants_of key.names))
    × ((i : ℕ) (d : Task) → i < length ts
    → IsReady id key (slice_index_or ts i d) × ((slice_index_or ts i d).number ≡ i))

abbrev pub HaveRun : Numbers → List Task → Type 0
HaveRun r ts = (length ts ≡ length (entrants_of r))
    × ((i : ℕ) (d : Task) → i < length ts → HasRun r (slice_index_or ts i d) × ((slice_index_or ts i d).number ≡ i))
