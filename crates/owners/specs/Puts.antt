-- Bytes put to pages that nobody owns.
use Rattle.std.specs.Prelude.{◌≡◌, ℕ, zero, suc, ◌+◌, ◌-◌, ◌*◌, ◌/◌, ◌<◌, ◌≤◌, Bool, true, false, cond, List, length, Some, None, Ok, Err, Option, ◌==◌, ◌≢◌, nat_lt, slice_index_or}
use Rattle.std.proofs.lemmas.List.Edits.{sets}
use Rattle.refusal.specs.declared.reason.Refusal.{Refusal}
use Rattle.refusal.specs.declared.reason.Refusal.TheVariants.{WrongSize, BadPlace, PageTaken}
use Rattle.refusal.specs.declared.reason.Spot.TheVariants.{Call}
use Rattle.memory.specs.Judge.{Verdict, and_then, size_verdict}
use Rattle.owners.specs.declared.table.Owner.{Owner}
use Rattle.owners.specs.Claims.{Table}

abbrev pub when_none : Option Owner → Bool → Bool
when_none None r = r
when_none (Some o) r = false

-- n pages from page q on have no owner
abbrev pub all_free : Table → ℕ → ℕ → Bool
all_free t q zero = true
all_free t q (suc n) = when_none (slice_index_or t q None) (all_free t (suc q) n)

-- how many pages n bytes at an address lie in
abbrev pub span : ℕ → ℕ → ℕ
span a n = (a + n - 1) / 4096 + 1 - a / 4096

-- the place of n bytes: none is judged of no bytes
abbrev pub place_verdict : List ℕ → Table → ℕ → ℕ → Verdict Refusal
place_verdict m t a n =
    cond (n == 0) (Ok tt)
    (cond (nat_lt (length m) (a + n)) (Err (BadPlace Call))
    (cond (all_free t (a / 4096) (span a n)) (Ok tt) (Err (PageTaken Call))))

-- what is answered of n bytes put at an address
abbrev pub put_verdict : List ℕ → ℕ → Table → ℕ → ℕ → Verdict Refusal
put_verdict m pages t a n = and_then (size_verdict m pages) (place_verdict m t a n)

-- memory after it: a refusal leaves all as it was
abbrev pub put_memory : Verdict Refusal → List ℕ → ℕ → List ℕ → List ℕ
put_memory (Ok u) m a xs = sets m a xs
put_memory (Err e) m a xs = m

-- a byte of the n at an address lies in a page with an owner
abbrev pub Meets : Table → ℕ → ℕ → Type 0
Meets t a n = (x : ℕ) × (a ≤ x) × (x < a + n) × ((o : Owner) × (slice_index_or t (x / 4096) None ≡ Some o))

-- the law of what is told: the size of memory first; of no bytes nothing else; then that they are not all in memory; then that one's page has an owner
pub record PutTold (m : List ℕ) (pages : ℕ) (t : Table) (a n : ℕ) (r : Verdict Refusal) : Type 0 where
  pub size : (length m ≢ pages * 4096) → r ≡ Err WrongSize
  pub nothing : length m ≡ pages * 4096 → n ≡ 0 → r ≡ Ok tt
  pub outside : length m ≡ pages * 4096 → 0 < n → length m < a + n → r ≡ Err (BadPlace Call)
  pub taken : length m ≡ pages * 4096 → 0 < n → a + n ≤ length m → Meets t a n → r ≡ Err (PageTaken Call)
  pub free : length m ≡ pages * 4096 → 0 < n → a + n ≤ length m → (Meets t a n → ⊥) → r ≡ Ok tt
