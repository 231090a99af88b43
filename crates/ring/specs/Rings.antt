-- What a ring means: the list of its places in use, from the oldest on.
use Rattle.std.specs.Prelude.{◌≡◌, ℕ, zero, suc, ◌+◌, ◌-◌, ◌%◌, min, cond, List, [], ◌∷◌, ◌++◌, length, Some, None, Option, ◌==◌, ◌≢◌, nat_le}
use Rattle.std.specs.Option.{option_to_list}
use Rattle.ring.specs.declared.Ring.{Ring}

-- k places of a ring of n, in turn, 0 after n - 1
abbrev pub places : ℕ → ℕ → ℕ → List ℕ
places n from zero = []
places n from (suc k) = from % n ∷ places n (suc from) k

-- how many places are in use
abbrev pub count : (n : ℕ) → Ring n → ℕ
count n r = min r.used n

-- the places in use, from the oldest on
abbrev pub order : (n : ℕ) → Ring n → List ℕ
order n r = places n r.first (count n r)

-- a new ring
abbrev pub fresh : (n : ℕ) → Ring n
fresh n = record { first = 0; used = 0 }

-- the first of a list of places
abbrev pub oldest : List ℕ → Option ℕ
oldest [] = None
oldest (p ∷ ps) = Some p

-- the place after the last one in use, unless all are
abbrev pub following : (n : ℕ) → Ring n → Option ℕ
following n r = cond (nat_le n r.used) None (Some ((r.first + r.used) % n))

-- with the place after the last in use too
abbrev pub taken : (n : ℕ) → Ring n → Ring n
taken n r = cond (nat_le n r.used) r (record { first = r.first; used = r.used + 1 })

-- with the oldest place free
abbrev pub freed : (n : ℕ) → Ring n → Ring n
freed n r = cond (count n r == 0) r (record { first = (r.first + 1) % n; used = count n r - 1 })

-- what is done to a ring: its next place is taken, or its oldest freed
pub data Act : Type 0 where
  taking : Act
  freeing : Act

abbrev pub acted : (n : ℕ) → Ring n → Act → Ring n
acted n r taking = taken n r
acted n r freeing = freed n r

-- the ring after a list of acts
abbrev pub ended : (n : ℕ) → Ring n → List Act → Ring n
ended n r [] = r
ended n r (a ∷ acts) = ended n (acted n r a) acts

-- the places that one act takes, and those that it frees
abbrev pub gained : (n : ℕ) → Ring n → Act → List ℕ
gained n r taking = option_to_list (following n r)
gained n r freeing = []

abbrev pub lost : (n : ℕ) → Ring n → Act → List ℕ
lost n r taking = []
lost n r freeing = option_to_list (oldest (order n r))

-- the places that a list of acts takes, in order, and those that it frees
abbrev pub all_taken : (n : ℕ) → Ring n → List Act → List ℕ
all_taken n r [] = []
all_taken n r (a ∷ acts) = gained n r a ++ all_taken n (acted n r a) acts

abbrev pub all_freed : (n : ℕ) → Ring n → List Act → List ℕ
all_freed n r [] = []
all_freed n r (a ∷ acts) = lost n r a ++ all_freed n (acted n r a) acts

-- p does not stand in the list
abbrev pub Avoids : ℕ → List ℕ → Type 0
Avoids p [] = Unit {0}
Avoids p (x ∷ xs) = (x ≢ p) × Avoids p xs

-- no place stands in the list twice
abbrev pub Apart : List ℕ → Type 0
Apart [] = Unit {0}
Apart (x ∷ xs) = Avoids x xs × Apart xs

-- From a new ring on, whatever is done: the places taken are 0, 1, 2 and so on, 0 again after n - 1; they are those freed, in the
-- same order, followed by those in use. The count is that of the places in use, and no place is in use twice.
pub record InTurn (n : ℕ) : Type 0 where
  pub round : (acts : List Act) → all_taken n (fresh n) acts ≡ places n 0 (length (all_taken n (fresh n) acts))
  pub each : (acts : List Act) → all_taken n (fresh n) acts ≡ all_freed n (fresh n) acts ++ order n (ended n (fresh n) acts)
  pub apart : (r : Ring n) → Apart (order n r)
  pub counted : (r : Ring n) → length (order n r) ≡ count n r
