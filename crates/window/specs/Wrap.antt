-- The two facts that hold a window together where its numbers wrap.
use Rattle.std.specs.Prelude.{◌≡◌, ℕ, ◌+◌, ◌-◌, ◌*◌, ◌%◌, ◌<◌, ◌≤◌, ◌↔◌, List, None, Option, ◌≢◌}
use Rattle.window.specs.Numbers.{Bit, Aim, Vector}
use Rattle.window.specs.Words.{Asks, turned, asked, ahead, shown}

-- A poll for wanted offsets below a burst W, counted from h, has exactly their bits; with offset 0 among them and the place at most one burst
-- behind h, its aim is h, whatever of the others is wanted.
abbrev pub PollsAim : Type 0
PollsAim = (M W h wanted place : ℕ) → 2 * W ≤ M → place ≤ h → h ≤ place + W → Bit wanted 0 → ((i : ℕ) → Bit wanted i → i < W)
    → Asks M h wanted (asked M h wanted) × Aim M (asked M h wanted) place h × ((a : ℕ) → Aim M (asked M h wanted) place a → a ≡ h)

-- A vector of a function that has taken f packets and has not packet f early, read from h with f at least h and at most one burst past it:
-- the clear bits before the first set one are the f - h packets taken since; a later offset below W has a clear bit exactly if its packet is early;
-- and the offsets that are shown early, below n and counted from f, are exactly those of early packets.
abbrev pub VectorsTell : Type 0
VectorsTell = (M W h f v : ℕ) (early : ℕ → Option (List ℕ)) → 2 * W ≤ M → M ≤ 32 → 0 < W → h ≤ f → f ≤ h + W → early f ≡ None → Vector W M f early v
    → (ahead M h v ≡ f - h)
    × ((i : ℕ) → f - h < i → i < W → (early (h + i) ≡ None) ↔ Bit (turned M h v) i)
    × ((n i : ℕ) → n ≤ W → Bit (shown M h n v) i ↔ ((f + i < h + n) × (early (f + i) ≢ None)))

-- Only the sequence number of h counts, not h itself: code keeps h mod M.
abbrev pub NumbersCount : Type 0
NumbersCount = (M h n v : ℕ)
    → (turned M (h % M) v ≡ turned M h v) × (asked M (h % M) v ≡ asked M h v) × (ahead M (h % M) v ≡ ahead M h v) × (shown M (h % M) n v ≡ shown M h n v)
