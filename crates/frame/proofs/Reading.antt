-- What is read is what a buffer shows; at the start all is owned.
use Rattle.std.proofs.Common.{◌≡◌, ℕ, ◌+◌, ◌-◌, ◌*◌, ◌/◌, ◌≤◌, List, [], ◌∷◌, ◌++◌, length, get_or, take, drop, replicate, Some, None, sym, refl, ap, ◌∙◌, inl, inr, zero-add, arith}
use lib.Seq.{sets, sets-eq}
use Rattle.memory.specs.declared.buffer.Kind.TheVariants.{Direct}
use Rattle.memory.specs.declared.buffer.Buffer.{Buffer}
use Rattle.std.proofs.lemmas.List.{take_at, drop_at, get_or-replicate, get_or_past, length-replicate, append_assoc, length-take-le}
use Rattle.std.proofs.lemmas.Option.{none-some}
use Rattle.std.proofs.lemmas.Bool.{cases_lt}
use Rattle.memory.specs.Walk.{offset}
use Rattle.memory.specs.Store.{gathered, place}
use Rattle.memory.proofs.Storing.{length_gathered, gathered_add, gathered_run, gathered_within}
use Rattle.owners.specs.Claims.{Table, owner}
use Rattle.owners.proofs.Known.{offset_direct, page_direct}
use Rattle.frame.specs.Worlds.{World, Owned, bytes, written}
use Rattle.frame.specs.Frames.{written_all, sets_all, FitAll}
use Rattle.frame.proofs.Written.{write_own, write_owned, write_bytes}

abbrev pub empty : ℕ → Table
empty n = replicate n None

pub empty_length : (n : ℕ) → length (empty n) ≡ n
empty_length n = length-replicate n None

pub none_at : (n q : ℕ) → get_or (empty n) q None ≡ None
none_at n q = elim (cases_lt q n) [
  | inl a ↦ get_or-replicate n q None None a
  | inr a ↦ get_or_past (empty n) q None (omega (arith, empty_length n))
]

pub starts : (n : ℕ) (m : List ℕ) → length m ≡ n * 4096 → n ≤ 4096 → Owned (record { held = λ i j. None; table = replicate 4096 None; memory = m })
starts n m e a = record {
  whole = omega arith;
  covered = (let l = empty_length 4096 in rw l (omega arith));
  owned = λ i j b h. (absurd (cc));
  exact = λ q i j h. absurd (none-some (owner i j) (sym (none_at 4096 q) ∙ h));
}

pub part_shows : (g : ℕ → ℕ) (m : List ℕ) (at n k : ℕ) → at + n ≤ k → gathered g m at n ≡ take n (drop at (gathered g m 0 k))
part_shows g m at n k h =
    let r = k - (at + n) in
    let e : at + (n + r) ≡ k = omega arith in
    let z : 0 + at ≡ at = zero-add at in
    let a : gathered g m 0 k ≡ gathered g m 0 at ++ gathered g m at (n + r) = sym (ap (gathered g m 0) e) ∙ gathered_add g m 0 at (n + r) ∙ rw z in
    let b : drop at (gathered g m 0 k) ≡ gathered g m at (n + r) = ap (drop at) a ∙ drop_at (gathered g m 0 at) (gathered g m at (n + r)) at (length_gathered g m 0 at) in
    let c : take n (gathered g m at (n + r)) ≡ gathered g m at n = ap (take n) (gathered_add g m at n r) ∙ take_at (gathered g m at n) (gathered g m (at + n) r) n (length_gathered g m at n) in
    sym (ap (take n) b ∙ c)

pub direct_shows : (m : List ℕ) (b : Buffer) (n : ℕ) → b.kind ≡ Direct → b.address + n ≤ length m → gathered (place m b) m 0 n ≡ take n (drop b.address m)
direct_shows m b n k h =
    let o = offset_direct m b k in
    gathered_run (place m b) m 0 b.address n (λ j l. (let p = page_direct m b ((offset m b + (0 + j)) / 4096) k in omega arith)) ∙ gathered_within m b.address n h

-- the part of a list that was set
pub part_set : (l : List ℕ) (at : ℕ) (xs : List ℕ) → at + length xs ≤ length l → take (length xs) (drop at (sets l at xs)) ≡ xs
part_set l at xs h =
    let e = sets-eq xs l at h in
    let rest = drop (at + length xs) l in
    let d : drop at (sets l at xs) ≡ xs ++ rest = ap (drop at) (e ∙ append_assoc (take at l) xs rest) ∙ drop_at (take at l) (xs ++ rest) at (length-take-le at l (omega arith)) in
    ap (take (length xs)) d ∙ take_at xs rest (length xs) refl

pub reads_back : (w : World) (i j : ℕ) (b : Buffer) (at : ℕ) (xs : List ℕ) → Owned w → w.held i j ≡ Some b → at + length xs ≤ b.length
    → gathered (place (written w b at xs).memory b) (written w b at xs).memory at (length xs) ≡ xs
reads_back w i j b at xs o h f =
    let m' = (written w b at xs).memory in
    let l : length (bytes w.memory b) ≡ b.length = length_gathered (place w.memory b) w.memory 0 b.length in
    part_shows (place m' b) m' at (length xs) b.length f
    ∙ ap (λ (r : List ℕ). take (length xs) (drop at r)) (write_own w i j b at xs o h f)
    ∙ part_set (bytes w.memory b) at xs (omega arith)

pub packets : (w : World) (i j : ℕ) (b : Buffer) (xs : List (ℕ × List ℕ)) → Owned w → w.held i j ≡ Some b → FitAll b.length xs
    → Owned (written_all w b xs)
    × (bytes (written_all w b xs).memory b ≡ sets_all (bytes w.memory b) xs)
    × ((a c : ℕ) (d : Buffer) → (a ≡ i → c ≡ j → ⊥) → w.held a c ≡ Some d → bytes (written_all w b xs).memory d ≡ bytes w.memory d)
packets w i j b [] o h f = (o, refl, λ a c d ne g. refl)
packets w i j b (x ∷ xs) o h f =
    let v = written w b x.0 x.1 in
    let r = packets v i j b xs (write_owned w i j b x.0 x.1 o h f.0) h f.1 in (
      r.0,
      r.1 ∙ ap (λ (l : List ℕ). sets_all l xs) (write_own w i j b x.0 x.1 o h f.0),
      λ a c d ne g. r.2 a c d ne g ∙ write_bytes w i j b x.0 x.1 o h f.0 a c d ne g,
    )
