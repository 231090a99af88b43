-- A packet written into a piece's buffer, and what it leaves alone.
use Rattle.std.proofs.Common.{◌≡◌, ℕ, suc, ◌+◌, ◌-◌, ◌/◌, ◌%◌, ◌<◌, ◌≤◌, List, [], ◌∷◌, length, get_or, set, Some, None, Option, sym, refl, ap, ◌∙◌, subst, inl, inr, zero-add, arith}
use lib.Seq.{sets, length-sets}
use Rattle.std.proofs.lemmas.List.{ext_get_or, nil_from_length}
use Rattle.std.proofs.lemmas.Bool.{cases_lt, cases_eq}
use Rattle.memory.specs.declared.buffer.Buffer.{Buffer}
use Rattle.memory.specs.Walk.{offset}
use Rattle.memory.specs.Store.{stored, place}
use Rattle.memory.proofs.Storing.{length_gathered}
use Rattle.memory.proofs.Keeping.{length_stored, stored_other, stored_at, get_d_gathered, place_apart}
use Rattle.owners.specs.declared.table.Owner.{Owner}
use Rattle.owners.specs.Naming.{Names}
use Rattle.owners.specs.Claims.{Table, owner}
use Rattle.owners.proofs.Known.{page_inside}
use Rattle.frame.specs.Worlds.{World, Owned, OwnedBy, bytes, written}
use Rattle.frame.proofs.Same.{Alike, ListAlike, place_same, list_named, data_named, data_apart, list_aside, named_owned, owned_same, still_names, bytes_same, write_misses}

pub sets_stored : (l : List ℕ) (i : ℕ) (xs : List ℕ) → sets l i xs ≡ stored (λ j. j) l i xs
sets_stored l i [] = refl
sets_stored l i (x ∷ xs) = sets_stored (set l i x) (suc i) xs

pub sets_other : (l : List ℕ) (i : ℕ) (xs : List ℕ) (k : ℕ) → (i ≤ k → k < i + length xs → ⊥) → get_or (sets l i xs) k 0 ≡ get_or l k 0
sets_other l i xs k h = ap (λ (r : List ℕ). get_or r k 0) (sets_stored l i xs) ∙ stored_other (λ j. j) l i xs k (λ j a b e. h (omega arith) (omega arith))

pub sets_at : (l : List ℕ) (i : ℕ) (xs : List ℕ) (k : ℕ) → i + length xs ≤ length l → k < length xs → get_or (sets l i xs) (i + k) 0 ≡ get_or xs k 0
sets_at l i xs k f h =
    ap (λ (r : List ℕ). get_or r (i + k) 0) (sets_stored l i xs)
    ∙ stored_at (λ j. j) l i xs (λ a b x y z e. omega arith) (λ j a b. omega arith) k h

-- the buffer that was written shows the bytes where they were written, and else what it showed
pub bytes_written : (t : Table) (m : List ℕ) (o : Owner) (b : Buffer) (at : ℕ) (xs : List ℕ) → length m % 4096 ≡ 0 → 0 < b.length → OwnedBy t m o b → at + length xs ≤ b.length
    → bytes (stored (place m b) m at xs) b ≡ sets (bytes m b) at xs
bytes_written t m o b at xs e z w f =
    let n = b.length in
    let m' = stored (place m b) m at xs in
    let lm : length m' ≡ length m = length_stored (place m b) m at xs in
    let la : length (bytes m' b) ≡ n = length_gathered (place m' b) m' 0 n in
    let lb : length (bytes m b) ≡ n = length_gathered (place m b) m 0 n in
    let lc : length (sets (bytes m b) at xs) ≡ n = length-sets (bytes m b) at xs ∙ lb in
    let quiet : ListAlike m m' b = λ k. write_misses m b at xs f (b.address / 4096) (λ y. list_aside t m o b w z k) in
    let differ : (i j : ℕ) → i < j → j < n → place m b i ≡ place m b j → ⊥
    = λ i j x y. place_apart m b i j x (λ u. data_apart t m o b w z ((offset m b + i) / 4096) ((offset m b + j) / 4096) u (omega arith)) in
    let there : (j : ℕ) → j < n → place m b j < length m
    = λ j x. (let y = page_inside m b ((offset m b + j) / 4096) e w.placed z (omega arith) in omega arith) in
    let seen : (k : ℕ) → k < n → get_or (bytes m' b) k 0 ≡ get_or m' (place m b k) 0
    = λ k x. get_d_gathered (place m' b) m' 0 n k x ∙ ap (λ i. get_or m' (place m' b i) 0) (zero-add k) ∙ ap (λ i. get_or m' i 0) (place_same m m' b k lm quiet) in
    let was : (k : ℕ) → k < n → get_or (bytes m b) k 0 ≡ get_or m (place m b k) 0
    = λ k x. get_d_gathered (place m b) m 0 n k x ∙ ap (λ i. get_or m (place m b i) 0) (zero-add k) in
    let off : (k : ℕ) → k < n → (at ≤ k → k < at + length xs → ⊥) → get_or (bytes m' b) k 0 ≡ get_or (sets (bytes m b) at xs) k 0
    = λ k x y. seen k x
    ∙ stored_other (place m b) m at xs (place m b k)
    (λ j u v d. elim (cases_lt j k) [ inl c ↦ differ j k c x d | inr c ↦ (elim (cases_eq j k) [ inl g ↦ y (omega arith) (omega arith) | inr g ↦ differ k j (omega arith) (omega arith) (sym d) ]) ])
    ∙ sym (was k x) ∙ sym (sets_other (bytes m b) at xs k y) in
    ext_get_or 0 (bytes m' b) (sets (bytes m b) at xs) (la ∙ sym lc)
    (λ k x. (let kn : k < n = omega arith in
    elim (cases_lt k at) [
      | inl c ↦ off k kn (λ u v. omega arith)
      | inr c ↦ (elim (cases_lt k (at + length xs)) [
        | inr d ↦ off k kn (λ u v. omega arith)
        | inl d ↦ (let g : at + (k - at) ≡ k = omega arith in
            let s = stored_at (place m b) m at xs (λ i j u v y. differ i j v (omega arith)) (λ j u v. there j (omega arith)) (k - at) (omega arith) in
            let r = sets_at (bytes m b) at xs (k - at) (omega arith) (omega arith) in
            seen k kn ∙ (rw g at s) ∙ sym (rw g at r))
      ])
    ]))

pub same_buffer : (u v : Buffer) → ◌≡◌ {A = Option Buffer} (Some u) (Some v) → u ≡ v
same_buffer u v e = cc

pub same_owner : (a b i j : ℕ) → ◌≡◌ {A = Option Owner} (Some (owner a b)) (Some (owner i j)) → (a ≡ i) × (b ≡ j)
same_owner a b i j e =
    let f : owner a b ≡ owner i j = cc in
    (ap (λ (o : Owner). o.set) f, ap (λ (o : Owner). o.slot) f)

-- memory that changed, but in no page list, is owned as before
pub memory_keeps : (w : World) (m' : List ℕ) → Owned w → length m' ≡ length w.memory
    → ((i j : ℕ) (b : Buffer) → w.held i j ≡ Some b → 0 < b.length → ListAlike w.memory m' b)
    → Owned (record { held = w.held; table = w.table; memory = m' })
memory_keeps w m' o e h = record {
  whole = rw e o.whole;
  covered = rw e o.covered;
  owned = λ i j b x. owned_same w.table w.memory m' (owner i j) b e (h i j b x) (o.owned i j b x);
  exact = λ q i j x. (let y = o.exact q i j x in
      (y.0, y.1, still_names w.memory m' y.0 q e (h i j y.0 y.1) y.2));
}

-- the pages that a write leaves alone
pub write_quiet : (w : World) (i j : ℕ) (b : Buffer) (at : ℕ) (xs : List ℕ) → Owned w → w.held i j ≡ Some b → at + length xs ≤ b.length
    → (q : ℕ) → (get_or w.table q None ≡ Some (owner i j) → ⊥) → Alike w.memory (written w b at xs).memory q
write_quiet w i j b at xs o h f q d =
    write_misses w.memory b at xs f q
    (λ z k a e. d (named_owned w.table w.memory (owner i j) b q (o.owned i j b h) (subst (Names w.memory b) e (data_named w.memory b k z a))))

-- other pieces' pages are left alone
pub write_others : (w : World) (i j : ℕ) (b : Buffer) (at : ℕ) (xs : List ℕ) → Owned w → w.held i j ≡ Some b → at + length xs ≤ b.length
    → (a c : ℕ) (d : Buffer) → (a ≡ i → c ≡ j → ⊥) → w.held a c ≡ Some d → (x : ℕ) → Names w.memory d x → Alike w.memory (written w b at xs).memory x
write_others w i j b at xs o h f a c d ne g x nm =
    write_quiet w i j b at xs o h f x
    (λ e. (let s = same_owner a c i j (sym (named_owned w.table w.memory (owner a c) d x (o.owned a c d g) nm) ∙ e) in ne s.0 s.1))

-- no list changes
pub write_lists : (w : World) (i j : ℕ) (b : Buffer) (at : ℕ) (xs : List ℕ) → Owned w → w.held i j ≡ Some b → at + length xs ≤ b.length
    → (a c : ℕ) (d : Buffer) → w.held a c ≡ Some d → 0 < d.length → ListAlike w.memory (written w b at xs).memory d
write_lists w i j b at xs o h f a c d g z k =
    let x = d.address / 4096 in
    let own : a ≡ i → c ≡ j → Alike w.memory (written w b at xs).memory x = λ u v.
    (let e : w.held a c ≡ w.held i j = rw (u, v) in
    let s : d ≡ b = same_buffer d b (sym g ∙ e ∙ h) in
    write_misses w.memory b at xs f x (λ y n l p. list_aside w.table w.memory (owner i j) b (o.owned i j b h) y (sym (ap (λ (r : Buffer). r.kind) s) ∙ k) n l (p ∙ ap (λ (r : Buffer). r.address / 4096) s))) in
    let other : (a ≡ i → c ≡ j → ⊥) → Alike w.memory (written w b at xs).memory x = λ ne. write_others w i j b at xs o h f a c d ne g x (list_named w.memory d z k) in
    elim (cases_eq a i) [
      | inl u ↦ (elim (cases_eq c j) [ inl v ↦ own u v | inr v ↦ other (λ y. v) ])
      | inr u ↦ other (λ y. absurd (u y))
    ]

pub write_owned : (w : World) (i j : ℕ) (b : Buffer) (at : ℕ) (xs : List ℕ) → Owned w → w.held i j ≡ Some b → at + length xs ≤ b.length → Owned (written w b at xs)
write_owned w i j b at xs o h f =
    memory_keeps w (written w b at xs).memory o (length_stored (place w.memory b) w.memory at xs) (write_lists w i j b at xs o h f)

pub write_own : (w : World) (i j : ℕ) (b : Buffer) (at : ℕ) (xs : List ℕ) → Owned w → w.held i j ≡ Some b → at + length xs ≤ b.length
    → bytes (written w b at xs).memory b ≡ sets (bytes w.memory b) at xs
write_own w i j b at xs o h f = elim (cases_lt 0 b.length) [
  | inl z ↦ bytes_written w.table w.memory (owner i j) b at xs o.whole z (o.owned i j b h) f
  | inr z ↦ (let n : length xs ≡ 0 = omega arith in rw (nil_from_length xs n))
]

pub write_bytes : (w : World) (i j : ℕ) (b : Buffer) (at : ℕ) (xs : List ℕ) → Owned w → w.held i j ≡ Some b → at + length xs ≤ b.length
    → (a c : ℕ) (d : Buffer) → (a ≡ i → c ≡ j → ⊥) → w.held a c ≡ Some d → bytes (written w b at xs).memory d ≡ bytes w.memory d
write_bytes w i j b at xs o h f a c d ne g =
    bytes_same w.memory (written w b at xs).memory d (length_stored (place w.memory b) w.memory at xs) (write_others w i j b at xs o h f a c d ne g)
