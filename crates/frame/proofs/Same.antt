-- What is the same where the pages that a buffer names are.
use Rattle.std.proofs.Common.{◌≡◌, ℕ, zero, suc, ◌+◌, ◌-◌, ◌*◌, ◌/◌, ◌%◌, ◌<◌, ◌≤◌, cond, eqb, ltb, List, length, get_or, Some, None, Ok, Err, sym, refl, ap, ◌∙◌, inl, inr, arith}
use Rattle.std.proofs.lemmas.Bool.{cases_eq, eq-eqb, le-ltb, cond-true, cond-false}
use Rattle.memory.specs.declared.buffer.Kind.{Kind}
use Rattle.memory.specs.declared.buffer.Kind.TheVariants.{Listed}
use Rattle.memory.specs.declared.buffer.Buffer.{Buffer}
use Rattle.memory.specs.declared.judge.BadEntry.{BadEntry}
use Rattle.memory.specs.declared.judge.Part.{Part}
use Rattle.memory.specs.declared.judge.Part.TheVariants.{Whole}
use Rattle.memory.specs.Kinds.{each}
use Rattle.memory.specs.Walk.{offset, page, page_count}
use Rattle.memory.specs.Store.{stored, gathered, place}
use Rattle.memory.specs.Judge.{Verdict, and_then, in_entry, entry_verdict, entries_from, direct_verdict, list_verdict, buffer_verdict}
use Rattle.memory.proofs.Keeping.{entry_same, stored_other, offset_listed, page_listed}
use Rattle.owners.specs.declared.table.Owner.{Owner}
use Rattle.owners.specs.Naming.{names, named, Names}
use Rattle.owners.specs.Claims.{Table}
use Rattle.owners.proofs.Known.{kinds, offset_direct, page_direct, named_direct, named_list, named_entry, names_none, names_direct, names_listed, names_bytes}
use Rattle.frame.specs.Worlds.{OwnedBy, bytes}

-- the bytes of a page are the same
abbrev pub Alike : List ℕ → List ℕ → ℕ → Type 0
Alike m m' q = (x : ℕ) → x / 4096 ≡ q → get_or m' x 0 ≡ get_or m x 0

-- a buffer's list, if it has one, is the same
abbrev pub ListAlike : List ℕ → List ℕ → Buffer → Type 0
ListAlike m m' b = b.kind ≡ Listed → Alike m m' (b.address / 4096)

pub offset_same : (m m' : List ℕ) (b : Buffer) → length m' ≡ length m → ListAlike m m' b → offset m' b ≡ offset m b
offset_same m m' b e h = elim (kinds b.kind) [
  | inl k ↦ offset_direct m' b k ∙ sym (offset_direct m b k)
  | inr k ↦ offset_listed m' b k ∙ ap (λ (p : ℕ × ℕ). p.1) (entry_same m m' b.address 0 e (h k)) ∙ sym (offset_listed m b k)
]

pub page_same : (m m' : List ℕ) (b : Buffer) (n : ℕ) → length m' ≡ length m → ListAlike m m' b → page m' b n ≡ page m b n
page_same m m' b n e h = elim (kinds b.kind) [
  | inl k ↦ page_direct m' b n k ∙ sym (page_direct m b n k)
  | inr k ↦ page_listed m' b n k ∙ ap (λ (p : ℕ × ℕ). p.0) (entry_same m m' b.address n e (h k)) ∙ sym (page_listed m b n k)
]

pub place_same : (m m' : List ℕ) (b : Buffer) (j : ℕ) → length m' ≡ length m → ListAlike m m' b → place m' b j ≡ place m b j
place_same m m' b j e h =
    let o = offset_same m m' b e h in
    let g = page_same m m' b ((offset m b + j) / 4096) e h in
    ap (λ (x : ℕ). page m' b ((x + j) / 4096) * 4096 + (x + j) % 4096) o ∙ ap (λ (x : ℕ). x * 4096 + (offset m b + j) % 4096) g

pub count_same : (m m' : List ℕ) (b : Buffer) → length m' ≡ length m → ListAlike m m' b → page_count m' b ≡ page_count m b
count_same m m' b e h = ap (λ (x : ℕ). (x + b.length + 4095) / 4096) (offset_same m m' b e h)

pub names_same : (m m' : List ℕ) (b : Buffer) → length m' ≡ length m → ListAlike m m' b → names m' b ≡ names m b
names_same m m' b e h = ap (λ (x : ℕ). cond (eqb b.length 0) 0 (each b.kind x (x + 1))) (count_same m m' b e h)

pub named_same : (m m' : List ℕ) (b : Buffer) (j : ℕ) → length m' ≡ length m → ListAlike m m' b → named m' b j ≡ named m b j
named_same m m' b j e h =
    ap (λ (x : ℕ). each b.kind x (cond (eqb j 0) (b.address / 4096) (page m' b (j - 1)))) (page_same m m' b j e h)
    ∙ ap (λ (x : ℕ). each b.kind (page m b j) (cond (eqb j 0) (b.address / 4096) x)) (page_same m m' b (j - 1) e h)

pub entries_same : (m m' : List ℕ) (l k n : ℕ) → length m' ≡ length m → Alike m m' (l / 4096) → entries_from m' l k n ≡ entries_from m l k n
entries_same m m' l k zero e h = refl
entries_same m m' l k (suc n) e h =
    let f = entry_same m m' l k e h in
    let g : entry_verdict m' l k ≡ entry_verdict m l k = rw (f, e) in
    ap (λ (v : Verdict BadEntry). and_then (in_entry k v) (entries_from m' l (suc k) n)) g
    ∙ ap (λ (r : Verdict Part). and_then (in_entry k (entry_verdict m l k)) r) (entries_same m m' l (suc k) n e h)

pub list_same : (m m' : List ℕ) (b : Buffer) → length m' ≡ length m → ListAlike m m' b → b.kind ≡ Listed → list_verdict m' b ≡ list_verdict m b
list_same m m' b e h k =
    let c = count_same m m' b e h in
    let f = entries_same m m' b.address 0 (page_count m b) e (h k) in
    rw (c, e, f)

pub verdict_same : (m m' : List ℕ) (b : Buffer) → length m' ≡ length m → ListAlike m m' b → buffer_verdict m' b ≡ buffer_verdict m b
verdict_same m m' b e h =
    let D' = direct_verdict m' b in
    let L' = list_verdict m' b in
    let D = direct_verdict m b in
    let L = list_verdict m b in
    let same : each b.kind D' L' ≡ each b.kind D L = elim (kinds b.kind) [
      | inl k ↦ (let d : D' ≡ D = rw e in ap (λ (x : Kind). each x D' L') k ∙ d ∙ sym (ap (λ (x : Kind). each x D L) k))
      | inr k ↦ ap (λ (x : Kind). each x D' L') k ∙ list_same m m' b e h k ∙ sym (ap (λ (x : Kind). each x D L) k)
    ] in
    ap (λ (x : Verdict Part). cond (ltb 1048575 b.length) (Err Whole) (cond (eqb b.length 0) (Ok tt) x)) same

-- without bytes a buffer is well placed
pub empty_placed : (m : List ℕ) (b : Buffer) → b.length ≡ 0 → buffer_verdict m b ≡ Ok tt
empty_placed m b z =
    let E = each b.kind (direct_verdict m b) (list_verdict m b) in
    let good : Verdict Part = Ok tt in
    cond-false (ltb 1048575 b.length) (Err Whole) (cond (eqb b.length 0) good E) (le-ltb 1048575 b.length (omega arith))
    ∙ cond-true (eqb b.length 0) good E (eq-eqb b.length 0 z)

-- the pages that a buffer names
pub data_named : (m : List ℕ) (b : Buffer) (k : ℕ) → 0 < b.length → k < page_count m b → Names m b (page m b k)
data_named m b k z h = elim (kinds b.kind) [
  | inl e ↦ (let n = names_direct m b z e in (k, omega arith, named_direct m b k e))
  | inr e ↦ (let n = names_listed m b z e in (k + 1, omega arith, named_entry m b k e))
]

pub list_named : (m : List ℕ) (b : Buffer) → 0 < b.length → b.kind ≡ Listed → Names m b (b.address / 4096)
list_named m b z e = let n = names_listed m b z e in (0, omega arith, named_list m b e)

-- the data pages of an owned piece differ, and none is its list's page
pub data_apart : (t : Table) (m : List ℕ) (o : Owner) (b : Buffer) → OwnedBy t m o b → 0 < b.length → (i j : ℕ) → i < j → j < page_count m b → page m b i ≡ page m b j → ⊥
data_apart t m o b w z i j l h p = elim (kinds b.kind) [
  | inl e ↦ (let n = names_direct m b z e in w.apart i j l (omega arith) (named_direct m b i e ∙ p ∙ sym (named_direct m b j e)))
  | inr e ↦ (let n = names_listed m b z e in w.apart (i + 1) (j + 1) (omega arith) (omega arith) (named_entry m b i e ∙ p ∙ sym (named_entry m b j e)))
]

pub list_aside : (t : Table) (m : List ℕ) (o : Owner) (b : Buffer) → OwnedBy t m o b → 0 < b.length → b.kind ≡ Listed → (k : ℕ) → k < page_count m b → page m b k ≡ b.address / 4096 → ⊥
list_aside t m o b w z e k h p =
    let n = names_listed m b z e in
    w.apart 0 (k + 1) (omega arith) (omega arith) (named_list m b e ∙ sym p ∙ sym (named_entry m b k e))

-- a page named by a piece has that piece for its owner
pub named_owned : (t : Table) (m : List ℕ) (o : Owner) (b : Buffer) (q : ℕ) → OwnedBy t m o b → Names m b q → get_or t q None ≡ Some o
named_owned t m o b q w n = sym (ap (λ (x : ℕ). get_or t x None) n.2) ∙ w.pages n.0 n.1

-- a piece is owned as it was where its list is the same
pub owned_same : (t : Table) (m m' : List ℕ) (o : Owner) (b : Buffer) → length m' ≡ length m → (0 < b.length → ListAlike m m' b) → OwnedBy t m o b → OwnedBy t m' o b
owned_same t m m' o b e h w = elim (cases_eq b.length 0) [
  | inl z ↦ (let n = names_none m' b z in record {
    placed = empty_placed m' b z;
    pages = λ j l. (absurd (omega arith));
    apart = λ i j l k. (absurd (omega arith));
  })
  | inr z ↦ (let a = h (omega arith) in
      let n = names_same m m' b e a in
      record {
        placed = verdict_same m m' b e a ∙ w.placed;
        pages = λ j l. ap (λ (x : ℕ). get_or t x None) (named_same m m' b j e a) ∙ w.pages j (omega arith);
        apart = λ i j l k p. w.apart i j l (omega arith) (sym (named_same m m' b i e a) ∙ p ∙ named_same m m' b j e a);
      })
]

pub still_names : (m m' : List ℕ) (b : Buffer) (q : ℕ) → length m' ≡ length m → (0 < b.length → ListAlike m m' b) → Names m b q → Names m' b q
still_names m m' b q e h n =
    let a = h (names_bytes m b n.0 n.1) in
    let s = names_same m m' b e a in
    (n.0, omega (arith, n.1), named_same m m' b n.0 e a ∙ n.2)

pub gathered_same : (p p' : ℕ → ℕ) (m m' : List ℕ) (at n : ℕ) → ((j : ℕ) → at ≤ j → j < at + n → get_or m' (p' j) 0 ≡ get_or m (p j) 0) → gathered p' m' at n ≡ gathered p m at n
gathered_same p p' m m' at zero h = refl
gathered_same p p' m m' at (suc n) h =
    let a = h at (omega arith) (omega arith) in
    let b = gathered_same p p' m m' (suc at) n (λ j x y. h j (omega arith) (omega arith)) in
    rw (a, b)

-- a buffer shows the same where the pages that it names are the same
pub bytes_same : (m m' : List ℕ) (b : Buffer) → length m' ≡ length m → ((q : ℕ) → Names m b q → Alike m m' q) → bytes m' b ≡ bytes m b
bytes_same m m' b e h =
    gathered_same (place m b) (place m' b) m m' 0 b.length
    (λ j a c. (let z : 0 < b.length = omega arith in
    let g = place_same m m' b j e (λ k. h (b.address / 4096) (list_named m b z k)) in
    let k = (offset m b + j) / 4096 in
    ap (λ x. get_or m' x 0) g ∙ h (page m b k) (data_named m b k z (omega arith)) (place m b j) (omega arith)))

-- bytes written into a buffer change no page but its data pages
pub write_misses : (m : List ℕ) (b : Buffer) (at : ℕ) (xs : List ℕ) → at + length xs ≤ b.length
    → (q : ℕ) → (0 < b.length → (k : ℕ) → k < page_count m b → page m b k ≡ q → ⊥) → Alike m (stored (place m b) m at xs) q
write_misses m b at xs f q h x e =
    stored_other (place m b) m at xs x
    (λ j a c y. h (omega arith) ((offset m b + j) / 4096) (omega arith) (omega arith))
