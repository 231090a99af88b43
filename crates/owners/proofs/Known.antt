-- What a buffer names, by its kind.
use Rattle.std.proofs.Common.{◌≡◌, ℕ, ◌+◌, ◌-◌, ◌*◌, ◌/◌, ◌%◌, ◌<◌, ◌≤◌, cond, eqb, ◌⊎◌, List, length, Ok, sym, refl, ap, ◌∙◌, subst, inl, inr, arith}
use Rattle.std.proofs.lemmas.Bool.{cases_lt, cases_eq, eq-eqb, ne_eqb, cond-true, cond-false}
use Rattle.memory.specs.declared.buffer.Kind.{Kind}
use Rattle.memory.specs.declared.buffer.Kind.TheVariants.{Direct, Listed}
use Rattle.memory.specs.declared.buffer.Buffer.{Buffer}
use Rattle.memory.specs.declared.judge.Part.TheVariants.{Whole, Entry}
use Rattle.memory.specs.Kinds.{each}
use Rattle.memory.specs.Walk.{entry, offset, page, page_count}
use Rattle.memory.specs.Judge.{buffer_verdict}
use Rattle.memory.specs.Faults.{Astray, StrayIn, DirectAstray, ListAstray, Stray}
use Rattle.memory.proofs.Keeping.{page_listed}
use Rattle.memory.proofs.Placed.{not_misplaced}
use Rattle.owners.specs.Naming.{names, named, part_of}

pub kinds : (k : Kind) → (k ≡ Direct) ⊎ (k ≡ Listed)
kinds Direct = inl refl
kinds Listed = inr refl

pub offset_direct : (m : List ℕ) (b : Buffer) → b.kind ≡ Direct → offset m b ≡ b.address % 4096
offset_direct m b e = ap (λ k. each k (b.address % 4096) (entry m b.address 0).1) e

pub page_direct : (m : List ℕ) (b : Buffer) (k : ℕ) → b.kind ≡ Direct → page m b k ≡ b.address / 4096 + k
page_direct m b k e = ap (λ d. each d (b.address / 4096 + k) (entry m b.address k).0) e

pub named_direct : (m : List ℕ) (b : Buffer) (j : ℕ) → b.kind ≡ Direct → named m b j ≡ page m b j
named_direct m b j e = ap (λ d. each d (page m b j) (cond (eqb j 0) (b.address / 4096) (page m b (j - 1)))) e

pub named_listed : (m : List ℕ) (b : Buffer) (j : ℕ) → b.kind ≡ Listed → named m b j ≡ cond (eqb j 0) (b.address / 4096) (page m b (j - 1))
named_listed m b j e = ap (λ d. each d (page m b j) (cond (eqb j 0) (b.address / 4096) (page m b (j - 1)))) e

pub named_list : (m : List ℕ) (b : Buffer) → b.kind ≡ Listed → named m b 0 ≡ b.address / 4096
named_list m b e = named_listed m b 0 e

pub named_entry : (m : List ℕ) (b : Buffer) (k : ℕ) → b.kind ≡ Listed → named m b (k + 1) ≡ page m b k
named_entry m b k e =
    let s : k + 1 - 1 ≡ k = omega arith in
    named_listed m b (k + 1) e ∙ cond-false (eqb (k + 1) 0) (b.address / 4096) (page m b (k + 1 - 1)) (ne_eqb (k + 1) 0 (λ y. omega arith)) ∙ ap (page m b) s

pub part_direct : (b : Buffer) (j : ℕ) → b.kind ≡ Direct → part_of b j ≡ Whole
part_direct b j e = ap (λ d. each d Whole (cond (eqb j 0) Whole (Entry (j - 1)))) e

pub part_list : (b : Buffer) → b.kind ≡ Listed → part_of b 0 ≡ Whole
part_list b e = ap (λ d. each d Whole (cond (eqb 0 0) Whole (Entry (0 - 1)))) e

pub part_entry : (b : Buffer) (k : ℕ) → b.kind ≡ Listed → part_of b (k + 1) ≡ Entry k
part_entry b k e =
    let s : k + 1 - 1 ≡ k = omega arith in
    ap (λ d. each d Whole (cond (eqb (k + 1) 0) Whole (Entry (k + 1 - 1)))) e
    ∙ cond-false (eqb (k + 1) 0) Whole (Entry (k + 1 - 1)) (ne_eqb (k + 1) 0 (λ y. omega arith)) ∙ ap Entry s

pub names_none : (m : List ℕ) (b : Buffer) → b.length ≡ 0 → names m b ≡ 0
names_none m b z = cond-true (eqb b.length 0) 0 (each b.kind (page_count m b) (page_count m b + 1)) (eq-eqb b.length 0 z)

pub names_some : (m : List ℕ) (b : Buffer) → 0 < b.length → names m b ≡ each b.kind (page_count m b) (page_count m b + 1)
names_some m b z = cond-false (eqb b.length 0) 0 (each b.kind (page_count m b) (page_count m b + 1)) (ne_eqb b.length 0 (λ y. omega arith))

pub names_direct : (m : List ℕ) (b : Buffer) → 0 < b.length → b.kind ≡ Direct → names m b ≡ page_count m b
names_direct m b z e = names_some m b z ∙ ap (λ d. each d (page_count m b) (page_count m b + 1)) e

pub names_listed : (m : List ℕ) (b : Buffer) → 0 < b.length → b.kind ≡ Listed → names m b ≡ page_count m b + 1
names_listed m b z e = names_some m b z ∙ ap (λ d. each d (page_count m b) (page_count m b + 1)) e

-- what names a page has bytes
pub names_bytes : (m : List ℕ) (b : Buffer) (j : ℕ) → j < names m b → 0 < b.length
names_bytes m b j h = elim (cases_eq b.length 0)
    [ inl z ↦ (let e = names_none m b z in absurd (omega arith)) | inr z ↦ omega arith ]

-- a buffer that is judged well, by its kind
pub direct_lies : (m : List ℕ) (b : Buffer) → buffer_verdict m b ≡ Ok tt → 0 < b.length → b.kind ≡ Direct → (b.length ≤ 4096) × (b.address + b.length ≤ length m)
direct_lies m b v z e =
    let no : DirectAstray m b → ⊥ = λ s. not_misplaced m b v Whole (inr (z, subst (λ (k : Kind). Astray k m b) (sym e) s)) in (
      elim (cases_lt 4096 b.length) [ inl x ↦ absurd (no (inl x)) | inr x ↦ x ],
      elim (cases_lt (length m) (b.address + b.length)) [ inl x ↦ absurd (no (inr x)) | inr x ↦ x ],
    )

pub list_lies : (m : List ℕ) (b : Buffer) → buffer_verdict m b ≡ Ok tt → 0 < b.length → b.kind ≡ Listed
    → (b.address % 8 ≡ 0) × (b.address < length m) × (b.address % 4096 + 8 * page_count m b ≤ 4096)
list_lies m b v z e =
    let no : ListAstray m b → ⊥ = λ s. not_misplaced m b v Whole (inr (z, subst (λ (k : Kind). Astray k m b) (sym e) s)) in (
      elim (cases_lt 0 (b.address % 8)) [ inl x ↦ absurd (no (inl x)) | inr x ↦ omega arith ],
      elim (cases_lt b.address (length m)) [ inr x ↦ absurd (no (inr (inl x))) | inl x ↦ x ],
      elim (cases_lt 4096 (b.address % 4096 + 8 * page_count m b)) [ inl x ↦ absurd (no (inr (inr x))) | inr x ↦ x ],
    )

pub entry_lies : (m : List ℕ) (b : Buffer) (k : ℕ) → buffer_verdict m b ≡ Ok tt → 0 < b.length → b.kind ≡ Listed → k < page_count m b → (entry m b.address k).0 < length m / 4096
entry_lies m b k v z e h =
    let no : Stray m b.address k → ⊥ = λ s. not_misplaced m b v (Entry k) (z, subst (λ (d : Kind). StrayIn d m b k) (sym e) (h, s)) in
    elim (cases_lt (entry m b.address k).0 (length m / 4096)) [ inl x ↦ x | inr x ↦ absurd (no (inl x)) ]

-- the data pages of a buffer that is judged well are pages of memory
pub page_inside : (m : List ℕ) (b : Buffer) (k : ℕ) → length m % 4096 ≡ 0 → buffer_verdict m b ≡ Ok tt → 0 < b.length → k < page_count m b → page m b k < length m / 4096
page_inside m b k w v z h = elim (kinds b.kind) [
  | inl e ↦ (let l = direct_lies m b v z e in let o = offset_direct m b e in let p = page_direct m b k e in omega (arith, l.1))
  | inr e ↦ (let l = entry_lies m b k v z e h in let p = page_listed m b k e in omega arith)
]

-- so is every page that it names
pub named_inside : (m : List ℕ) (b : Buffer) (j : ℕ) → length m % 4096 ≡ 0 → buffer_verdict m b ≡ Ok tt → j < names m b → named m b j < length m / 4096
named_inside m b j w v h =
    let z = names_bytes m b j h in
    elim (kinds b.kind) [
      | inl e ↦ (let c = names_direct m b z e in let n = named_direct m b j e in let p = page_inside m b j w v z (omega arith) in omega arith)
      | inr e ↦ (let c = names_listed m b z e in
          elim (cases_eq j 0) [
            | inl y ↦ (let l = list_lies m b v z e in let n : named m b j ≡ b.address / 4096 = ap (named m b) y ∙ named_list m b e in omega (arith, l.1))
            | inr y ↦ (let s : j - 1 + 1 ≡ j = omega arith in
                let n : named m b j ≡ page m b (j - 1) = sym (ap (named m b) s) ∙ named_entry m b (j - 1) e in
                let p = page_inside m b (j - 1) w v z (omega arith) in omega arith)
          ])
    ]
