-- A piece let go: exactly its pages are free.
use Rattle.std.proofs.Common.{◌≡◌, ℕ, zero, suc, ◌+◌, ◌/◌, ◌%◌, ◌<◌, ◌≤◌, true, false, ◌&&◌, eqb, ◌≢◌, ◌⊎◌, List, [], ◌∷◌, map, length, get_or, set, Some, None, Option, sym, refl, ap, ◌∙◌, subst, inl, inr, arith}
use Rattle.memory.specs.declared.buffer.Kind.{Kind}
use Rattle.memory.specs.declared.buffer.Kind.TheVariants.{Direct, Listed}
use Rattle.memory.specs.declared.buffer.Buffer.{Buffer}
use Rattle.owners.specs.declared.table.Owner.{Owner}
use Rattle.memory.specs.Kinds.{each}
use Rattle.owners.specs.Naming.{named, Names}
use Rattle.owners.specs.Claims.{Table, owner, freed, freed_pages, released}
use Rattle.owners.proofs.Known.{kinds, offset_direct, page_direct, named_direct, names_none, names_direct}
use Rattle.std.proofs.lemmas.List.{length-map, length-set, get_or-set_same, get_or-set_other, get_or_past, set_past}
use Rattle.std.proofs.lemmas.Bool.{cases_lt, cases_eq, eq-eqb, ne_eqb, and_from, and_left, and_right, cond-true, cond-false}
use Rattle.frame.specs.Worlds.{World, Owned, OwnedBy, without, reaped}
use Rattle.frame.proofs.Same.{named_owned}

pub same_both : (a b i j : ℕ) → ((a ≡ i) × (b ≡ j) × ((eqb a i && eqb b j) ≡ true)) ⊎ ((a ≡ i → b ≡ j → ⊥) × ((eqb a i && eqb b j) ≡ false))
same_both a b i j = elim (cases_eq a i) [
  | inl u ↦ (elim (cases_eq b j) [
    | inl v ↦ inl (u, v, and_from (eqb a i) (eqb b j) (eq-eqb a i u) (eq-eqb b j v))
    | inr v ↦ inr ((λ x. v), and_right (eqb a i) (eqb b j) (ne_eqb b j v))
  ])
  | inr u ↦ inr ((λ x. absurd (u x)), and_left (eqb a i) (eqb b j) (ne_eqb a i u))
]

pub get_d_freed : (o : Owner) (t : Table) (q : ℕ) → get_or (map (freed o) t) q None ≡ freed o (get_or t q None)
get_d_freed o [] q = refl
get_d_freed o (x ∷ t) zero = refl
get_d_freed o (x ∷ t) (suc q) = get_d_freed o t q

pub freed_other : (i j a b : ℕ) → (a ≡ i → b ≡ j → ⊥) → freed (owner i j) (Some (owner a b)) ≡ Some (owner a b)
freed_other i j a b ne = elim (same_both a b i j) [
  | inl e ↦ absurd (ne e.0 e.1)
  | inr e ↦ cond-false (eqb a i && eqb b j) None (Some (owner a b)) e.1
]

pub freed_some : (i j : ℕ) (v : Option Owner) (a b : ℕ) → freed (owner i j) v ≡ Some (owner a b) → (v ≡ Some (owner a b)) × (a ≡ i → b ≡ j → ⊥)
freed_some i j None a b e = absurd (cc)
freed_some i j (Some o) a b e = elim (same_both o.set o.slot i j) [
  | inl s ↦ (let n = cond-true (eqb o.set i && eqb o.slot j) None (Some o) s.2 in
      absurd (cc))
  | inr s ↦ (let n = cond-false (eqb o.set i && eqb o.slot j) None (Some o) s.1 in
      let g : ◌≡◌ {A = Option Owner} (Some o) (Some (owner a b)) = sym n ∙ e in
      let k : o ≡ owner a b = cc in
      (g, λ x y. s.0 (ap (λ (r : Owner). r.set) k ∙ x) (ap (λ (r : Owner). r.slot) k ∙ y)))
]

pub held_other : (h : ℕ → ℕ → Option Buffer) (i j a b : ℕ) → (a ≡ i → b ≡ j → ⊥) → without i j h a b ≡ h a b
held_other h i j a b ne = elim (same_both a b i j) [
  | inl e ↦ absurd (ne e.0 e.1)
  | inr e ↦ cond-false (eqb a i && eqb b j) None (h a b) e.1
]

pub held_some : (h : ℕ → ℕ → Option Buffer) (i j a b : ℕ) (p : Buffer) → without i j h a b ≡ Some p → (h a b ≡ Some p) × (a ≡ i → b ≡ j → ⊥)
held_some h i j a b p e = elim (same_both a b i j) [
  | inl s ↦ (let n = cond-true (eqb a i && eqb b j) None (h a b) s.2 in
      absurd (cc))
  | inr s ↦ (sym (cond-false (eqb a i && eqb b j) None (h a b) s.1) ∙ e, s.0)
]

-- a page that is let go or not is so at its own place in the table
pub freed_here : (o : Owner) (t : Table) (q : ℕ) → get_or (set t q (freed o (get_or t q None))) q None ≡ freed o (get_or t q None)
freed_here o t q = elim (cases_lt q (length t)) [
  | inl l ↦ get_or-set_same t q (freed o (get_or t q None)) None l
  | inr l ↦ (let n = get_or_past t q None l in
      ap (λ (x : Table). get_or x q None) (set_past t q (freed o (get_or t q None)) l) ∙ n ∙ sym (ap (freed o) n))
]

pub pages_out : (o : Owner) (t : Table) (q n x : ℕ) → (q ≤ x → x < q + n → ⊥) → get_or (freed_pages o t q n) x None ≡ get_or t x None
pages_out o t q zero x h = refl
pages_out o t q (suc n) x h =
    let ne : x ≢ q = λ e. h (omega arith) (omega arith) in
    pages_out o (set t q (freed o (get_or t q None))) (suc q) n x (λ a b. h (omega arith) (omega arith)) ∙ get_or-set_other t q x (freed o (get_or t q None)) None ne

pub pages_in : (o : Owner) (t : Table) (q n x : ℕ) → q ≤ x → x < q + n → get_or (freed_pages o t q n) x None ≡ freed o (get_or t x None)
pages_in o t q zero x a b = absurd (omega arith)
pages_in o t q (suc n) x a b = elim (cases_eq x q) [
  | inl e ↦ pages_out o (set t q (freed o (get_or t q None))) (suc q) n x (λ u v. omega arith)
      ∙ ap (λ (y : ℕ). get_or (set t q (freed o (get_or t q None))) y None) e ∙ freed_here o t q ∙ sym (ap (λ (y : ℕ). freed o (get_or t y None)) e)
  | inr e ↦ pages_in o (set t q (freed o (get_or t q None))) (suc q) n x (omega arith) (omega arith) ∙ ap (freed o) (get_or-set_other t q x (freed o (get_or t q None)) None e)
]

pub pages_length : (o : Owner) (t : Table) (q n : ℕ) → length (freed_pages o t q n) ≡ length t
pages_length o t q zero = refl
pages_length o t q (suc n) = pages_length o (set t q (freed o (get_or t q None))) (suc q) n ∙ length-set t q (freed o (get_or t q None))

-- what has another owner, or none, stays
pub freed_not : (i j : ℕ) (v : Option Owner) → (v ≡ Some (owner i j) → ⊥) → freed (owner i j) v ≡ v
freed_not i j None h = refl
freed_not i j (Some o) h = freed_other i j o.set o.slot (λ a b. h (ap Some (rw (a, b))))

-- how many pages a direct buffer is let go of
abbrev pub spanned : Buffer → ℕ
spanned b = (b.address % 4096 + b.length + 4095) / 4096

pub released_none : (o : Owner) (b : Buffer) (t : Table) → b.length ≡ 0 → released o b t ≡ t
released_none o b t z = cond-true (eqb b.length 0) t (each b.kind (freed_pages o t (b.address / 4096) (spanned b)) (map (freed o) t)) (eq-eqb b.length 0 z)

pub released_some : (o : Owner) (b : Buffer) (t : Table) → 0 < b.length → released o b t ≡ each b.kind (freed_pages o t (b.address / 4096) (spanned b)) (map (freed o) t)
released_some o b t z = cond-false (eqb b.length 0) t (each b.kind (freed_pages o t (b.address / 4096) (spanned b)) (map (freed o) t)) (ne_eqb b.length 0 (λ y. omega arith))

pub released_direct : (o : Owner) (b : Buffer) (t : Table) → 0 < b.length → b.kind ≡ Direct → released o b t ≡ freed_pages o t (b.address / 4096) (spanned b)
released_direct o b t z e = released_some o b t z ∙ ap (λ (k : Kind). each k (freed_pages o t (b.address / 4096) (spanned b)) (map (freed o) t)) e

pub released_listed : (o : Owner) (b : Buffer) (t : Table) → 0 < b.length → b.kind ≡ Listed → released o b t ≡ map (freed o) t
released_listed o b t z e = released_some o b t z ∙ ap (λ (k : Kind). each k (freed_pages o t (b.address / 4096) (spanned b)) (map (freed o) t)) e

-- where an owner owns no page but those that its piece names, letting them go is letting every page of it go
pub released_as : (i j : ℕ) (m : List ℕ) (b : Buffer) (t : Table) → ((q : ℕ) → get_or t q None ≡ Some (owner i j) → Names m b q)
    → (q : ℕ) → get_or (released (owner i j) b t) q None ≡ freed (owner i j) (get_or t q None)
released_as i j m b t h q = elim (cases_eq b.length 0) [
  | inl z ↦ ap (λ (x : Table). get_or x q None) (released_none o b t z)
      ∙ sym (freed_not i j (get_or t q None) (λ e. (let n = h q e in let y = names_none m b z in omega (arith, n.1))))
  | inr z ↦ (elim (kinds b.kind) [
    | inr k ↦ ap (λ (x : Table). get_or x q None) (released_listed o b t (omega arith) k) ∙ get_d_freed o t q
    | inl k ↦ ap (λ (x : Table). get_or x q None) (released_direct o b t (omega arith) k) ∙ direct (omega arith) k
  ])
]
  where
    o : Owner
    o = owner i j

    direct : 0 < b.length → b.kind ≡ Direct → get_or (freed_pages (owner i j) t (b.address / 4096) (spanned b)) q None ≡ freed (owner i j) (get_or t q None)
    direct z k = elim (cases_lt q (b.address / 4096)) [
      | inl l ↦ outside (λ a c. omega arith)
      | inr l ↦ (elim (cases_lt q (b.address / 4096 + spanned b)) [
        | inl r ↦ pages_in (owner i j) t (b.address / 4096) (spanned b) q l r
        | inr r ↦ outside (λ a c. omega arith)
      ])
    ]
      where
        outside : (b.address / 4096 ≤ q → q < b.address / 4096 + spanned b → ⊥) → get_or (freed_pages (owner i j) t (b.address / 4096) (spanned b)) q None ≡ freed (owner i j) (get_or t q None)
        outside out = pages_out (owner i j) t (b.address / 4096) (spanned b) q out
            ∙ sym (freed_not i j (get_or t q None) (λ e. (let n = h q e in
            let c = names_direct m b z k in
            let f = offset_direct m b k in
            let p = named_direct m b n.0 k ∙ page_direct m b n.0 k in
            out (omega (arith, n.1, n.2)) (omega (arith, n.1, n.2)))))

pub released_length : (o : Owner) (b : Buffer) (t : Table) → length (released o b t) ≡ length t
released_length o b t = elim (cases_eq b.length 0) [
  | inl z ↦ ap length (released_none o b t z)
  | inr z ↦ (elim (kinds b.kind) [
    | inl k ↦ ap length (released_direct o b t (omega arith) k) ∙ pages_length o t (b.address / 4096) (spanned b)
    | inr k ↦ ap length (released_listed o b t (omega arith) k) ∙ length-map t (freed o)
  ])
]

-- a table in which all that a piece owned is still its own
pub owned_grows : (t t' : Table) (m : List ℕ) (o : Owner) (b : Buffer) → ((q : ℕ) → get_or t q None ≡ Some o → get_or t' q None ≡ Some o) → OwnedBy t m o b → OwnedBy t' m o b
owned_grows t t' m o b h w = record { placed = w.placed; pages = λ j l. h (named m b j) (w.pages j l); apart = w.apart }

-- a piece that is held owns no page but those that it names
pub only_names : (w : World) (i j : ℕ) (b : Buffer) → Owned w → w.held i j ≡ Some b → (q : ℕ) → get_or w.table q None ≡ Some (owner i j) → Names w.memory b q
only_names w i j b o h q e =
    let y = o.exact q i j e in
    let s : y.0 ≡ b = cc in
    subst (λ (d : Buffer). Names w.memory d q) s y.2

pub reaped_at : (w : World) (i j : ℕ) (b : Buffer) → Owned w → w.held i j ≡ Some b → (q : ℕ) → get_or (reaped w i j b).table q None ≡ freed (owner i j) (get_or w.table q None)
reaped_at w i j b o h = released_as i j w.memory b w.table (only_names w i j b o h)

pub table_other : (w : World) (i j : ℕ) (b : Buffer) → Owned w → w.held i j ≡ Some b
    → (a c q : ℕ) → (a ≡ i → c ≡ j → ⊥) → get_or w.table q None ≡ Some (owner a c) → get_or (reaped w i j b).table q None ≡ Some (owner a c)
table_other w i j b o h a c q ne e = reaped_at w i j b o h q ∙ ap (freed (owner i j)) e ∙ freed_other i j a c ne

pub table_some : (w : World) (i j : ℕ) (b : Buffer) → Owned w → w.held i j ≡ Some b
    → (a c q : ℕ) → get_or (reaped w i j b).table q None ≡ Some (owner a c) → (get_or w.table q None ≡ Some (owner a c)) × (a ≡ i → c ≡ j → ⊥)
table_some w i j b o h a c q e = freed_some i j (get_or w.table q None) a c (sym (reaped_at w i j b o h q) ∙ e)

pub reap_owned : (w : World) (i j : ℕ) (b : Buffer) → Owned w → w.held i j ≡ Some b → Owned (reaped w i j b)
reap_owned w i j b o e = record {
  whole = o.whole;
  covered = rw (released_length (owner i j) b w.table) o.covered;
  owned = λ a c d h. (let s = held_some w.held i j a c d h in
      owned_grows w.table (reaped w i j b).table w.memory (owner a c) d (λ q. table_other w i j b o e a c q s.1) (o.owned a c d s.0));
  exact = λ q a c h. (let s = table_some w i j b o e a c q h in
      let y = o.exact q a c s.0 in
      (y.0, held_other w.held i j a c s.1 ∙ y.1, y.2));
}

-- its pages are free
pub reap_frees : (w : World) (i j : ℕ) (b : Buffer) → Owned w → w.held i j ≡ Some b → (q : ℕ) → Names w.memory b q → get_or (reaped w i j b).table q None ≡ None
reap_frees w i j b o e q n =
    reaped_at w i j b o e q ∙ ap (freed (owner i j)) (named_owned w.table w.memory (owner i j) b q (o.owned i j b e) n)
    ∙ cond-true (eqb i i && eqb j j) None (Some (owner i j)) (and_from (eqb i i) (eqb j j) (eq-eqb i i refl) (eq-eqb j j refl))

-- every other page has the owner that it had
pub reap_leaves : (w : World) (i j : ℕ) (b : Buffer) → Owned w → w.held i j ≡ Some b → (q : ℕ) → (Names w.memory b q → ⊥) → get_or (reaped w i j b).table q None ≡ get_or w.table q None
reap_leaves w i j b o e q n = reaped_at w i j b o e q ∙ freed_not i j (get_or w.table q None) (λ y. n (only_names w i j b o e q y))
