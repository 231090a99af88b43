-- Pieces' namings stand in order, so what a claim tells is the first at fault.
use Rattle.std.proofs.Common.{◌≡◌, ℕ, zero, suc, ◌+◌, ◌-◌, ◌/◌, ◌%◌, ◌<◌, ◌≤◌, ◌⊎◌, List, [], ◌∷◌, ◌++◌, length, get_or, Ok, Err, Result, sym, refl, ap, ◌∙◌, subst, inl, inr, add-zero, zero-add, arith}
use Rattle.std.proofs.lemmas.Bool.{cases_eq}
use Rattle.refusal.specs.declared.reason.Refusal.{Refusal}
use Rattle.refusal.specs.declared.reason.Refusal.TheVariants.{PageTaken}
use Rattle.memory.specs.declared.buffer.Kind.TheVariants.{Listed}
use Rattle.memory.specs.declared.buffer.Buffer.{Buffer}
use Rattle.memory.specs.declared.judge.Part.{Part}
use Rattle.memory.specs.declared.judge.Part.TheVariants.{Whole, Entry}
use Rattle.memory.specs.Judge.{pieces_from}
use Rattle.memory.specs.Faults.{Fault, Before, Earlier, Told, no_buffer}
use Rattle.memory.proofs.Telling.{told_like, told_once}
use Rattle.memory.proofs.Placed.{judged_each}
use Rattle.owners.specs.Naming.{Naming, names, named, part_of, buffer_namings, namings}
use Rattle.owners.specs.Claims.{Table, claim, answer, slot_owner}
use Rattle.owners.specs.Taken.{NamedIn, TakenIn, PagesTold}
use Rattle.owners.proofs.Chaining.{Claim}
use Rattle.owners.proofs.Ordering.{In, Ordered, TakenOf, all_told}
use Rattle.owners.proofs.Known.{kinds, page_direct, named_direct, part_direct, part_list, part_entry, named_inside}

-- what stands in a list of namings
pub in_left : (f : Fault) (q : ℕ) (xs ys : List Naming) → In f q xs → In f q (xs ++ ys)
in_left f q [] ys h = absurd h
in_left f q (x ∷ xs) ys h = elim h [ inl a ↦ inl a | inr a ↦ inr (in_left f q xs ys a) ]

pub in_right : (f : Fault) (q : ℕ) (xs ys : List Naming) → In f q ys → In f q (xs ++ ys)
in_right f q [] ys h = h
in_right f q (x ∷ xs) ys h = inr (in_right f q xs ys h)

pub in_cases : (f : Fault) (q : ℕ) (xs ys : List Naming) → In f q (xs ++ ys) → In f q xs ⊎ In f q ys
in_cases f q [] ys h = inr h
in_cases f q (x ∷ xs) ys h = elim h [ inl a ↦ inl (inl a) | inr a ↦ (elim (in_cases f q xs ys a) [ inl b ↦ inl (inr b) | inr b ↦ inr b ]) ]

abbrev at : ℕ → Part → Fault
at i s = record { piece = i; part = s }

pub in_pages : (m : List ℕ) (i : ℕ) (b : Buffer) (k n j : ℕ) → k ≤ j → j < k + n → In (at i (part_of b j)) (named m b j) (buffer_namings m i b k n)
in_pages m i b k zero j a c = absurd (omega arith)
in_pages m i b k (suc n) j a c = elim (cases_eq k j) [
  | inl e ↦ inl (ap (λ (x : ℕ). at i (part_of b x)) e, ap (named m b) e)
  | inr e ↦ inr (in_pages m i b (suc k) n j (omega arith) (omega arith))
]

pub pages_in : (m : List ℕ) (i : ℕ) (b : Buffer) (k n : ℕ) (f : Fault) (q : ℕ) → In f q (buffer_namings m i b k n) → (j : ℕ) × (k ≤ j) × (j < k + n) × (at i (part_of b j) ≡ f) × (named m b j ≡ q)
pages_in m i b k zero f q h = absurd h
pages_in m i b k (suc n) f q h = elim h [
  | inl a ↦ (k, omega arith, omega arith, a.0, a.1)
  | inr a ↦ (let r = pages_in m i b (suc k) n f q a in (r.0, omega (arith, r.1), omega (arith, r.2), r.3, r.4))
]

-- a part of a buffer names page q
abbrev pub NamesAt : List ℕ → Buffer → Part → ℕ → Type 0
NamesAt m b s q = (j : ℕ) × (j < names m b) × (part_of b j ≡ s) × (named m b j ≡ q)

pub piece_named : (m : List ℕ) (i : ℕ) (b : Buffer) (f : Fault) (q : ℕ) → In f q (buffer_namings m i b 0 (names m b)) → (f.piece ≡ i) × NamesAt m b f.part q
piece_named m i b f q h =
    let r = pages_in m i b 0 (names m b) f q h in
    (sym (ap (λ (g : Fault). g.piece) r.3), (r.0, omega (arith, r.2), ap (λ (g : Fault). g.part) r.3, r.4))

pub named_piece : (m : List ℕ) (i : ℕ) (b : Buffer) (s : Part) (q : ℕ) → NamesAt m b s q → In (at i s) q (buffer_namings m i b 0 (names m b))
named_piece m i b s q h =
    subst (λ (x : ℕ). In (at i s) x (buffer_namings m i b 0 (names m b))) h.3
    (subst (λ (x : Part). In (at i x) (named m b h.0) (buffer_namings m i b 0 (names m b))) h.2
    (in_pages m i b 0 (names m b) h.0 (omega arith) (omega (arith, h.1))))

-- pieces numbered from i on
abbrev pub NamedFrom : List ℕ → ℕ → List Buffer → Fault → ℕ → Type 0
NamedFrom m i ps f q = (n : ℕ) × (n < length ps) × (f.piece ≡ i + n) × NamesAt m (get_or ps n no_buffer) f.part q

pub in_from : (m : List ℕ) (i : ℕ) (ps : List Buffer) (f : Fault) (q : ℕ) → In f q (namings m i ps) → NamedFrom m i ps f q
in_from m i [] f q h = absurd h
in_from m i (p ∷ ps) f q h = elim (in_cases f q (buffer_namings m i p 0 (names m p)) (namings m (suc i) ps) h) [
  | inl a ↦ (let r = piece_named m i p f q a in (0, omega arith, r.0 ∙ sym (add-zero i), r.1))
  | inr a ↦ (let r = in_from m (suc i) ps f q a in (suc r.0, omega (arith, r.1), omega (arith, r.2), r.3))
]

pub from_in : (m : List ℕ) (i : ℕ) (ps : List Buffer) (s : Part) (q n : ℕ) → n < length ps → NamesAt m (get_or ps n no_buffer) s q → In (at (i + n) s) q (namings m i ps)
from_in m i [] s q n a h = absurd (omega arith)
from_in m i (p ∷ ps) s q zero a h = in_left (at (i + 0) s) q (buffer_namings m i p 0 (names m p)) (namings m (suc i) ps) (subst (λ (x : ℕ). In (at x s) q (buffer_namings m i p 0 (names m p))) (sym (add-zero i)) (named_piece m i p s q h))
from_in m i (p ∷ ps) s q (suc n) a h =
    let e : suc i + n ≡ i + suc n = omega arith in
    in_right (at (i + suc n) s) q (buffer_namings m i p 0 (names m p)) (namings m (suc i) ps) (subst (λ (x : ℕ). In (at x s) q (namings m (suc i) ps)) e (from_in m (suc i) ps s q n (omega arith) h))

-- namings stand in order
pub ordered_append : (xs ys : List Naming) → Ordered xs → Ordered ys → ((f g : Fault) (q r : ℕ) → In f q xs → In g r ys → Earlier f g) → Ordered (xs ++ ys)
ordered_append [] ys a b h = b
ordered_append (x ∷ xs) ys a b h = (
  λ f q i. elim (in_cases f q xs ys i) [ inl y ↦ a.0 f q y | inr y ↦ inl (h x.0 f x.1 q (inl (refl, refl)) y) ],
  ordered_append xs ys a.1 b (λ f g q r i. h f g q r (inr i)),
)

-- of one listed buffer a later naming has a later part
pub part_later : (b : Buffer) (k j : ℕ) → b.kind ≡ Listed → k < j → Before (part_of b k) (part_of b j)
part_later b k j e l =
    let s : j - 1 + 1 ≡ j = omega arith in
    let y : part_of b j ≡ Entry (j - 1) = sym (ap (part_of b) s) ∙ part_entry b (j - 1) e in
    elim (cases_eq k 0) [
      | inl z ↦ (let x : part_of b k ≡ Whole = ap (part_of b) z ∙ part_list b e in
          subst (λ (p : Part). Before p (part_of b j)) (sym x) (subst (Before Whole) (sym y) tt))
      | inr z ↦ (let r : k - 1 + 1 ≡ k = omega arith in
          let x : part_of b k ≡ Entry (k - 1) = sym (ap (part_of b) r) ∙ part_entry b (k - 1) e in
          let h : k - 1 < j - 1 = omega arith in
          subst (λ (p : Part). Before p (part_of b j)) (sym x) (subst (Before (Entry (k - 1))) (sym y) h))
    ]

pub naming_later : (m : List ℕ) (b : Buffer) (i k j q : ℕ) (f : Fault) → k < j → at i (part_of b j) ≡ f → named m b j ≡ q
    → Earlier (at i (part_of b k)) f ⊎ ((at i (part_of b k) ≡ f) × (named m b k ≡ q → ⊥))
naming_later m b i k j q f l e d = elim (kinds b.kind) [
  | inl x ↦ inr (
    ap (at i) (part_direct b k x ∙ sym (part_direct b j x)) ∙ e,
    λ y. (let u = named_direct m b k x ∙ page_direct m b k x in let v = named_direct m b j x ∙ page_direct m b j x in omega arith),
  )
  | inr x ↦ inl (subst (λ (g : Fault). Earlier (at i (part_of b k)) g) e (inr (refl, part_later b k j x l)))
]

pub ordered_buffer : (m : List ℕ) (i : ℕ) (b : Buffer) (k n : ℕ) → Ordered (buffer_namings m i b k n)
ordered_buffer m i b k zero = tt
ordered_buffer m i b k (suc n) = (
  λ f q h. (let r = pages_in m i b (suc k) n f q h in naming_later m b i k r.0 q f r.1 r.3 r.4),
  ordered_buffer m i b (suc k) n,
)

pub ordered : (m : List ℕ) (i : ℕ) (ps : List Buffer) → Ordered (namings m i ps)
ordered m i [] = tt
ordered m i (p ∷ ps) = ordered_append (buffer_namings m i p 0 (names m p)) (namings m (suc i) ps) (ordered_buffer m i p 0 (names m p)) (ordered m (suc i) ps)
    (λ f g q r a b. (let x = piece_named m i p f q a in let y = in_from m (suc i) ps g r b in inl (omega (arith, x.0, y.2))))

pub from_named : (m : List ℕ) (ps : List Buffer) (f : Fault) (q : ℕ) → NamedFrom m 0 ps f q → NamedIn m ps f q
from_named m ps f q x =
    let e : x.0 ≡ f.piece = omega (arith, x.2) in
    (omega (arith, x.1), subst (λ (n : ℕ). NamesAt m (get_or ps n no_buffer) f.part q) e x.3)

pub named_from : (m : List ℕ) (ps : List Buffer) (f : Fault) (q : ℕ) → NamedIn m ps f q → In f q (namings m 0 ps)
named_from m ps f q x = subst (λ (n : ℕ). In (at n f.part) q (namings m 0 ps)) (zero-add f.piece) (from_in m 0 ps f.part q f.piece x.0 x.1)

-- every page that judged pieces name is a page of memory
pub names_inside : (m : List ℕ) (ps : List Buffer) → length m % 4096 ≡ 0 → pieces_from m 0 ps ≡ Ok tt → (f : Fault) (q : ℕ) → In f q (namings m 0 ps) → q < length m / 4096
names_inside m ps w j f q i =
    let x = in_from m 0 ps f q i in
    let y = x.3 in
    let n = named_inside m (get_or ps x.0 no_buffer) y.0 w (judged_each m 0 ps j x.0 x.1) y.1 in
    omega (arith, y.3)

pub claiming : (m : List ℕ) (s first : ℕ) (t : Table) (ps : List Buffer) → length m % 4096 ≡ 0 → length m / 4096 ≤ length t → pieces_from m 0 ps ≡ Ok tt
    → Told PageTaken (TakenIn t m ps) (claim m s first t ps)
claiming m s first t ps w c j =
    let ns = namings m 0 ps in
    let here : (f : Fault) (q : ℕ) → In f q ns → NamedIn m ps f q = λ f q i. from_named m ps f q (in_from m 0 ps f q i) in
    let inside : (f : Fault) (q : ℕ) → In f q ns → q < length t = λ f q i. (let y = names_inside m ps w j f q i in omega arith) in
    told_like PageTaken (TakenOf t ns) (TakenIn t m ps)
    (λ f x. (x.0, here f x.0 x.1, elim x.2 [ inl o ↦ inl o | inr g ↦ inr (g.0, g.1, here g.0 x.0 g.2) ]))
    (λ f x. (x.0, named_from m ps f x.0 x.1, elim x.2 [ inl o ↦ inl o | inr g ↦ inr (g.0, g.1, named_from m ps g.0 x.0 g.2) ]))
    (claim m s first t ps) (all_told (slot_owner s first) t ns (ordered m 0 ps) inside)

pub told_answer : (Bad : Fault → Type 0) (r : Claim) → Told PageTaken Bad r → Told PageTaken Bad (answer r)
told_answer Bad (Ok u) h = h
told_answer Bad (Err f) h = h

pub pages_told : (m : List ℕ) (s first : ℕ) (t : Table) (ps : List Buffer) (r : Result (Unit {0}) Refusal) → r ≡ answer (claim m s first t ps) → PagesTold m t ps r
pages_told m s first t ps r e = λ w c j. subst (Told PageTaken (TakenIn t m ps)) (sym e) (told_answer (TakenIn t m ps) (claim m s first t ps) (claiming m s first t ps w c j))

pub pages_once : (m : List ℕ) (s first : ℕ) (t : Table) (ps : List Buffer) (r : Result (Unit {0}) Refusal)
    → length m % 4096 ≡ 0 → length m / 4096 ≤ length t → pieces_from m 0 ps ≡ Ok tt → Told PageTaken (TakenIn t m ps) r → r ≡ answer (claim m s first t ps)
pages_once m s first t ps r w c j h =
    told_once PageTaken (TakenIn t m ps) r (answer (claim m s first t ps)) h (told_answer (TakenIn t m ps) (claim m s first t ps) (claiming m s first t ps w c j))
