-- Claims of namings in order tell the first that is taken.
use Rattle.std.proofs.Common.{◌≡◌, ℕ, ◌<◌, ◌≢◌, ◌⊎◌, List, [], ◌∷◌, length, get_or, set, Some, None, Ok, Err, Option, sym, refl, ap, ◌∙◌, subst, inl, inr, arith}
use Rattle.std.proofs.lemmas.List.{length-set, get_or-set_same, get_or-set_other}
use Rattle.std.proofs.lemmas.Bool.{cases_eq}
use Rattle.refusal.specs.declared.reason.Refusal.{Refusal}
use Rattle.refusal.specs.declared.reason.Refusal.TheVariants.{PageTaken}
use Rattle.memory.specs.declared.judge.Part.{Part}
use Rattle.memory.specs.declared.judge.Part.TheVariants.{Whole, Entry}
use Rattle.memory.specs.Judge.{spot_of}
use Rattle.memory.specs.Faults.{Fault, Before, Earlier, Told}
use Rattle.owners.specs.declared.table.Owner.{Owner}
use Rattle.owners.specs.Naming.{Naming}
use Rattle.owners.specs.Claims.{Table, next, take_page, claimed}
use Rattle.owners.proofs.Chaining.{Claim, take_free, take_owned}

abbrev pub In : Fault → ℕ → List Naming → Type 0
In f q [] = ⊥
In f q (x ∷ xs) = ((x.0 ≡ f) × (x.1 ≡ q)) ⊎ In f q xs

-- namings come in order; two of one spot name different pages
abbrev pub Ordered : List Naming → Type 0
Ordered [] = Unit {0}
Ordered (x ∷ xs) = ((f : Fault) (q : ℕ) → In f q xs → Earlier x.0 f ⊎ ((x.0 ≡ f) × (x.1 ≡ q → ⊥))) × Ordered xs

abbrev pub HasOwner : Table → ℕ → Type 0
HasOwner t q = (o : Owner) × (get_or t q None ≡ Some o)

abbrev pub TakenOf : Table → List Naming → Fault → Type 0
TakenOf t ns f = (q : ℕ) × In f q ns × (HasOwner t q ⊎ ((g : Fault) × Earlier g f × In g q ns))

-- an owner after a mark was one before, or took its page by it
pub set_from : (t : Table) (q x : ℕ) (o w : Owner) → q < length t → get_or (set t q (Some o)) x None ≡ Some w → (get_or t x None ≡ Some w) ⊎ ((w ≡ o) × (q ≡ x))
set_from t q x o w h e = elim (cases_eq x q) [
  | inl d ↦ (let s = get_or-set_same t q (Some o) None h in
      let g : ◌≡◌ {A = Option Owner} (Some w) (Some o) = sym e ∙ ap (λ i. get_or (set t q (Some o)) i None) d ∙ s in
      let y : w ≡ o = cc in
      inr (y, sym d))
  | inr d ↦ inl (sym (get_or-set_other t q x (Some o) None d) ∙ e)
]

pub before_asym : (r s : Part) → Before r s → Before s r → ⊥
before_asym Whole Whole a b = a
before_asym Whole (Entry k) a b = b
before_asym (Entry j) Whole a b = a
before_asym (Entry j) (Entry k) a b = omega arith

pub earlier_asym : (f g : Fault) → Earlier f g → Earlier g f → ⊥
earlier_asym f g a b = elim a [
  | inl x ↦ (elim b [ inl y ↦ omega arith | inr y ↦ omega (arith, y.0) ])
  | inr x ↦ (elim b [ inl y ↦ omega (arith, x.0) | inr y ↦ before_asym f.part g.part x.1 y.1 ])
]

pub earlier_not : (f g : Fault) → f ≡ g → Earlier g f → ⊥
earlier_not f g e a = let b : Earlier f f = subst (λ (h : Fault). Earlier h f) (sym e) a in earlier_asym f f b b

-- what comes after x in order does not come before it
pub after_head : (x : Naming) (xs : List Naming) → Ordered (x ∷ xs) → (f : Fault) (q : ℕ) → In f q (x ∷ xs) → Earlier f x.0 → ⊥
after_head x xs ord f q i e = elim i [
  | inl a ↦ earlier_not x.0 f a.0 e
  | inr a ↦ (elim (ord.0 f q a) [ inl b ↦ earlier_asym x.0 f b e | inr b ↦ earlier_not x.0 f b.0 e ])
]

pub taken_down : (t : Table) (x : Naming) (xs : List Naming) (o : Owner) → Ordered (x ∷ xs) → x.1 < length t → get_or t x.1 None ≡ None
    → (f : Fault) → TakenOf t (x ∷ xs) f → TakenOf (set t x.1 (Some o)) xs f
taken_down t x xs o ord lt fr f (q, i, w) = elim i [
  | inl a ↦ absurd (elim w [
    | inl b ↦ (let g : Some b.0 ≡ None = sym b.1 ∙ sym (ap (λ n. get_or t n None) a.1) ∙ fr in cc)
    | inr b ↦ after_head x xs ord b.0 q b.2 (subst (λ (h : Fault). Earlier b.0 h) (sym a.0) b.1)
  ])
  | inr a ↦ (
    q,
    a,
    elim w [
      | inl b ↦ inl (b.0, keep q b.0 b.1)
      | inr b ↦ (elim b.2 [
        | inl d ↦ inl (o, ap (λ n. get_or (set t x.1 (Some o)) n None) (sym d.1) ∙ get_or-set_same t x.1 (Some o) None lt)
        | inr d ↦ inr (b.0, b.1, d)
      ])
    ],
  )
]
  where
    keep : (q : ℕ) (v : Owner) → get_or t q None ≡ Some v → get_or (set t x.1 (Some o)) q None ≡ Some v
    keep q v e =
        let ne : q ≢ x.1 = λ y. (let g : Some v ≡ None = sym e ∙ ap (λ n. get_or t n None) y ∙ fr in cc) in
        get_or-set_other t x.1 q (Some o) None ne ∙ e

pub taken_up : (t : Table) (x : Naming) (xs : List Naming) (o : Owner) → Ordered (x ∷ xs) → x.1 < length t
    → (f : Fault) → TakenOf (set t x.1 (Some o)) xs f → TakenOf t (x ∷ xs) f
taken_up t x xs o ord lt f (q, i, w) = (
  q,
  inr i,
  elim w [
    | inl b ↦ (elim (set_from t x.1 q o b.0 lt b.1) [
      | inl d ↦ inl (b.0, d)
      | inr d ↦ (elim (ord.0 f q i) [ inl e ↦ inr (x.0, e, inl (refl, d.1)) | inr e ↦ absurd (e.1 d.1) ])
    ])
    | inr b ↦ inr (b.0, b.1, inr b.2)
  ],
)

pub told_more : (t : Table) (x : Naming) (xs : List Naming) (o : Owner) → Ordered (x ∷ xs) → x.1 < length t → get_or t x.1 None ≡ None
    → (r : Claim) → Told PageTaken (TakenOf (set t x.1 (Some o)) xs) r → Told PageTaken (TakenOf t (x ∷ xs)) r
told_more t x xs o ord lt fr (Ok u) s = λ f b. s f (taken_down t x xs o ord lt fr f b)
told_more t x xs o ord lt fr (Err r) s = (s.0, s.1, taken_up t x xs o ord lt s.0 s.2, λ g e b. s.3 g e (taken_down t x xs o ord lt fr g b))

pub all_step : (ow : ℕ → Owner) (t : Table) (x : Naming) (xs : List Naming) → Ordered (x ∷ xs) → x.1 < length t
    → Told PageTaken (TakenOf (set t x.1 (Some (ow x.0.piece))) xs) (claimed ow (set t x.1 (Some (ow x.0.piece))) xs)
    → (v : Option Owner) → get_or t x.1 None ≡ v → Told PageTaken (TakenOf t (x ∷ xs)) (claimed ow t (x ∷ xs))
all_step ow t x xs ord lt ih None e =
    let o = ow x.0.piece in
    let c : take_page t x.1 x.0 o ≡ Ok (set t x.1 (Some o)) = take_free t x.1 x.0 o e in
    let d : claimed ow t (x ∷ xs) ≡ claimed ow (set t x.1 (Some o)) xs = ap (λ (r : Claim). next r (λ u. claimed ow u xs)) c in
    subst (Told PageTaken (TakenOf t (x ∷ xs))) (sym d) (told_more t x xs o ord lt e (claimed ow (set t x.1 (Some o)) xs) ih)
all_step ow t x xs ord lt ih (Some h) e =
    let o = ow x.0.piece in
    let told : Refusal = PageTaken (spot_of x.0.piece x.0.part) in
    let c : take_page t x.1 x.0 o ≡ Err told = take_owned t x.1 x.0 o h e in
    let d : claimed ow t (x ∷ xs) ≡ Err told = ap (λ (r : Claim). next r (λ u. claimed ow u xs)) c in
    let s : Told {X = Table} PageTaken (TakenOf t (x ∷ xs)) (Err told) =
    (x.0, refl, (x.1, inl (refl, refl), inl (h, e)), λ g a b. after_head x xs ord g b.0 b.1 a) in
    subst (Told PageTaken (TakenOf t (x ∷ xs))) (sym d) s

pub all_told : (ow : ℕ → Owner) (t : Table) (ns : List Naming) → Ordered ns → ((f : Fault) (q : ℕ) → In f q ns → q < length t) → Told PageTaken (TakenOf t ns) (claimed ow t ns)
all_told ow t [] ord ins = λ f b. b.1
all_told ow t (x ∷ xs) ord ins =
    let o = ow x.0.piece in
    let u = set t x.1 (Some o) in
    let lt = ins x.0 x.1 (inl (refl, refl)) in
    all_step ow t x xs ord lt
    (all_told ow u xs ord.1 (λ f q i. rw (length-set t x.1 (Some o)) (ins f q (inr i))))
    (get_or t x.1 None) refl
