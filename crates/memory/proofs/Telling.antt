-- What the verdicts tell is the first at fault, in the order of naming.
use Rattle.std.proofs.Common.{◌≡◌, ℕ, zero, suc, ◌+◌, ◌*◌, ◌/◌, ◌%◌, ◌^◌, ◌<◌, ◌≤◌, cond, ◌&&◌, ◌||◌, eqb, ltb, leb, ◌⊎◌, List, [], ◌∷◌, length, get_or, Ok, Err, Result, sym, refl, ap, ◌∙◌, subst, inl, inr, add-zero, add-suc, suc-add, zero-add, arith}
use Rattle.std.proofs.lemmas.Bool.{cases_lt, cases_eq, lt-ltb, le-ltb, le-leb, lt-leb, eq-eqb, ne_eqb, or_from, or_left, or_right, and_from, and_left, and_right, cond-true, cond-false}
use Rattle.refusal.specs.declared.reason.Refusal.{Refusal}
use Rattle.refusal.specs.declared.reason.Refusal.TheVariants.{BadPlace}
use Rattle.refusal.specs.declared.reason.Spot.{Spot}
use Rattle.memory.specs.declared.buffer.Kind.{Kind}
use Rattle.memory.specs.declared.buffer.Kind.TheVariants.{Direct, Listed}
use Rattle.memory.specs.declared.buffer.Buffer.{Buffer}
use Rattle.memory.specs.declared.judge.BadEntry.{BadEntry}
use Rattle.memory.specs.declared.judge.Part.{Part}
use Rattle.memory.specs.declared.judge.Part.TheVariants.{Whole, Entry}
use Rattle.memory.specs.Kinds.{each}
use Rattle.memory.specs.Walk.{entry, Lies, page_count}
use Rattle.memory.proofs.Entries.{entry_astray}
use Rattle.memory.specs.Judge.{Verdict, and_then, in_entry, in_piece, spot_of, entry_verdict, entries_from, list_verdict, direct_verdict, buffer_verdict, pieces_from}
use Rattle.memory.specs.Faults.{Fault, Before, Earlier, Told, Stray, StrayIn, Astray, ListAstray, Misplaced, MisplacedIn, PlacesTold, no_buffer}

pub entry_decides : (m : List ℕ) (l k : ℕ) → ((entry_verdict m l k ≡ Ok tt) × (Stray m l k → ⊥)) ⊎ ((entry_verdict m l k ≡ Err (record {})) × Stray m l k)
entry_decides m l k =
    let q = (entry m l k).0 in
    let r = (entry m l k).1 in
    let far = leb (length m / 4096) q in
    let odd = ltb 0 k && ltb 0 r in
    let bad : Verdict BadEntry = Err (record {}) in
    let good : Verdict BadEntry = Ok tt in
    elim (cases_lt q (length m / 4096)) [
      | inr a ↦ inr (cond-true (far || odd) bad good (or_left far odd (le-leb (length m / 4096) q a)), inl a)
      | inl a ↦ (elim (cases_lt 0 k) [
        | inr b ↦ inl (cond-false (far || odd) bad good (or_from far odd (lt-leb (length m / 4096) q a) (and_left (ltb 0 k) (ltb 0 r) (le-ltb 0 k b))), λ s. elim s [ inl x ↦ omega arith | inr x ↦ omega (arith, x.0) ])
        | inl b ↦ (elim (cases_lt 0 r) [
          | inl d ↦ inr (cond-true (far || odd) bad good (or_right far odd (and_from (ltb 0 k) (ltb 0 r) (lt-ltb 0 k b) (lt-ltb 0 r d))), inr (b, d))
          | inr d ↦ inl (cond-false (far || odd) bad good (or_from far odd (lt-leb (length m / 4096) q a) (and_right (ltb 0 k) (ltb 0 r) (le-ltb 0 r d))), λ s. elim s [ inl x ↦ omega arith | inr x ↦ omega (arith, x.1) ])
        ])
      ])
    ]

pub missing_bad : (m : List ℕ) (l k : ℕ) → length m < 2 ^ 64 → (Lies m l k → ⊥) → entry_verdict m l k ≡ Err (record {})
missing_bad m l k h n =
    let e : (entry m l k).0 ≡ 4503599627370496 = ap (λ (p : ℕ × ℕ). p.0) (entry_astray m l k n) in
    elim (entry_decides m l k) [ inl d ↦ absurd (d.1 (inl (omega arith))) | inr d ↦ d.0 ]

-- of the entries from k on, n of them, none is at fault or the first is told
abbrev pub EntriesTold : List ℕ → ℕ → ℕ → ℕ → Verdict Part → Type 0
EntriesTold m l k n (Ok u) = (j : ℕ) → k ≤ j → j < k + n → Stray m l j → ⊥
EntriesTold m l k n (Err Whole) = ⊥
EntriesTold m l k n (Err (Entry j)) = (k ≤ j) × (j < k + n) × Stray m l j × ((i : ℕ) → k ≤ i → i < j → Stray m l i → ⊥)

pub entries_more : (m : List ℕ) (l k n : ℕ) → (Stray m l k → ⊥) → (r : Verdict Part) → EntriesTold m l (suc k) n r → EntriesTold m l k (suc n) r
entries_more m l k n h (Ok u) t = λ j a b s. elim (cases_eq j k) [ inl e ↦ h (subst (Stray m l) e s) | inr e ↦ t j (omega arith) (omega arith) s ]
entries_more m l k n h (Err Whole) t = t
entries_more m l k n h (Err (Entry j)) t = (
  omega (arith, t.0),
  omega (arith, t.1),
  t.2,
  λ i a b s. elim (cases_eq i k) [ inl e ↦ h (subst (Stray m l) e s) | inr e ↦ t.3 i (omega arith) b s ],
)

pub entries_told : (m : List ℕ) (l k n : ℕ) → EntriesTold m l k n (entries_from m l k n)
entries_told m l k zero = λ j a b s. omega arith
entries_told m l k (suc n) =
    let rest = entries_from m l (suc k) n in
    let ih = entries_told m l (suc k) n in
    elim (entry_decides m l k) [
      | inl d ↦ (let e : entries_from m l k (suc n) ≡ rest = ap (λ (v : Verdict BadEntry). and_then (in_entry k v) rest) d.0 in
          subst (EntriesTold m l k (suc n)) (sym e) (entries_more m l k n d.1 rest ih))
      | inr d ↦ (let e : entries_from m l k (suc n) ≡ Err (Entry k) = ap (λ (v : Verdict BadEntry). and_then (in_entry k v) rest) d.0 in
          let t : EntriesTold m l k (suc n) (Err (Entry k)) = (omega arith, omega arith, d.1, λ i a b s. omega arith) in
          subst (EntriesTold m l k (suc n)) (sym e) t)
    ]

-- a buffer of a kind is at fault by nothing, or the first of its parts is told
abbrev pub PlaceTold : Kind → List ℕ → Buffer → Verdict Part → Type 0
PlaceTold kind m b (Ok u) = (Astray kind m b → ⊥) × ((k : ℕ) → StrayIn kind m b k → ⊥)
PlaceTold kind m b (Err Whole) = Astray kind m b
PlaceTold kind m b (Err (Entry k)) = (Astray kind m b → ⊥) × StrayIn kind m b k × ((i : ℕ) → i < k → StrayIn kind m b i → ⊥)

pub list_told : (m : List ℕ) (b : Buffer) (r : Verdict Part) → (ListAstray m b → ⊥) → EntriesTold m b.address 0 (page_count m b) r → PlaceTold Listed m b r
list_told m b (Ok u) h t = (h, λ k s. t k (omega arith) (omega (arith, s.0)) s.1)
list_told m b (Err Whole) h t = absurd t
list_told m b (Err (Entry k)) h t = (h, (omega (arith, t.1), t.2), λ i a s. t.3 i (omega arith) a s.1)

pub place_told : (kind : Kind) (m : List ℕ) (b : Buffer) → PlaceTold kind m b (each kind (direct_verdict m b) (list_verdict m b))
place_told Direct m b =
    let n = b.length in
    let x = ltb 4096 n in
    let y = ltb (length m) (b.address + n) in
    let bad : Verdict Part = Err Whole in
    let good : Verdict Part = Ok tt in
    let P : Verdict Part → Type 0 = PlaceTold Direct m b in
    elim (cases_lt 4096 n) [
      | inl u ↦ subst P (sym (cond-true (x || y) bad good (or_left x y (lt-ltb 4096 n u)))) (inl u)
      | inr u ↦ (elim (cases_lt (length m) (b.address + n)) [
        | inl v ↦ subst P (sym (cond-true (x || y) bad good (or_right x y (lt-ltb (length m) (b.address + n) v)))) (inr v)
        | inr v ↦ subst P (sym (cond-false (x || y) bad good (or_from x y (le-ltb 4096 n u) (le-ltb (length m) (b.address + n) v)))) ((λ s. elim s [ inl z ↦ omega arith | inr z ↦ omega arith ]), λ k s. s)
      ])
    ]
place_told Listed m b =
    let l = b.address in
    let c = page_count m b in
    let x = ltb 0 (l % 8) in
    let y = leb (length m) l in
    let z = ltb 4096 (l % 4096 + 8 * c) in
    let bad : Verdict Part = Err Whole in
    let rest = entries_from m l 0 c in
    let inner = cond z bad rest in
    let P : Verdict Part → Type 0 = PlaceTold Listed m b in
    elim (cases_lt 0 (l % 8)) [
      | inl u ↦ subst P (sym (cond-true (x || y) bad inner (or_left x y (lt-ltb 0 (l % 8) u)))) (inl u)
      | inr u ↦ (elim (cases_lt l (length m)) [
        | inr v ↦ subst P (sym (cond-true (x || y) bad inner (or_right x y (le-leb (length m) l v)))) (inr (inl v))
        | inl v ↦ (let e = cond-false (x || y) bad inner (or_from x y (le-ltb 0 (l % 8) u) (lt-leb (length m) l v)) in
            elim (cases_lt 4096 (l % 4096 + 8 * c)) [
              | inl w ↦ subst P (sym (e ∙ cond-true z bad rest (lt-ltb 4096 (l % 4096 + 8 * c) w))) (inr (inr w))
              | inr w ↦ subst P (sym (e ∙ cond-false z bad rest (le-ltb 4096 (l % 4096 + 8 * c) w)))
                  (list_told m b rest (λ s. elim s [ inl i ↦ omega arith | inr i ↦ (elim i [ inl j ↦ omega arith | inr j ↦ omega arith ]) ]) (entries_told m l 0 c))
            ])
      ])
    ]

-- of a buffer nothing is at fault, or the first of its parts is told
abbrev pub BufferTold : List ℕ → Buffer → Verdict Part → Type 0
BufferTold m b (Ok u) = (s : Part) → Misplaced m b s → ⊥
BufferTold m b (Err s) = Misplaced m b s × ((r : Part) → Before r s → Misplaced m b r → ⊥)

pub buffer_from : (m : List ℕ) (b : Buffer) → b.length ≤ 1048575 → 0 < b.length → (r : Verdict Part) → PlaceTold b.kind m b r → BufferTold m b r
buffer_from m b a z (Ok u) t = elim [ Whole ↦ (λ s. elim s [ inl x ↦ omega arith | inr x ↦ t.0 x.1 ]) | Entry k ↦ (λ s. t.1 k s.1) ]
buffer_from m b a z (Err Whole) t = (inr (z, t), elim [ Whole ↦ (λ b s. b) | Entry k ↦ (λ b s. b) ])
buffer_from m b a z (Err (Entry k)) t = (
  (z, t.1),
  elim [ Whole ↦ (λ b s. elim s [ inl x ↦ omega arith | inr x ↦ t.0 x.1 ]) | Entry i ↦ (λ b s. t.2 i b s.1) ],
)

pub buffer_told : (m : List ℕ) (b : Buffer) → BufferTold m b (buffer_verdict m b)
buffer_told m b =
    let n = b.length in
    let bad : Verdict Part = Err Whole in
    let good : Verdict Part = Ok tt in
    let rest = each b.kind (direct_verdict m b) (list_verdict m b) in
    let inner = cond (eqb n 0) good rest in
    let P : Verdict Part → Type 0 = BufferTold m b in
    let none : n ≡ 0 → P good = λ e. elim [ Whole ↦ (λ s. elim s [ inl x ↦ omega arith | inr x ↦ omega (arith, x.0) ]) | Entry k ↦ (λ s. omega (arith, s.0)) ] in
    elim (cases_lt 1048575 n) [
      | inl a ↦ subst P (sym (cond-true (ltb 1048575 n) bad inner (lt-ltb 1048575 n a))) (inl a, elim [ Whole ↦ (λ b s. b) | Entry k ↦ (λ b s. b) ])
      | inr a ↦ (let e = cond-false (ltb 1048575 n) bad inner (le-ltb 1048575 n a) in
          elim (cases_eq n 0) [
            | inl z ↦ subst P (sym (e ∙ cond-true (eqb n 0) good rest (eq-eqb n 0 z))) (none z)
            | inr z ↦ subst P (sym (e ∙ cond-false (eqb n 0) good rest (ne_eqb n 0 z))) (buffer_from m b a (omega arith) rest (place_told b.kind m b))
          ])
    ]

-- pieces numbered from i on
abbrev pub FaultFrom : List ℕ → ℕ → List Buffer → Fault → Type 0
FaultFrom m i ps f = (n : ℕ) × (n < length ps) × (f.piece ≡ i + n) × Misplaced m (get_or ps n no_buffer) f.part

pub fault_split : (m : List ℕ) (i : ℕ) (p : Buffer) (ps : List Buffer) (f : Fault) (n : ℕ) → n < length (p ∷ ps) → f.piece ≡ i + n → Misplaced m (get_or (p ∷ ps) n no_buffer) f.part
    → ((f.piece ≡ i) × Misplaced m p f.part) ⊎ FaultFrom m (suc i) ps f
fault_split m i p ps f zero a e s = inl (e ∙ add-zero i, s)
fault_split m i p ps f (suc n) a e s = inr (n, omega arith, e ∙ add-suc i n ∙ sym (suc-add i n), s)

pub fault_later : (m : List ℕ) (i : ℕ) (p : Buffer) (ps : List Buffer) (f : Fault) → FaultFrom m (suc i) ps f → FaultFrom m i (p ∷ ps) f
fault_later m i p ps f h = (suc h.0, omega (arith, h.1), h.2 ∙ suc-add i h.0 ∙ sym (add-suc i h.0), h.3)

pub pieces_more : (m : List ℕ) (i : ℕ) (p : Buffer) (ps : List Buffer) → ((s : Part) → Misplaced m p s → ⊥) → (r : Verdict Refusal) → Told BadPlace (FaultFrom m (suc i) ps) r → Told BadPlace (FaultFrom m i (p ∷ ps)) r
pieces_more m i p ps h (Ok u) t = λ f x. elim (fault_split m i p ps f x.0 x.1 x.2 x.3) [ inl y ↦ h f.part y.1 | inr y ↦ t f y ]
pieces_more m i p ps h (Err r) t = (
  t.0,
  t.1,
  fault_later m i p ps t.0 t.2,
  λ g e x. elim (fault_split m i p ps g x.0 x.1 x.2 x.3) [ inl y ↦ h g.part y.1 | inr y ↦ t.3 g e y ],
)

pub pieces_first : (m : List ℕ) (i : ℕ) (p : Buffer) (ps : List Buffer) (s : Part) → BufferTold m p (Err s) → Told {X = Unit {0}} BadPlace (FaultFrom m i (p ∷ ps)) (Err (BadPlace (spot_of i s)))
pieces_first m i p ps s t = (
  record { piece = i; part = s },
  refl,
  (0, omega arith, sym (add-zero i), t.0),
  λ g e x. elim e [
    | inl y ↦ omega (arith, x.2)
    | inr y ↦ (elim (fault_split m i p ps g x.0 x.1 x.2 x.3) [ inl z ↦ t.1 g.part y.1 z.1 | inr z ↦ omega (arith, z.2, y.0) ])
  ],
)

pub pieces_told : (m : List ℕ) (i : ℕ) (ps : List Buffer) → Told BadPlace (FaultFrom m i ps) (pieces_from m i ps)
pieces_told m i [] = λ f x. omega (arith, x.1)
pieces_told m i (p ∷ ps) = pieces_step m i p ps (buffer_verdict m p) refl (buffer_told m p) (pieces_told m (suc i) ps)
  where
    pieces_step : (m : List ℕ) (i : ℕ) (p : Buffer) (ps : List Buffer) (v : Verdict Part) → buffer_verdict m p ≡ v → BufferTold m p (buffer_verdict m p)
        → Told BadPlace (FaultFrom m (suc i) ps) (pieces_from m (suc i) ps) → Told BadPlace (FaultFrom m i (p ∷ ps)) (pieces_from m i (p ∷ ps))
    pieces_step m i p ps (Ok u) e t ih =
        let f : pieces_from m i (p ∷ ps) ≡ pieces_from m (suc i) ps = ap (λ (v : Verdict Part). and_then (in_piece BadPlace i v) (pieces_from m (suc i) ps)) e in
        subst (Told BadPlace (FaultFrom m i (p ∷ ps))) (sym f) (pieces_more m i p ps (subst (BufferTold m p) e t) (pieces_from m (suc i) ps) ih)
    pieces_step m i p ps (Err s) e t ih =
        let f : pieces_from m i (p ∷ ps) ≡ Err (BadPlace (spot_of i s)) = ap (λ (v : Verdict Part). and_then (in_piece BadPlace i v) (pieces_from m (suc i) ps)) e in
        subst (Told BadPlace (FaultFrom m i (p ∷ ps))) (sym f) (pieces_first m i p ps s (subst (BufferTold m p) e t))

-- two readings of the same faults tell the same
pub told_like : {X : Type 0} (refusal : Spot → Refusal) (A B : Fault → Type 0) → ((f : Fault) → A f → B f) → ((f : Fault) → B f → A f) → (r : Result X Refusal) → Told refusal A r → Told refusal B r
told_like refusal A B to from (Ok x) t = λ f b. t f (from f b)
told_like refusal A B to from (Err r) t = (t.0, t.1, to t.0 t.2, λ g e b. t.3 g e (from g b))

pub judging : (m : List ℕ) (ps : List Buffer) → PlacesTold m ps (pieces_from m 0 ps)
judging m ps = told_like BadPlace (FaultFrom m 0 ps) (MisplacedIn m ps)
    (λ f x. (let e : x.0 ≡ f.piece = omega (arith, x.2) in
    (omega (arith, x.1), subst (λ (n : ℕ). Misplaced m (get_or ps n no_buffer) f.part) e x.3)))
    (λ f x. (f.piece, x.0, sym (zero-add f.piece), x.1))
    (pieces_from m 0 ps) (pieces_told m 0 ps)

pub places_told : (m : List ℕ) (ps : List Buffer) (r : Verdict Refusal) → r ≡ pieces_from m 0 ps → PlacesTold m ps r
places_told m ps r e = subst (PlacesTold m ps) (sym e) (judging m ps)

-- of two faults that differ one comes first
pub parts_order : (r s : Part) → (r ≡ s) ⊎ (Before r s ⊎ Before s r)
parts_order Whole Whole = inl refl
parts_order Whole (Entry k) = inr (inl tt)
parts_order (Entry j) Whole = inr (inr tt)
parts_order (Entry j) (Entry k) = elim (cases_lt j k)
    [ inl a ↦ inr (inl a) | inr a ↦ (elim (cases_eq j k) [ inl e ↦ inl (ap Entry e) | inr e ↦ inr (inr (omega arith)) ]) ]

pub faults_order : (f g : Fault) → (f ≡ g) ⊎ (Earlier f g ⊎ Earlier g f)
faults_order f g = elim (cases_lt f.piece g.piece) [
  | inl a ↦ inr (inl (inl a))
  | inr a ↦ (elim (cases_eq f.piece g.piece) [
    | inr d ↦ inr (inr (inl (omega arith)))
    | inl d ↦ (elim (parts_order f.part g.part) [
      | inl e ↦ inl (rw (d, e))
      | inr e ↦ (elim e [ inl x ↦ inr (inl (inr (d, x))) | inr x ↦ inr (inr (inr (sym d, x))) ])
    ])
  ])
]

-- what is told is one answer
pub told_once : (refusal : Spot → Refusal) (Bad : Fault → Type 0) (r s : Verdict Refusal) → Told refusal Bad r → Told refusal Bad s → r ≡ s
told_once refusal Bad (Ok u) (Ok v) a b = refl
told_once refusal Bad (Ok u) (Err g) a b = absurd (a b.0 b.2)
told_once refusal Bad (Err f) (Ok v) a b = absurd (b a.0 a.2)
told_once refusal Bad (Err r) (Err s) a b = elim (faults_order a.0 b.0) [
  | inl e ↦ ap Err (a.1 ∙ ap (λ (f : Fault). refusal (spot_of f.piece f.part)) e ∙ sym b.1)
  | inr e ↦ (elim e [ inl x ↦ absurd (b.3 a.0 x a.2) | inr x ↦ absurd (a.3 b.0 x b.2) ])
]

pub answers_once : (m : List ℕ) (ps : List Buffer) (r : Verdict Refusal) → PlacesTold m ps r → r ≡ pieces_from m 0 ps
answers_once m ps r t = told_once BadPlace (MisplacedIn m ps) r (pieces_from m 0 ps) t (judging m ps)
