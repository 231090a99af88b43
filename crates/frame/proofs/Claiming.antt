-- What a claim that ends well did to the table.
use Rattle.std.proofs.Common.{◌≡◌, ℕ, zero, suc, ◌+◌, ◌<◌, ◌≤◌, ◌⊎◌, List, [], ◌∷◌, ◌++◌, length, get_or, set, Some, None, Ok, sym, refl, ap, ◌∙◌, subst, inl, inr, arith}
use Rattle.memory.specs.declared.buffer.Buffer.{Buffer}
use Rattle.owners.specs.declared.table.Owner.{Owner}
use Rattle.memory.specs.Faults.{Fault, no_buffer}
use Rattle.owners.specs.Naming.{Naming, names, named, part_of, buffer_namings, namings}
use Rattle.owners.specs.Claims.{Table, take_page, claimed}
use Rattle.owners.proofs.Undoing.{next_ok, page_ok, same_table}
use Rattle.owners.proofs.Ordering.{In, set_from}
use Rattle.owners.proofs.Telling.{in_left, in_pages}
use Rattle.std.proofs.lemmas.Option.{none-some}
use Rattle.std.proofs.lemmas.List.{length-set, get_or-set_same, get_or-set_other}
use Rattle.std.proofs.lemmas.Bool.{cases_eq}

-- no page stands twice in a list of namings
abbrev pub Distinct : List Naming → Type 0
Distinct [] = Unit {0}
Distinct (x ∷ xs) = ((f : Fault) (q : ℕ) → In f q xs → q ≡ x.1 → ⊥) × Distinct xs

-- no owner lost a page, each named page was free and is its piece's, no other page changed hands, and none was named twice
pub record Took (ow : ℕ → Owner) (t t' : Table) (ns : List Naming) : Type 0 where
  pub size : length t' ≡ length t
  pub kept : (q : ℕ) (v : Owner) → get_or t q None ≡ Some v → get_or t' q None ≡ Some v
  pub fresh : (f : Fault) (q : ℕ) → In f q ns → get_or t q None ≡ None
  pub marks : (f : Fault) (q : ℕ) → In f q ns → get_or t' q None ≡ Some (ow f.piece)
  pub from : (q : ℕ) (v : Owner) → get_or t' q None ≡ Some v → (get_or t q None ≡ Some v) ⊎ ((f : Fault) × In f q ns × (v ≡ ow f.piece))
  pub distinct : Distinct ns

pub took_more : (ow : ℕ → Owner) (t t' : Table) (x : Naming) (xs : List Naming) → x.1 < length t → get_or t x.1 None ≡ None
    → Took ow (set t x.1 (Some (ow x.0.piece))) t' xs → Took ow t t' (x ∷ xs)
took_more ow t t' x xs l e k = record {
  size = k.size ∙ length-set t x.1 (Some o);
  kept = λ q v g. k.kept q v (get_or-set_other t x.1 q (Some o) None (λ y. none-some v (sym e ∙ sym (ap (λ (i : ℕ). get_or t i None) y) ∙ g)) ∙ g);
  fresh = λ f q i. elim i [
    | inl a ↦ sym (ap (λ (n : ℕ). get_or t n None) a.1) ∙ e
    | inr a ↦ sym (get_or-set_other t x.1 q (Some o) None (apart f q a)) ∙ k.fresh f q a
  ];
  marks = λ f q i. elim i [
    | inl a ↦ sym (ap (λ (n : ℕ). get_or t' n None) a.1) ∙ k.kept x.1 o here ∙ ap (λ (g : Fault). Some (ow g.piece)) a.0
    | inr a ↦ k.marks f q a
  ];
  from = λ q v g. elim (k.from q v g) [
    | inl a ↦ (elim (set_from t x.1 q o v l a) [ inl b ↦ inl b | inr b ↦ inr (x.0, inl (refl, b.1), b.0) ])
    | inr a ↦ inr (a.0, inr a.1, a.2)
  ];
  distinct = (apart, k.distinct);
}
  where
    o : Owner
    o = ow x.0.piece

    here : get_or (set t x.1 (Some (ow x.0.piece))) x.1 None ≡ Some (ow x.0.piece)
    here = get_or-set_same t x.1 (Some (ow x.0.piece)) None l

    apart : (f : Fault) (q : ℕ) → In f q xs → q ≡ x.1 → ⊥
    apart f q a y = none-some (ow x.0.piece) (sym (k.fresh f q a) ∙ ap (λ (n : ℕ). get_or (set t x.1 (Some (ow x.0.piece))) n None) y ∙ here)

pub took : (ow : ℕ → Owner) (t t' : Table) (ns : List Naming) → ((f : Fault) (q : ℕ) → In f q ns → q < length t) → claimed ow t ns ≡ Ok t' → Took ow t t' ns
took ow t t' [] ins e =
    let f = same_table t t' e in
    record {
      size = ap length (sym f);
      kept = λ q v g. subst (λ (r : Table). get_or r q None ≡ Some v) f g;
      fresh = λ h q i. absurd i;
      marks = λ h q i. absurd i;
      from = λ q v g. inl (subst (λ (r : Table). get_or r q None ≡ Some v) (sym f) g);
      distinct = tt;
    }
took ow t t' (x ∷ xs) ins e =
    let o = ow x.0.piece in
    let y = next_ok (take_page t x.1 x.0 o) (λ u. claimed ow u xs) t' e in
    let p = page_ok t y.0 x.1 x.0 o y.1 in
    let u = set t x.1 (Some o) in
    took_more ow t t' x xs (ins x.0 x.1 (inl (refl, refl))) p.0
    (took ow u t' xs (λ f q i. rw (length-set t x.1 (Some o)) (ins f q (inr i))) (ap (λ (r : Table). claimed ow r xs) p.1 ∙ y.2))

pub distinct_left : (xs ys : List Naming) → Distinct (xs ++ ys) → Distinct xs
distinct_left [] ys d = tt
distinct_left (x ∷ xs) ys d = ((λ f q i. d.0 f q (in_left f q xs ys i)), distinct_left xs ys d.1)

pub distinct_right : (xs ys : List Naming) → Distinct (xs ++ ys) → Distinct ys
distinct_right [] ys d = d
distinct_right (x ∷ xs) ys d = distinct_right xs ys d.1

pub buffer_apart : (m : List ℕ) (i : ℕ) (b : Buffer) (k n : ℕ) → Distinct (buffer_namings m i b k n) → (u v : ℕ) → k ≤ u → u < v → v < k + n → named m b u ≡ named m b v → ⊥
buffer_apart m i b k zero d u v a l c e = omega arith
buffer_apart m i b k (suc n) d u v a l c e = elim (cases_eq u k) [
  | inl y ↦ d.0 (record { piece = i; part = part_of b v }) (named m b v) (in_pages m i b (suc k) n v (omega arith) (omega arith)) (sym e ∙ ap (named m b) y)
  | inr y ↦ buffer_apart m i b (suc k) n d.1 u v (omega arith) l (omega arith) e
]

pub piece_apart : (m : List ℕ) (i : ℕ) (ps : List Buffer) (n : ℕ) → Distinct (namings m i ps) → n < length ps
    → (u v : ℕ) → u < v → v < names m (get_or ps n no_buffer) → named m (get_or ps n no_buffer) u ≡ named m (get_or ps n no_buffer) v → ⊥
piece_apart m i [] n d l u v a b e = omega arith
piece_apart m i (p ∷ ps) zero d l u v a b e =
    buffer_apart m i p 0 (names m p) (distinct_left (buffer_namings m i p 0 (names m p)) (namings m (suc i) ps) d) u v (omega arith) a (omega arith) e
piece_apart m i (p ∷ ps) (suc n) d l u v a b e =
    piece_apart m (suc i) ps n (distinct_right (buffer_namings m i p 0 (names m p)) (namings m (suc i) ps) d) (omega arith) u v a b e
