-- Claims of namings, one after another.
use Rattle.std.proofs.Common.{◌≡◌, ℕ, zero, suc, ◌+◌, ◌-◌, ◌<◌, List, [], ◌∷◌, ◌++◌, get_or, set, true, false, is_some, Some, None, Ok, Err, Option, Result, sym, refl, ap, ◌∙◌, add-zero, zero-add, add-one, arith}
use Rattle.std.proofs.lemmas.Bool.{false≢true}
use Rattle.refusal.specs.declared.reason.Refusal.{Refusal}
use Rattle.refusal.specs.declared.reason.Refusal.TheVariants.{PageTaken}
use Rattle.memory.specs.declared.buffer.Buffer.{Buffer}
use Rattle.memory.specs.Judge.{spot_of}
use Rattle.memory.specs.Faults.{Fault}
use Rattle.owners.specs.declared.table.Owner.{Owner}
use Rattle.owners.specs.Naming.{Naming, part_of, named, buffer_namings}
use Rattle.owners.specs.Claims.{Table, next, take_page, claimed}

abbrev pub Claim : Type 0
Claim = Result Table Refusal

pub next_cong : (r : Claim) (f g : Table → Claim) → ((u : Table) → f u ≡ g u) → next r f ≡ next r g
next_cong (Ok u) f g h = h u
next_cong (Err e) f g h = refl

pub next_assoc : (r : Claim) (f g : Table → Claim) → next (next r f) g ≡ next r (λ u. next (f u) g)
next_assoc (Ok u) f g = refl
next_assoc (Err e) f g = refl

pub next_id : (r : Claim) → next r (λ u. Ok u) ≡ r
next_id (Ok u) = refl
next_id (Err e) = refl

pub claimed_append : (ow : ℕ → Owner) (t : Table) (xs ys : List Naming) → claimed ow t (xs ++ ys) ≡ next (claimed ow t xs) (λ u. claimed ow u ys)
claimed_append ow t [] ys = refl
claimed_append ow t (x ∷ xs) ys =
    next_cong (take_page t x.1 x.0 (ow x.0.piece)) (λ u. claimed ow u (xs ++ ys)) (λ u. next (claimed ow u xs) (λ v. claimed ow v ys)) (λ u. claimed_append ow u xs ys)
    ∙ sym (next_assoc (take_page t x.1 x.0 (ow x.0.piece)) (λ u. claimed ow u xs) (λ u. claimed ow u ys))

pub held_some : (v : Option Owner) → is_some v ≡ true → (h : Owner) × (v ≡ Some h)
held_some None e = absurd (false≢true e)
held_some (Some h) e = (h, refl)

pub held_none : (v : Option Owner) → is_some v ≡ false → v ≡ None
held_none None e = refl
held_none (Some h) e = absurd (false≢true (sym e))

-- a free page is taken, an owned one refused
pub take_free : (t : Table) (q : ℕ) (f : Fault) (o : Owner) → get_or t q None ≡ None → take_page t q f o ≡ Ok (set t q (Some o))
take_free t q f o h = rw (h, take_page)

pub take_owned : (t : Table) (q : ℕ) (f : Fault) (o h : Owner) → get_or t q None ≡ Some h → take_page t q f o ≡ Err (PageTaken (spot_of f.piece f.part))
take_owned t q f o h e = rw (e, take_page)

abbrev pub naming_at : List ℕ → ℕ → Buffer → ℕ → Naming
naming_at m i b j = (record { piece = i; part = part_of b j }, named m b j)

-- one naming more, at either end
pub namings_more : (m : List ℕ) (i : ℕ) (b : Buffer) (j n : ℕ) → j < n → buffer_namings m i b j (n - j) ≡ naming_at m i b j ∷ buffer_namings m i b (j + 1) (n - (j + 1))
namings_more m i b j n h =
    let e : n - j ≡ suc (n - (j + 1)) = omega arith in
    rw (e, add-one j)

pub namings_last : (m : List ℕ) (i : ℕ) (b : Buffer) (j n : ℕ) → buffer_namings m i b j (suc n) ≡ buffer_namings m i b j n ++ (naming_at m i b (j + n) ∷ [])
namings_last m i b j zero = rw (add-zero j)
namings_last m i b j (suc n) =
    let e : suc j + n ≡ j + suc n = omega arith in
    ap (λ (r : List Naming). naming_at m i b j ∷ r) (namings_last m i b (suc j) n ∙ ap (λ (k : ℕ). buffer_namings m i b (suc j) n ++ (naming_at m i b k ∷ [])) e)

-- the claim of a buffer's first j namings, and of one more
pub claim_more : (ow : ℕ → Owner) (m : List ℕ) (i : ℕ) (b : Buffer) (t u : Table) (j : ℕ) → claimed ow t (buffer_namings m i b 0 j) ≡ Ok u → get_or u (named m b j) None ≡ None
    → claimed ow t (buffer_namings m i b 0 (j + 1)) ≡ Ok (set u (named m b j) (Some (ow i)))
claim_more ow m i b t u j h f =
    let e : buffer_namings m i b 0 (j + 1) ≡ buffer_namings m i b 0 j ++ (naming_at m i b j ∷ []) = ap (buffer_namings m i b 0) (add-one j) ∙ namings_last m i b 0 j ∙ ap (λ (k : ℕ). buffer_namings m i b 0 j ++ (naming_at m i b k ∷ [])) (zero-add j) in
    ap (claimed ow t) e ∙ claimed_append ow t (buffer_namings m i b 0 j) (naming_at m i b j ∷ [])
    ∙ ap (λ (r : Claim). next r (λ v. claimed ow v (naming_at m i b j ∷ []))) h
    ∙ ap (λ (r : Claim). next r (λ v. Ok v)) (take_free u (named m b j) (naming_at m i b j).0 (ow i) f)

pub left_free : (ow : ℕ → Owner) (m : List ℕ) (i : ℕ) (b : Buffer) (t : Table) (j n : ℕ) → j < n → get_or t (named m b j) None ≡ None
    → claimed ow (set t (named m b j) (Some (ow i))) (buffer_namings m i b (j + 1) (n - (j + 1))) ≡ claimed ow t (buffer_namings m i b j (n - j))
left_free ow m i b t j n l f =
    sym (ap (claimed ow t) (namings_more m i b j n l)
    ∙ ap (λ (r : Claim). next r (λ v. claimed ow v (buffer_namings m i b (j + 1) (n - (j + 1))))) (take_free t (named m b j) (naming_at m i b j).0 (ow i) f))

pub left_owned : (ow : ℕ → Owner) (m : List ℕ) (i : ℕ) (b : Buffer) (t : Table) (j n : ℕ) (h : Owner) → j < n → get_or t (named m b j) None ≡ Some h
    → claimed ow t (buffer_namings m i b j (n - j)) ≡ Err (PageTaken (spot_of i (part_of b j)))
left_owned ow m i b t j n h l f =
    ap (claimed ow t) (namings_more m i b j n l)
    ∙ ap (λ (r : Claim). next r (λ v. claimed ow v (buffer_namings m i b (j + 1) (n - (j + 1))))) (take_owned t (named m b j) (naming_at m i b j).0 (ow i) h f)
