-- Claims of a transfer's pieces, one after another, and their undoing.
use Rattle.std.proofs.Common.{◌≡◌, ℕ, zero, suc, ◌+◌, ◌-◌, ◌%◌, ◌<◌, ◌≤◌, List, [], ◌++◌, length, get_or, take, drop, Ok, Err, Result, sym, refl, ap, ◌∙◌, add-one, arith}
use Rattle.std.proofs.lemmas.List.{drop_more, drop_all, get_or-take}
use Rattle.refusal.specs.declared.reason.Refusal.{Refusal}
use Rattle.memory.specs.declared.buffer.Buffer.{Buffer}
use Rattle.memory.specs.Faults.{no_buffer}
use Rattle.owners.specs.declared.table.Owner.{Owner}
use Rattle.owners.specs.Naming.{Naming, named, names, buffer_namings, namings}
use Rattle.owners.specs.Claims.{Table, next, take_page, claimed, claim_buffer, claim, answer, after, owner, slot_owner, unclaimed, unclaimed_all}
use Rattle.owners.proofs.Chaining.{Claim, claimed_append, naming_at, next_cong}
use Rattle.owners.proofs.Undoing.{same_table, next_ok, undone}

-- all namings of one piece have one owner
pub one_owner : (ow : ℕ → Owner) (m : List ℕ) (i : ℕ) (b : Buffer) (t : Table) (j n : ℕ) → claimed (λ k. ow i) t (buffer_namings m i b j n) ≡ claimed ow t (buffer_namings m i b j n)
one_owner ow m i b t j zero = refl
one_owner ow m i b t j (suc n) =
    next_cong (take_page t (named m b j) (naming_at m i b j).0 (ow i)) (λ u. claimed (λ k. ow i) u (buffer_namings m i b (suc j) n)) (λ u. claimed ow u (buffer_namings m i b (suc j) n))
    (λ u. one_owner ow m i b u (suc j) n)

-- what an answer and a table say of a claim
pub was_ok : (x : Claim) (t t' : Table) (r : Result (Unit {0}) Refusal) (u : Unit {0}) → r ≡ answer x → t' ≡ after t x → r ≡ Ok u → x ≡ Ok t'
was_ok (Ok v) t t' r u a b e = ap Ok (sym b)
was_ok (Err f) t t' r u a b e = absurd (cc)

pub was_err : (x : Claim) (t t' : Table) (r : Result (Unit {0}) Refusal) (f : Refusal) → r ≡ answer x → t' ≡ after t x → r ≡ Err f → (x ≡ Err f) × (t' ≡ t)
was_err (Ok v) t t' r f a b e = absurd (cc)
was_err (Err h) t t' r f a b e = (cc, b)

-- the namings of the first n pieces
abbrev pub fore : List ℕ → List Buffer → ℕ → List Naming
fore m ps zero = []
fore m ps (suc n) = fore m ps n ++ buffer_namings m n (get_or ps n no_buffer) 0 (names m (get_or ps n no_buffer))

pub fore_more : (ow : ℕ → Owner) (m : List ℕ) (ps : List Buffer) (i : ℕ) (t u u' : Table) → claimed ow t (fore m ps i) ≡ Ok u
    → claimed ow u (buffer_namings m i (get_or ps i no_buffer) 0 (names m (get_or ps i no_buffer))) ≡ Ok u' → claimed ow t (fore m ps (i + 1)) ≡ Ok u'
fore_more ow m ps i t u u' a b =
    let ns = buffer_namings m i (get_or ps i no_buffer) 0 (names m (get_or ps i no_buffer)) in
    ap (λ (n : ℕ). claimed ow t (fore m ps n)) (add-one i) ∙ claimed_append ow t (fore m ps i) ns ∙ ap (λ (r : Claim). next r (λ v. claimed ow v ns)) a ∙ b

-- taking back the pieces claimed gives the table that was
pub undone_all : (ow : ℕ → Owner) (m : List ℕ) (ps : List Buffer) (t t' : Table) (n : ℕ) → claimed ow t (fore m ps n) ≡ Ok t' → unclaimed_all m ps n t' ≡ t
undone_all ow m ps t t' zero e = sym (same_table t t' e)
undone_all ow m ps t t' (suc n) e =
    let b = get_or ps n no_buffer in
    let ns = buffer_namings m n b 0 (names m b) in
    let x = next_ok (claimed ow t (fore m ps n)) (λ u. claimed ow u ns) t' (sym (claimed_append ow t (fore m ps n) ns) ∙ e) in
    ap (unclaimed_all m ps n) (undone ow m n b x.0 t' (names m b) x.2) ∙ undone_all ow m ps t x.0 n x.1

pub unclaim_all_step : (m : List ℕ) (ps : List Buffer) (t u : Table) (i n : ℕ) → 0 < i → n ≡ names m (get_or ps (i - 1) no_buffer)
    → u ≡ unclaimed m (get_or ps (i - 1) no_buffer) n t → unclaimed_all m ps (i - 1) u ≡ unclaimed_all m ps i t
unclaim_all_step m ps t u i n h a e =
    let s : i ≡ suc (i - 1) = omega arith in
    ap (unclaimed_all m ps (i - 1)) (e ∙ ap (λ (k : ℕ). unclaimed m (get_or ps (i - 1) no_buffer) k t) a) ∙ sym (ap (λ (k : ℕ). unclaimed_all m ps k t) s)

-- the first pieces are taken back whatever follows them
pub unclaimed_take : (m : List ℕ) (ps : List Buffer) (i n : ℕ) (t : Table) → n ≤ i → unclaimed_all m (take i ps) n t ≡ unclaimed_all m ps n t
unclaimed_take m ps i zero t h = refl
unclaimed_take m ps i (suc n) t h =
    let b : get_or (take i ps) n no_buffer ≡ get_or ps n no_buffer = get_or-take i ps n no_buffer (omega arith) in
    rw b (unclaimed_take m ps i n (unclaimed m (get_or ps n no_buffer) (names m (get_or ps n no_buffer)) t) (omega arith))

-- the pieces from i on: the first of them, and then the rest
pub pieces_left : (ow : ℕ → Owner) (m : List ℕ) (ps : List Buffer) (t : Table) (i : ℕ) → i < length ps
    → claimed ow t (namings m i (drop i ps))
    ≡ next (claimed ow t (buffer_namings m i (get_or ps i no_buffer) 0 (names m (get_or ps i no_buffer)))) (λ u. claimed ow u (namings m (i + 1) (drop (i + 1) ps)))
pieces_left ow m ps t i h =
    let b = get_or ps i no_buffer in
    let e : namings m i (drop i ps) ≡ buffer_namings m i b 0 (names m b) ++ namings m (i + 1) (drop (i + 1) ps)
    = ap (namings m i) (drop_more ps i no_buffer h) ∙ sym (ap (λ (k : ℕ). buffer_namings m i b 0 (names m b) ++ namings m k (drop (i + 1) ps)) (add-one i)) in
    ap (claimed ow t) e ∙ claimed_append ow t (buffer_namings m i b 0 (names m b)) (namings m (i + 1) (drop (i + 1) ps))

pub pieces_none : (ow : ℕ → Owner) (m : List ℕ) (ps : List Buffer) (t : Table) (i : ℕ) → length ps ≤ i → claimed ow t (namings m i (drop i ps)) ≡ Ok t
pieces_none ow m ps t i h = rw (drop_all i ps h)

-- the claim of piece i by its slot is the claim of its namings
pub by_slot : (m : List ℕ) (s first i x : ℕ) (b : Buffer) (t : Table) → x ≡ (first + i % 8) % 8
    → claim_buffer m i b (owner s x) t ≡ claimed (slot_owner s first) t (buffer_namings m i b 0 (names m b))
by_slot m s first i x b t e =
    let f : x ≡ (first + i) % 8 = omega arith in
    ap (λ (k : ℕ). claim_buffer m i b (owner s k) t) f ∙ one_owner (slot_owner s first) m i b t 0 (names m b)

-- piece i is claimed, and the rest is left
pub claim_goes : (m : List ℕ) (s first : ℕ) (ps : List Buffer) (t₀ t t' : Table) (i : ℕ) (r : Result (Unit {0}) Refusal) (u : Unit {0}) → i < length ps
    → r ≡ answer (claim_buffer m i (get_or ps i no_buffer) (owner s ((first + i % 8) % 8)) t)
    → t' ≡ after t (claim_buffer m i (get_or ps i no_buffer) (owner s ((first + i % 8) % 8)) t) → r ≡ Ok u
    → claimed (slot_owner s first) t₀ (fore m ps i) ≡ Ok t
    → claimed (slot_owner s first) t (namings m i (drop i ps)) ≡ claim m s first t₀ ps
    → (claimed (slot_owner s first) t₀ (fore m ps (i + 1)) ≡ Ok t')
    × (claimed (slot_owner s first) t' (namings m (i + 1) (drop (i + 1) ps)) ≡ claim m s first t₀ ps)
claim_goes m s first ps t₀ t t' i r u l a b e f g =
    let p = get_or ps i no_buffer in
    let ow = slot_owner s first in
    let x : claimed ow t (buffer_namings m i p 0 (names m p)) ≡ Ok t'
    = sym (by_slot m s first i ((first + i % 8) % 8) p t refl) ∙ was_ok (claim_buffer m i p (owner s ((first + i % 8) % 8)) t) t t' r u a b e in (
      fore_more ow m ps i t₀ t t' f x,
      sym (pieces_left ow m ps t i l ∙ ap (λ (c : Claim). next c (λ v. claimed ow v (namings m (i + 1) (drop (i + 1) ps)))) x) ∙ g,
    )

-- piece i is refused, and the earlier ones are taken back
pub claim_fails : (m : List ℕ) (s first : ℕ) (ps : List Buffer) (t₀ t t' t'' : Table) (i : ℕ) (r : Result (Unit {0}) Refusal) (e : Refusal) → i < length ps
    → r ≡ answer (claim_buffer m i (get_or ps i no_buffer) (owner s ((first + i % 8) % 8)) t)
    → t' ≡ after t (claim_buffer m i (get_or ps i no_buffer) (owner s ((first + i % 8) % 8)) t) → r ≡ Err e
    → claimed (slot_owner s first) t₀ (fore m ps i) ≡ Ok t
    → claimed (slot_owner s first) t (namings m i (drop i ps)) ≡ claim m s first t₀ ps
    → t'' ≡ unclaimed_all m ps i t'
    → (claim m s first t₀ ps ≡ Err e) × (t'' ≡ t₀)
claim_fails m s first ps t₀ t t' t'' i r e l a b d f g h =
    let p = get_or ps i no_buffer in
    let ow = slot_owner s first in
    let w = was_err (claim_buffer m i p (owner s ((first + i % 8) % 8)) t) t t' r e a b d in
    let x : claimed ow t (buffer_namings m i p 0 (names m p)) ≡ Err e = sym (by_slot m s first i ((first + i % 8) % 8) p t refl) ∙ w.0 in (
      sym g ∙ pieces_left ow m ps t i l ∙ ap (λ (c : Claim). next c (λ v. claimed ow v (namings m (i + 1) (drop (i + 1) ps)))) x,
      h ∙ ap (unclaimed_all m ps i) w.1 ∙ undone_all ow m ps t₀ t i f,
    )
