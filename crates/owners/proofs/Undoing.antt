-- Taking back what was claimed gives the table that was.
use Rattle.std.proofs.Common.{◌≡◌, ℕ, zero, suc, List, [], ◌∷◌, ◌++◌, get_or, set, Some, None, Ok, Err, Option, sym, refl, ap, ◌∙◌, zero-add}
use Rattle.std.proofs.lemmas.List.{set-set, set-get_or}
use Rattle.memory.specs.declared.buffer.Buffer.{Buffer}
use Rattle.memory.specs.Faults.{Fault}
use Rattle.owners.specs.declared.table.Owner.{Owner}
use Rattle.owners.specs.Naming.{named, buffer_namings}
use Rattle.owners.specs.Claims.{Table, next, take_page, claimed, unclaimed}
use Rattle.owners.proofs.Chaining.{Claim, claimed_append, take_free, take_owned, naming_at, namings_last, next_id}

pub same_table : (t u : Table) → ◌≡◌ {A = Claim} (Ok t) (Ok u) → t ≡ u
same_table t u e = cc

-- a run of claims that ends well: the first did, and then the rest
pub next_ok : (r : Claim) (f : Table → Claim) (t' : Table) → next r f ≡ Ok t' → (u : Table) × (r ≡ Ok u) × (f u ≡ Ok t')
next_ok (Ok u) f t' e = (u, refl, e)
next_ok (Err x) f t' e = absurd (cc)

pub page_ok : (t t' : Table) (q : ℕ) (f : Fault) (o : Owner) → take_page t q f o ≡ Ok t' → (get_or t q None ≡ None) × (set t q (Some o) ≡ t')
page_ok t t' q f o e = go (get_or t q None) refl
  where
    go : (v : Option Owner) → get_or t q None ≡ v → (get_or t q None ≡ None) × (set t q (Some o) ≡ t')
    go None h = (h, same_table (set t q (Some o)) t' (sym (take_free t q f o h) ∙ e))
    go (Some w) h =
        let g = sym (take_owned t q f o w h) ∙ e in
        absurd (cc)

pub set_undone : (t : Table) (q : ℕ) (v : Option Owner) → get_or t q None ≡ None → set (set t q v) q None ≡ t
set_undone t q v h = set-set t q v None ∙ sym (ap (λ (x : Option Owner). set t q x) h) ∙ set-get_or t q None

pub undone_last : (ow : ℕ → Owner) (m : List ℕ) (i : ℕ) (b : Buffer) (t t' : Table) (n : ℕ) → claimed ow t (buffer_namings m i b 0 (suc n)) ≡ Ok t'
    → (u : Table) × (claimed ow t (buffer_namings m i b 0 n) ≡ Ok u) × (set t' (named m b n) None ≡ u)
undone_last ow m i b t t' n e =
    let q = naming_at m i b n in
    let k : buffer_namings m i b 0 (suc n) ≡ buffer_namings m i b 0 n ++ (q ∷ []) = namings_last m i b 0 n ∙ ap (λ (x : ℕ). buffer_namings m i b 0 n ++ (naming_at m i b x ∷ [])) (zero-add n) in
    let x = next_ok (claimed ow t (buffer_namings m i b 0 n)) (λ u. claimed ow u (q ∷ [])) t' (sym (claimed_append ow t (buffer_namings m i b 0 n) (q ∷ [])) ∙ sym (ap (claimed ow t) k) ∙ e) in
    let u = x.0 in
    let y = page_ok u t' q.1 q.0 (ow i) (sym (next_id (take_page u q.1 q.0 (ow i))) ∙ x.2) in
    (u, x.1, sym (ap (λ (r : Table). set r q.1 None) y.1) ∙ set_undone u q.1 (Some (ow i)) y.0)

pub undone : (ow : ℕ → Owner) (m : List ℕ) (i : ℕ) (b : Buffer) (t t' : Table) (n : ℕ) → claimed ow t (buffer_namings m i b 0 n) ≡ Ok t' → unclaimed m b n t' ≡ t
undone ow m i b t t' zero e = sym (same_table t t' e)
undone ow m i b t t' (suc n) e =
    let x = undone_last ow m i b t t' n e in
    ap (unclaimed m b n) x.2 ∙ undone ow m i b t x.0 n x.1
