-- Pieces queued own what they name.
use Rattle.std.proofs.Common.{◌≡◌, ℕ, zero, suc, ◌+◌, ◌%◌, ◌<◌, ◌⊎◌, List, length, get_or, Some, None, Option, sym, refl, ap, ◌∙◌, subst, inl, inr, zero-add, arith}
use Rattle.std.proofs.lemmas.Option.{none-some}
use Rattle.memory.specs.declared.buffer.Buffer.{Buffer}
use Rattle.owners.specs.declared.table.Owner.{Owner}
use Rattle.memory.specs.Faults.{no_buffer}
use Rattle.memory.proofs.Placed.{judged_each}
use Rattle.owners.specs.Naming.{named, part_of, Names, namings}
use Rattle.owners.specs.Claims.{Table, owner, slot_owner}
use Rattle.owners.proofs.Telling.{in_from, from_in, names_inside}
use Rattle.std.proofs.lemmas.Bool.{cases_eq}
use Rattle.frame.specs.Worlds.{World, Owned, OwnedBy, Queued, queued}
use Rattle.frame.proofs.Written.{same_buffer, same_owner}
use Rattle.frame.proofs.Reaping.{owned_grows}
use Rattle.frame.proofs.Claiming.{Took, took, piece_apart}

pub queue_took : (w : World) (s first : ℕ) (ps : List Buffer) (h : ℕ → ℕ → Option Buffer) (t : Table) → Owned w → Queued s first ps w h t
    → Took (slot_owner s first) w.table t (namings w.memory 0 ps)
queue_took w s first ps h t o q =
    took (slot_owner s first) w.table t (namings w.memory 0 ps)
    (λ f x i. (let y = names_inside w.memory ps o.whole q.judged f x i in omega (arith, o.covered))) q.claimed

-- each piece queued owns what it names
pub queue_owns : (w : World) (s first : ℕ) (ps : List Buffer) (h : ℕ → ℕ → Option Buffer) (t : Table) → Owned w → Queued s first ps w h t
    → (n : ℕ) → n < length ps → OwnedBy t w.memory (slot_owner s first n) (get_or ps n no_buffer)
queue_owns w s first ps h t o q n l =
    let k = queue_took w s first ps h t o q in
    let b = get_or ps n no_buffer in
    record {
      placed = judged_each w.memory 0 ps q.judged n l;
      pages = λ j a. (let i = from_in w.memory 0 ps (part_of b j) (named w.memory b j) n l (j, a, refl, refl) in
          k.marks (record { piece = 0 + n; part = part_of b j }) (named w.memory b j) i ∙ ap (λ (x : ℕ). Some (slot_owner s first x)) (zero-add n));
      apart = λ u v a c. piece_apart w.memory 0 ps n k.distinct l u v a c;
    }

-- who owns a page after it owned it before, or is a piece queued that names it
pub queue_from : (w : World) (s first : ℕ) (ps : List Buffer) (h : ℕ → ℕ → Option Buffer) (t : Table) → Owned w → Queued s first ps w h t
    → (q : ℕ) (v : Owner) → get_or t q None ≡ Some v
    → (get_or w.table q None ≡ Some v) ⊎ ((n : ℕ) × (n < length ps) × (v ≡ slot_owner s first n) × Names w.memory (get_or ps n no_buffer) q)
queue_from w s first ps h t o z q v e = elim ((queue_took w s first ps h t o z).from q v e) [
  | inl a ↦ inl a
  | inr a ↦ (let x = in_from w.memory 0 ps a.0 q a.1 in
      let d : a.0.piece ≡ x.0 = x.2 ∙ zero-add x.0 in
      inr (x.0, x.1, a.2 ∙ ap (slot_owner s first) d, (x.3.0, x.3.1, x.3.3)))
]

-- a bounded search
pub found : (f : ℕ → ℕ) (j n : ℕ) → ((k : ℕ) × (k < n) × (f k ≡ j)) ⊎ ((k : ℕ) → k < n → f k ≡ j → ⊥)
found f j zero = inr (λ k a e. omega arith)
found f j (suc n) = elim (cases_eq (f n) j) [
  | inl e ↦ inl (n, omega arith, e)
  | inr e ↦ (elim (found f j n) [
    | inl x ↦ inl (x.0, omega (arith, x.1), x.2)
    | inr x ↦ inr (λ k a y. elim (cases_eq k n) [ inl d ↦ e (sym (ap f d) ∙ y) | inr d ↦ x k (omega arith) y ])
  ])
]

-- a piece that was there is there
pub queue_held : (w : World) (s first : ℕ) (ps : List Buffer) (h : ℕ → ℕ → Option Buffer) (t : Table) → Queued s first ps w h t
    → (i j : ℕ) (b : Buffer) → w.held i j ≡ Some b → h i j ≡ Some b
queue_held w s first ps h t q i j b g =
    q.old i j (λ e n l d. none-some b (sym (subst (λ (a : ℕ). w.held a j ≡ None) (sym e) (subst (λ (c : ℕ). w.held s c ≡ None) d (q.fresh n l))) ∙ g)) ∙ g

pub queue_owned : (w : World) (s first : ℕ) (ps : List Buffer) (h : ℕ → ℕ → Option Buffer) (t : Table) → Owned w → Queued s first ps w h t → Owned (queued w h t)
queue_owned w s first ps h t o q = record {
  whole = o.whole;
  covered = omega (arith, k.size, o.covered);
  owned = λ i j b g. elim (cases_eq i s) [
    | inr d ↦ was i j b g (λ e. absurd (d e))
    | inl d ↦ (elim (found (λ n. (first + n) % 8) j (length ps)) [
      | inr x ↦ was i j b g (λ e. x)
      | inl x ↦ fresh i j b g d x.0 x.1 x.2
    ])
  ];
  exact = λ x i j e. elim (queue_from w s first ps h t o q x (owner i j) e) [
    | inl y ↦ (let z = o.exact x i j y in (z.0, queue_held w s first ps h t q i j z.0 z.1, z.2))
    | inr y ↦ (let n = y.0 in
        let so : ◌≡◌ {A = Option Owner} (Some (owner i j)) (Some (owner s ((first + n) % 8))) = ap Some y.2 in
        let d = same_owner i j s ((first + n) % 8) so in
        let here : h i j ≡ Some (get_or ps n no_buffer) = rw (d.0, d.1) (q.new n y.1) in
        (get_or ps n no_buffer, here, y.3))
  ];
}
  where
    k : Took (slot_owner s first) w.table t (namings w.memory 0 ps)
    k = queue_took w s first ps h t o q

    was : (i j : ℕ) (b : Buffer) → h i j ≡ Some b → (i ≡ s → (n : ℕ) → n < length ps → (first + n) % 8 ≡ j → ⊥) → OwnedBy t w.memory (owner i j) b
    was i j b g d = owned_grows w.table t w.memory (owner i j) b (λ x. k.kept x (owner i j)) (o.owned i j b (sym (q.old i j d) ∙ g))

    fresh : (i j : ℕ) (b : Buffer) → h i j ≡ Some b → i ≡ s → (n : ℕ) → n < length ps → (first + n) % 8 ≡ j → OwnedBy t w.memory (owner i j) b
    fresh i j b g d n l e =
        let here : h i j ≡ Some (get_or ps n no_buffer) = rw (d, sym e) (q.new n l) in
        let same : get_or ps n no_buffer ≡ b = same_buffer (get_or ps n no_buffer) b (sym here ∙ g) in
        let c : slot_owner s first n ≡ owner i j = rw (e, sym d) in
        subst (λ (r : Buffer). OwnedBy t w.memory (owner i j) r) same (subst (λ (r : Owner). OwnedBy t w.memory r (get_or ps n no_buffer)) c (queue_owns w s first ps h t o q n l))
