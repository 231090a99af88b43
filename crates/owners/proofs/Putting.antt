-- What a Put is told: the verdict is what the law says.
use Rattle.std.proofs.Common.{◌≡◌, ℕ, zero, suc, ◌+◌, ◌*◌, ◌/◌, ◌<◌, ◌≤◌, Bool, true, false, cond, eqb, ltb, ◌&&◌, is_none, List, length, get_or, Some, None, Ok, Err, Option, sym, refl, ap, ◌∙◌, subst, inl, inr, add-one, arith}
use Rattle.std.specs.List.{list_all, range_with_len}
use Rattle.std.proofs.lemmas.Option.{none-some}
use Rattle.std.proofs.lemmas.Bool.{cases_lt, cases_eq, cases_Bool, lt-ltb, le-ltb, eq-eqb, ne_eqb, cond-true, cond-false}
use Rattle.refusal.specs.declared.reason.Refusal.{Refusal}
use Rattle.refusal.specs.declared.reason.Refusal.TheVariants.{WrongSize, BadPlace, PageTaken}
use Rattle.refusal.specs.declared.reason.Spot.TheVariants.{Call}
use Rattle.memory.specs.Judge.{Verdict, and_then, size_verdict}
use Rattle.owners.specs.declared.table.Owner.{Owner}
use Rattle.owners.specs.Claims.{Table}
use Rattle.owners.specs.Puts.{when_none, all_free, span, place_verdict, put_verdict, Meets, PutTold}

pub free_all : (t : Table) (p n : ℕ) → list_all (λ (k : ℕ). is_none (get_or t k None)) (range_with_len p n) ≡ all_free t p n
free_all t p zero = refl
free_all t p (suc n) = ap (λ (r : Bool). is_none (get_or t p None) && r) (ap (λ (k : ℕ). list_all (λ (k : ℕ). is_none (get_or t k None)) (range_with_len k n)) (add-one p) ∙ free_all t (suc p) n)
    ∙ none_and (get_or t p None) (all_free t (suc p) n)
  where
    none_and : (v : Option Owner) (r : Bool) → is_none v && r ≡ when_none v r
    none_and None r = refl
    none_and (Some o) r = refl

pub when_none_lem : (v : Option Owner) (r : Bool) → when_none v r ≡ true → (v ≡ None) × (r ≡ true)
when_none_lem None r e = (refl, e)
when_none_lem (Some o) r e = absurd (cc)

-- pages that are all free are each free
pub free_each : (t : Table) (p n : ℕ) → all_free t p n ≡ true → (k : ℕ) → p ≤ k → k < p + n → get_or t k None ≡ None
free_each t p zero e k a b = absurd (omega arith)
free_each t p (suc n) e k a b =
    let w = when_none_lem (get_or t p None) (all_free t (suc p) n) e in
    elim (cases_eq k p) [ inl d ↦ ap (λ x. get_or t x None) d ∙ w.0 | inr d ↦ free_each t (suc p) n w.1 k (omega arith) (omega arith) ]

-- of pages that are not all free one has an owner
pub one_owned : (t : Table) (p n : ℕ) → all_free t p n ≡ false → (k : ℕ) × (p ≤ k) × (k < p + n) × ((o : Owner) × (get_or t k None ≡ Some o))
one_owned t p zero e = absurd (cc)
one_owned t p (suc n) e = owned_step t p n (get_or t p None) refl (λ f. one_owned t (suc p) n f) e
  where
    owned_step : (t : Table) (p n : ℕ) (v : Option Owner) → get_or t p None ≡ v
        → (all_free t (suc p) n ≡ false → (k : ℕ) × (suc p ≤ k) × (k < suc p + n) × ((o : Owner) × (get_or t k None ≡ Some o)))
        → when_none (get_or t p None) (all_free t (suc p) n) ≡ false
        → (k : ℕ) × (p ≤ k) × (k < p + suc n) × ((o : Owner) × (get_or t k None ≡ Some o))
    owned_step t p n (Some o) h ih e = (p, omega arith, omega arith, (o, h))
    owned_step t p n None h ih e =
        let f : all_free t (suc p) n ≡ false = sym (ap (λ (v : Option Owner). when_none v (all_free t (suc p) n)) h) ∙ e in
        let r = ih f in
        (r.0, omega (arith, r.1), omega (arith, r.2), r.3)

-- bytes whose pages are all free meet no owner, and others meet one
pub free_misses : (t : Table) (a n : ℕ) → all_free t (a / 4096) (span a n) ≡ true → Meets t a n → ⊥
free_misses t a n y b = none-some b.3.0 (sym (free_each t (a / 4096) (span a n) y (b.0 / 4096) (omega (arith, b.1)) (omega (arith, b.1, b.2))) ∙ b.3.1)

pub owned_meets : (t : Table) (a n : ℕ) → 0 < n → all_free t (a / 4096) (span a n) ≡ false → Meets t a n
owned_meets t a n z y =
    let r = one_owned t (a / 4096) (span a n) y in
    let k = r.0 in
    elim (cases_lt (k * 4096) a) [
      | inl u ↦ (a, omega arith, omega arith, (r.3.0, (let q : a / 4096 ≡ k = omega (arith, r.1) in ap (λ (i : ℕ). get_or t i None) q ∙ r.3.1)))
      | inr u ↦ (k * 4096, u, omega (arith, r.2), (r.3.0, (let q : k * 4096 / 4096 ≡ k = omega arith in ap (λ (i : ℕ). get_or t i None) q ∙ r.3.1)))
    ]

abbrev V : Type 0
V = Verdict Refusal

abbrev good : V
good = Ok tt

abbrev bad : V
bad = Err (BadPlace Call)

abbrev own : V
own = Err (PageTaken Call)

sized : (m : List ℕ) (pages : ℕ) (r : V) → length m ≡ pages * 4096 → and_then (size_verdict m pages) r ≡ r
sized m pages r e = ap (λ (v : V). and_then v r) (cond-true (eqb (length m) (pages * 4096)) good (Err WrongSize) (eq-eqb (length m) (pages * 4096) e))

pub put_none : (m : List ℕ) (pages : ℕ) (t : Table) (a n : ℕ) → length m ≡ pages * 4096 → n ≡ 0 → put_verdict m pages t a n ≡ Ok tt
put_none m pages t a n e z = sized m pages (place_verdict m t a n) e
    ∙ cond-true (eqb n 0) good (cond (ltb (length m) (a + n)) bad (cond (all_free t (a / 4096) (span a n)) good own)) (eq-eqb n 0 z)

pub put_some : (m : List ℕ) (pages : ℕ) (t : Table) (a n : ℕ) → length m ≡ pages * 4096 → 0 < n
    → put_verdict m pages t a n ≡ cond (ltb (length m) (a + n)) bad (cond (all_free t (a / 4096) (span a n)) good own)
put_some m pages t a n e z = sized m pages (place_verdict m t a n) e
    ∙ cond-false (eqb n 0) good (cond (ltb (length m) (a + n)) bad (cond (all_free t (a / 4096) (span a n)) good own)) (ne_eqb n 0 (λ y. omega arith))

pub put_inside : (m : List ℕ) (pages : ℕ) (t : Table) (a n : ℕ) → length m ≡ pages * 4096 → 0 < n → a + n ≤ length m
    → put_verdict m pages t a n ≡ cond (all_free t (a / 4096) (span a n)) good own
put_inside m pages t a n e z l = put_some m pages t a n e z
    ∙ cond-false (ltb (length m) (a + n)) bad (cond (all_free t (a / 4096) (span a n)) good own) (le-ltb (length m) (a + n) l)

pub put_goes : (m : List ℕ) (pages : ℕ) (t : Table) (a n : ℕ) → length m ≡ pages * 4096 → 0 < n → a + n ≤ length m
    → all_free t (a / 4096) (span a n) ≡ true → put_verdict m pages t a n ≡ Ok tt
put_goes m pages t a n e z l f = put_inside m pages t a n e z l ∙ cond-true (all_free t (a / 4096) (span a n)) good own f

pub put_taken : (m : List ℕ) (pages : ℕ) (t : Table) (a n : ℕ) → length m ≡ pages * 4096 → 0 < n → a + n ≤ length m
    → all_free t (a / 4096) (span a n) ≡ false → put_verdict m pages t a n ≡ Err (PageTaken Call)
put_taken m pages t a n e z l f = put_inside m pages t a n e z l ∙ cond-false (all_free t (a / 4096) (span a n)) good own f

pub put_law : (m : List ℕ) (pages : ℕ) (t : Table) (a n : ℕ) → PutTold m pages t a n (put_verdict m pages t a n)
put_law m pages t a n = record {
  size = λ h. ap (λ (v : V). and_then v (place_verdict m t a n)) (cond-false (eqb (length m) (pages * 4096)) good (Err WrongSize) (ne_eqb (length m) (pages * 4096) h));
  nothing = put_none m pages t a n;
  outside = λ e z l. put_some m pages t a n e z ∙ cond-true (ltb (length m) (a + n)) bad (cond (all_free t (a / 4096) (span a n)) good own) (lt-ltb (length m) (a + n) l);
  taken = λ e z l y. elim (cases_Bool (all_free t (a / 4096) (span a n)))
      [ inl x ↦ absurd (free_misses t a n x y) | inr x ↦ put_taken m pages t a n e z l x ];
  free = λ e z l y. elim (cases_Bool (all_free t (a / 4096) (span a n)))
      [ inl x ↦ put_goes m pages t a n e z l x | inr x ↦ absurd (y (owned_meets t a n z x)) ];
}

pub law_of : (m : List ℕ) (pages : ℕ) (t : Table) (a n : ℕ) (r : V) → r ≡ put_verdict m pages t a n → PutTold m pages t a n r
law_of m pages t a n r e = subst (PutTold m pages t a n) (sym e) (put_law m pages t a n)
