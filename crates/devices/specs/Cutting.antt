-- The packets of a store.
use Rattle.std.specs.Prelude.{◌≡◌, ℕ, suc, ◌+◌, ◌≤◌, List, [], ◌∷◌, ◌++◌, length, take, drop, vec_items, vec_len, refl}
use Rattle.std.proofs.Common.{sym, ap, ◌∙◌, arith, length-drop, length-take}
use Rattle.std.proofs.lemmas.List.{take-append-drop, length-take-le, take_all, take-append-le, drop-append-le}
use Rattle.link.specs.Terms.{bytes_of}
use Rattle.reader.specs.Bytes.{flat, lengths_of, sum_of}
use Rattle.devices.specs.declared.store.Store.{Store}
use Rattle.devices.specs.Stored.{taken_in}
use Rattle.devices.specs.Taken.{cut}

pub length_cut : (bs ls : List ℕ) → length (cut bs ls) ≡ length ls
length_cut bs [] = refl
length_cut bs (n ∷ ns) = ap suc (length_cut (drop n bs) ns)

pub sum_push : (ls : List ℕ) (n : ℕ) → sum_of (ls ++ n ∷ []) ≡ sum_of ls + n
sum_push [] n = omega arith
sum_push (m ∷ ms) n = omega (arith, sum_push ms n)

pub bytes_cut : (bs ls : List ℕ) → sum_of ls ≡ length bs → bytes_of (cut bs ls) ≡ length bs
bytes_cut bs [] e = e
bytes_cut bs (n ∷ ns) e =
    let r : sum_of ns ≡ length (drop n bs) = omega (arith, length-drop n bs) in
    omega (arith, bytes_cut (drop n bs) ns r, length-take n bs, length-drop n bs)

pub bytes_push : (t : List (List ℕ)) (b : List ℕ) → bytes_of (t ++ b ∷ []) ≡ bytes_of t + length b
bytes_push [] b = omega arith
bytes_push (c ∷ t) b = omega (arith, bytes_push t b)

pub cut_push : (bs ls b : List ℕ) → sum_of ls ≡ length bs → cut (bs ++ b) (ls ++ length b ∷ []) ≡ cut bs ls ++ b ∷ []
cut_push bs [] b e =
    let z : bs ≡ [] = empty bs e in
    ap (λ t. take (length b) (t ++ b) ∷ []) z ∙ ap (λ t. t ∷ []) (take_all (length b) b (omega arith))
  where
    empty : (xs : List ℕ) → 0 ≡ length xs → xs ≡ []
    empty [] h = refl
    empty (x ∷ xs) h = let w : ⊥ = omega arith in absurd w
cut_push bs (n ∷ ns) b e =
    let l : n ≤ length bs = omega arith in
    let r : sum_of ns ≡ length (drop n bs) = omega (arith, length-drop n bs) in
    ap (λ t. t ∷ cut (drop n (bs ++ b)) (ns ++ length b ∷ [])) (take-append-le n bs b l)
    ∙ ap (λ t. take n bs ∷ cut t (ns ++ length b ∷ [])) (drop-append-le n bs b l)
    ∙ ap (λ t. take n bs ∷ t) (cut_push (drop n bs) ns b r)

-- nothing is lost or added by cutting
pub flat_cut : (bs ls : List ℕ) → sum_of ls ≡ length bs → flat (cut bs ls) ≡ bs
flat_cut [] [] e = refl
flat_cut (b ∷ bs) [] e = let w : ⊥ = omega arith in absurd w
flat_cut bs (n ∷ ns) e =
    let r : sum_of ns ≡ length (drop n bs) = omega (arith, length-drop n bs) in
    ap (λ t. take n bs ++ t) (flat_cut (drop n bs) ns r) ∙ take-append-drop n bs

pub lengths_cut : (bs ls : List ℕ) → sum_of ls ≡ length bs → lengths_of (cut bs ls) ≡ ls
lengths_cut bs [] e = refl
lengths_cut bs (n ∷ ns) e =
    let r : sum_of ns ≡ length (drop n bs) = omega (arith, length-drop n bs) in
    let l : n ≤ length bs = omega arith in
    ap (λ k. k ∷ lengths_of (cut (drop n bs) ns)) (length-take-le n bs l) ∙ ap (λ t. n ∷ t) (lengths_cut (drop n bs) ns r)

-- how much a store holds, by its vectors
pub weighs : (s : Store) → bytes_of (taken_in s) ≡ vec_len s.bytes
weighs s = bytes_cut (vec_items s.bytes) (vec_items s.lengths) s.whole ∙ sym s.bytes.ok.0

pub counts : (s : Store) → length (taken_in s) ≡ vec_len s.lengths
counts s = length_cut (vec_items s.bytes) (vec_items s.lengths) ∙ sym s.lengths.ok.0
