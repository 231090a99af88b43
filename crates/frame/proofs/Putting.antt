-- Bytes put to pages that nobody owns leave every piece alone.
use Rattle.std.proofs.Common.{◌≡◌, ℕ, ◌+◌, ◌*◌, ◌/◌, ◌<◌, List, length, get_or, Some, None, Ok, ap, ◌∙◌, inl, inr, arith}
use lib.Seq.{length-sets}
use Rattle.memory.specs.declared.buffer.Buffer.{Buffer}
use Rattle.owners.specs.declared.table.Owner.{Owner}
use Rattle.owners.specs.Naming.{Names}
use Rattle.owners.specs.Claims.{Table, owner}
use Rattle.owners.specs.Puts.{put_verdict, Meets}
use Rattle.owners.proofs.Putting.{put_law}
use Rattle.std.proofs.lemmas.Bool.{cases_lt, cases_eq}
use Rattle.frame.specs.Worlds.{World, Owned, bytes, put}
use Rattle.frame.proofs.Same.{Alike, ListAlike, list_named, named_owned, bytes_same}
use Rattle.frame.proofs.Written.{sets_other, memory_keeps}

-- bytes that were accepted meet no owner
pub put_misses : (m : List ℕ) (pages : ℕ) (t : Table) (a n : ℕ) → put_verdict m pages t a n ≡ Ok tt → Meets t a n → ⊥
put_misses m pages t a n v y =
    let l = put_law m pages t a n in
    elim (cases_eq (length m) (pages * 4096)) [
      | inr s ↦ (let e = l.size s in cc)
      | inl s ↦ (elim (cases_lt (length m) (a + n)) [
        | inl x ↦ (let e = l.outside s (omega (arith, y.1, y.2)) x in cc)
        | inr x ↦ (let e = l.taken s (omega (arith, y.1, y.2)) x y in cc)
      ])
    ]

-- a page with an owner is not put to
pub put_quiet : (w : World) (pages a : ℕ) (xs : List ℕ) → put_verdict w.memory pages w.table a (length xs) ≡ Ok tt
    → (q : ℕ) (o : Owner) → get_or w.table q None ≡ Some o → Alike w.memory (put w a xs).memory q
put_quiet w pages a xs v q o h x e =
    sets_other w.memory a xs x
    (λ b c. put_misses w.memory pages w.table a (length xs) v (x, b, c, (o, ap (λ (y : ℕ). get_or w.table y None) e ∙ h)))

pub put_named : (w : World) (pages a : ℕ) (xs : List ℕ) → Owned w → put_verdict w.memory pages w.table a (length xs) ≡ Ok tt
    → (i j : ℕ) (b : Buffer) → w.held i j ≡ Some b → (q : ℕ) → Names w.memory b q → Alike w.memory (put w a xs).memory q
put_named w pages a xs o v i j b h q n = put_quiet w pages a xs v q (owner i j) (named_owned w.table w.memory (owner i j) b q (o.owned i j b h) n)

pub put_lists : (w : World) (pages a : ℕ) (xs : List ℕ) → Owned w → put_verdict w.memory pages w.table a (length xs) ≡ Ok tt
    → (i j : ℕ) (b : Buffer) → w.held i j ≡ Some b → 0 < b.length → ListAlike w.memory (put w a xs).memory b
put_lists w pages a xs o v i j b h z k = put_named w pages a xs o v i j b h (b.address / 4096) (list_named w.memory b z k)

pub put_owned : (w : World) (pages a : ℕ) (xs : List ℕ) → Owned w → put_verdict w.memory pages w.table a (length xs) ≡ Ok tt → Owned (put w a xs)
put_owned w pages a xs o v = memory_keeps w (put w a xs).memory o (length-sets w.memory a xs) (put_lists w pages a xs o v)

pub put_bytes : (w : World) (pages a : ℕ) (xs : List ℕ) → Owned w → put_verdict w.memory pages w.table a (length xs) ≡ Ok tt
    → (i j : ℕ) (b : Buffer) → w.held i j ≡ Some b → bytes (put w a xs).memory b ≡ bytes w.memory b
put_bytes w pages a xs o v i j b h = bytes_same w.memory (put w a xs).memory b (length-sets w.memory a xs) (put_named w pages a xs o v i j b h)
