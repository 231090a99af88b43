-- A world in which a piece is held and all is owned.
use Rattle.std.proofs.Common.{◌≡◌, ℕ, cond, ◌&&◌, eqb, List, [], ◌∷◌, length, set, Some, None, Ok, Option, sym, refl, inl, inr, arith}
use Rattle.memory.specs.declared.buffer.Kind.TheVariants.{Direct}
use Rattle.memory.specs.declared.buffer.Buffer.{Buffer}
use Rattle.memory.specs.Judge.{pieces_from}
use Rattle.owners.specs.Claims.{Table, owner, claim}
use Rattle.std.proofs.lemmas.Bool.{cond-false}
use Rattle.frame.specs.Worlds.{World, Owned, Queued, queued}
use Rattle.frame.proofs.Reaping.{same_both}
use Rattle.frame.proofs.Queueing.{queue_owned}
use Rattle.frame.proofs.Reading.{empty, starts}

abbrev one : Buffer
one = record { kind = Direct; address = 0; length = 1 }

abbrev here : ℕ → ℕ → Option Buffer
here i j = cond (eqb i 0 && eqb j 0) (Some one) None

abbrev bare : List ℕ → World
bare m = record { held = λ i j. None; table = empty 4096; memory = m }

abbrev taken : Table
taken = set (empty 4096) 0 (Some (owner 0 0))

judged : (m : List ℕ) → length m ≡ 4096 → pieces_from m 0 (one ∷ []) ≡ Ok tt
judged m e = rw e

claimed_one : (m : List ℕ) → claim m 0 0 (empty 4096) (one ∷ []) ≡ Ok taken
claimed_one m = refl

pub happens : (m : List ℕ) → length m ≡ 4096 → (w : World) × Owned w × (w.memory ≡ m) × (w.held 0 0 ≡ Some one)
happens m e =
    let q : Queued 0 0 (one ∷ []) (bare m) here taken = record {
      judged = judged m e;
      claimed = claimed_one m;
      fresh = λ n l. refl;
      new = λ n l. (let z : n ≡ 0 = omega arith in rw z);
      old = λ i j h. elim (same_both i j 0 0) [
        | inl x ↦ absurd (h x.0 0 (omega arith) (sym x.1))
        | inr x ↦ cond-false (eqb i 0 && eqb j 0) (Some one) None x.1
      ];
    } in
    (queued (bare m) here taken, queue_owned (bare m) 0 0 (one ∷ []) here taken (starts 1 m e (omega arith)) q, refl, refl)
