-- What follows from a buffer that is judged well.
use Rattle.std.proofs.Common.{◌≡◌, ℕ, zero, suc, ◌<◌, List, [], ◌∷◌, length, get_or, Ok, Err, refl, subst, arith}
use Rattle.refusal.specs.declared.reason.Refusal.TheVariants.{BadPlace}
use Rattle.memory.specs.declared.buffer.Buffer.{Buffer}
use Rattle.memory.specs.declared.judge.Part.{Part}
use Rattle.memory.specs.Judge.{Verdict, and_then, in_piece, buffer_verdict, pieces_from}
use Rattle.memory.specs.Faults.{Misplaced, no_buffer}
use Rattle.memory.proofs.Telling.{BufferTold, buffer_told}

pub both_ok : {E : Type 0} (r s : Verdict E) → and_then r s ≡ Ok tt → (r ≡ Ok tt) × (s ≡ Ok tt)
both_ok (Ok u) s e = (refl, e)
both_ok (Err x) s e = absurd (cc)

pub piece_ok : (i : ℕ) (v : Verdict Part) → in_piece BadPlace i v ≡ Ok tt → v ≡ Ok tt
piece_ok i (Ok u) e = refl
piece_ok i (Err x) e = absurd (cc)

-- pieces that were judged well are each judged well
pub judged_each : (m : List ℕ) (i : ℕ) (ps : List Buffer) → pieces_from m i ps ≡ Ok tt → (n : ℕ) → n < length ps → buffer_verdict m (get_or ps n no_buffer) ≡ Ok tt
judged_each m i [] e n a = absurd (omega arith)
judged_each m i (b ∷ bs) e zero a = piece_ok i (buffer_verdict m b) (both_ok (in_piece BadPlace i (buffer_verdict m b)) (pieces_from m (suc i) bs) e).0
judged_each m i (b ∷ bs) e (suc n) a = judged_each m (suc i) bs (both_ok (in_piece BadPlace i (buffer_verdict m b)) (pieces_from m (suc i) bs) e).1 n (omega arith)

pub not_misplaced : (m : List ℕ) (b : Buffer) → buffer_verdict m b ≡ Ok tt → (s : Part) → Misplaced m b s → ⊥
not_misplaced m b e = subst (BufferTold m b) e (buffer_told m b)
