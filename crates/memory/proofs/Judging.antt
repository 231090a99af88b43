-- Loops over entries and pieces: what is left to judge is what was.
use Rattle.std.proofs.Common.{◌≡◌, ℕ, suc, ◌+◌, ◌-◌, ◌<◌, List, length, get_or, drop, add-one, arith}
use Rattle.std.proofs.lemmas.List.{drop_more}
use Rattle.refusal.specs.declared.reason.Refusal.TheVariants.{BadPlace}
use Rattle.memory.specs.declared.buffer.Buffer.{Buffer}
use Rattle.memory.specs.Faults.{no_buffer}
use Rattle.memory.specs.Judge.{and_then, in_entry, entry_verdict, entries_from, in_piece, buffer_verdict, pieces_from}

pub entries_step : (m : List ℕ) (l k n : ℕ) → k < n
    → entries_from m l k (n - k) ≡ and_then (in_entry k (entry_verdict m l k)) (entries_from m l (k + 1) (n - (k + 1)))
entries_step m l k n h =
    let e : n - k ≡ suc (n - (k + 1)) = omega arith in
    rw (e, add-one k)

pub pieces_step : (m : List ℕ) (i : ℕ) (ps : List Buffer) → i < length ps
    → pieces_from m i (drop i ps) ≡ and_then (in_piece BadPlace i (buffer_verdict m (get_or ps i no_buffer))) (pieces_from m (i + 1) (drop (i + 1) ps))
pieces_step m i ps h =
    let e = drop_more ps i no_buffer h in
    rw (e, add-one i)
