-- An entry is read where it lies in its page of memory.
use Rattle.std.proofs.Common.{ℕ, ◌/◌, ◌%◌, sym, ap, ◌∙◌, arith}
use Rattle.memory.proofs.Entries.{entry_inside}
use Rattle.memory.proofs.buffer.Buffer.entry.Goals as goal

pub returns : goal.returns
returns c = (
  (omega arith, omega (arith, c.in_ok-word.ensures.0)),
  ap (λ (w : ℕ). (w / 4096, w % 4096)) c.in_ok-word.ensures.1
      ∙ sym (entry_inside c.args.memory.now c.args.self.address c.args.k (omega arith) (omega (arith, c.in_ok-word.ensures.0))),
)
