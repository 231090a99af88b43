-- The low bits of a list's first entry, 0 where it is missing.
use Rattle.std.proofs.Common.{rules, ℕ, sym, ◌∙◌, arith}
use Rattle.memory.proofs.Entries.{entry_read, offset_below}
use Rattle.memory.proofs.Keeping.{offset_listed}
use Rattle.memory.proofs.buffer.Buffer.offset.Goals as goal

pub returns-in-Listed : goal.returns-in-Listed
returns-in-Listed c =
    let m = c.args.memory.now in
    let b = c.args.self in
    let e = entry_read m b.address 0 (λ (e : ℕ × ℕ). e.1) c.entry.result c.map_or.result c.entry.ensures (λ e p. search rules) c.map_or.ensures ∙ sym (offset_listed m b c.in-Listed.is) in
    record { value = e; small = omega (arith, offset_below m b, e) }
