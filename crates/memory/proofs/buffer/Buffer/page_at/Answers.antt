-- The page of a list's entry, the page of no address where it is missing.
use Rattle.std.proofs.Common.{ℕ, sym, rules, ◌∙◌}
use Rattle.memory.proofs.Entries.{entry_read}
use Rattle.memory.proofs.Keeping.{page_listed}
use Rattle.memory.proofs.buffer.Buffer.page_at.Goals as goal

pub returns-in-Listed : goal.returns-in-Listed
returns-in-Listed c =
    let m = c.args.memory.now in
    let b = c.args.self in
    let k = c.args.k in
    entry_read m b.address k (λ (e : ℕ × ℕ). e.0) c.entry.result c.map_or.result c.entry.ensures (λ e p. search rules) c.map_or.ensures ∙ sym (page_listed m b k c.in-Listed.is)
