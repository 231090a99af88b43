-- One packet more, in space that was reserved.
use Rattle.std.proofs.Common.{◌≡◌, ◌+◌, ◌<◌, ◌≤◌, ◌++◌, ℕ, length, is_ok, vec_items, vec_len, vec_capacity, sym, ap, ◌∙◌, arith, length-append}
use Rattle.std.proofs.lemmas.Bool.{cond-true}
use Rattle.link.specs.Terms.{bytes_of}
use Rattle.reader.specs.Bytes.{sum_of}
use Rattle.devices.specs.declared.store.Store.{Store}
use Rattle.devices.specs.Taken.{cut}
use Rattle.devices.specs.Stored.{taken_in}
use Rattle.devices.specs.Cutting.{counts, weighs, cut_push, sum_push}
use Rattle.devices.proofs.store.Store.append.Goals as goal

room : (s : Store) (n : ℕ) → bytes_of (taken_in s) + n ≤ s.space → vec_len s.bytes + n ≤ vec_capacity s.bytes
room s n h = omega (arith, h, weighs s, s.spaced)

pub unwrap-requires : goal.unwrap-requires
unwrap-requires c = c.extend_from_slice.ensures.succeeds (room c.args.self.now (length c.args.packet.now) c.requires.spaced)

pub push_reserved-requires : goal.push_reserved-requires
push_reserved-requires c =
    let s = c.args.self.now in
    let l : vec_len s.lengths < vec_capacity s.lengths = omega (arith, c.requires.counted, counts s) in l

pub invariant_of-self : goal.invariant_of-self
invariant_of-self c =
    let s = c.args.self.now in
    let e = c.extend_from_slice in
    let p = c.push_reserved in
    let n = length c.args.packet.now in
    let l = room s n c.requires.spaced in
    let grown : vec_items e.new.self ≡ vec_items s.bytes ++ c.args.packet.now = e.ensures.items ∙ cond-true (is_ok e.result) _ _ (e.ensures.succeeds l) in
    let b = ap length grown ∙ length-append (vec_items s.bytes) c.args.packet.now in
    let w : sum_of (vec_items p.new.self) ≡ length (vec_items e.new.self) = ap sum_of p.ensures.items ∙ sum_push (vec_items s.lengths) n ∙ ap (λ k. k + n) s.whole ∙ sym b in
    let i : length (vec_items e.new.self) ≤ s.space = omega (arith, b, c.requires.spaced, weighs s, s.bytes.ok.0) in
    record { whole = w; spaced = omega (arith, s.spaced, e.ensures.capacity); inside = i; few = s.few; short = omega (arith, s.short, p.ensures.capacity) }

pub returns-clause-taken : goal.returns-clause-taken
returns-clause-taken c =
    let s = c.args.self.now in
    let e = c.extend_from_slice in
    let p = c.push_reserved in
    let grown : vec_items e.new.self ≡ vec_items s.bytes ++ c.args.packet.now =
    e.ensures.items ∙ cond-true (is_ok e.result) _ _ (e.ensures.succeeds (room s (length c.args.packet.now) c.requires.spaced)) in
    ap (λ v. cut v (vec_items p.new.self)) grown ∙ ap (λ v. cut (vec_items s.bytes ++ c.args.packet.now) v) p.ensures.items
    ∙ cut_push (vec_items s.bytes) (vec_items s.lengths) c.args.packet.now s.whole
