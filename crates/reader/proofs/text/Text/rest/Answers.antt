-- The bytes of all messages from a cursor on.
use Rattle.std.proofs.Common.{◌≡◌, ◌+◌, ◌-◌, ◌≤◌, min, length, take, drop, vec_items, ap, ◌∙◌, arith, length-drop, length-take}
use Rattle.std.proofs.lemmas.List.{drop_all}
use Rattle.reader.specs.Bytes.{sum_of}
use Rattle.reader.specs.Walks.{counted_all}
use Rattle.reader.proofs.text.Text.rest.Goals as goal

pub returns : goal.returns
returns c =
    let bs = vec_items c.args.self.now.bytes in
    let ls = drop (c.args.at.message + 1) (vec_items c.args.self.now.lengths) in
    let k = c.args.at.here in
    let many = c.loop-length.many in
    let i = c.loop-length.invariant in
    let end : length ls ≤ c.loop-length.length-index =
    omega (
      arith,
      c.loop-length-test.false,
      length-take (length c.deref.result.now - (c.args.at.message + 1)) (drop (c.args.at.message + 1) c.deref.result.now),
      length-drop (c.args.at.message + 1) c.deref.result.now,
      length-drop (c.args.at.message + 1) (vec_items c.args.self.now.lengths),
      ap length c.deref.ensures.value,
    ) in
    let none : sum_of (drop c.loop-length.length-index ls) ≡ 0 = ap sum_of (drop_all c.loop-length.length-index ls end) in
    let all : many ≡ min (c.in-Some.left + sum_of ls) (length bs - k) = omega (arith, i.0, i.1, none) in
    ap (λ v. take v (drop k c.deref-2.result.now)) (let n : k + many - k ≡ many = omega arith in n)
    ∙ ap (λ v. take many (drop k v)) c.deref-2.ensures.value
    ∙ counted_all bs (vec_items c.args.self.now.lengths) c.args.at c.in-Some.left many c.in-Some.ensures.left all
