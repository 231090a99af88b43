-- The sum is that of the packets, and stays within its type.
use Rattle.std.proofs.Common.{◌≡◌, ℕ, ◌+◌, ◌-◌, ◌*◌, ◌^◌, ◌<◌, true, false, ◌||◌, nat_lt, vec_capacity, sym, ap, ◌∙◌, arith}
use Rattle.std.proofs.lemmas.Bool.{lt-ltb, le-ltb}
use Rattle.devices.specs.Taken.{lacks}
use Rattle.devices.specs.Cutting.{counts, weighs}
use Rattle.devices.proofs.store.Store.lacks_space.Goals as goal

lacks_at : (space most size bytes bytes' f f' j n : ℕ) → bytes ≡ bytes' → f ≡ f' → lacks space most size bytes f j n ≡ lacks space most size bytes' f' j n
lacks_at space most size bytes bytes' f f' j n e q = ap (λ v. lacks space most size v f j n) e ∙ ap (λ v. lacks space most size bytes' v j n) q

pub overflow_add-result : goal.overflow_add-result
overflow_add-result c =
    let s = c.args.self.now in
    let l : c.args.j + 1 < 2 ^ 64 = omega (arith, c.requires.near, counts s, s.lengths.ok.1, s.short) in record { fits = l }

pub returns-then-len-ahead : goal.returns-then-len-ahead
returns-then-len-ahead c =
    let s = c.args.self.now in
    let sum = c.len.result + (c.args.j - c.count.result) * c.args.size + c.args.many in
    let past : nat_lt s.space sum ≡ true = lt-ltb s.space sum c.if-len-ahead.true in
    past ∙ sym (ap (λ v. v || nat_lt (vec_capacity s.lengths) (c.args.j + 1)) past)
    ∙ lacks_at s.space (vec_capacity s.lengths) c.args.size _ _ _ _ c.args.j c.args.many (c.len.ensures ∙ sym (weighs s)) c.count.ensures

pub returns-else-len-ahead : goal.returns-else-len-ahead
returns-else-len-ahead c =
    let s = c.args.self.now in
    let sum = c.len.result + (c.args.j - c.count.result) * c.args.size + c.args.many in
    let within : nat_lt s.space sum ≡ false = le-ltb s.space sum c.if-len-ahead.false in
    ap (λ v. nat_lt v (c.args.j + 1)) c.capacity.ensures ∙ sym (ap (λ v. v || nat_lt (vec_capacity s.lengths) (c.args.j + 1)) within)
    ∙ lacks_at s.space (vec_capacity s.lengths) c.args.size _ _ _ _ c.args.j c.args.many (c.len.ensures ∙ sym (weighs s)) c.count.ensures
