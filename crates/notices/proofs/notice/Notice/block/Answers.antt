-- The bytes set one by one are those of the block.
use Rattle.std.proofs.Common.{◌≡◌, ◌+◌, ◌-◌, length, take, drop, replicate, ap, ◌∙◌, arith}
use Rattle.std.proofs.lemmas.List.{drop-replicate}
use Rattle.notices.specs.Said.{said}
use Rattle.notices.proofs.Made.{made}
use Rattle.notices.proofs.notice.Notice.block.Goals as goal

pub returns : goal.returns
returns c =
    let n = length c.args.self.bytes.now in
    let e : 8 + n - 8 ≡ n = omega arith in
    made (said c.args.self) _ c.unwrap_or-number.result _ _ _ c.flag_byte.ensures c.unwrap_or-number.ensures (c.copy_from_slice-2.ensures.after ∙ ap (λ x. take 3 x) c.to_le_bytes.ensures) c.copy_from_slice.ensures.after (ap (λ k. drop k (replicate 56 0)) e ∙ drop-replicate n 56 0)
