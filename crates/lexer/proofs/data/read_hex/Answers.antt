-- What decoding leaves in room for half as many bytes.
use Rattle.std.proofs.Common.{◌≡◌, ◌++◌, length, take, drop, Some, sym, ap, ◌∙◌}
use Rattle.std.proofs.Math.Seq.{take-append_seam}
use Rattle.lexer.proofs.Hexed.{filled, unfilled}
use Rattle.lexer.proofs.data.read_hex.Goals as goal

pub returns-in-Ok : goal.returns-in-Ok
returns-in-Ok c =
    let out = c.decode_to_slice.new.out in
    let room = c.in_ok-bytes.bytes.items in
    let l : c.in_ok-bytes.bytes.len ≡ length out = c.in_ok-bytes.bytes.ok.0 ∙ sym (ap length c.as_mut_slice.ensures.value) ∙ sym c.decode_to_slice.auto.out in
    ap Some (ap (λ n. take n (out ++ drop (length out) room)) l ∙ take-append_seam out (drop (length out) room))
    ∙ filled c.args.digits.now _ _ _ (c.as_mut_slice.ensures.len ∙ c.in_ok-bytes.ensures.len) c.decode_to_slice.ensures.value _ c.in-Ok.is

pub returns-in-Err : goal.returns-in-Err
returns-in-Err c = unfilled c.args.digits.now _ _ _ (c.as_mut_slice.ensures.len ∙ c.in_ok-bytes.ensures.len) c.decode_to_slice.ensures.value _ c.in-Err.is
