-- The packet that the meaning allows is found, and only if there is none is nothing.
use Rattle.std.proofs.Common.{◌≡◌, ◌+◌, ◌-◌, ◌*◌, ◌<◌, ◌≤◌, min, List, ℕ, take, drop, None, Option, Bor, vec_items, sym, ap, ◌∙◌, subst, arith}
use Rattle.std.specs.Option.{option_map}
use Rattle.link.specs.Numbered.{numbers_of}
use Rattle.reader.specs.declared.reader.Reader.{Reader}
use Rattle.reader.specs.Readers.{FetchedIn, pipe_of}
use Rattle.reader.specs.Pipes.{fetch_none, fetch_beyond, fetch_given}
use Rattle.reader.proofs.reader.Reader.packet.Goals as goal

nothing : (s : Reader) (i : ℕ) (r : Option (Bor (List ℕ))) → r ≡ None → FetchedIn (numbers_of s.window) (pipe_of s) i None
    → FetchedIn (numbers_of s.window) (pipe_of s) i (option_map (λ p. p.now) r)
nothing s i r e h = subst (λ v. FetchedIn (numbers_of s.window) (pipe_of s) i (option_map (λ p. p.now) v)) (sym e) h

pub returns-in_err-left-clause-packet : goal.returns-in_err-left-clause-packet
returns-in_err-left-clause-packet c =
    let s = c.args.self.now in
    nothing s c.args.offset _ c.from_residual-in_err-left.ensures (fetch_none s c.in_ok-self.field-0 c.in_ok-self.was c.args.offset c.in_err-left.ensures.left)

pub returns-in_err-checked_sub-clause-packet : goal.returns-in_err-checked_sub-clause-packet
returns-in_err-checked_sub-clause-packet c =
    let s = c.args.self.now in
    let v = c.in_ok-self.field-0 in
    let skip : c.args.offset * c.get-window.result.packet ≡ c.args.offset * v.window.packet = ap (λ w. c.args.offset * w.packet) c.get-window.ensures.value in
    nothing s c.args.offset _ c.from_residual-in_err-checked_sub.ensures
    (fetch_beyond s v c.in_ok-self.was c.args.offset c.in_ok-left.left c.in_ok-left.ensures.left (omega (arith, skip, c.in_err-checked_sub.ensures)))

pub returns-clause-packet : goal.returns-clause-packet
returns-clause-packet c =
    let s = c.args.self.now in
    let v = c.in_ok-self.field-0 in
    let i = c.args.offset in
    let left = c.in_ok-left.left in
    let size : c.get-window.result.packet ≡ v.window.packet = ap (λ w. w.packet) c.get-window.ensures.value in
    let skip : i * c.get-window.result.packet ≡ i * v.window.packet = ap (λ k. i * k) size in
    let burst : i < v.window.burst = omega (arith, c.if-offset-window.false, ap (λ w. w.burst) c.get-window.ensures.value) in
    let inside : i * v.window.packet ≤ left = omega (arith, skip, c.in_ok-checked_sub.ensures.0) in
    let many : c.min-many.result ≡ min v.window.packet (left - i * v.window.packet) = omega (arith, c.min-many.ensures, c.in_ok-checked_sub.ensures.1, size, skip) in
    fetch_given s v c.in_ok-self.was i left c.in_ok-left.ensures.left c.part.result.now burst inside
    (c.part.ensures ∙ ap (λ k. take k (drop (s.place.at.here + i * c.get-window.result.packet) (vec_items s.text.bytes))) many
    ∙ ap (λ k. take (min v.window.packet (left - i * v.window.packet)) (drop (s.place.at.here + k) (vec_items s.text.bytes))) skip)
