-- Each early packet that follows is taken, in its turn.
use Rattle.std.proofs.Common.{◌≡◌, ℕ, ◌+◌, ◌-◌, ◌*◌, ◌≤◌, List, length, Some, Option, sym, ap, ◌∙◌, zero-mul, arith}
use Rattle.std.proofs.lemmas.List.{length_push}
use Rattle.link.specs.declared.term.Window.{Window}
use Rattle.link.specs.Terms.{bytes_of}
use Rattle.reader.specs.Restarted.{size_of}
use Rattle.devices.specs.Early.{packets}
use Rattle.devices.specs.Stored.{most_of, space_of, taken_in}
use Rattle.devices.specs.Waiting.{Waits}
use Rattle.devices.specs.Going.{going_more, waits_more, waits_at}
use Rattle.devices.proofs.settle.settle.Goals as goal

-- packet f, if it waits, has space at once
first : (n : Option Window) (t : List (List ℕ)) (space most : ℕ) (b : List ℕ) → Waits n t space most (length t) b → bytes_of t + length b ≤ space
first n t space most b x =
    let none : (length t - length t) * size_of n ≡ 0 = ap (λ v. v * size_of n) (let e : length t - length t ≡ 0 = omega arith in e) ∙ zero-mul (size_of n) in
    omega (arith, x.spaced (omega arith), none)

-- the packet at hand is packet f
found : (t : List (List ℕ)) (e : ℕ → Option (List ℕ)) (f : ℕ) (b : List ℕ) → f ≡ length t → Some b ≡ e f → e (length t) ≡ Some b
found t e f b is here = ap e (sym is) ∙ sym here

-- the packet at hand is told by a line in each answer: what an answer has at hand is of another type in each
pub append-requires : goal.append-requires
append-requires c =
    let t = c.loop-packet.store in
    let r = c.requires in
    let b = c.in-Some.packet.now in
    let x = c.loop-packet.invariant.1 r.0 r.2 (length (taken_in t)) b (found (taken_in t) (packets c.args.ahead.now) c.count.result b c.count.ensures c.in-Some.ensures) in
    record { small = omega (arith, x.fits, r.1); spaced = first r.0 (taken_in t) (space_of t) (most_of t) b x; counted = x.counted }

pub loop-packet-smaller : goal.loop-packet-smaller
loop-packet-smaller c =
    let t = c.loop-packet.store in
    let r = c.requires in
    let b = c.in-Some.packet.now in
    let x = c.loop-packet.invariant.1 r.0 r.2 (length (taken_in t)) b (found (taken_in t) (packets c.args.ahead.now) c.count.result b c.count.ensures c.in-Some.ensures) in
    omega (arith, x.counted, c.append.ensures.most, ap length c.append.ensures.taken ∙ length_push (taken_in t) b)

pub loop-packet-preserved : goal.loop-packet-preserved
loop-packet-preserved c =
    let t = c.loop-packet.store in
    let e = packets c.args.ahead.now in
    let i = c.loop-packet.invariant in
    let b = c.in-Some.packet.now in
    let a = c.append.ensures in
    let here = found (taken_in t) e c.count.result b c.count.ensures c.in-Some.ensures in (
      going_more _ _ _ _ b i.0 here a.taken,
      λ n h. waits_at n _ _ _ _ _ _ e a.taken a.space a.most (waits_more n (taken_in t) (space_of t) (most_of t) e b (i.1 n h) ((i.1 n h) (length (taken_in t)) b here).fits),
      a.space ∙ i.2,
      a.most ∙ i.3,
    )
