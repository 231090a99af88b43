-- After a Restart nothing is held.
use Rattle.std.proofs.Common.{◌≡◌, Bool, true, false, cond, is_some, length, Some, None, sym, ap, ◌∙◌, subst}
use Rattle.std.proofs.lemmas.Option.{cond_some}
use Rattle.link.specs.declared.term.Window.{Window}
use Rattle.link.specs.Bounds.{sound}
use Rattle.devices.specs.declared.since.Since.TheVariants.{Nothing}
use Rattle.devices.specs.Early.{early_of}
use Rattle.devices.specs.Keeping.{none_waits, restarted_empty}
use Rattle.devices.specs.Sinking.{SinkRestarted}
use Rattle.devices.specs.Sinks.{sink_at, sink_of}
use Rattle.devices.specs.Stored.{taken_in, space_of, most_of}
use Rattle.devices.proofs.sink.carry.SinkLink.restart.Goals as goal
use Rattle.devices.proofs.sink.carry.SinkLink.restart.Goals.{in-Some-ahead, in_default-ahead}

-- the window that was found sound is the one given
same_window : (v w : Window) (b : Bool) → Some v ≡ cond b (Some w) None → v ≡ w
same_window v w b h = sym (cond_some b w v (sym h)).1

pub invariant_of-self : goal.invariant_of-self
invariant_of-self c =
    let s = c.args.self.now in
    let t = c.clear.new.self in
    -- `none` stands in both answers: the type of the branch has names of the check's own, so no lemma can state it
    let none : early_of c.match-self.self.1.1.0 ≡ (λ k. None) = elim c.match-self.branch [
      | in-Some-ahead w ↦ ap (λ x. early_of x.1.1.0) w.self-is ∙ w.clear-in-Some-ahead.ensures
      | in_default-ahead w ↦ ap (λ x. early_of x.1.1.0) w.self-is ∙ ap early_of w.in_default-ahead.is
    ] in
    record {
      waiting = none_waits (Some c.in-Some.window.window) (taken_in t) (space_of t) (most_of t) (early_of c.match-self.self.1.1.0) none;
      past = ap (λ e. e (length (taken_in t))) none;
    }

pub returns-after-self : goal.returns-after-self
returns-after-self c =
    let s = c.args.self.now in
    let t = c.clear.new.self in
    let v = c.in-Some.window in
    let none : early_of c.match-self.self.1.1.0 ≡ (λ k. None) = elim c.match-self.branch [
      | in-Some-ahead w ↦ ap (λ x. early_of x.1.1.0) w.self-is ∙ w.clear-in-Some-ahead.ensures
      | in_default-ahead w ↦ ap (λ x. early_of x.1.1.0) w.self-is ∙ ap early_of w.in_default-ahead.is
    ] in
    let gathers : is_some c.match-self.self.1.1.0 ≡ is_some s.ahead = elim c.match-self.branch [
      | in-Some-ahead w ↦ ap (λ x. is_some x.1.1.0) w.self-is ∙ sym (ap is_some w.in-Some-ahead.is)
      | in_default-ahead w ↦ ap (λ x. is_some x.1.1.0) w.self-is
    ] in
    subst (λ x. SinkRestarted (sink_of s) c.args.pipe x (sink_at (is_some c.match-self.self.1.1.0) (Some v.window) (taken_in t) (early_of c.match-self.self.1.1.0) (space_of t) (most_of t) Nothing)) (same_window v.window c.args.window (sound c.args.window) c.in-Some.ensures)
    (restarted_empty (sink_of s) c.args.pipe v.window (is_some c.match-self.self.1.1.0) (taken_in t) (early_of c.match-self.self.1.1.0) (space_of t) (most_of t) c.if-pipe-eq0.true v.within gathers c.clear.ensures.taken none c.clear.ensures.space c.clear.ensures.most)
