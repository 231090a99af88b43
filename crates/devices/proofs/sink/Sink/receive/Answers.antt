-- A Send of a sink, by what becomes of its packet. Each answer hands its lemma what the code found: a record of that would be filled anew in each, since what an answer has at hand is of another type in each.
use Rattle.std.proofs.Common.{◌≢◌, ◌∷◌, ◌++◌, [], length, Some, None, sym, refl, ap, ◌∙◌, subst}
use Rattle.link.specs.Meaning.{Follows}
use Rattle.devices.specs.Early.{early_of, packets}
use Rattle.link.proofs.Sound.{size_most}
use Rattle.devices.specs.Keeping.{follows_none}
use Rattle.devices.specs.Stored.{taken_in, space_of, most_of}
use Rattle.devices.proofs.Steps.{waiting_appended, waiting_then, waiting_after, past_after, sent_lacking, sent_dropped, sent_first, sent_ahead}
use Rattle.devices.proofs.sink.Sink.receive.Goals as goal

pub settle-requires : goal.settle-requires
settle-requires c =
    let v = c.in-Some.window in
    let a = c.append.ensures in (
      Some v.window,
      size_most v.window v.within,
      waiting_appended c.args.self.now v c.in-Some.is (Some c.in-Some-ahead.ahead) c.get-size.result c.args.bytes.now _ _ _ c.in-Some-ahead.is c.get-size.ensures.value c.if-bytes-size.false a.taken a.space a.most,
    )

pub invariant_of-self-in-Some-ahead : goal.invariant_of-self-in-Some-ahead
invariant_of-self-in-Some-ahead c =
    let s = c.args.self.now in
    let v = c.in-Some.window in
    let t = c.settle.new.store in
    let a = c.append.ensures in
    let b = c.settle.ensures in
    let before = waiting_appended s v c.in-Some.is (Some c.in-Some-ahead.ahead) c.get-size.result c.args.bytes.now _ _ _ c.in-Some-ahead.is c.get-size.ensures.value c.if-bytes-size.false a.taken a.space a.most in
    record {
      waiting = waiting_then s v c.in-Some.is (Some c.in-Some-ahead.ahead) (taken_in t) (space_of t) (most_of t) c.in-Some-ahead.is (b.waiting (Some v.window) before);
      past = ap (λ a. early_of a (length (taken_in t))) c.in-Some-ahead.is ∙ b.taken.stops;
    }

pub invariant_of-self-in-Some-ahead-2 : goal.invariant_of-self-in-Some-ahead-2
invariant_of-self-in-Some-ahead-2 c =
    let s = c.args.self.now in
    let n : c.in-Some-meant.j ≢ length (taken_in s.store) = λ q. c.if-j-count.false (q ∙ sym c.count.ensures) in
    record {
      waiting = waiting_after s c.in-Some.window c.in-Some.is c.get-size.result c.get-size.ensures.value c.args.number c.args.bytes.now c.in-Some-meant.j c.in-Some-meant.ensures c.if-bytes-size.false
          c.lacks_space.result c.lacks_space.ensures
          c.in-Some-ahead-2.ahead c.keep.new.self c.in-Some-ahead-2.is c.if-lacks_space.false n c.keep.ensures;
      past = past_after s c.in-Some.window c.in-Some.is c.get-size.result c.get-size.ensures.value c.args.number c.args.bytes.now c.in-Some-meant.j c.in-Some-meant.ensures c.if-bytes-size.false
          c.lacks_space.result c.lacks_space.ensures
          c.in-Some-ahead-2.ahead c.keep.new.self c.in-Some-ahead-2.is c.if-lacks_space.false n c.keep.ensures;
    }

pub returns-then-lacks_space : goal.returns-then-lacks_space
returns-then-lacks_space c =
    let s = c.args.self.now in
    sent_lacking s c.in-Some.window c.in-Some.is c.get-size.result c.get-size.ensures.value c.args.number c.args.bytes.now c.in-Some-meant.j c.in-Some-meant.ensures c.if-bytes-size.false
    c.lacks_space.result c.lacks_space.ensures c.if-lacks_space.true c.lacked_one-self.result c.lacked_one-self.ensures

pub returns-in-Some-ahead : goal.returns-in-Some-ahead
returns-in-Some-ahead c =
    let s = c.args.self.now in
    let t = c.settle.new.store in
    let a = c.append.ensures in
    let b = c.settle.ensures in
    sent_first s c.in-Some.window c.in-Some.is c.get-size.result c.get-size.ensures.value c.args.number c.args.bytes.now c.in-Some-meant.j c.in-Some-meant.ensures c.if-bytes-size.false
    c.lacks_space.result c.lacks_space.ensures (Some c.in-Some-ahead.ahead) (taken_in t) (space_of t) (most_of t) c.in-Some-ahead.is c.if-lacks_space.false
    (c.if-j-count.true ∙ c.count.ensures) (subst (λ v. Follows v (packets c.in-Some-ahead.ahead) (taken_in t)) a.taken b.taken) (b.space ∙ a.space) (b.most ∙ a.most)

pub returns-in_default-ahead : goal.returns-in_default-ahead
returns-in_default-ahead c =
    let s = c.args.self.now in
    let t = c.append.new.self in
    let a = c.append.ensures in
    let u = taken_in s.store ++ c.args.bytes.now ∷ [] in
    sent_first s c.in-Some.window c.in-Some.is c.get-size.result c.get-size.ensures.value c.args.number c.args.bytes.now c.in-Some-meant.j c.in-Some-meant.ensures c.if-bytes-size.false
    c.lacks_space.result c.lacks_space.ensures None (taken_in t) (space_of t) (most_of t) c.in_default-ahead.is c.if-lacks_space.false
    (c.if-j-count.true ∙ c.count.ensures) (subst (λ v. Follows u (early_of None) v) (sym a.taken) (follows_none u (early_of None) refl)) a.space a.most

pub returns-in-Some-ahead-2 : goal.returns-in-Some-ahead-2
returns-in-Some-ahead-2 c =
    let s = c.args.self.now in
    sent_ahead s c.in-Some.window c.in-Some.is c.get-size.result c.get-size.ensures.value c.args.number c.args.bytes.now c.in-Some-meant.j c.in-Some-meant.ensures c.if-bytes-size.false
    c.lacks_space.result c.lacks_space.ensures c.in-Some-ahead-2.ahead c.keep.new.self c.in-Some-ahead-2.is c.if-lacks_space.false
    (λ q. c.if-j-count.false (q ∙ sym c.count.ensures)) c.keep.ensures

pub returns-in_default-ahead-2 : goal.returns-in_default-ahead-2
returns-in_default-ahead-2 c =
    let s = c.args.self.now in
    sent_dropped s c.in-Some.window c.in-Some.is c.get-size.result c.get-size.ensures.value c.args.number c.args.bytes.now c.in-Some-meant.j c.in-Some-meant.ensures c.if-bytes-size.false
    c.lacks_space.result c.lacks_space.ensures c.if-lacks_space.false c.in_default-ahead-2.is
    (λ q. c.if-j-count.false (q ∙ sym c.count.ensures))
