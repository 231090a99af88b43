-- A poll moves the place to the aim, or says that there is none.
use Rattle.std.proofs.Common.{arith}
use Rattle.reader.specs.Pipes.{reader_missing, reader_data, reader_end, stands_next, reached_next}
use Rattle.reader.proofs.reader.carry.ReaderLink.poll.Goals as goal

pub invariant_of-self-2 : goal.invariant_of-self-2
invariant_of-self-2 c =
    let s = c.args.self.now in
    let x = c.in-Some-seek.ensures in
    record {
      stands = stands_next s c.in-Some.window c.in-Some.is c.args.pipe c.args.wanted c.in-Some-seek.found x;
      inside = x.inside;
      within = x.within;
      reached = reached_next s c.in-Some.window c.in-Some.is c.args.pipe c.args.wanted c.in-Some-seek.found x;
      small = x.small;
    }

pub returns-in_default-seek : goal.returns-in_default-seek
returns-in_default-seek c = reader_missing c.args.self.now c.in-Some.window c.in-Some.is c.args.pipe c.args.wanted c.if-pipe-eq0.true c.in_default-seek.ensures

pub returns-then-found-count : goal.returns-then-found-count
returns-then-found-count c =
    reader_data c.args.self.now c.in-Some.window c.in-Some.is c.args.pipe c.args.wanted c.in-Some-seek.found c.in-Some-seek.ensures c.if-pipe-eq0.true (omega (arith, c.if-found-count.true, c.count.ensures))

pub returns-else-found-count : goal.returns-else-found-count
returns-else-found-count c =
    reader_end c.args.self.now c.in-Some.window c.in-Some.is c.args.pipe c.args.wanted c.in-Some-seek.found c.in-Some-seek.ensures c.if-pipe-eq0.true (omega (arith, c.if-found-count.false, c.count.ensures))
