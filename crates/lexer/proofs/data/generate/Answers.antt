-- The bytes are those that the chain gives.
use Rattle.std.proofs.Common.{rules, arith}
use Rattle.std.proofs.lemmas.Iterator.{YieldsList-from_range, YieldsList-from_map}
use Rattle.std.proofs.lemmas.Iterator.Adapters.{items_from_extend}
use Rattle.lexer.specs.Bytes.{generated}
use Rattle.lexer.proofs.data.generate.Goals as goal

pub returns : goal.returns
returns c =
    let h = items_from_extend c.extend.result c.extend.ensures.ran (YieldsList-from_map _ (generated c.args.start) (YieldsList-from_range 0 c.args.count c.args.count c.map.ensures.source (omega arith)) c.map.ensures.closure (λ x r q k. search rules)) in
    search rules
