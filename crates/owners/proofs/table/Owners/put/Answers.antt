-- What is told, what is stored, and that the law holds of it.
use Rattle.std.proofs.Common.{rules, length}
use Rattle.owners.proofs.Putting.{law_of}
use Rattle.memory.proofs.Storing.{put_mid_sets}
use Rattle.owners.proofs.table.Owners.put.Goals as goal

pub returns-then-not-all_free-clause-law : goal.returns-then-not-all_free-clause-law
returns-then-not-all_free-clause-law c =
    law_of c.args.memory.now c.args.pages c.args.self.now.table c.args.address (length c.args.bytes.now) _ (search rules)

pub returns-clause-stored : goal.returns-clause-stored
returns-clause-stored c = put_mid_sets _ _ _ _ c.args.bytes.now c.copy_from_slice.ensures.after (search rules) (search rules)

pub returns-clause-law : goal.returns-clause-law
returns-clause-law c =
    law_of c.args.memory.now c.args.pages c.args.self.now.table c.args.address (length c.args.bytes.now) _ (search rules)
