-- `listing::main` is safe and ends. What is left to show is that the entities held lie within the list.
use Rattle.std.proofs.Common.{ap, arith}
use Rattle.reading.proofs.Within.{within_list}
use Rattle.listing.proofs.main.Goals as goal

pub write_entities-requires : goal.write_entities-requires
write_entities-requires c =
    let call = c.read-answer.ensures in
    within_list _ _ _ _ _ _ (ap (λ a. a.entities) call.value) call.list_after (omega arith)
