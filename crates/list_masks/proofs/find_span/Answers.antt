-- A record by its tag.
use Rattle.list_masks.proofs.Holds.{finding, atom_size}
use Rattle.list_masks.proofs.find_span.Goals as goal

pub number_at-requires : goal.number_at-requires
number_at-requires c = search (finding, atom_size)

pub returns-then-rec-eq-ATOM : goal.returns-then-rec-eq-ATOM
returns-then-rec-eq-ATOM c = search finding

pub pair_span-requires : goal.pair_span-requires
pair_span-requires c = search finding

pub returns : goal.returns
returns c = search finding
